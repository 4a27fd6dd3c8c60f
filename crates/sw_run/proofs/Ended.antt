-- From the journal at the end of a run to the outcome.
use Rattle.std.proofs.Common.{List, ap, arith, length, subst, sym, ℕ, ◌∙◌, ◌≡◌, ◌≤◌, ◌<◌}
use Rattle.sw_journal.proofs.Follows.{one_state_after}
use Rattle.sw_journal.specs.Asked.{IsUndelivered}
use Rattle.sw_journal.specs.Next.{AreKeptBack}
use Rattle.sw_journal.specs.Record.{JournalView, LeadsTo}
use Rattle.sw_load.specs.History.{IsHistory, IsWhole, packets_of}
use Rattle.sw_load.specs.Load.{LoadEntry}
use Rattle.sw_machine.specs.Runs.{IsLockedUp}
use Rattle.sw_machine.specs.State.{State}
use Rattle.sw_machine.specs.Steps.{Step}
use Rattle.sw_machine.specs.Model.{network_of}
use Rattle.sw_config.specs.Entries.{Declaration}
use Rattle.sw_run.specs.Ends.{AreOutBy, EndsBy, IsOpen}
use Rattle.sw_run.specs.Outcomes.{IsOutcome, IsUnfinished, NothingFollows, came_out_of, steps_of}
use Rattle.sw_run.specs.declared.outcome.Outcome.{Outcome}

module _ (j : JournalView) (s : State) (o : Outcome) (leads : LeadsTo j s) (within : length j.history ≤ j.limit) (steps : steps_of o ≡ j.history) where
  as_long : length o.history ≡ length j.history
  as_long = ap (λ (l : List Step). length l) steps

  unfinished : IsOpen j → IsUndelivered j o.undelivered → IsUnfinished j.declared j.load o s
  unfinished goes_on left = record {
    not_drained = λ whole none. goes_on.0 (record {
      whole = subst (IsWhole (network_of j.declared) (packets_of j.load)) steps whole;
      delivered = λ t to. sym none ∙ left t to;
    });
    not_waiting = λ not_whole none still. goes_on.2 (record {
      not_whole = λ whole. not_whole (subst (IsWhole (network_of j.declared) (packets_of j.load)) (sym steps) whole);
      still = subst (NothingFollows (network_of j.declared) (packets_of j.load)) steps still;
      delivered = λ t to. sym none ∙ left t to;
    });
    not_stuck = λ locked still. goes_on.1 (record {
      still = subst (NothingFollows (network_of j.declared) (packets_of j.load)) steps still;
      locked_up = λ t to. subst (IsLockedUp (network_of j.declared)) (sym (one_state_after (network_of j.declared) (packets_of j.load) j.history s t leads to)) locked;
    });
  }

  pub by_journal : EndsBy j o.stop → AreOutBy j (length j.declared.nodes) (came_out_of o) → IsUndelivered j o.undelivered → IsOutcome j.declared j.load j.limit o
  by_journal ends out left = record {
    state = s;
    history = subst (λ l. IsHistory (network_of j.declared) (packets_of j.load) l s) (sym steps) leads;
    within = let a = as_long in omega arith;
    came_out = out s leads;
    undelivered = left s leads;
    drained = λ e. let t = subst (EndsBy j) e ends in (subst (IsWhole (network_of j.declared) (packets_of j.load)) (sym steps) t.whole, left s leads ∙ sym (t.delivered s leads));
    stuck = λ e. let t = subst (EndsBy j) e ends in (t.locked_up s leads, subst (NothingFollows (network_of j.declared) (packets_of j.load)) (sym steps) t.still);
    waiting = λ e.
        let t = subst (EndsBy j) e ends in
        record {
          delivered = left s leads ∙ sym ((t.0).delivered s leads);
          not_whole = λ whole. (t.0).not_whole (subst (IsWhole (network_of j.declared) (packets_of j.load)) steps whole);
          nothing_follows = subst (NothingFollows (network_of j.declared) (packets_of j.load)) (sym steps) (t.0).still;
          kept_back = subst (λ l. AreKeptBack (network_of j.declared) (packets_of j.load) l s) (sym steps) (t.1 s leads);
        };
    full = λ e. let t = subst (EndsBy j) e ends in (as_long ∙ t.0, unfinished t.1 left);
    memory = λ e. let t = subst (EndsBy j) e ends in (subst (λ n. n < j.limit) (sym as_long) t.0, unfinished t.1 left);
  }

-- the same of the network, load and limit that the journal is of
pub of_run : (j : JournalView) (d : Declaration) (load : List LoadEntry) (limit : ℕ) (o : Outcome) → j.declared ≡ d → j.load ≡ load → j.limit ≡ limit → IsOutcome j.declared j.load j.limit o → IsOutcome d load limit o
of_run j d load limit o same_network same_load same_limit is =
    subst (λ x. IsOutcome x load limit o) same_network (subst (λ x. IsOutcome j.declared x limit o) same_load (subst (λ x. IsOutcome j.declared j.load x o) same_limit is))
