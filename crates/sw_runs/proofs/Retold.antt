-- A replay of the steps of a run's history ends in the state after it.
use Rattle.std.proofs.Common.{◌≡◌, ℕ, ◌<◌, Bool, true, false, IsTrue, ◌↔◌, List, [], ◌∷◌, ◌++◌, length, refl, sym, ap, subst, ◌∙◌, arith, append_assoc}
use Rattle.std.proofs.lemmas.Option.{get_or_from_slice_get}
use Rattle.sw_config.specs.Entries.{Declaration}
use Rattle.sw_load.proofs.Grown.{keeps_last}
use Rattle.sw_machine.specs.Limits.{KeepsLimits}
use Rattle.sw_machine.specs.Network.{Network}
use Rattle.sw_machine.specs.Packets.{Packet}
use Rattle.sw_machine.specs.Runs.{CameOut, IsLockedUp, Run, undelivered}
use Rattle.sw_machine.specs.State.{State, empty}
use Rattle.sw_machine.specs.Steps.{Begin, Step}
use Rattle.sw_machine.specs.Model.{network_of}
use Rattle.sw_machine.proofs.Flows.{some_at}
use Rattle.sw_machine.proofs.RunLists.{run_append}
use Rattle.sw_schedule.specs.declared.replayed.ReplayEnd.TheVariants.{Made}
use Rattle.sw_schedule.specs.Replays.{Ends, IsReplayed, RunWithin}
use Rattle.sw_schedule.specs.Reports.{AreOutputs, Report}
use Rattle.sw_schedule.proofs.OneReport.{replays_are_determined}
use Rattle.sw_schedule.proofs.Stops.{one_end}
use Rattle.sw_run.specs.Outcomes.{AreOut, came_out_of, steps_of}
use Rattle.sw_file.specs.Laws.{ReadNamesAreNames, ReadNetworksAreValid}
use Rattle.sw_schedule.specs.TextLaws.{HasNames, ListedAreShort, SchedulesAreRead}
use Rattle.sw_runs.specs.Laws.{ReplaysAreAsTold, SchedulesAreRetold}

-- a list for each node, by its number
are_outputs : (d : Declaration) (s : State) (lists : List (List Packet)) → AreOut (length d.nodes) s lists → AreOutputs (network_of d) s lists
unfolding network_of
are_outputs d s lists out = record {
  each_node = out.all_nodes;
  packets = λ n lt.
      let within : n < length lists = subst (λ (k : ℕ). n < k) (sym out.all_nodes) lt in
      let at = some_at lists n within in
      subst (CameOut s n) (sym (get_or_from_slice_get lists n at.0 [] at.1)) (out.out n at.0 at.1);
}

none_undelivered : (net : Network) (s : State) (left : ℕ) → left ≡ undelivered net s → left ≡ 0 → IsLockedUp net s → ⊥
none_undelivered net s left is none locked = let holds = locked.holds in let zero_left : undelivered net s ≡ 0 = sym is ∙ none in omega (arith, holds, zero_left)

not_so : (b : Bool) (P : Type 0) → (IsTrue b ↔ P) → (P → ⊥) → b ≡ false
not_so true P so never = absurd (never (so.0 refl))
not_so false P so never = refl

-- ---- a history is a run in which each step keeps the limits

keeps_front : (net : Network) (steps more : List Step) → KeepsLimits net (steps ++ more) → KeepsLimits net steps
keeps_front net steps more keeps = λ before after flow cargo end s parts run.
    keeps before (after ++ more) flow cargo end s (sym (append_assoc before (Begin flow cargo end ∷ after) more) ∙ ap (λ l. l ++ more) parts) run

within : (net : Network) (before steps : List Step) (s t : State) → Run net (empty net) before s → Run net s steps t → KeepsLimits net (before ++ steps) → RunWithin net before s steps t
within net before [] s t so_far run keeps = run
within net before (x ∷ steps) s t so_far run keeps =
    let next : Run net (empty net) (before ++ x ∷ []) run.0 = run_append net before (x ∷ []) (empty net) s run.0 so_far (run.0, run.1, refl) in
    let all : KeepsLimits net ((before ++ x ∷ []) ++ steps) = subst (KeepsLimits net) (sym (append_assoc before (x ∷ []) steps)) keeps in
    let here : KeepsLimits net (before ++ x ∷ []) = keeps_front net (before ++ x ∷ []) steps all in
    (run.0, (run.1, keeps_last net before s x run.0 next run.1 here), within net (before ++ x ∷ []) steps run.0 t next run.2 all)

pub replays_are_as_told : ReplaysAreAsTold
replays_are_as_told d load limit o r is replayed =
    let net = network_of d in
    let steps = steps_of o in
    let run : RunWithin net [] (empty net) steps is.state = within net [] steps (empty net) is.state refl is.history.run is.history.keeps in
    let made : Ends net [] (empty net) steps (Made (length steps)) is.state = (refl, run) in
    let one = one_end net [] (empty net) replayed.state is.state steps r.outcome (Made (length steps)) replayed.ends made in
    let locked : IsTrue r.stuck ↔ IsLockedUp net is.state = subst (λ (s : State). IsTrue r.stuck ↔ IsLockedUp net s) one.1 replayed.report.locked_up in
    let q : Report = record { outcome = Made (length steps); remaining = o.undelivered; stuck = r.stuck; came_out = came_out_of o } in
    let told : IsReplayed d steps q = record {
      state = is.state;
      ends = made;
      report = record { counted = is.undelivered; locked_up = locked; outputs = are_outputs d is.state (came_out_of o) is.came_out };
    } in
    let same : r ≡ q = replays_are_determined d steps r q replayed told in
    record {
      made = one.0;
      undelivered = ap (λ (x : Report). x.remaining) same;
      came_out = ap (λ (x : Report). x.came_out) same;
      stuck = λ e. locked.1 (is.stuck e).0;
      drained = λ e. not_so r.stuck (IsLockedUp net is.state) locked (none_undelivered net is.state o.undelivered is.undelivered (is.drained e).1);
      waiting = λ e. not_so r.stuck (IsLockedUp net is.state) locked (none_undelivered net is.state o.undelivered is.undelivered (is.waiting e).delivered);
    }

pub schedules_are_retold : ReadNetworksAreValid → ReadNamesAreNames → ListedAreShort → SchedulesAreRead → SchedulesAreRetold
schedules_are_retold are_valid are_names are_short are_read network_bytes load_bytes text d load limit o network listed is written =
    let names = are_names network_bytes d network in
    let named : HasNames d = record { parts = names.parts; flows = names.flows } in (
      are_read d load (steps_of o) is.state text (are_valid network_bytes d network) named (are_short d load_bytes load listed) is.history written,
      λ r replayed. replays_are_as_told d load limit o r is replayed,
    )
