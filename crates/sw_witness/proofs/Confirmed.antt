-- A replay ends locked up exactly where its steps lead into a lock-up.
use Rattle.std.proofs.Common.{◌≡◌, ◌↔◌, ◌∙◌, ℕ, Bool, false, List, [], ◌∷◌, ◌++◌, append_assoc, ap, length, refl, subst, sym}
use Rattle.std.specs.Prelude.{IsTrue, Result, Ok, Err}
use Rattle.sw_config.specs.Entries.{Declaration}
use Rattle.sw_load.proofs.Grown.{keeps_last}
use Rattle.sw_machine.proofs.RunLists.{run_append}
use Rattle.sw_machine.specs.Limits.{KeepsLimits}
use Rattle.sw_machine.specs.Network.{Network}
use Rattle.sw_machine.specs.Runs.{IsLockedUp, Run}
use Rattle.sw_machine.specs.State.{State, empty}
use Rattle.sw_machine.specs.Steps.{Begin, Step}
use Rattle.sw_machine.specs.Model.{network_of}
use Rattle.sw_schedule.proofs.Making.{run_of_within}
use Rattle.sw_schedule.proofs.NetSteps.{keeps_from_empty}
use Rattle.sw_schedule.proofs.Stops.{one_end}
use Rattle.sw_schedule.specs.declared.replayed.ReplayEnd.{ReplayEnd}
use Rattle.sw_schedule.specs.declared.replayed.ReplayEnd.TheVariants.{Made, Refused}
use Rattle.sw_schedule.specs.declared.replayed.StepRefusal.{StepRefusal}
use Rattle.sw_schedule.specs.Replays.{Ends, IsReplayed, RunWithin}
use Rattle.sw_schedule.specs.Reports.{Report}
use Rattle.sw_schedule.specs.Schedule.{steps_of_text}
use Rattle.sw_witness.specs.Witnesses.{LeadsToLockUp, LocksUp}

-- ---- a run that keeps the limits is one in which each step keeps them

keeps_front : (net : Network) (steps more : List Step) → KeepsLimits net (steps ++ more) → KeepsLimits net steps
keeps_front net steps more keeps = λ before after flow cargo end s parts run.
    keeps before (after ++ more) flow cargo end s (sym (append_assoc before (Begin flow cargo end ∷ after) more) ∙ ap (λ l. l ++ more) parts) run

pub within_of_run : (net : Network) (before steps : List Step) (s t : State) → Run net (empty net) before s → Run net s steps t → KeepsLimits net (before ++ steps) → RunWithin net before s steps t
within_of_run net before [] s t so_far run keeps = run
within_of_run net before (x ∷ steps) s t so_far run keeps =
    let next : Run net (empty net) (before ++ x ∷ []) run.0 = run_append net before (x ∷ []) (empty net) s run.0 so_far (run.0, run.1, refl) in
    let all : KeepsLimits net ((before ++ x ∷ []) ++ steps) = subst (KeepsLimits net) (sym (append_assoc before (x ∷ []) steps)) keeps in
    let here : KeepsLimits net (before ++ x ∷ []) = keeps_front net (before ++ x ∷ []) steps all in
    (run.0, (run.1, keeps_last net before s x run.0 next run.1 here), within_of_run net (before ++ x ∷ []) steps run.0 t next run.2 all)

-- ---- the steps of a schedule

leads : (d : Declaration) (steps : List Step) (r : Report) (count : ℕ) → IsReplayed d steps r → r.outcome ≡ Made count → IsTrue r.stuck → LeadsToLockUp d steps
leads d steps r count is made stuck =
    let ends = subst (λ (o : ReplayEnd). Ends (network_of d) [] (empty (network_of d)) steps o is.state) made is.ends in
    record {
      state = is.state;
      run = run_of_within (network_of d) [] steps (empty (network_of d)) is.state ends.1;
      keeps = keeps_from_empty (network_of d) steps is.state ends.1;
      locked_up = is.report.locked_up.0 stuck;
    }

-- steps that lead into a lock-up are all made, and end in the state to which they lead
one_state : (d : Declaration) (steps : List Step) (r : Report) (is : IsReplayed d steps r) (h : LeadsToLockUp d steps) → (r.outcome ≡ Made (length steps)) × (is.state ≡ h.state)
one_state d steps r is h =
    let net : Network = network_of d in
    one_end net [] (empty net) is.state h.state steps r.outcome (Made (length steps)) is.ends (refl, within_of_run net [] steps (empty net) h.state refl h.run h.keeps)

pub made_leads : (d : Declaration) (steps : List Step) (r : Report) (count : ℕ) → IsReplayed d steps r → r.outcome ≡ Made count → IsTrue r.stuck ↔ LeadsToLockUp d steps
made_leads d steps r count is made = (
  leads d steps r count is made,
  λ h. is.report.locked_up.1 (subst (IsLockedUp (network_of d)) (sym (one_state d steps r is h).1) h.locked_up),
)

pub refused_leads_nowhere : (d : Declaration) (steps : List Step) (r : Report) (number : ℕ) (refusal : StepRefusal) → IsReplayed d steps r → r.outcome ≡ Refused number refusal
    → IsTrue false ↔ LeadsToLockUp d steps
refused_leads_nowhere d steps r number refusal is refused = (
  λ never. absurd cc,
  λ h. let both : Refused number refusal ≡ Made (length steps) = sym refused ∙ (one_state d steps r is h).0 in absurd cc,
)

-- ---- its text

pub steps_lock_up : (d : Declaration) (text : List ℕ) (steps : List Step) (told : Bool) → steps_of_text d text ≡ Ok steps → (IsTrue told ↔ LeadsToLockUp d steps) → IsTrue told ↔ LocksUp d text
steps_lock_up d text steps told listed iff = (
  λ yes. record { steps = steps; listed = listed; leads = iff.0 yes },
  λ h.
      let both : ◌≡◌ {A = Result (List Step) ℕ} (Ok h.steps) (Ok steps) = sym h.listed ∙ listed in
      let same : h.steps ≡ steps = cc in
      iff.1 (subst (LeadsToLockUp d) same h.leads),
)

pub no_schedule : (d : Declaration) (text : List ℕ) (line : ℕ) → steps_of_text d text ≡ Err line → IsTrue false ↔ LocksUp d text
no_schedule d text line wrong = (
  λ never. absurd cc,
  λ h. let both : ◌≡◌ {A = Result (List Step) ℕ} (Ok h.steps) (Err line) = sym h.listed ∙ wrong in absurd cc,
)
