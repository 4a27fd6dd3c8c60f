-- A step that is made where it keeps the limits on unanswered commands.
use Rattle.std.proofs.Common.{Err, List, Ok, Option, Result, Some, [], false, inl, inr, refl, subst, sym, true, ℕ, ◌⊎◌, ◌++◌, ◌∙◌, ◌∷◌, ◌≡◌}
use Rattle.std.proofs.lemmas.Bool.{false≢true}
use Rattle.std.specs.Prelude.{OnErr, OnOk, ◌↔◌}
use Rattle.sw_char.specs.declared.nchar.End.{End}
use Rattle.sw_config.specs.Entries.{Declaration}
use Rattle.sw_load.proofs.Grown.{keeps_with}
use Rattle.sw_load.specs.History.{KeepsLimit}
use Rattle.sw_machine.proofs.RunLists.{run_append}
use Rattle.sw_machine.specs.Model.{network_of}
use Rattle.sw_machine.specs.Network.{IsDeclared}
use Rattle.sw_machine.specs.State.{State, empty}
use Rattle.sw_machine.specs.Steps.{Accept, Arrive, Begin, Drop, Emit, Fct, FctIn, Forward, Grant, Leads, Reply, Spill, Step}
use Rattle.sw_net.proofs.CountedCommands.{allowed_is_within_limits, counted_with_each_step}
use Rattle.sw_net.specs.Net.{IsNetState, NetAnswers, NetView}
use Rattle.sw_net.specs.NetFault.{NetFault}
use Rattle.sw_net.specs.NetFault.TheVariants as fault
use Rattle.sw_net.specs.Possible.{Tells}
use Rattle.sw_net.specs.Unanswered.{AreFewBegun, Counts, HasCounted, allows, counted_with}
use Rattle.sw_schedule.specs.Nets.{IsAfter, NetMakesOr, TellsOverLimit, TellsWhy, allows_step}
use Rattle.sw_schedule.specs.declared.replayed.StepRefusal.{StepRefusal}
use Rattle.sw_schedule.specs.declared.replayed.StepRefusal.TheVariants.{OverLimit}

module _ (d : Declaration) (before : List Step) (s : State) (c : Counts) (few : AreFewBegun before) (after : IsAfter d before s c) where
  after_step : (step : Step) (t : State) → Leads (network_of d) s step t → KeepsLimit (network_of d) before s step → IsAfter d (before ++ step ∷ []) t (counted_with d c step s t)
  after_step step t leads keep = record {
    valid = after.valid;
    run = run_append (network_of d) before (step ∷ []) (empty (network_of d)) s t after.run (t, leads, refl);
    keeps = keeps_with (network_of d) before s after.run after.keeps step t leads keep;
    counts = counted_with_each_step d after.valid before s c after.run after.counts few step t leads;
  }

  within : (flow : ℕ) (cargo : List ℕ) (end : End) → IsDeclared (network_of d) flow cargo → (allows d c flow ≡ true) ↔ KeepsLimit (network_of d) before s (Begin flow cargo end)
  within flow cargo end declared = allowed_is_within_limits d after.valid before s c after.run after.keeps after.counts few flow cargo end declared

  allowed_keeps : (step : Step) (t : State) → Leads (network_of d) s step t → allows_step d c step ≡ true → KeepsLimit (network_of d) before s step
  allowed_keeps (Begin flow cargo end) t leads allowed = (within flow cargo end leads.declared).0 allowed
  allowed_keeps (Fct x) t leads allowed = tt
  allowed_keeps (FctIn x) t leads allowed = tt
  allowed_keeps (Arrive x) t leads allowed = tt
  allowed_keeps (Grant o x) t leads allowed = tt
  allowed_keeps (Drop x) t leads allowed = tt
  allowed_keeps (Forward x) t leads allowed = tt
  allowed_keeps (Spill x) t leads allowed = tt
  allowed_keeps (Emit n) t leads allowed = tt
  allowed_keeps (Accept n) t leads allowed = tt
  allowed_keeps (Reply n) t leads allowed = tt

  forbidden_breaks : (step : Step) (t : State) → Leads (network_of d) s step t → allows_step d c step ≡ false → KeepsLimit (network_of d) before s step → ⊥
  forbidden_breaks (Begin flow cargo end) t leads forbidden keep = false≢true (sym forbidden ∙ (within flow cargo end leads.declared).1 keep)
  forbidden_breaks (Fct x) t leads forbidden keep = false≢true (sym forbidden)
  forbidden_breaks (FctIn x) t leads forbidden keep = false≢true (sym forbidden)
  forbidden_breaks (Arrive x) t leads forbidden keep = false≢true (sym forbidden)
  forbidden_breaks (Grant o x) t leads forbidden keep = false≢true (sym forbidden)
  forbidden_breaks (Drop x) t leads forbidden keep = false≢true (sym forbidden)
  forbidden_breaks (Forward x) t leads forbidden keep = false≢true (sym forbidden)
  forbidden_breaks (Spill x) t leads forbidden keep = false≢true (sym forbidden)
  forbidden_breaks (Emit n) t leads forbidden keep = false≢true (sym forbidden)
  forbidden_breaks (Accept n) t leads forbidden keep = false≢true (sym forbidden)
  forbidden_breaks (Reply n) t leads forbidden keep = false≢true (sym forbidden)

pub over_limit : {R A : Type 0} (v : NetView R A) (c : Counts) (step : Step) → TellsOverLimit v c step true → NetMakesOr v c step (Some OverLimit) v c
over_limit v c step over = λ before s few at after.
    let can = over.1 s at in
    (s, ((can, forbidden_breaks v.declared before s c few after step can.0 can.1 over.0), refl), at, after)

pub step_made : {R A : Type 0} (v w : NetView R A) (c e : Counts) (step : Step) (answer : Result Unit NetFault) (refusal : Option StepRefusal) → NetAnswers v step answer w → OnErr answer (w ≡ v) → OnOk answer (HasCounted v c step w e) → OnErr answer (e ≡ c)
    → TellsOverLimit v c step false → TellsWhy answer refusal → NetMakesOr v c step refusal w e
step_made {R} {A} v w c e step (Ok done) refusal answers same counted uncounted over why = subst (λ r. NetMakesOr v c step r w e) (sym why) (λ before s few at after.
    let t = answers s at in
    let keep = keeps over before s few after at t.0 t.1 in
    (t.0, (t.1, keep), t.2, subst (IsAfter v.declared (before ++ step ∷ []) t.0) (sym (counted s t.0 at t.2)) (after_step v.declared before s c few after step t.0 t.1 keep)))
  where
    keeps : (allows_step v.declared c step ≡ true) ⊎ Tells v step false → (before : List Step) (s : State) → AreFewBegun before → IsAfter v.declared before s c → IsNetState v s → (t : State) → Leads (network_of v.declared) s step t → KeepsLimit (network_of v.declared) before s step
    keeps (inl allowed) before s few after at t leads = allowed_keeps v.declared before s c few after step t leads allowed
    keeps (inr never) before s few after at t leads = absurd (never s at (t, leads))
step_made v w c e step (Err fault.NotInFlow) refusal answers same counted uncounted over why = subst (λ r. NetMakesOr v c step r w e) (sym why) (λ before s few at after.
    (s, (answers, refl), subst (λ u. IsNetState u s) (sym same) at, subst (IsAfter v.declared before s) (sym uncounted) after))
step_made v w c e step (Err fault.NotEnabled) refusal answers same counted uncounted over why = subst (λ r. NetMakesOr v c step r w e) (sym why) (λ before s few at after.
    (s, ((answers.0, answers.1 s at), refl), subst (λ u. IsNetState u s) (sym same) at, subst (IsAfter v.declared before s) (sym uncounted) after))
step_made v w c e step (Err fault.Memory) refusal answers same counted uncounted over why = absurd why
