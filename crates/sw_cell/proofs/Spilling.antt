-- In each reached state only inputs of switches discard packets.
use Rattle.std.proofs.Common.{List, [], ◌∷◌, ℕ, ◌≡◌, ⊎_elim, ap, subst, sym, ◌∙◌}
use Rattle.std.proofs.lemmas.Bool.{cases_eq}
use Rattle.sw_char.specs.declared.nchar.NChar.{NChar}
use Rattle.sw_char.specs.declared.nchar.NChar.TheVariants.{Data, Eep, Eop}
use Rattle.sw_machine.proofs.Lists.{put_here, put_there}
use Rattle.sw_machine.specs.Network.{AtSwitch, Network}
use Rattle.sw_machine.specs.Runs.{IsReached, Run}
use Rattle.sw_machine.specs.State.{State, empty, input_after, put}
use Rattle.sw_machine.specs.Steps.{Accept, Arrive, Begin, Drop, Drops, Emit, Fct, FctIn, Forward, Grant, Leads, Reply, Spill, Step}
use Rattle.sw_machine.specs.declared.input.InputState.{InputState}
use Rattle.sw_machine.specs.declared.input.InputState.TheVariants.{Held, Spilling}

module _ (net : Network) where
  -- an input that discards ends at a switch
  abbrev pub AtSwitches : (ℕ → InputState) → Type 0
  AtSwitches input = (c : ℕ) → input c ≡ Spilling → (w : ℕ) × (net.end_of c ≡ AtSwitch w)

  put_keeps : (input : ℕ → InputState) (c : ℕ) (i : InputState) → (i ≡ Spilling → (w : ℕ) × (net.end_of c ≡ AtSwitch w)) → AtSwitches input → AtSwitches (put input c i)
  put_keeps input c i here others k e = ⊎_elim
      (λ same. subst (λ j. (w : ℕ) × (net.end_of j ≡ AtSwitch w)) (sym same) (here (sym (put_here input c i) ∙ ap (put input c i) (sym same) ∙ e)))
      (λ ne. others k (sym (put_there input c i k ne) ∙ e))
      (cases_eq k c)

  passes : (x : NChar) (d : ℕ) → input_after x (Held d) ≡ Spilling → ⊥
  passes (Data b) d e = cc
  passes Eop d e = cc
  passes Eep d e = cc

  dropped : (s : State) (c switch : ℕ) (x : NChar) (rest : List NChar) (t : State) → net.end_of c ≡ AtSwitch switch → Drops net s c switch x rest t → AtSwitches s.input → AtSwitches t.input
  dropped s c switch (Data b) rest t at d a = subst (λ (u : State). AtSwitches u.input) (sym d.1) (put_keeps s.input c Spilling (λ e. (switch, at)) a)
  dropped s c switch Eop rest t at d a = subst (λ (u : State). AtSwitches u.input) (sym d) a
  dropped s c switch Eep rest t at d a = subst (λ (u : State). AtSwitches u.input) (sym d) a

  step_keeps : (s : State) (step : Step) (t : State) → Leads net s step t → AtSwitches s.input → AtSwitches t.input
  step_keeps s (Fct c) t h a = subst (λ (u : State). AtSwitches u.input) (sym h.after) a
  step_keeps s (FctIn c) t h a = subst (λ (u : State). AtSwitches u.input) (sym h.after) a
  step_keeps s (Arrive c) t h a = subst (λ (u : State). AtSwitches u.input) (sym h.after) a
  step_keeps s (Grant d c) t h a = subst (λ (u : State). AtSwitches u.input) (sym h.after) (put_keeps s.input c (Held d) (λ e. absurd (cc)) a)
  step_keeps s (Drop c) t h a = dropped s c h.switch h.first h.rest t h.at h.after a
  step_keeps s (Forward c) t h a = subst (λ (u : State). AtSwitches u.input) (sym h.after) (put_keeps s.input c (input_after h.first (Held h.d)) (λ e. absurd (passes h.first h.d e)) a)
  step_keeps s (Spill c) t h a = subst (λ (u : State). AtSwitches u.input) (sym h.after) (put_keeps s.input c (input_after h.first Spilling) (λ e. a c h.spilling) a)
  step_keeps s (Begin f cargo end) t h a = subst (λ (u : State). AtSwitches u.input) (sym h.after) a
  step_keeps s (Emit n) t h a = subst (λ (u : State). AtSwitches u.input) (sym h.after) a
  step_keeps s (Accept n) t h a = subst (λ (u : State). AtSwitches u.input) (sym h.after) a
  step_keeps s (Reply n) t h a = subst (λ (u : State). AtSwitches u.input) (sym h.after) a

  run_keeps : (steps : List Step) (s t : State) → Run net s steps t → AtSwitches s.input → AtSwitches t.input
  run_keeps [] s t r a = subst (λ (u : State). AtSwitches u.input) (sym r) a
  run_keeps (step ∷ steps) s t r a = run_keeps steps r.0 t r.2 (step_keeps s step r.0 r.1 a)

  pub spilling_at_switches : (s : State) → IsReached net s → AtSwitches s.input
  spilling_at_switches s r = run_keeps r.0 (empty net) s r.1 (λ c e. absurd (cc))
