-- In each reached state an output is held by one input at most, of its own switch.
use Rattle.std.proofs.Common.{Contains, List, [], ap, subst, sym, ℕ, ⊎_elim, ◌<◌, ◌∙◌, ◌∷◌, ◌≡◌, ◌≢◌}
use Rattle.std.proofs.lemmas.Bool.{cases_eq}
use Rattle.sw_char.specs.declared.nchar.NChar.{NChar}
use Rattle.sw_char.specs.declared.nchar.NChar.TheVariants.{Data, Eep, Eop}
use Rattle.sw_machine.proofs.Lists.{put_here, put_there}
use Rattle.sw_machine.specs.Network.{AtSwitch, IsNetwork, Network}
use Rattle.sw_machine.specs.Parts.{HoldsItsOwn, IsWormhole}
use Rattle.sw_machine.specs.Runs.{IsReached, Run}
use Rattle.sw_machine.specs.State.{State, empty, input_after, put}
use Rattle.sw_machine.specs.Steps.{Accept, Arrive, Begin, Drop, Drops, Emit, Fct, FctIn, Forward, Grant, Leads, Reply, Spill, Step}
use Rattle.sw_machine.specs.declared.input.InputState.{InputState}
use Rattle.sw_machine.specs.declared.input.InputState.TheVariants.{Held, Spilling}

module _ (net : Network) (ok : IsNetwork net) where
  -- what holds of the inputs alone
  record Inputs (input : ℕ → InputState) : Type 0 where
    own : (c d : ℕ) → c < net.channels → input c ≡ Held d → HoldsItsOwn net c d
    one : (b c d : ℕ) → b < net.channels → c < net.channels → input b ≡ Held d → input c ≡ Held d → b ≡ c

  -- an input holds something else, or nothing, and no other changes
  fewer : (input more : ℕ → InputState) → ((c d : ℕ) → more c ≡ Held d → input c ≡ Held d) → Inputs input → Inputs more
  fewer input more back h = record {
    own = λ c d lc e. h.own c d lc (back c d e);
    one = λ b c d lb lc eb ec. h.one b c d lb lc (back b d eb) (back c d ec);
  }

  -- c passes its marker on, or another character
  back_passed : (input : ℕ → InputState) (c : ℕ) (x : NChar) (before : InputState) → input c ≡ before → (b e : ℕ) → put input c (input_after x before) b ≡ Held e → input b ≡ Held e
  back_passed input c x before was b e h = ⊎_elim
      (λ same. ap input same ∙ was ∙ held x before (sym (put_here input c (input_after x before)) ∙ ap (put input c (input_after x before)) (sym same) ∙ h))
      (λ ne. sym (put_there input c (input_after x before) b ne) ∙ h)
      (cases_eq b c)
    where
      held : (x : NChar) (before : InputState) → input_after x before ≡ Held e → before ≡ Held e
      held (Data byte) before h = h
      held Eop before h = absurd (cc)
      held Eep before h = absurd (cc)

  back_spilled : (input : ℕ → InputState) (c b e : ℕ) → put input c Spilling b ≡ Held e → input b ≡ Held e
  back_spilled input c b e h = ⊎_elim
      (λ same. let at = sym (put_here input c Spilling) ∙ ap (put input c Spilling) (sym same) ∙ h in absurd (cc))
      (λ ne. sym (put_there input c Spilling b ne) ∙ h)
      (cases_eq b c)

  granted : (input : ℕ → InputState) (d c switch h : ℕ) → net.end_of c ≡ AtSwitch switch → Contains (net.look switch h) d → ((b : ℕ) → b < net.channels → input b ≢ Held d) → Inputs input → Inputs (put input c (Held d))
  granted input d c switch h at named free i = record {
    own = λ b e lb held. ⊎_elim
        (λ same.
        let to : Held d ≡ Held e = sym (put_here input c (Held d)) ∙ ap (put input c (Held d)) (sym same) ∙ held in
        let is : d ≡ e = cc in
        let starts = ok.look_starts switch h d named in
        record { in_net = subst (λ d. d < net.channels) is starts.0; switch = switch; ends = ap net.end_of same ∙ at; starts = ap net.start_of (sym is) ∙ starts.1 })
        (λ ne. i.own b e lb (sym (put_there input c (Held d) b ne) ∙ held))
        (cases_eq b c);
    one = λ a b j la lb ha hb. granted_one a b j la lb ha hb;
  }
    where
      new : (b j : ℕ) → b ≡ c → put input c (Held d) b ≡ Held j → Held d ≡ Held j
      new b j same held = sym (put_here input c (Held d)) ∙ ap (put input c (Held d)) (sym same) ∙ held

      old : (b j : ℕ) → (b ≡ c → ⊥) → put input c (Held d) b ≡ Held j → input b ≡ Held j
      old b j ne held = sym (put_there input c (Held d) b ne) ∙ held

      granted_one : (a b j : ℕ) → a < net.channels → b < net.channels → put input c (Held d) a ≡ Held j → put input c (Held d) b ≡ Held j → a ≡ b
      granted_one a b j la lb ha hb = ⊎_elim
          (λ ac. ⊎_elim (λ bc. ac ∙ sym bc) (λ bn. absurd (free b lb (old b j bn hb ∙ sym (new a j ac ha)))) (cases_eq b c))
          (λ an. ⊎_elim (λ bc. absurd (free a la (old a j an ha ∙ sym (new b j bc hb)))) (λ bn. i.one a b j la lb (old a j an ha) (old b j bn hb)) (cases_eq b c))
          (cases_eq a c)

  dropped : (s : State) (c switch : ℕ) (first : NChar) (rest : List NChar) (t : State) → Drops net s c switch first rest t → Inputs s.input → Inputs t.input
  dropped s c switch (Data b) rest t d i = subst (λ (u : State). Inputs u.input) (sym d.1) (fewer s.input (put s.input c Spilling) (back_spilled s.input c) i)
  dropped s c switch Eop rest t d i = subst (λ (u : State). Inputs u.input) (sym d) i
  dropped s c switch Eep rest t d i = subst (λ (u : State). Inputs u.input) (sym d) i

  step_inputs : (s : State) (step : Step) (t : State) → Leads net s step t → Inputs s.input → Inputs t.input
  step_inputs s (Fct c) t h i = subst (λ (u : State). Inputs u.input) (sym h.after) i
  step_inputs s (FctIn c) t h i = subst (λ (u : State). Inputs u.input) (sym h.after) i
  step_inputs s (Arrive c) t h i = subst (λ (u : State). Inputs u.input) (sym h.after) i
  step_inputs s (Grant d c) t h i = subst (λ (u : State). Inputs u.input) (sym h.after) (granted s.input d c h.switch h.h h.at h.named h.not_held i)
  step_inputs s (Drop c) t h i = dropped s c h.switch h.first h.rest t h.after i
  step_inputs s (Forward c) t h i = subst (λ (u : State). Inputs u.input) (sym h.after) (fewer s.input (put s.input c (input_after h.first (Held h.d))) (back_passed s.input c h.first (Held h.d) h.held) i)
  step_inputs s (Spill c) t h i = subst (λ (u : State). Inputs u.input) (sym h.after) (fewer s.input (put s.input c (input_after h.first Spilling)) (back_passed s.input c h.first Spilling h.spilling) i)
  step_inputs s (Begin f cargo end) t h i = subst (λ (u : State). Inputs u.input) (sym h.after) i
  step_inputs s (Emit n) t h i = subst (λ (u : State). Inputs u.input) (sym h.after) i
  step_inputs s (Accept n) t h i = subst (λ (u : State). Inputs u.input) (sym h.after) i
  step_inputs s (Reply n) t h i = subst (λ (u : State). Inputs u.input) (sym h.after) i

  run_inputs : (steps : List Step) (s t : State) → Run net s steps t → Inputs s.input → Inputs t.input
  run_inputs [] s t r i = subst (λ (u : State). Inputs u.input) (sym r) i
  run_inputs (step ∷ steps) s t r i = run_inputs steps r.0 t r.2 (step_inputs s step r.0 r.1 i)

  pub held_once : (s : State) → IsReached net s → IsWormhole net s
  held_once s r =
      let i = run_inputs r.0 (empty net) s r.1 (record { own = λ c d lc e. absurd (cc); one = λ b c d lb lc eb ec. absurd (cc) }) in
      record { own = i.own; one = i.one }
