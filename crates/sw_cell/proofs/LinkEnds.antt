-- The steps that belong to the link end of a cell.
use Rattle.std.proofs.Common.{List, [], ap, false, refl, subst, sym, ℕ, ⊎_elim, ◌<◌, ◌∙◌, ◌∷◌, ◌≡◌}
use Rattle.std.proofs.lemmas.Bool.{cases_eq, false≢true}
use Rattle.sw_cell.specs.Possible.{CanStepAt}
use Rattle.sw_char.specs.declared.nchar.NChar.{NChar}
use Rattle.sw_char.specs.declared.nchar.NChar.TheVariants.{Data, Eep, Eop}
use Rattle.sw_machine.proofs.Lists.{put_there}
use Rattle.sw_machine.proofs.Parts.{link_ends}
use Rattle.sw_machine.specs.Network.{AtNode, AtSwitch, IsNetwork, Network}
use Rattle.sw_machine.specs.Parts.{cell_of, link_end_of}
use Rattle.sw_machine.specs.Runs.{IsReached, Run}
use Rattle.sw_machine.specs.State.{State, empty, input_after, put}
use Rattle.sw_machine.specs.Steps.{Accept, Arrive, Begin, Drop, Drops, Emit, Fct, FctIn, Forward, Grant, IsPossible, Leads, Reply, Spill, Step, is_begin}
use Rattle.sw_machine.specs.declared.input.InputState.{InputState}
use Rattle.sw_machine.specs.declared.input.InputState.TheVariants.{Held, Idle, Spilling}
use Rattle.sw_topo.proofs.Ends.{partner_back}
use Rattle.sw_topo.specs.Wiring.{partner}

module _ (net : Network) (ok : IsNetwork net) where
  -- nothing is passed on where a channel ends at a node
  abbrev IdleAtNodes : (ℕ → InputState) → Type 0
  IdleAtNodes input = (c n : ℕ) → net.end_of c ≡ AtNode n → input c ≡ Idle

  -- an input changes that is at no node
  changed : (input : ℕ → InputState) (c : ℕ) (x : InputState) → ((n : ℕ) → net.end_of c ≡ AtNode n → ⊥) → IdleAtNodes input → IdleAtNodes (put input c x)
  changed input c x never idle k n at = ⊎_elim
      (λ same. absurd (never n (ap net.end_of (sym same) ∙ at)))
      (λ ne. put_there input c x k ne ∙ idle k n at)
      (cases_eq k c)

  dropped : (s : State) (c switch : ℕ) (first : NChar) (rest : List NChar) (t : State) → net.end_of c ≡ AtSwitch switch → Drops net s c switch first rest t → IdleAtNodes s.input → IdleAtNodes t.input
  dropped s c switch (Data b) rest t ends d i = subst (λ (u : State). IdleAtNodes u.input) (sym d.1) (changed s.input c Spilling (λ n at. let e = sym ends ∙ at in cc) i)
  dropped s c switch Eop rest t ends d i = subst (λ (u : State). IdleAtNodes u.input) (sym d) i
  dropped s c switch Eep rest t ends d i = subst (λ (u : State). IdleAtNodes u.input) (sym d) i

  step_idle : (s : State) (step : Step) (t : State) → Leads net s step t → IdleAtNodes s.input → IdleAtNodes t.input
  step_idle s (Fct c) t h i = subst (λ (u : State). IdleAtNodes u.input) (sym h.after) i
  step_idle s (FctIn c) t h i = subst (λ (u : State). IdleAtNodes u.input) (sym h.after) i
  step_idle s (Arrive c) t h i = subst (λ (u : State). IdleAtNodes u.input) (sym h.after) i
  step_idle s (Grant d c) t h i = subst (λ (u : State). IdleAtNodes u.input) (sym h.after) (changed s.input c (Held d) (λ n at. let e = sym h.at ∙ at in cc) i)
  step_idle s (Drop c) t h i = dropped s c h.switch h.first h.rest t h.at h.after i
  step_idle s (Forward c) t h i = subst (λ (u : State). IdleAtNodes u.input) (sym h.after) (changed s.input c (input_after h.first (Held h.d)) (λ n at. let e = sym (i c n at) ∙ h.held in cc) i)
  step_idle s (Spill c) t h i = subst (λ (u : State). IdleAtNodes u.input) (sym h.after) (changed s.input c (input_after h.first Spilling) (λ n at. let e = sym (i c n at) ∙ h.spilling in cc) i)
  step_idle s (Begin f cargo end) t h i = subst (λ (u : State). IdleAtNodes u.input) (sym h.after) i
  step_idle s (Emit n) t h i = subst (λ (u : State). IdleAtNodes u.input) (sym h.after) i
  step_idle s (Accept n) t h i = subst (λ (u : State). IdleAtNodes u.input) (sym h.after) i
  step_idle s (Reply n) t h i = subst (λ (u : State). IdleAtNodes u.input) (sym h.after) i

  run_idle : (steps : List Step) (s t : State) → Run net s steps t → IdleAtNodes s.input → IdleAtNodes t.input
  run_idle [] s t r i = subst (λ (u : State). IdleAtNodes u.input) (sym r) i
  run_idle (step ∷ steps) s t r i = run_idle steps r.0 t r.2 (step_idle s step r.0 r.1 i)

  pub idle_at_nodes : (s : State) → IsReached net s → (c n : ℕ) → net.end_of c ≡ AtNode n → s.input c ≡ Idle
  idle_at_nodes s r = run_idle r.0 (empty net) s r.1 (λ c n at. refl)

  module _ (s : State) (r : IsReached net s) where
    -- where none of these is possible, no step that belongs to the node's link end is
    pub record NoneAtNode (n : ℕ) : Type 0 where
      pub fct : IsPossible net s (Fct (net.into n)) → ⊥
      pub fct_in : IsPossible net s (FctIn (net.out n)) → ⊥
      pub arrive : IsPossible net s (Arrive (net.into n)) → ⊥
      pub emit : IsPossible net s (Emit n) → ⊥
      pub accept : IsPossible net s (Accept n) → ⊥
      pub reply : IsPossible net s (Reply n) → ⊥

    none_by : (n : ℕ) → NoneAtNode n → (step : Step) → cell_of net step ≡ AtNode n → is_begin step ≡ false → IsPossible net s step → ⊥
    none_by n none (Fct c) at other p = none.fct (subst (λ k. IsPossible net s (Fct k)) (sym (ok.ends_at_node c n (p.1).in_net at).1) p)
    none_by n none (FctIn c) at other p = none.fct_in (subst (λ k. IsPossible net s (FctIn k)) (sym (ok.starts_at_node c n (p.1).in_net at).1) p)
    none_by n none (Arrive c) at other p = none.arrive (subst (λ k. IsPossible net s (Arrive k)) (sym (ok.ends_at_node c n (p.1).in_net at).1) p)
    none_by n none (Grant d c) at other p = let h = p.1 in let e = sym at ∙ h.at in cc
    none_by n none (Drop c) at other p = let h = p.1 in let e = sym at ∙ h.at in cc
    none_by n none (Forward c) at other p = let h = p.1 in let e = sym (idle_at_nodes s r c n at) ∙ h.held in cc
    none_by n none (Spill c) at other p = let h = p.1 in let e = sym (idle_at_nodes s r c n at) ∙ h.spilling in cc
    none_by n none (Begin f cargo end) at other p = false≢true (sym other)
    none_by n none (Emit m) at other p = none.emit (let e : m ≡ n = cc in subst (λ k. IsPossible net s (Emit k)) e p)
    none_by n none (Accept m) at other p = none.accept (let e : m ≡ n = cc in subst (λ k. IsPossible net s (Accept k)) e p)
    none_by n none (Reply m) at other p = none.reply (let e : m ≡ n = cc in subst (λ k. IsPossible net s (Reply k)) e p)

    pub none_at_node : (n : ℕ) → n < net.nodes → NoneAtNode n → CanStepAt net s (net.out n) → ⊥
    none_at_node n in_net none can = none_by n none can.step (sym (link_ends net ok s can.step can.possible).1 ∙ ap net.start_of can.belongs ∙ (ok.out_starts n in_net).1) can.no_begin can.possible

    -- the same at a port, where channel e starts
    pub record NoneAtPort (e : ℕ) : Type 0 where
      pub fct : IsPossible net s (Fct (partner e)) → ⊥
      pub fct_in : IsPossible net s (FctIn e) → ⊥
      pub arrive : IsPossible net s (Arrive (partner e)) → ⊥
      pub drops : IsPossible net s (Drop (partner e)) → ⊥
      pub forward : IsPossible net s (Forward (partner e)) → ⊥
      pub spill : IsPossible net s (Spill (partner e)) → ⊥
      pub grant : (c : ℕ) → IsPossible net s (Grant e c) → ⊥

    back : (c e : ℕ) → partner c ≡ e → c ≡ partner e
    back c e is = sym (partner_back c) ∙ ap partner is

    none_by_port : (e w : ℕ) → net.start_of e ≡ AtSwitch w → NoneAtPort e → (step : Step) → link_end_of net step ≡ e → is_begin step ≡ false → IsPossible net s step → ⊥
    none_by_port e w at none (Fct c) belongs other p = none.fct (subst (λ k. IsPossible net s (Fct k)) (back c e belongs) p)
    none_by_port e w at none (FctIn c) belongs other p = none.fct_in (subst (λ k. IsPossible net s (FctIn k)) belongs p)
    none_by_port e w at none (Arrive c) belongs other p = none.arrive (subst (λ k. IsPossible net s (Arrive k)) (back c e belongs) p)
    none_by_port e w at none (Grant d c) belongs other p = none.grant c (subst (λ k. IsPossible net s (Grant k c)) belongs p)
    none_by_port e w at none (Drop c) belongs other p = none.drops (subst (λ k. IsPossible net s (Drop k)) (back c e belongs) p)
    none_by_port e w at none (Forward c) belongs other p = none.forward (subst (λ k. IsPossible net s (Forward k)) (back c e belongs) p)
    none_by_port e w at none (Spill c) belongs other p = none.spill (subst (λ k. IsPossible net s (Spill k)) (back c e belongs) p)
    none_by_port e w at none (Begin f cargo end) belongs other p = false≢true (sym other)
    none_by_port e w at none (Emit n) belongs other p = let e = sym (ok.out_starts n (p.1).in_net).1 ∙ ap net.start_of belongs ∙ at in cc
    none_by_port e w at none (Accept n) belongs other p = let e = sym (ok.out_starts n (p.1).in_net).1 ∙ ap net.start_of belongs ∙ at in cc
    none_by_port e w at none (Reply n) belongs other p = let e = sym (ok.out_starts n (p.1).in_net).1 ∙ ap net.start_of belongs ∙ at in cc

    pub none_at_port : (e w : ℕ) → net.start_of e ≡ AtSwitch w → NoneAtPort e → CanStepAt net s e → ⊥
    none_at_port e w at none can = none_by_port e w at none can.step can.belongs can.no_begin can.possible
