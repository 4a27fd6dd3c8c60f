-- The steps at a node: those of its two channels, and those that are never possible there.
use Rattle.std.proofs.Common.{ℕ, Bool, ◌≡◌, ap, false, refl, subst, sym, ◌∙◌}
use Rattle.sw_cell.proofs.Spilling.{spilling_at_switches}
use Rattle.sw_cell.specs.Places.{HasNamed}
use Rattle.sw_cell.specs.Makes.{NodeMakes}
use Rattle.sw_machine.proofs.Wormhole.{held_once}
use Rattle.sw_machine.specs.Network.{AtNode, AtSwitch, IsNetwork, Network}
use Rattle.sw_machine.specs.Parts.{cell_of}
use Rattle.sw_machine.specs.Steps.{Arrive, Drop, Fct, FctIn, Forward, Grant, Leads, Spill, Step}
use Rattle.sw_node.specs.Node.{Node}
use Rattle.sw_link.specs.Between.{Between}

pub node_of : (n m : ℕ) → AtNode m ≡ AtNode n → n ≡ m
node_of n m e = cc

module _ (net : Network) (ok : IsNetwork net) (n : ℕ) (node : Node) (b : Between) (step : Step) (at : cell_of net step ≡ AtNode n) where
  -- ---- a channel that ends, or starts, at a node is the node's

  module _ (named : HasNamed net step) (c : ℕ) (made : Bool) (after : Node) (v : Between) where
    pub fct_at : step ≡ Fct c → NodeMakes net n node b (Fct (net.into n)) made after v → NodeMakes net n node b step made after v
    fct_at is h =
        let into = (ok.ends_at_node c n (subst (HasNamed net) is named) (subst (λ s. cell_of net s ≡ AtNode n) is at)).1 in
        subst (λ s. NodeMakes net n node b s made after v) (ap Fct into ∙ sym is) h

    pub fct_in_at : step ≡ FctIn c → NodeMakes net n node b (FctIn (net.out n)) made after v → NodeMakes net n node b step made after v
    fct_in_at is h =
        let out = (ok.starts_at_node c n (subst (HasNamed net) is named) (subst (λ s. cell_of net s ≡ AtNode n) is at)).1 in
        subst (λ s. NodeMakes net n node b s made after v) (ap FctIn out ∙ sym is) h

    pub arrive_at : step ≡ Arrive c → NodeMakes net n node b (Arrive (net.into n)) made after v → NodeMakes net n node b step made after v
    arrive_at is h =
        let into = (ok.ends_at_node c n (subst (HasNamed net) is named) (subst (λ s. cell_of net s ≡ AtNode n) is at)).1 in
        subst (λ s. NodeMakes net n node b s made after v) (ap Arrive into ∙ sym is) h

  -- ---- what is never possible at a node

  no_switch : (c w : ℕ) → net.end_of c ≡ AtNode n → net.end_of c ≡ AtSwitch w → ⊥
  no_switch c w ends is = let bad : AtNode n ≡ AtSwitch w = sym ends ∙ is in cc

  pub no_grant : (d c : ℕ) → step ≡ Grant d c → NodeMakes net n node b step false node b
  no_grant d c e = (
    λ s is p.
        let h = subst (λ k. Leads net s k p.0) e p.1 in
        no_switch c h.switch (subst (λ k. cell_of net k ≡ AtNode n) e at) h.at,
    refl,
    refl,
  )

  pub no_drop : (c : ℕ) → step ≡ Drop c → NodeMakes net n node b step false node b
  no_drop c e = (
    λ s is p.
        let h = subst (λ k. Leads net s k p.0) e p.1 in
        no_switch c h.switch (subst (λ k. cell_of net k ≡ AtNode n) e at) h.at,
    refl,
    refl,
  )

  pub no_forward : (c : ℕ) → step ≡ Forward c → NodeMakes net n node b step false node b
  no_forward c e = (
    λ s is p.
        let h = subst (λ k. Leads net s k p.0) e p.1 in
        let own = (held_once net ok s is.reached).own c h.d h.in_net h.held in
        no_switch c own.switch (subst (λ k. cell_of net k ≡ AtNode n) e at) own.ends,
    refl,
    refl,
  )

  pub no_spill : (c : ℕ) → step ≡ Spill c → NodeMakes net n node b step false node b
  no_spill c e = (
    λ s is p.
        let h = subst (λ k. Leads net s k p.0) e p.1 in
        let w = spilling_at_switches net s is.reached c h.spilling in
        no_switch c w.0 (subst (λ k. cell_of net k ≡ AtNode n) e at) w.1,
    refl,
    refl,
  )
