-- The inputs to which an output can be granted, as a switch tells them.
use Rattle.std.proofs.Common.{Bool, Some, ap, arith, false, refl, sym, true, ℕ, ◌∙◌, ◌≡◌, ◌↔◌, IsTrue}
use Rattle.std.proofs.lemmas.Bool.{false≢true}
use Rattle.std.specs.Prelude.{IsBitSet, slice_get}
use Rattle.sw_cell.proofs.Picking as picking
use Rattle.sw_cell.proofs.Telling.{port_grant}
use Rattle.sw_flow.specs.Places.{end_of, ends_of}
use Rattle.sw_machine.specs.Steps.{Grant}
use Rattle.sw_net.proofs.Possibles.{switch_told}
use Rattle.sw_net.specs.Asking.{AreAsking, IsInput}
use Rattle.sw_net.specs.Net.{IsNet, NetView}
use Rattle.sw_net.specs.Possible.{Tells}
use Rattle.sw_config.specs.Entries.{wiring_of}
use Rattle.sw_route.specs.declared.look.Look.{Look}
use Rattle.sw_switch.specs.Cell.{Cell}
use Rattle.sw_switch.specs.Conditions as ports
use Rattle.sw_topo.proofs.Ends.{partner_back, port_starts}
use Rattle.sw_topo.proofs.PortBits.{zero_none}
use Rattle.sw_topo.specs.Wiring.{out_of, partner}
use Rattle.sw_topo.specs.declared.place.PlaceEnd.TheVariants.{Switch}
use Rattle.sw_cell.proofs.Passing.{some_of}

-- one place is not two
same_switch : (w v p q : ℕ) → Some (Switch w p) ≡ Some (Switch v q) → w ≡ v
same_switch w v p q e = cc

same_port : (w v p q : ℕ) → Some (Switch w p) ≡ Some (Switch v q) → p ≡ q
same_port w v p q e = cc

-- no port is in the empty set
pub none_set : (port : ℕ) → IsBitSet 0 port → ⊥
none_set port h = zero_none 0 refl port (omega arith) h

module _ {R A : Type 0} (answer : R → ℕ → Look) (arbiter_ports : A → ℕ) (v : NetView R A) (net : IsNet answer arbiter_ports v) (e : ℕ) where
  pub none_asks : (set : ℕ) → ((port : ℕ) → IsBitSet set port → ⊥) → ((w out : ℕ) → slice_get (ends_of v.declared) e ≡ Some (Switch w out) → ⊥) → AreAsking v e set
  none_asks set none nowhere = record { asks = λ port h. absurd (none port h); no_others = λ port c is h. absurd (nowhere is.switch is.output is.starts) }

  module _ (w out : ℕ) (cell : Cell R A) (at : slice_get v.switches w ≡ Some cell) (starts : slice_get (ends_of v.declared) e ≡ Some (Switch w out)) where
    pub told : (port c : ℕ) (can : Bool) → end_of v.declared c ≡ Some (Switch w port) → (IsTrue can ↔ ports.CanGrant answer cell out port) → Tells v (Grant e c) can
    told port c can ends is = switch_told v w cell (Grant e c) can at (port_grant answer arbiter_ports v.declared w cell (net.switches w cell at) v.between c port can e out ends starts is)

    asks_some : (port : ℕ) → ports.CanGrant answer cell out port → (c : ℕ) × IsInput v.declared e port c × Tells v (Grant e c) true
    asks_some port can =
        let for = net.switches w cell at in
        let back = some_of (out_of (ends_of v.declared) w port) ((for.linked port).0 can.asks.linked) in
        let c = partner back.0 in
        let ends : end_of v.declared c ≡ Some (Switch w port) = ap (slice_get (ends_of v.declared)) (partner_back back.0) ∙ port_starts (wiring_of v.declared) w port back.0 back.1 in
        (c, record { switch = w; output = out; starts = starts; ends = ends }, told port c true ends (λ _. can, λ _. refl))

    pub switch_asks : (set : ℕ) → ports.AreAsking answer cell out set → AreAsking v e set
    switch_asks set are = record {
      asks = λ port h. asks_some port ((are port).0 h);
      no_others = λ port c is none.
          let same = same_switch w is.switch out is.output (sym starts ∙ is.starts) in
          let ends : end_of v.declared c ≡ Some (Switch w port) = is.ends ∙ ap (λ k. Some (Switch k port)) (sym same) in
          told port c false ends (λ f. absurd (false≢true f), λ can. absurd (none ((are port).1 can)));
    }

    -- nothing can be granted where no input asks
    pub none_granted : ((port : ℕ) → ports.CanGrant answer cell out port → ⊥) → (c : ℕ) → Tells v (Grant e c) false
    none_granted none c = λ s is.
        picking.none_picked answer arbiter_ports v.declared w cell (net.switches w cell at) e out starts none c v.between s
        (record { reached = is.reached; part = is.switches w cell at; between = is.between })
