-- What the cells count at their link ends.
use Rattle.std.proofs.Common.{Some, ap, length, sym, ℕ, ◌-◌, ◌<◌, ◌∙◌, ◌≡◌}
use Rattle.std.specs.Prelude.{slice_get}
use Rattle.sw_flow.specs.Places.{ends_of}
use Rattle.sw_machine.specs.State.{State}
use Rattle.sw_machine.proofs.DeclaredNetworks.{are_networks}
use Rattle.sw_machine.specs.Model.{network_of}
use Rattle.sw_net.proofs.Delivered.{end_at_node}
use Rattle.sw_net.proofs.New.{node_capacity}
use Rattle.sw_net.proofs.Told.{start_at_node}
use Rattle.sw_net.specs.Net.{NetView}
use Rattle.sw_net.specs.Numbers.{AreNumbers, numbers_at}
use Rattle.sw_net.specs.declared.numbers.Numbers.{Numbers}
use Rattle.sw_config.specs.Entries.{capacities}
use Rattle.sw_config.specs.Valid.{IsValid}
use Rattle.sw_node.specs.Node.{Node}
use Rattle.sw_switch.specs.Cell.{Cell, credit_at, end_at}
use Rattle.sw_topo.proofs.Ends.{partner_back}
use Rattle.sw_topo.specs.Wiring.{partner}
use Rattle.sw_topo.specs.declared.place.PlaceEnd.TheVariants as place

module _ {R A : Type 0} (v : NetView R A) (valid : IsValid v.declared) (e : ℕ) (credit outstanding buffered capacity : ℕ) (is : slice_get (capacities v.declared.links) (partner e) ≡ Some capacity) where
  -- the numbers are those of a state
  same : (s : State) → credit ≡ s.credit e → outstanding ≡ s.outstanding (partner e) → buffered ≡ length (s.buffer (partner e))
      → record { credit = credit; outstanding = outstanding; room = capacity - buffered - outstanding } ≡ numbers_at (network_of v.declared) s e
  same s x y z =
      let room = capacity - buffered - outstanding in
      let r : room ≡ (network_of v.declared).capacity (partner e) - length (s.buffer (partner e)) - s.outstanding (partner e) =
      ap (λ k. k - buffered - outstanding) (node_capacity v.declared (partner e) capacity is)
      ∙ ap (λ k. (network_of v.declared).capacity (partner e) - k - outstanding) z
      ∙ ap (λ k. (network_of v.declared).capacity (partner e) - length (s.buffer (partner e)) - k) y in
      let of : ℕ → ℕ → ℕ → Numbers = λ a b c. record { credit = a; outstanding = b; room = c } in
      ap (λ k. of k outstanding room) x ∙ ap (λ k. of (s.credit e) k room) y ∙ ap (λ k. of (s.credit e) (s.outstanding (partner e)) k) r

  pub node_numbers : (n : ℕ) (node : Node) → slice_get v.nodes n ≡ Some node → slice_get (ends_of v.declared) e ≡ Some (place.Node n) → e < (network_of v.declared).channels → partner e < (network_of v.declared).channels
      → credit ≡ node.credit → outstanding ≡ node.received.outstanding → buffered ≡ length node.received.buffer → AreNumbers v e (record { credit = credit; outstanding = outstanding; room = capacity - buffered - outstanding })
  node_numbers n node at starts lt back x y z = λ s k.
      let net = network_of v.declared in
      let ok = are_networks v.declared valid in
      let out = (ok.starts_at_node e n lt (start_at_node v.declared e n starts)).1 in
      let into = (ok.ends_at_node (partner e) n back (end_at_node v.declared (partner e) n (ap (slice_get (ends_of v.declared)) (partner_back e) ∙ starts))).1 in
      let p = k.nodes n node at in
      same s (x ∙ sym (ap s.credit (sym out) ∙ p.credit)) (y ∙ sym (ap s.outstanding (sym into) ∙ p.outstanding)) (z ∙ sym (ap length (ap s.buffer (sym into) ∙ p.buffer)))

  pub switch_numbers : (w : ℕ) (cell : Cell R A) (port : ℕ) → slice_get v.switches w ≡ Some cell → slice_get (ends_of v.declared) e ≡ Some (place.Switch w port)
      → credit ≡ credit_at cell port → outstanding ≡ (end_at cell port).outstanding → buffered ≡ length (end_at cell port).buffer → AreNumbers v e (record { credit = credit; outstanding = outstanding; room = capacity - buffered - outstanding })
  switch_numbers w cell port at starts x y z = λ s k.
      let p = k.switches w cell at in
      let q = p.ports (partner e) port (ap (slice_get (ends_of v.declared)) (partner_back e) ∙ starts) in
      same s (x ∙ sym (p.credit e port starts)) (y ∙ sym q.outstanding) (z ∙ sym (ap length q.buffer))
