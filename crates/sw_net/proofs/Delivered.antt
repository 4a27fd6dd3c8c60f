-- What is undelivered, by channel and by node.
use mathlib.Core.Logic.{∥∥₁_elim}
use native.Mathlib.Bridge.{le_prop}
use Rattle.std.proofs.Common.{Some, ⊎_elim, add-one, ap, arith, length, refl, subst, suc, sym, zero, ℕ, ◌+◌, ◌*◌, ◌^◌, ◌<◌, ◌≤◌, ◌∙◌, ◌≡◌}
use Rattle.std.proofs.lemmas.Bool.{cases_lt}
use Rattle.std.specs.Prelude.{slice_get}
use Rattle.sw_cell.proofs.Network.{channels_are, nodes_are}
use Rattle.sw_flow.specs.Places.{end_of}
use Rattle.sw_machine.specs.Network.{AtNode}
use Rattle.sw_machine.specs.Runs.{total, undelivered}
use Rattle.sw_machine.specs.Owing.{length_pending}
use Rattle.sw_machine.specs.State.{State}
use Rattle.sw_machine.proofs.DeclaredNetworks.{are_networks}
use Rattle.sw_machine.specs.Model.{network_of}
use Rattle.sw_net.proofs.Few.{few_undelivered}
use Rattle.sw_net.specs.Delivery.{IsAtNode, IsAtNodes, IsBuffered, IsInChannel, IsInChannels, IsUndelivered, at_node, in_channel}
use Rattle.sw_net.specs.Net.{IsNet, IsNetState, NetView}
use Rattle.sw_config.proofs.Steps.{length-link_ends}
use Rattle.sw_config.specs.Entries.{Declaration, wiring_of}
use Rattle.sw_node.specs.Node.{Node}
use Rattle.sw_route.specs.declared.look.Look.{Look}
use Rattle.sw_switch.specs.Cell.{Cell, end_at}
use Rattle.sw_topo.proofs.Converse.{no_fault}
use Rattle.sw_topo.specs.declared.place.PlaceEnd.TheVariants as place
use Rattle.sw_link.specs.Between.{wire_at}

module _ (f : ℕ → ℕ) where
  total_more : (c : ℕ) → total (c + 1) f ≡ total c f + f c
  total_more c = rw add-one refl

  total_within : (n c : ℕ) → c < n → total c f + f c ≤ total n f
  total_within zero c lt = absurd (omega arith)
  total_within (suc n) c lt = ⊎_elim
      (λ small. let rest = total_within n c small in omega arith)
      (λ ge. let is : c ≡ n = omega arith in subst (λ (k : ℕ). total k f + f k ≤ total n f + f n) (sym is) (omega arith))
      (cases_lt c n)

pub channel_count : (d : Declaration) → (network_of d).channels ≡ 2 * length d.links
channel_count d = channels_are d ∙ length-link_ends d.links

pub end_at_node : (d : Declaration) (c n : ℕ) → end_of d c ≡ Some (place.Node n) → (network_of d).end_of c ≡ AtNode n
unfolding network_of
end_at_node d c n e = rw e refl

module _ {R A : Type 0} (answer : R → ℕ → Look) (ports : A → ℕ) (v : NetView R A) (is : IsNet answer ports v) where
  all_fit : (s : State) → IsNetState v s → undelivered (network_of v.declared) s < 2 ^ 64
  all_fit s k =
      let rules = (no_fault (wiring_of v.declared) is.valid.sound.wiring).0 is.valid.sound.faultless in
      let nodes = rules.few_nodes in
      let links = rules.few_links in
      let all = channels_are v.declared in
      let each = nodes_are v.declared in
      few_undelivered v.declared is.valid s k.reached (omega arith) (omega arith)

  -- a count that is no more than all
  pub fits : (count : ℕ) → ((s : State) → IsNetState v s → count ≤ undelivered (network_of v.declared) s) → count < 2 ^ 64
  fits count part = ∥∥₁_elim is.reached le_prop (λ k. let all = all_fit k.0 k.1 in let some = part k.0 k.1 in omega arith)

  pub wires_long : (network_of v.declared).channels ≤ length v.between.wires
  wires_long = ∥∥₁_elim is.reached le_prop (λ k. let all = (k.1).between.all_wires in omega arith)

  -- ---- channels

  pub node_buffered : (n : ℕ) (node : Node) (c count : ℕ) → slice_get v.nodes n ≡ Some node → c < (network_of v.declared).channels → end_of v.declared c ≡ Some (place.Node n) → count ≡ length node.received.buffer → IsBuffered v c count
  node_buffered n node c count at lt ends e = λ s k.
      let into = ((are_networks v.declared is.valid).ends_at_node c n lt (end_at_node v.declared c n ends)).1 in
      e ∙ sym (ap length (ap s.buffer (sym into) ∙ (k.nodes n node at).buffer))

  pub switch_buffered : (w : ℕ) (cell : Cell R A) (c p count : ℕ) → slice_get v.switches w ≡ Some cell → end_of v.declared c ≡ Some (place.Switch w p) → count ≡ length (end_at cell p).buffer → IsBuffered v c count
  switch_buffered w cell c p count at ends e = λ s k. e ∙ sym (ap length ((k.switches w cell at).ports c p ends).buffer)

  pub channel_is : (c x y : ℕ) → c < (network_of v.declared).channels → IsBuffered v c x → y ≡ length (wire_at v.between c) → IsInChannel v c (x + y)
  channel_is c x y lt buffered on_wire = λ s k. let b = buffered s k in let w = ap length (k.between.wire c lt) in omega arith

  channels_below : (s : State) (c : ℕ) → c < (network_of v.declared).channels → total c (in_channel s) + in_channel s c ≤ undelivered (network_of v.declared) s
  channels_below s c lt = let some = total_within (in_channel s) (network_of v.declared).channels c lt in omega arith

  pub channel_fits : (c x : ℕ) → c < (network_of v.declared).channels → IsInChannel v c x → x < 2 ^ 64
  channel_fits c x lt here = fits x (λ s k. let below = channels_below s c lt in let e = here s k in omega arith)

  pub channels_more : (c x y : ℕ) → IsInChannels v c x → IsInChannel v c y → IsInChannels v (c + 1) (x + y)
  channels_more c x y before here = λ s k. let e = before s k in let f = here s k in let more = total_more (in_channel s) c in omega arith

  pub channels_fit : (c x y : ℕ) → c < (network_of v.declared).channels → IsInChannels v c x → IsInChannel v c y → x + y < 2 ^ 64
  channels_fit c x y lt before here = fits (x + y) (λ s k. let below = channels_below s c lt in let e = before s k in let f = here s k in omega arith)

  -- ---- nodes

  nodes_below : (s : State) (n : ℕ) → n < (network_of v.declared).nodes → total n (at_node s) + at_node s n ≤ undelivered (network_of v.declared) s
  nodes_below s n lt = let some = total_within (at_node s) (network_of v.declared).nodes n lt in omega arith

  pub node_is : (n : ℕ) (node : Node) (x : ℕ) → slice_get v.nodes n ≡ Some node → x ≡ length node.to_send + length_pending node.pending → IsAtNode v n x
  node_is n node x at e = λ s k. let part = k.nodes n node at in e ∙ sym (ap (λ l. length l + length_pending (s.pending n)) part.to_send ∙ ap (λ l. length node.to_send + length_pending l) part.pending)

  pub node_fits : (n : ℕ) (node : Node) → n < (network_of v.declared).nodes → slice_get v.nodes n ≡ Some node → length node.to_send + length_pending node.pending < 2 ^ 64
  node_fits n node lt at = fits (length node.to_send + length_pending node.pending) (λ s k. let below = nodes_below s n lt in let e = node_is n node (length node.to_send + length_pending node.pending) at refl s k in omega arith)

  pub nodes_more : (n x y : ℕ) → IsAtNodes v n x → IsAtNode v n y → IsAtNodes v (n + 1) (x + y)
  nodes_more n x y before here = λ s k. let e = before s k in let f = here s k in let more = total_more (at_node s) n in omega arith

  pub nodes_fit : (n x y : ℕ) → n < (network_of v.declared).nodes → IsAtNodes v n x → IsAtNode v n y → x + y < 2 ^ 64
  nodes_fit n x y lt before here = fits (x + y) (λ s k. let below = nodes_below s n lt in let e = before s k in let f = here s k in omega arith)

  -- ---- all

  pub all_are : (x y : ℕ) → IsInChannels v (2 * length v.declared.links) x → IsAtNodes v (length v.declared.nodes) y → IsUndelivered v (x + y)
  all_are x y channels nodes = λ s k.
      let e = channels s k in
      let f = nodes s k in
      let c = ap (λ m. total m (in_channel s)) (channel_count v.declared) in
      let n = ap (λ m. total m (at_node s)) (nodes_are v.declared) in
      omega arith

  pub all_fits : (x y : ℕ) → IsInChannels v (2 * length v.declared.links) x → IsAtNodes v (length v.declared.nodes) y → x + y < 2 ^ 64
  all_fits x y channels nodes = fits (x + y) (λ s k. let e = all_are x y channels nodes s k in omega arith)
