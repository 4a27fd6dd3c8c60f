-- What the cells tell, told of the whole network.
use Rattle.std.proofs.Common.{Bool, None, Option, Some, false, refl, subst, sym, true, ℕ, ◌<◌, ◌≡◌}
use Rattle.std.specs.Prelude.{is_some, not, slice_get}
use Rattle.sw_cell.specs.Possible.{CanStepAt, NodeEnabled, PortEnabled}
use Rattle.sw_flow.specs.Places.{ends_of}
use Rattle.sw_machine.proofs.Parts.{link_ends}
use Rattle.sw_machine.specs.Network.{AtNode, AtSwitch}
use Rattle.sw_machine.specs.Parts.{link_end_of}
use Rattle.sw_machine.specs.Runs.{IsQuiet}
use Rattle.sw_machine.specs.State.{State}
use Rattle.sw_machine.proofs.DeclaredNetworks.{are_networks}
use Rattle.sw_machine.specs.Model.{network_of}
use Rattle.sw_net.specs.Asked.{CanStep, IsFirst, IsQuietNet}
use Rattle.sw_net.specs.Net.{IsNetState, NetView}
use Rattle.sw_config.specs.Entries.{Declaration}
use Rattle.sw_config.specs.Valid.{IsValid}
use Rattle.sw_node.specs.Node.{Node}
use Rattle.sw_switch.specs.Cell.{Cell}
use Rattle.sw_topo.specs.declared.place.PlaceEnd.TheVariants as place

pub start_at_node : (d : Declaration) (c n : ℕ) → slice_get (ends_of d) c ≡ Some (place.Node n) → (network_of d).start_of c ≡ AtNode n
unfolding network_of
start_at_node d c n e = rw e refl

pub start_at_switch : (d : Declaration) (c w p : ℕ) → slice_get (ends_of d) c ≡ Some (place.Switch w p) → (network_of d).start_of c ≡ AtSwitch w
unfolding network_of
start_at_switch d c w p e = rw e refl

module _ {R A : Type 0} (v : NetView R A) (valid : IsValid v.declared) where
  pub node_tells : (n : ℕ) (node : Node) (e : ℕ) (told : Bool) → slice_get v.nodes n ≡ Some node → e < (network_of v.declared).channels → (network_of v.declared).start_of e ≡ AtNode n → NodeEnabled (network_of v.declared) n node v.between told → CanStep v e told
  node_tells n node e true at lt starts h = λ s is.
      let net = network_of v.declared in
      let out = ((are_networks v.declared valid).starts_at_node e n lt starts).1 in
      subst (CanStepAt net s) out (h s (record { reached = is.reached; part = is.nodes n node at; between = is.between }))
  node_tells n node e false at lt starts h = λ s is can.
      let net = network_of v.declared in
      let out = ((are_networks v.declared valid).starts_at_node e n lt starts).1 in
      h s (record { reached = is.reached; part = is.nodes n node at; between = is.between }) (subst (CanStepAt net s) (sym out) can)

  pub switch_tells : (w : ℕ) (cell : Cell R A) (e : ℕ) (told : Bool) → slice_get v.switches w ≡ Some cell → PortEnabled v.declared w cell v.between e told → CanStep v e told
  switch_tells w cell e true at h = λ s is. h s (record { reached = is.reached; part = is.switches w cell at; between = is.between })
  switch_tells w cell e false at h = λ s is can. h s (record { reached = is.reached; part = is.switches w cell at; between = is.between }) can

  pub all_quiet : ((k : ℕ) → k < (network_of v.declared).channels → CanStep v k false) → (s : State) → IsNetState v s → IsQuiet (network_of v.declared) s
  all_quiet none s is = λ step no_begin p.
      let net = network_of v.declared in
      let l = link_ends net (are_networks v.declared valid) s step p in
      none (link_end_of net step) l.0 s is (record { step = step; belongs = refl; no_begin = no_begin; possible = p })

pub quiet_by : {R A : Type 0} (v : NetView R A) (first : Option ℕ) → IsFirst v first → IsQuietNet v (not (is_some first))
quiet_by v None h = h
quiet_by v (Some e) h = λ s is. let can = h.1 s is in record { step = can.step; no_begin = can.no_begin; possible = can.possible }
