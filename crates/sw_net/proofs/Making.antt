-- A step of a link end, on the whole network.
use mathlib.Core.Logic.{∥∥₁_elim}
use Rattle.std.proofs.Common.{List, None, Ok, Option, Some, ap, arith, false, get_or, length, refl, set, subst, sym, true, ℕ, ◌<◌, ◌∙◌, ◌≡◌}
use Rattle.std.proofs.Math.Seq.{map-set_same}
use Rattle.std.proofs.lemmas.Option.{get_or_from_slice_get, slice_get-get_or}
use Rattle.std.specs.Prelude.{Err, OnErr, Result, slice_get}
use Rattle.sw_cell.specs.Places.{IsUndeclared}
use Rattle.sw_cell.specs.declared.fault.NetFault.{NetFault}
use Rattle.sw_cell.specs.declared.fault.NetFault.TheVariants.{Memory, NotEnabled, NotInFlow}
use Rattle.sw_cell.proofs.LinkEnds.{none_at_port}
use Rattle.sw_cell.proofs.Network.{nodes_are}
use Rattle.sw_cell.proofs.Switches.{ends_at}
use Rattle.sw_cell.specs.Picks.{CannotGrant, GrantsPick}
use Rattle.sw_cell.specs.Possible.{NodeEnabled, NodeTells, SwitchTells, step_at_node, step_at_port}
use Rattle.sw_cell.specs.SwitchParts.{IsSwitchFor}
use Rattle.sw_cell.specs.declared.node.NodeStep.{NodeStep}
use Rattle.sw_cell.specs.declared.node.NodeStep.TheVariants as at_node
use Rattle.sw_cell.specs.declared.switch.PortStep.{PortStep}
use Rattle.sw_cell.specs.declared.switch.PortStep.TheVariants as at_port
use Rattle.sw_machine.specs.Network.{AtSwitch, IsNetwork, Network}
use Rattle.sw_machine.specs.Parts.{link_end_of}
use Rattle.sw_machine.specs.Steps.{Accept, Arrive, Begin, Drop, Emit, Fct, FctIn, Forward, Grant, Reply, Spill, Step, is_begin}
use Rattle.sw_machine.proofs.DeclaredNetworks.{are_networks}
use Rattle.sw_machine.specs.Model.{network_of}
use Rattle.sw_net.proofs.Possibles.{node_told, switch_told}
use Rattle.sw_net.proofs.Steps.{same_switch, switch_leads, switch_net, switch_state}
use Rattle.sw_net.proofs.Told.{node_tells, start_at_node}
use Rattle.sw_net.specs.Asked.{CanStep}
use Rattle.sw_net.specs.Making.{IsDecided, IsMoveOf, IsPlain, IsReady, Moves, MovesAt, TellsReady, WantsRoom}
use Rattle.sw_net.specs.Net.{IsNet, NetAnswers, NetView, arbiters_of, net_of}
use Rattle.sw_net.specs.Possible.{Tells}
use Rattle.sw_config.specs.Entries.{Declaration}
use Rattle.sw_config.specs.Valid.{IsValid}
use Rattle.sw_flow.specs.Places.{ends_of}
use Rattle.sw_node.specs.Node.{Node}
use Rattle.sw_route.specs.declared.look.Look.{Look}
use Rattle.sw_machine.specs.declared.step.Step.{Step as CodeStep}
use Rattle.sw_switch.specs.Cell.{Cell}
use Rattle.sw_topo.proofs.Ends.{partner_back}
use Rattle.sw_topo.specs.declared.place.PlaceEnd.{PlaceEnd}
use Rattle.sw_topo.specs.declared.place.PlaceEnd.TheVariants as place
use Rattle.sw_link.specs.Between.{Between}
use Rattle.sw_cell.proofs.Enabling.{into_back}

-- one switch changes, and keeps its arbiters
pub same_arbiters : {R A : Type 0} (switches : List (Cell R A)) (w : ℕ) (cell after : Cell R A) → slice_get switches w ≡ Some cell → after.arbiters ≡ cell.arbiters → arbiters_of (set switches w after) ≡ arbiters_of switches
same_arbiters {R} {A} switches w cell after at e =
    map-set_same (λ (c : Cell R A). c.arbiters) switches w after cell (e ∙ ap (λ (c : Cell R A). c.arbiters) (sym (get_or_from_slice_get switches w cell cell at)))

-- a step that begins nothing begins no undeclared packet
plain_declared : (net : Network) (step : Step) → IsPlain step → IsUndeclared net step → ⊥
plain_declared net (Fct c) plain not = not
plain_declared net (FctIn c) plain not = not
plain_declared net (Arrive c) plain not = not
plain_declared net (Grant d c) plain not = not
plain_declared net (Drop c) plain not = not
plain_declared net (Forward c) plain not = not
plain_declared net (Spill c) plain not = not
plain_declared net (Begin f cargo end) plain not = plain
plain_declared net (Emit n) plain not = not
plain_declared net (Accept n) plain not = not
plain_declared net (Reply n) plain not = not

plain_begins_nothing : (step : Step) → IsPlain step → is_begin step ≡ false
plain_begins_nothing (Fct c) plain = refl
plain_begins_nothing (FctIn c) plain = refl
plain_begins_nothing (Arrive c) plain = refl
plain_begins_nothing (Grant d c) plain = absurd plain
plain_begins_nothing (Drop c) plain = refl
plain_begins_nothing (Forward c) plain = refl
plain_begins_nothing (Spill c) plain = refl
plain_begins_nothing (Begin f cargo end) plain = absurd plain
plain_begins_nothing (Emit n) plain = refl
plain_begins_nothing (Accept n) plain = refl
plain_begins_nothing (Reply n) plain = refl

module _ {R A : Type 0} (answer : R → ℕ → Look) (policy : A → ℕ → ℕ → A → Type 0) (v w : NetView R A) where
  plain_is_decided : (step : Step) → IsPlain step → arbiters_of w.switches ≡ arbiters_of v.switches → IsDecided answer policy v step w
  plain_is_decided (Fct c) plain e = e
  plain_is_decided (FctIn c) plain e = e
  plain_is_decided (Arrive c) plain e = e
  plain_is_decided (Grant d c) plain e = absurd plain
  plain_is_decided (Drop c) plain e = e
  plain_is_decided (Forward c) plain e = e
  plain_is_decided (Spill c) plain e = e
  plain_is_decided (Begin f cargo end) plain e = absurd plain
  plain_is_decided (Emit n) plain e = e
  plain_is_decided (Accept n) plain e = e
  plain_is_decided (Reply n) plain e = e

  pub plain_moves : (e : ℕ) (step : Step) → IsPlain step → link_end_of (network_of v.declared) step ≡ e → NetAnswers v step (Ok tt) w → arbiters_of w.switches ≡ arbiters_of v.switches → Moves answer policy v e step w
  plain_moves e step plain belongs made same = record { move = record { belongs = belongs; no_begin = plain_begins_nothing step plain }; made = made; decided = plain_is_decided step plain same }

pub plain_move : {R A : Type 0} (v : NetView R A) (e : ℕ) (step : Step) → IsPlain step → link_end_of (network_of v.declared) step ≡ e → IsMoveOf v e step
plain_move v e step plain belongs = record { belongs = belongs; no_begin = plain_begins_nothing step plain }

-- a possible step that is not made for want of memory
pub wants_room : {R A : Type 0} (v w : NetView R A) (e : ℕ) (step : Step) → IsPlain step → Tells v step true → link_end_of (network_of v.declared) step ≡ e → (r : Result Unit NetFault) → NetAnswers v step r w → OnErr r (w ≡ v) → r ≡ Err Memory → WantsRoom v e × (w ≡ v)
wants_room v w e step plain possible belongs r h same is =
    let stores = (subst (λ k. NetAnswers v step k w) is h).0 in
    (record { step = step; move = plain_move v e step plain belongs; stores = stores; possible = possible }, subst (λ k. OnErr k (w ≡ v)) is same)

none_is : (x y : ⊥) → x ≡ y
none_is x y = absurd x

-- a possible step is made, or wants memory
module _ {R A : Type 0} (answer : R → ℕ → Look) (arbiter_ports : A → ℕ) (v : NetView R A) (is : IsNet answer arbiter_ports v) (step : Step) (plain : IsPlain step) (possible : Tells v step true) where
  pub not_undeclared : (r : Result Unit NetFault) (w : NetView R A) → NetAnswers v step r w → r ≡ Err NotInFlow → ⊥
  not_undeclared r w h e = plain_declared (network_of v.declared) step plain (subst (λ k. NetAnswers v step k w) e h)

  pub not_refused : (r : Result Unit NetFault) (w : NetView R A) → NetAnswers v step r w → r ≡ Err NotEnabled → ⊥
  not_refused r w h e = let never = subst (λ k. NetAnswers v step k w) e h in ∥∥₁_elim is.reached none_is (λ k. never.1 k.0 k.1 (possible k.0 k.1))

-- ---- the steps of a node's link end

pub node_step_is_plain : (net : Network) (n : ℕ) (step : NodeStep) → IsPlain (step_at_node net n step)
node_step_is_plain net n at_node.Fct = tt
node_step_is_plain net n at_node.FctIn = tt
node_step_is_plain net n at_node.Arrive = tt
node_step_is_plain net n at_node.Emit = tt
node_step_is_plain net n at_node.Accept = tt
node_step_is_plain net n at_node.Reply = tt

pub node_step_belongs : (net : Network) → IsNetwork net → (n : ℕ) → n < net.nodes → (step : NodeStep) → link_end_of net (step_at_node net n step) ≡ net.out n
node_step_belongs net ok n in_net at_node.Fct = into_back net ok n in_net
node_step_belongs net ok n in_net at_node.FctIn = refl
node_step_belongs net ok n in_net at_node.Arrive = into_back net ok n in_net
node_step_belongs net ok n in_net at_node.Emit = refl
node_step_belongs net ok n in_net at_node.Accept = refl
node_step_belongs net ok n in_net at_node.Reply = refl

module _ {R A : Type 0} (v : NetView R A) (valid : IsValid v.declared) (e n : ℕ) (starts : slice_get (ends_of v.declared) e ≡ Some (place.Node n)) (within : e < (network_of v.declared).channels) (node : Node) (at : slice_get v.nodes n ≡ Some node) where
  declared_ready : n < length v.declared.nodes → (step : NodeStep) (made : Step) → NodeTells (network_of v.declared) n node v.between (step_at_node (network_of v.declared) n step) true → made ≡ step_at_node (network_of v.declared) n step → IsReady v e made
  declared_ready inside step made tells is =
      let net = network_of v.declared in
      let ok = are_networks v.declared valid in
      let all = nodes_are v.declared in
      let in_net : n < net.nodes = omega (arith, all, inside) in
      let out = (ok.starts_at_node e n within (start_at_node v.declared e n starts)).1 in
      record {
        plain = subst IsPlain (sym is) (node_step_is_plain net n step);
        belongs = ap (link_end_of net) is ∙ node_step_belongs net ok n in_net step ∙ out;
        possible = subst (λ (k : Step). Tells v k true) (sym is) (node_told v n node (step_at_node net n step) true at tells);
      }

  pub node_ready : n < length v.declared.nodes → (d : Declaration) → d ≡ v.declared → (b : Between) → b ≡ v.between → (step : NodeStep) (made : Step) → NodeTells (network_of d) n node b (step_at_node (network_of d) n step) true → made ≡ step_at_node (network_of d) n step → IsReady v e made
  node_ready inside d same b between step made tells is =
      declared_ready inside step made
      (subst (λ (k : Between). NodeTells (network_of v.declared) n node k (step_at_node (network_of v.declared) n step) true) between
      (subst (λ (k : Declaration). NodeTells (network_of k) n node b (step_at_node (network_of k) n step) true) same tells))
      (is ∙ ap (λ (k : Declaration). step_at_node (network_of k) n step) same)

  pub node_not_ready : (d : Declaration) → d ≡ v.declared → (b : Between) → b ≡ v.between → NodeEnabled (network_of d) n node b false → CanStep v e false
  node_not_ready d same b between none =
      node_tells v valid n node e false at within (start_at_node v.declared e n starts)
      (subst (λ (k : Between). NodeEnabled (network_of v.declared) n node k false) between (subst (λ (k : Declaration). NodeEnabled (network_of k) n node b false) same none))

-- ---- the steps of a port's link end

pub port_step_is_plain : (e : ℕ) (step : PortStep) → IsPlain (step_at_port e step)
port_step_is_plain e at_port.Fct = tt
port_step_is_plain e at_port.FctIn = tt
port_step_is_plain e at_port.Arrive = tt
port_step_is_plain e at_port.DropFront = tt
port_step_is_plain e at_port.Forward = tt
port_step_is_plain e at_port.Spill = tt

pub port_step_belongs : (net : Network) (e : ℕ) (step : PortStep) → link_end_of net (step_at_port e step) ≡ e
port_step_belongs net e at_port.Fct = partner_back e
port_step_belongs net e at_port.FctIn = refl
port_step_belongs net e at_port.Arrive = partner_back e
port_step_belongs net e at_port.DropFront = partner_back e
port_step_belongs net e at_port.Forward = partner_back e
port_step_belongs net e at_port.Spill = partner_back e

module _ {R A : Type 0} (v : NetView R A) (e w : ℕ) (cell : Cell R A) (at : slice_get v.switches w ≡ Some cell) (d : Declaration) (same : d ≡ v.declared) (b : Between) (between : b ≡ v.between) where
  pub port_ready : (step : PortStep) (made : Step) → SwitchTells d w cell b (step_at_port e step) true → made ≡ step_at_port e step → IsReady v e made
  port_ready step made tells is = record {
    plain = subst IsPlain (sym is) (port_step_is_plain e step);
    belongs = ap (link_end_of (network_of v.declared)) is ∙ port_step_belongs (network_of v.declared) e step;
    possible = subst (λ (k : Step). Tells v k true) (sym is) (switch_told v w cell (step_at_port e step) true at
        (subst (λ (k : Between). SwitchTells v.declared w cell k (step_at_port e step) true) between (subst (λ (k : Declaration). SwitchTells k w cell b (step_at_port e step) true) same tells)));
  }

  pub port_not_ready : ((step : PortStep) → SwitchTells d w cell b (step_at_port e step) false) → (step : PortStep) → Tells v (step_at_port e step) false
  port_not_ready none = λ step. switch_told v w cell (step_at_port e step) false at
      (subst (λ (k : Between). SwitchTells v.declared w cell k (step_at_port e step) false) between (subst (λ (k : Declaration). SwitchTells k w cell b (step_at_port e step) false) same (none step)))

-- what stands at no switch stands at a node
pub none_at_node : {R A : Type 0} (v : NetView R A) (e : ℕ) (at : PlaceEnd) → TellsReady v e None at → ((w port : ℕ) → at ≡ place.Switch w port → ⊥) → CanStep v e false
none_at_node v e (place.Node n) none other = none
none_at_node v e (place.Switch w port) none other = absurd (other w port refl)

-- a link end of a switch with none of these steps and no grant of its output
pub none_at_switch : {R A : Type 0} (v : NetView R A) → IsValid v.declared → (e w : ℕ) → (network_of v.declared).start_of e ≡ AtSwitch w → ((step : PortStep) → Tells v (step_at_port e step) false) → ((c : ℕ) → Tells v (Grant e c) false) → CanStep v e false
none_at_switch v valid e w starts none grants = λ s k can.
    none_at_port (network_of v.declared) (are_networks v.declared valid) s k.reached e w starts
    (record {
      fct = none at_port.Fct s k;
      fct_in = none at_port.FctIn s k;
      arrive = none at_port.Arrive s k;
      drops = none at_port.DropFront s k;
      forward = none at_port.Forward s k;
      spill = none at_port.Spill s k;
      grant = λ c. grants c s k;
    })
    can

-- ---- a grant by an arbiter

pub switch_here : {R A : Type 0} (answer : R → ℕ → Look) (arbiter_ports : A → ℕ) (v u : NetView R A) → v ≡ u → IsNet answer arbiter_ports v → (w : ℕ) (x : Cell R A) → w < length u.declared.switches → x ≡ get_or v.switches w x → slice_get v.switches w ≡ Some x
switch_here {R} {A} answer arbiter_ports v u same is w x lt e =
    let count = ap (λ (k : NetView R A). length k.declared.switches) same in
    let all = is.all_switches in
    slice_get-get_or v.switches w x (omega arith) ∙ ap Some (sym e)

module _ {R A : Type 0} (answer : R → ℕ → Look) (arbiter_ports : A → ℕ) (policy : A → ℕ → ℕ → A → Type 0) (d : Declaration) (nodes : List Node) (switches : List (Cell R A)) (b : Between) (is : IsNet answer arbiter_ports (net_of d nodes switches b))
    (w : ℕ) (cell : Cell R A) (at : slice_get switches w ≡ Some cell) (e : ℕ) (starts : (network_of d).start_of e ≡ AtSwitch w) where
  module _ (after : Cell R A) (c : ℕ) (g : GrantsPick answer policy d w cell after e c) where
    pub picked_net : IsSwitchFor answer arbiter_ports d w after → IsNet answer arbiter_ports (net_of d nodes (set switches w after) b)
    picked_net for = switch_net answer arbiter_ports d nodes switches b is (Grant e c) w cell at (ends_at d c w g.input g.ends) true after b for (g.makes b)

    pub picked_moves : Moves answer policy (net_of d nodes switches b) e (Grant e c) (net_of d nodes (set switches w after) b)
    picked_moves = record {
      move = record { belongs = refl; no_begin = refl };
      made = λ s k. switch_leads answer arbiter_ports d nodes switches b is (Grant e c) w cell at (ends_at d c w g.input g.ends) after b (g.makes b) s k;
      decided = record { switch = w; before = cell; after = after; at = at; picks = g; others = refl };
    }

  pub none_picked : ((step : PortStep) → Tells (net_of d nodes switches b) (step_at_port e step) false) → CannotGrant d w cell e → CanStep (net_of d nodes switches b) e false
  none_picked none cannot = λ s k can.
      let net = network_of d in
      none_at_port net (are_networks d is.valid) s k.reached e w starts
      (record {
        fct = none at_port.Fct s k;
        fct_in = none at_port.FctIn s k;
        arrive = none at_port.Arrive s k;
        drops = none at_port.DropFront s k;
        forward = none at_port.Forward s k;
        spill = none at_port.Spill s k;
        grant = λ c. cannot c b s (switch_state answer arbiter_ports d nodes switches b is (Grant e 0) w cell at s k);
      })
      can

  pub none_is_made : (u : NetView R A) → net_of d nodes switches b ≡ u → ((step : PortStep) → Tells u (step_at_port e step) false) → (f : ℕ) → f ≡ e → CannotGrant d w cell f → (after : Cell R A) → after ≡ cell → (r : Option CodeStep) → r ≡ None
      → MovesAt answer policy u e (Ok r) (net_of d nodes (set switches w after) b)
  none_is_made u same none f is_e cannot after kept r nothing =
      let v = net_of d nodes switches b in
      let x = net_of d nodes (set switches w after) b in
      let can = none_picked (subst (λ (k : NetView R A). (step : PortStep) → Tells k (step_at_port e step) false) (sym same) none) (subst (λ k. CannotGrant d w cell k) is_e cannot) in
      let unchanged : x ≡ v = same_switch answer arbiter_ports d nodes switches b is (Grant e 0) w cell at after b kept refl in
      let answer_is : MovesAt answer policy v e (Ok None) x = (can, unchanged) in
      subst (λ o. MovesAt answer policy u e (Ok o) x) (sym nothing) (subst (λ (k : NetView R A). MovesAt answer policy k e (Ok None) x) same answer_is)
