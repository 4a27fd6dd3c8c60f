-- What the cells tell of a step, told of the whole network.
use Rattle.std.proofs.Common.{Bool, List, None, Some, ap, false, refl, subst, sym, true, ℕ, ◌<◌, ◌∙◌, ◌≡◌}
use Rattle.std.proofs.lemmas.Bool.{false≢true}
use Rattle.std.proofs.lemmas.Option.{same_Some}
use Rattle.std.specs.Prelude.{Err, slice_get}
use Rattle.sw_cell.proofs.StepsAtNodes.{node_of}
use Rattle.sw_cell.proofs.Spilling.{spilling_at_switches}
use Rattle.sw_cell.specs.Places.{HasNamed, IsAt, IsDoneAt}
use Rattle.sw_cell.specs.declared.cell.CellId.TheVariants as place
use Rattle.sw_cell.specs.declared.fault.NetFault.{NetFault}
use Rattle.sw_cell.specs.declared.fault.NetFault.TheVariants.{Memory, NotEnabled, NotInFlow}
use Rattle.sw_cell.specs.Possible.{BeginTells, NodeTells, SwitchTells, step_at_node, step_at_port}
use Rattle.sw_cell.specs.declared.node.NodeStep.{NodeStep}
use Rattle.sw_cell.specs.declared.node.NodeStep.TheVariants as at_node
use Rattle.sw_cell.specs.declared.switch.PortStep.{PortStep}
use Rattle.sw_cell.specs.declared.switch.PortStep.TheVariants as at_port
use Rattle.sw_char.specs.declared.nchar.End.{End}
use Rattle.sw_machine.proofs.Declares.{declared_are_declared}
use Rattle.sw_machine.proofs.Wormhole.{held_once}
use Rattle.sw_machine.specs.Network.{AtNode, AtSwitch, Network}
use Rattle.sw_machine.specs.Parts.{cell_of}
use Rattle.sw_machine.specs.Steps.{Accept, Arrive, Begin, Drop, Emit, Fct, FctIn, Forward, Grant, Leads, Reply, Spill, Step, is_begin}
use Rattle.sw_machine.proofs.DeclaredNetworks.{are_networks}
use Rattle.sw_machine.specs.Model.{network_of}
use Rattle.sw_machine.specs.StepValues.{machine_move, machine_step}
use Rattle.sw_machine.specs.declared.step.Move.{Move}
use Rattle.sw_machine.specs.declared.step.Move.TheVariants as move
use Rattle.sw_machine.specs.declared.step.Step.{Step as CodeStep}
use Rattle.sw_machine.specs.declared.step.Step.TheVariants as code
use Rattle.sw_net.specs.Net.{NetView}
use Rattle.sw_net.specs.Possible.{Tells, TellsBeginning, granted_by, kind_at_node, kind_at_port}
use Rattle.sw_config.specs.Valid.{IsValid}
use Rattle.sw_node.specs.Node.{Node}
use Rattle.sw_switch.specs.Cell.{Cell}
use Rattle.sw_topo.proofs.Ends.{partner_back}
use Rattle.sw_topo.specs.Wiring.{partner}

-- a node is no switch
two_cells : (n w : ℕ) → AtNode n ≡ AtSwitch w → ⊥
two_cells n w e = cc

module _ {R A : Type 0} (v : NetView R A) where
  pub node_told : (n : ℕ) (node : Node) (step : Step) (told : Bool) → slice_get v.nodes n ≡ Some node → NodeTells (network_of v.declared) n node v.between step told → Tells v step told
  node_told n node step true at h = λ s is. h s (record { reached = is.reached; part = is.nodes n node at; between = is.between })
  node_told n node step false at h = λ s is p. h s (record { reached = is.reached; part = is.nodes n node at; between = is.between }) p

  pub switch_told : (w : ℕ) (cell : Cell R A) (step : Step) (told : Bool) → slice_get v.switches w ≡ Some cell → SwitchTells v.declared w cell v.between step told → Tells v step told
  switch_told w cell step true at h = λ s is. h s (record { reached = is.reached; part = is.switches w cell at; between = is.between })
  switch_told w cell step false at h = λ s is p. h s (record { reached = is.reached; part = is.switches w cell at; between = is.between }) p

  pub begin_told : (n : ℕ) (node : Node) (told : Bool) → slice_get v.nodes n ≡ Some node → BeginTells v.declared n node told → TellsBeginning v n told
  begin_told n node told at h = λ flow cargo end declared. node_told n node (Begin flow cargo end) told at (h flow cargo end v.between declared)

  -- a step that is nowhere possible
  pub nowhere_told : (step : Step) (fault : NetFault) → IsDoneAt v.declared step (Err fault) → Tells v step false
  nowhere_told (Begin flow cargo end) NotInFlow h = λ s is p. h p.1.declared
  nowhere_told (Fct c) NotInFlow h = absurd h
  nowhere_told (FctIn c) NotInFlow h = absurd h
  nowhere_told (Arrive c) NotInFlow h = absurd h
  nowhere_told (Grant d c) NotInFlow h = absurd h
  nowhere_told (Drop c) NotInFlow h = absurd h
  nowhere_told (Forward c) NotInFlow h = absurd h
  nowhere_told (Spill c) NotInFlow h = absurd h
  nowhere_told (Emit n) NotInFlow h = absurd h
  nowhere_told (Accept n) NotInFlow h = absurd h
  nowhere_told (Reply n) NotInFlow h = absurd h
  nowhere_told step NotEnabled h = λ s is p. h.1 s p
  nowhere_told step Memory h = absurd h

  module _ (valid : IsValid v.declared) (step : Step) where
    -- ---- a channel that ends, or starts, at a node is the node's

    module _ (n : ℕ) (at : IsAt v.declared step (place.Node n)) where
      same_step : (other : Step) (told : Bool) → other ≡ step → Tells v other told → Tells v step told
      same_step other told e h = subst (λ (k : Step). Tells v k told) e h

      pub fct_at : (c : ℕ) (told : Bool) → step ≡ Fct c → Tells v (Fct ((network_of v.declared).into n)) told → Tells v step told
      fct_at c told is h =
          let net = network_of v.declared in
          let into = ((are_networks v.declared valid).ends_at_node c n (subst (HasNamed net) is at.named) (subst (λ k. cell_of net k ≡ AtNode n) is at.cell)).1 in
          same_step (Fct (net.into n)) told (ap Fct into ∙ sym is) h

      pub fct_in_at : (c : ℕ) (told : Bool) → step ≡ FctIn c → Tells v (FctIn ((network_of v.declared).out n)) told → Tells v step told
      fct_in_at c told is h =
          let net = network_of v.declared in
          let out = ((are_networks v.declared valid).starts_at_node c n (subst (HasNamed net) is at.named) (subst (λ k. cell_of net k ≡ AtNode n) is at.cell)).1 in
          same_step (FctIn (net.out n)) told (ap FctIn out ∙ sym is) h

      pub arrive_at : (c : ℕ) (told : Bool) → step ≡ Arrive c → Tells v (Arrive ((network_of v.declared).into n)) told → Tells v step told
      arrive_at c told is h =
          let net = network_of v.declared in
          let into = ((are_networks v.declared valid).ends_at_node c n (subst (HasNamed net) is at.named) (subst (λ k. cell_of net k ≡ AtNode n) is at.cell)).1 in
          same_step (Arrive (net.into n)) told (ap Arrive into ∙ sym is) h

      -- ---- its other steps name the node

      pub emit_at : (m : ℕ) (told : Bool) → step ≡ Emit m → Tells v (Emit n) told → Tells v step told
      emit_at m told is h = let e = node_of n m (subst (λ k. cell_of (network_of v.declared) k ≡ AtNode n) is at.cell) in same_step (Emit n) told (ap Emit e ∙ sym is) h

      pub accept_at : (m : ℕ) (told : Bool) → step ≡ Accept m → Tells v (Accept n) told → Tells v step told
      accept_at m told is h = let e = node_of n m (subst (λ k. cell_of (network_of v.declared) k ≡ AtNode n) is at.cell) in same_step (Accept n) told (ap Accept e ∙ sym is) h

      pub reply_at : (m : ℕ) (told : Bool) → step ≡ Reply m → Tells v (Reply n) told → Tells v step told
      reply_at m told is h = let e = node_of n m (subst (λ k. cell_of (network_of v.declared) k ≡ AtNode n) is at.cell) in same_step (Reply n) told (ap Reply e ∙ sym is) h

      pub begin_at : (flow : ℕ) (cargo : List ℕ) (end : End) (told : Bool) → step ≡ Begin flow cargo end → TellsBeginning v n told → Tells v step told
      begin_at flow cargo end told is h =
          let net = network_of v.declared in
          let packet = subst (HasNamed net) is at.named in
          let from = node_of n (net.flow flow).from (subst (λ k. cell_of net k ≡ AtNode n) is at.cell) in
          same_step (Begin flow cargo end) told (sym is) (h flow cargo end (record { packet = (declared_are_declared v.declared flow cargo).1 packet; from = sym from }))

      -- ---- what is never possible at a node

      no_switch : (c w : ℕ) → (network_of v.declared).end_of c ≡ AtNode n → (network_of v.declared).end_of c ≡ AtSwitch w → ⊥
      no_switch c w ends is = two_cells n w (sym ends ∙ is)

      pub no_grant : (d c : ℕ) → step ≡ Grant d c → Tells v step false
      no_grant d c e = λ s is p. let h = subst (λ k. Leads (network_of v.declared) s k p.0) e p.1 in no_switch c h.switch (subst (λ k. cell_of (network_of v.declared) k ≡ AtNode n) e at.cell) h.at

      pub no_drop : (c : ℕ) → step ≡ Drop c → Tells v step false
      no_drop c e = λ s is p. let h = subst (λ k. Leads (network_of v.declared) s k p.0) e p.1 in no_switch c h.switch (subst (λ k. cell_of (network_of v.declared) k ≡ AtNode n) e at.cell) h.at

      pub no_forward : (c : ℕ) → step ≡ Forward c → Tells v step false
      no_forward c e = λ s is p.
          let net = network_of v.declared in
          let h = subst (λ k. Leads net s k p.0) e p.1 in
          let own = (held_once net (are_networks v.declared valid) s is.reached).own c h.d h.in_net h.held in
          no_switch c own.switch (subst (λ k. cell_of net k ≡ AtNode n) e at.cell) own.ends

      pub no_spill : (c : ℕ) → step ≡ Spill c → Tells v step false
      no_spill c e = λ s is p.
          let net = network_of v.declared in
          let h = subst (λ k. Leads net s k p.0) e p.1 in
          let w = spilling_at_switches net s is.reached c h.spilling in
          no_switch c w.0 (subst (λ k. cell_of net k ≡ AtNode n) e at.cell) w.1

    -- ---- what is never possible at a switch

    module _ (w : ℕ) (at : IsAt v.declared step (place.Switch w)) where
      pub no_begin : (flow : ℕ) (cargo : List ℕ) (end : End) → step ≡ Begin flow cargo end → Tells v step false
      no_begin flow cargo end e = absurd (two_cells ((network_of v.declared).flow flow).from w (subst (λ k. cell_of (network_of v.declared) k ≡ AtSwitch w) e at.cell))

      pub no_emit : (m : ℕ) → step ≡ Emit m → Tells v step false
      no_emit m e = absurd (two_cells m w (subst (λ k. cell_of (network_of v.declared) k ≡ AtSwitch w) e at.cell))

      pub no_accept : (m : ℕ) → step ≡ Accept m → Tells v step false
      no_accept m e = absurd (two_cells m w (subst (λ k. cell_of (network_of v.declared) k ≡ AtSwitch w) e at.cell))

      pub no_reply : (m : ℕ) → step ≡ Reply m → Tells v step false
      no_reply m e = absurd (two_cells m w (subst (λ k. cell_of (network_of v.declared) k ≡ AtSwitch w) e at.cell))

-- ---- a step by its kind

no_some : {X : Type 0} {x : X} → Some x ≡ None → ⊥
no_some is = cc

-- such a step begins nothing
pub no_beginning : (step : Move) → is_begin (machine_move step) ≡ false
no_beginning (move.Fct c) = refl
no_beginning step = refl

module _ {R A : Type 0} (v : NetView R A) (valid : IsValid v.declared) where
  abbrev net : Network
  net = network_of v.declared

  node_kind_told : (n : ℕ) (kind other : NodeStep) (told : Bool) → Some kind ≡ Some other → Tells v (step_at_node net n kind) told → Tells v (step_at_node net n other) told
  node_kind_told n kind other told is h = subst (λ k. Tells v (step_at_node net n k) told) (same_Some kind other is) h

  pub at_node_told : (step : Step) (n : ℕ) → IsAt v.declared step (place.Node n) → (kind : NodeStep) (told : Bool) → Some kind ≡ kind_at_node step → Tells v (step_at_node net n kind) told → Tells v step told
  at_node_told (Fct c) n at kind told is h = fct_at v valid (Fct c) n at c told refl (node_kind_told n kind at_node.Fct told is h)
  at_node_told (FctIn c) n at kind told is h = fct_in_at v valid (FctIn c) n at c told refl (node_kind_told n kind at_node.FctIn told is h)
  at_node_told (Arrive c) n at kind told is h = arrive_at v valid (Arrive c) n at c told refl (node_kind_told n kind at_node.Arrive told is h)
  at_node_told (Emit m) n at kind told is h = emit_at v valid (Emit m) n at m told refl (node_kind_told n kind at_node.Emit told is h)
  at_node_told (Accept m) n at kind told is h = accept_at v valid (Accept m) n at m told refl (node_kind_told n kind at_node.Accept told is h)
  at_node_told (Reply m) n at kind told is h = reply_at v valid (Reply m) n at m told refl (node_kind_told n kind at_node.Reply told is h)
  at_node_told (Grant d c) n at kind told is h = absurd (no_some is)
  at_node_told (Drop c) n at kind told is h = absurd (no_some is)
  at_node_told (Forward c) n at kind told is h = absurd (no_some is)
  at_node_told (Spill c) n at kind told is h = absurd (no_some is)
  at_node_told (Begin flow cargo end) n at kind told is h = absurd (no_some is)

  pub begin_at_node : (step : Step) (n : ℕ) → IsAt v.declared step (place.Node n) → (told : Bool) → is_begin step ≡ true → TellsBeginning v n told → Tells v step told
  begin_at_node (Begin flow cargo end) n at told is h = begin_at v valid (Begin flow cargo end) n at flow cargo end told refl h
  begin_at_node step n at told is h = absurd (false≢true is)

  pub never_at_node : (step : Step) (n : ℕ) → IsAt v.declared step (place.Node n) → is_begin step ≡ false → kind_at_node step ≡ None → Tells v step false
  never_at_node (Grant d c) n at no_begin is = no_grant v valid (Grant d c) n at d c refl
  never_at_node (Drop c) n at no_begin is = no_drop v valid (Drop c) n at c refl
  never_at_node (Forward c) n at no_begin is = no_forward v valid (Forward c) n at c refl
  never_at_node (Spill c) n at no_begin is = no_spill v valid (Spill c) n at c refl
  never_at_node (Begin flow cargo end) n at no_begin is = absurd (false≢true (sym no_begin))
  never_at_node step n at no_begin is = absurd (no_some is)

  pub at_port_is : (step : Step) (p : ℕ × PortStep) → Some p ≡ kind_at_port step → step_at_port p.0 p.1 ≡ step
  at_port_is (Fct c) p is = ap (λ (k : ℕ × PortStep). step_at_port k.0 k.1) (same_Some p (partner c, at_port.Fct) is) ∙ ap Fct (partner_back c)
  at_port_is (FctIn c) p is = ap (λ (k : ℕ × PortStep). step_at_port k.0 k.1) (same_Some p (c, at_port.FctIn) is)
  at_port_is (Arrive c) p is = ap (λ (k : ℕ × PortStep). step_at_port k.0 k.1) (same_Some p (partner c, at_port.Arrive) is) ∙ ap Arrive (partner_back c)
  at_port_is (Drop c) p is = ap (λ (k : ℕ × PortStep). step_at_port k.0 k.1) (same_Some p (partner c, at_port.DropFront) is) ∙ ap Drop (partner_back c)
  at_port_is (Forward c) p is = ap (λ (k : ℕ × PortStep). step_at_port k.0 k.1) (same_Some p (partner c, at_port.Forward) is) ∙ ap Forward (partner_back c)
  at_port_is (Spill c) p is = ap (λ (k : ℕ × PortStep). step_at_port k.0 k.1) (same_Some p (partner c, at_port.Spill) is) ∙ ap Spill (partner_back c)
  at_port_is (Grant d c) p is = absurd (no_some is)
  at_port_is (Begin flow cargo end) p is = absurd (no_some is)
  at_port_is (Emit m) p is = absurd (no_some is)
  at_port_is (Accept m) p is = absurd (no_some is)
  at_port_is (Reply m) p is = absurd (no_some is)

  pub at_port_told : (step : Step) (p : ℕ × PortStep) (told : Bool) → Some p ≡ kind_at_port step → Tells v (step_at_port p.0 p.1) told → Tells v step told
  at_port_told step p told is h = subst (λ (k : Step). Tells v k told) (at_port_is step p is) h

  -- the link end where the channel ends stands at the switch
  stands : (c w : ℕ) → c < net.channels → net.end_of c ≡ AtSwitch w → (p : ℕ × PortStep) (other : PortStep) → p ≡ (partner c, other) → net.start_of p.0 ≡ AtSwitch w
  stands c w lt ends p other is = ap (λ (k : ℕ × PortStep). net.start_of k.0) is ∙ (((are_networks v.declared valid).reversed c lt).1 ∙ ends)

  pub at_port_stands : (step : Step) (w : ℕ) → IsAt v.declared step (place.Switch w) → (p : ℕ × PortStep) → Some p ≡ kind_at_port step → net.start_of p.0 ≡ AtSwitch w
  at_port_stands (Fct c) w at p is = stands c w at.named at.cell p at_port.Fct (same_Some p (partner c, at_port.Fct) is)
  at_port_stands (FctIn c) w at p is = ap (λ (k : ℕ × PortStep). net.start_of k.0) (same_Some p (c, at_port.FctIn) is) ∙ at.cell
  at_port_stands (Arrive c) w at p is = stands c w at.named at.cell p at_port.Arrive (same_Some p (partner c, at_port.Arrive) is)
  at_port_stands (Drop c) w at p is = stands c w at.named at.cell p at_port.DropFront (same_Some p (partner c, at_port.DropFront) is)
  at_port_stands (Forward c) w at p is = stands c w at.named at.cell p at_port.Forward (same_Some p (partner c, at_port.Forward) is)
  at_port_stands (Spill c) w at p is = stands c w at.named at.cell p at_port.Spill (same_Some p (partner c, at_port.Spill) is)
  at_port_stands (Grant d c) w at p is = absurd (no_some is)
  at_port_stands (Begin flow cargo end) w at p is = absurd (no_some is)
  at_port_stands (Emit m) w at p is = absurd (no_some is)
  at_port_stands (Accept m) w at p is = absurd (no_some is)
  at_port_stands (Reply m) w at p is = absurd (no_some is)

  pub granted_is : (step : Step) (p : ℕ × ℕ) → Some p ≡ granted_by step → Grant p.0 p.1 ≡ step
  granted_is (Grant output input) p is = ap (λ (k : ℕ × ℕ). Grant k.0 k.1) (same_Some p (output, input) is)
  granted_is step p is = absurd (no_some is)

  pub granted_ends : (step : Step) (w : ℕ) → IsAt v.declared step (place.Switch w) → (p : ℕ × ℕ) → Some p ≡ granted_by step → net.end_of p.1 ≡ AtSwitch w
  granted_ends step w at p is = subst (λ k. cell_of net k ≡ AtSwitch w) (sym (granted_is step p is)) at.cell

  pub granted_told : (step : Step) (p : ℕ × ℕ) (told : Bool) → Some p ≡ granted_by step → Tells v (Grant p.0 p.1) told → Tells v step told
  granted_told step p told is h = subst (λ (k : Step). Tells v k told) (granted_is step p is) h

  pub never_at_switch : (step : Step) (w : ℕ) → IsAt v.declared step (place.Switch w) → kind_at_port step ≡ None → granted_by step ≡ None → Tells v step false
  never_at_switch (Begin flow cargo end) w at is no_grant = no_begin v valid (Begin flow cargo end) w at flow cargo end refl
  never_at_switch (Emit m) w at is no_grant = no_emit v valid (Emit m) w at m refl
  never_at_switch (Accept m) w at is no_grant = no_accept v valid (Accept m) w at m refl
  never_at_switch (Reply m) w at is no_grant = no_reply v valid (Reply m) w at m refl
  never_at_switch (Grant d c) w at is no_grant = absurd (no_some no_grant)
  never_at_switch step w at is no_grant = absurd (no_some is)

  -- at a switch no packet begins
  pub begins_at_switch : (step : CodeStep) (w : ℕ) → IsAt v.declared (machine_step step) (place.Switch w) → ((m : Move) → step ≡ code.Move m → ⊥) → Tells v (machine_step step) false
  begins_at_switch (code.Move m) w at other = absurd (other m refl)
  begins_at_switch (code.Begin flow cargo end) w at other = no_begin v valid (Begin flow cargo.items end) w at flow cargo.items end refl
