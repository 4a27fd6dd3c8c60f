use Rattle.std.proofs.Common.{ap, false, refl, sym, subst, ◌∙◌, ◌≡◌, ℕ}
use Rattle.sw_cell.proofs.StepsAtNodes as nodes
use Rattle.sw_cell.specs.Places.{HasNamed}
use Rattle.sw_cell.proofs.Nodes.{accept_made, begin_made}
use Rattle.sw_machine.proofs.Declares.{declared_are_declared}
use Rattle.sw_cell.proofs.Network.{answers_as, in_network}
use Rattle.sw_cell.specs.Makes.{NodeMakes}
use Rattle.sw_machine.specs.Network.{AtNode, IsDeclared}
use Rattle.sw_machine.specs.Parts.{cell_of}
use Rattle.sw_machine.specs.Steps.{Accept, Begin, Emit, IsPossible}
use Rattle.sw_config.specs.Entries.{Declaration}
use Rattle.sw_config.specs.Valid.{IsValid}
use Rattle.sw_node.specs.Node.{Node}
use Rattle.sw_link.specs.Between.{Between}
use Rattle.sw_machine.specs.declared.step.Move.{Move}
use Rattle.sw_machine.specs.declared.step.Move.TheVariants as code
use Rattle.sw_machine.proofs.DeclaredNetworks.{are_networks}
use Rattle.sw_machine.specs.Model.{network_of}
use Rattle.sw_machine.specs.StepValues.{machine_move, machine_step}
use Rattle.sw_cell.proofs.node_steps.step_node.Goals as goal
use Rattle.sw_topo.proofs.Lists.{on_err_then}

-- a step at a node that begins no packet, and is none of six, is never possible
never : (d : Declaration) → IsValid d → (n : ℕ) (node : Node) (b : Between) (step : Move) → cell_of (network_of d) (machine_move step) ≡ AtNode n
    → ((c : ℕ) → step ≡ code.Fct c → ⊥) → ((c : ℕ) → step ≡ code.FctIn c → ⊥) → ((c : ℕ) → step ≡ code.Arrive c → ⊥) → ((m : ℕ) → step ≡ code.Emit m → ⊥)
    → ((m : ℕ) → step ≡ code.Accept m → ⊥) → ((m : ℕ) → step ≡ code.Reply m → ⊥) → NodeMakes (network_of d) n node b (machine_move step) false node b
never d valid n node b (code.Fct c) at fct fct_in arrive emit accept reply = absurd (fct c refl)
never d valid n node b (code.FctIn c) at fct fct_in arrive emit accept reply = absurd (fct_in c refl)
never d valid n node b (code.Arrive c) at fct fct_in arrive emit accept reply = absurd (arrive c refl)
never d valid n node b (code.Grant o c) at fct fct_in arrive emit accept reply = nodes.no_grant (network_of d) (are_networks d valid) n node b (machine_move (code.Grant o c)) at o c refl
never d valid n node b (code.Drop c) at fct fct_in arrive emit accept reply = nodes.no_drop (network_of d) (are_networks d valid) n node b (machine_move (code.Drop c)) at c refl
never d valid n node b (code.Forward c) at fct fct_in arrive emit accept reply = nodes.no_forward (network_of d) (are_networks d valid) n node b (machine_move (code.Forward c)) at c refl
never d valid n node b (code.Spill c) at fct fct_in arrive emit accept reply = nodes.no_spill (network_of d) (are_networks d valid) n node b (machine_move (code.Spill c)) at c refl
never d valid n node b (code.Emit m) at fct fct_in arrive emit accept reply = absurd (emit m refl)
never d valid n node b (code.Accept m) at fct fct_in arrive emit accept reply = absurd (accept m refl)
never d valid n node b (code.Reply m) at fct fct_in arrive emit accept reply = absurd (reply m refl)

pub returns-in-Fct-clause-made : goal.returns-in-Fct-clause-made
returns-in-Fct-clause-made c =
    let d = c.args.network.now in
    nodes.fct_at (network_of d) (are_networks d c.requires.cell.valid) c.args.n c.args.cell.now c.args.wires.now (machine_step c.args.step.now) c.requires.at c.requires.named c.in-Fct.field-0 c.fct.result c.fct.new.node c.fct.new.wires (ap machine_step c.in-Move.is ∙ ap machine_move c.in-Fct.is) c.fct.ensures.made

pub returns-in-FctIn-clause-made : goal.returns-in-FctIn-clause-made
returns-in-FctIn-clause-made c =
    let d = c.args.network.now in
    nodes.fct_in_at (network_of d) (are_networks d c.requires.cell.valid) c.args.n c.args.cell.now c.args.wires.now (machine_step c.args.step.now) c.requires.at c.requires.named c.in-FctIn.field-0 c.fct_in.result c.fct_in.new.node c.fct_in.new.wires (ap machine_step c.in-Move.is ∙ ap machine_move c.in-FctIn.is) c.fct_in.ensures.made

pub returns-in-Arrive-clause-made : goal.returns-in-Arrive-clause-made
returns-in-Arrive-clause-made c =
    let d = c.args.network.now in
    nodes.arrive_at (network_of d) (are_networks d c.requires.cell.valid) c.args.n c.args.cell.now c.args.wires.now (machine_step c.args.step.now) c.requires.at c.requires.named c.in-Arrive.field-0 c.arrive.result c.arrive.new.node c.arrive.new.wires (ap machine_step c.in-Move.is ∙ ap machine_move c.in-Arrive.is) c.arrive.ensures.made

pub returns-in-Accept-clause-possible : goal.returns-in-Accept-clause-possible
returns-in-Accept-clause-possible c =
    let d = c.args.network.now in
    let n = c.args.n in
    let node = c.args.cell.now in
    let is = ap machine_step c.in-Move.is ∙ ap machine_move c.in-Accept.is in
    let same : n ≡ c.in-Accept.field-0 = nodes.node_of n c.in-Accept.field-0 (subst (λ k. cell_of (network_of d) k ≡ AtNode n) is c.requires.at) in
    on_err_then c.accept.result
    (λ can s state. let made = accept_made (network_of d) n (in_network d n node c.requires.cell) node c.args.wires.now (answers_as d n node c.requires.cell) can s state in
    subst (IsPossible (network_of d) s) (ap Accept same ∙ sym is) (made.0, made.1))
    c.accept.ensures.possible

pub begin-requires-clause-declared : goal.begin-requires-clause-declared
begin-requires-clause-declared c =
    let d = c.args.network.now in
    let net = network_of d in
    let is = ap machine_step c.in-Begin.is in
    let packet = subst (HasNamed net) is c.requires.named in
    let at = subst (λ k. cell_of net k ≡ AtNode c.args.n) is c.requires.at in
    record {
      packet = (declared_are_declared d c.in-Begin.flow c.deref.result.now).1 (subst (IsDeclared net c.in-Begin.flow) (sym c.deref.ensures.value) packet);
      from = sym (nodes.node_of c.args.n (net.flow c.in-Begin.flow).from at);
    }

pub returns-in-Begin-clause-possible : goal.returns-in-Begin-clause-possible
returns-in-Begin-clause-possible c =
    let d = c.args.network.now in
    let net = network_of d in
    let n = c.args.n in
    let node = c.args.cell.now in
    let cargo = c.deref.result.now in
    let is = ap machine_step c.in-Begin.is in
    let packet = subst (IsDeclared net c.in-Begin.flow) (sym c.deref.ensures.value) (subst (HasNamed net) is c.requires.named) in
    let at = subst (λ k. cell_of net k ≡ AtNode n) is c.requires.at in
    let from = sym (nodes.node_of n (net.flow c.in-Begin.flow).from at) in
    on_err_then c.begin.result
    (λ can s state. let made = begin_made net n (in_network d n node c.requires.cell) node c.args.wires.now c.in-Begin.flow cargo c.in-Begin.end packet from can s state in
    subst (IsPossible net s) (ap (λ k. Begin c.in-Begin.flow k c.in-Begin.end) c.deref.ensures.value ∙ sym is) (made.0, made.1))
    c.begin.ensures.possible

pub returns-in_default-clause-made : goal.returns-in_default-clause-made
returns-in_default-clause-made c =
    let net = network_of c.args.network.now in
    let n = c.args.n in
    let is = ap machine_step c.in-Move.is in
    let no = c.in_default in
    subst (λ k. NodeMakes net n c.args.cell.now c.args.wires.now k false c.args.cell.now c.args.wires.now) (sym is)
    (never c.args.network.now c.requires.cell.valid n c.args.cell.now c.args.wires.now c.in-Move.step (subst (λ k. cell_of net k ≡ AtNode n) is c.requires.at) no.not-Fct no.not-FctIn no.not-Arrive no.not-Emit no.not-Accept no.not-Reply)

pub returns-in-Emit-clause-made : goal.returns-in-Emit-clause-made
returns-in-Emit-clause-made c =
    let d = c.args.network.now in
    let is = ap machine_step c.in-Move.is ∙ ap machine_move c.in-Emit.is in
    let same = nodes.node_of c.args.n c.in-Emit.field-0 (subst (λ k. cell_of (network_of d) k ≡ AtNode c.args.n) is c.requires.at) in
    subst (λ k. NodeMakes (network_of d) c.args.n c.args.cell.now c.args.wires.now k c.emit.result c.emit.new.node c.emit.new.wires) (ap Emit same ∙ sym is) c.emit.ensures.made
