use Rattle.std.proofs.Common.{Bool, subst}
use Rattle.sw_cell.proofs.LinkEnds.{none_at_node}
use Rattle.sw_cell.proofs.Network.{in_network}
use Rattle.sw_cell.proofs.node.possible_step.Goals as goal
use Rattle.sw_cell.specs.Possible.{NodeTells, step_at_node}
use Rattle.sw_cell.specs.declared.node.NodeStep.TheVariants as at_node
use Rattle.sw_machine.proofs.DeclaredNetworks.{are_networks}
use Rattle.sw_machine.specs.Model.{network_of}

pub returns-then-is_possible : goal.returns-then-is_possible
returns-then-is_possible c =
    let net = network_of c.args.network.now in
    subst (λ (v : Bool). NodeTells net c.args.n c.args.node.now c.args.wires.now (step_at_node net c.args.n at_node.Fct) v) c.if-is_possible.true c.is_possible.ensures

pub returns-then-is_possible-2 : goal.returns-then-is_possible-2
returns-then-is_possible-2 c =
    let net = network_of c.args.network.now in
    subst (λ (v : Bool). NodeTells net c.args.n c.args.node.now c.args.wires.now (step_at_node net c.args.n at_node.FctIn) v) c.if-is_possible-2.true c.is_possible-2.ensures

pub returns-then-is_possible-3 : goal.returns-then-is_possible-3
returns-then-is_possible-3 c =
    let net = network_of c.args.network.now in
    subst (λ (v : Bool). NodeTells net c.args.n c.args.node.now c.args.wires.now (step_at_node net c.args.n at_node.Arrive) v) c.if-is_possible-3.true c.is_possible-3.ensures

pub returns-then-is_possible-4 : goal.returns-then-is_possible-4
returns-then-is_possible-4 c =
    let net = network_of c.args.network.now in
    subst (λ (v : Bool). NodeTells net c.args.n c.args.node.now c.args.wires.now (step_at_node net c.args.n at_node.Emit) v) c.if-is_possible-4.true c.is_possible-4.ensures

pub returns-then-is_possible-5 : goal.returns-then-is_possible-5
returns-then-is_possible-5 c =
    let net = network_of c.args.network.now in
    subst (λ (v : Bool). NodeTells net c.args.n c.args.node.now c.args.wires.now (step_at_node net c.args.n at_node.Accept) v) c.if-is_possible-5.true c.is_possible-5.ensures

pub returns-then-is_possible-6 : goal.returns-then-is_possible-6
returns-then-is_possible-6 c =
    let net = network_of c.args.network.now in
    subst (λ (v : Bool). NodeTells net c.args.n c.args.node.now c.args.wires.now (step_at_node net c.args.n at_node.Reply) v) c.if-is_possible-6.true c.is_possible-6.ensures

pub returns : goal.returns
returns c = λ s is.
    let d = c.args.network.now in
    let net = network_of d in
    let n = c.args.n in
    let node = c.args.node.now in
    let b = c.args.wires.now in
    none_at_node net (are_networks d c.requires.node.valid) s is.reached n (in_network d n node c.requires.node) (record {
      fct = subst (λ (v : Bool). NodeTells net n node b (step_at_node net n at_node.Fct) v) c.if-is_possible.false c.is_possible.ensures s is;
      fct_in = subst (λ (v : Bool). NodeTells net n node b (step_at_node net n at_node.FctIn) v) c.if-is_possible-2.false c.is_possible-2.ensures s is;
      arrive = subst (λ (v : Bool). NodeTells net n node b (step_at_node net n at_node.Arrive) v) c.if-is_possible-3.false c.is_possible-3.ensures s is;
      emit = subst (λ (v : Bool). NodeTells net n node b (step_at_node net n at_node.Emit) v) c.if-is_possible-4.false c.is_possible-4.ensures s is;
      accept = subst (λ (v : Bool). NodeTells net n node b (step_at_node net n at_node.Accept) v) c.if-is_possible-5.false c.is_possible-5.ensures s is;
      reply = subst (λ (v : Bool). NodeTells net n node b (step_at_node net n at_node.Reply) v) c.if-is_possible-6.false c.is_possible-6.ensures s is;
    })
