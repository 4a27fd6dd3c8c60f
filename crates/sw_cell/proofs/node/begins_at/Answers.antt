use Rattle.std.proofs.Common.{arith, length-append, sym}
use Rattle.std.proofs.lemmas.Option.{slice_get_within}
use Rattle.sw_cell.proofs.node.begins_at.Goals as goal
use Rattle.sw_machine.specs.Model.{network_of}
use Rattle.sw_config.specs.Entries.{reply_flows}

pub flow-requires : goal.flow-requires
flow-requires c =
    let packet = c.in_flow.ensures.0 c.if-in_flow.true in
    let within = slice_get_within c.args.network.now.flows c.args.flow packet.entry packet.declared in
    omega (arith, length-append c.args.network.now.flows (reply_flows c.args.network.now.flows))

pub returns-then-in_flow-clause-declared : goal.returns-then-in_flow-clause-declared
unfolding network_of
returns-then-in_flow-clause-declared c = record { packet = c.in_flow.ensures.0 c.if-in_flow.true; from = rw c.flow.ensures.flow (sym c.from.ensures) }
