use Rattle.std.proofs.Common.{◌∙◌, ◌<◌, length, take, ap, arith}
use Rattle.std.proofs.lemmas.List.{length-take-le}
use Rattle.sw_config.specs.Entries.{Declaration}
use Rattle.sw_mend.proofs.Fresh.{as_many}
use Rattle.sw_mend.proofs.OneMore.{fresh_switch, switch_built}
use Rattle.sw_mend.proofs.parts.add_switches.Goals as goal

pub add_switch-requires-clause-few : goal.add_switch-requires-clause-few
add_switch-requires-clause-few c =
    let switches = c.args.network.now.switches in
    let many = ap (λ (d : Declaration). length d.switches) c.loop-switch.invariant ∙ as_many c.args.changes.now 0 (take c.loop-switch.switch switches) in
    let short = length-take-le c.loop-switch.switch switches (omega (arith, c.loop-switch-test.true, c.switches-switch-end.ensures.count)) in
    omega (arith, many, short, c.loop-switch-test.true, c.switches-switch-end.ensures.count, c.switches-switch-end.ensures.few)

pub add_switch-requires-clause-new_name : goal.add_switch-requires-clause-new_name
add_switch-requires-clause-new_name c =
    let lt : c.loop-switch.switch < length c.args.network.now.switches = omega (arith, c.loop-switch-test.true, c.switches-switch-end.ensures.count) in
    fresh_switch c.args.changes.now (record c.args.network.now { nodes = c.args.builder.now.nodes }) _ c.loop-switch.switch _ c.requires.named lt c.switch_name-name.ensures c.loop-switch.invariant

pub loop-switch-preserved : goal.loop-switch-preserved
loop-switch-preserved c =
    let lt : c.loop-switch.switch < length c.args.network.now.switches = omega (arith, c.loop-switch-test.true, c.switches-switch-end.ensures.count) in
    switch_built c.args.changes.now c.args.builder.now.nodes c.args.network.now.switches c.loop-switch.switch _ _ _ _ _ _ lt c.switch_name-name.ensures c.arbitration.ensures
    c.routes.ensures.routes c.in_ok-table.ensures c.loop-switch.invariant c.in_ok-add_switch.ensures.ok
