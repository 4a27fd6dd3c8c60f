use Rattle.std.proofs.Common.{◌^◌, ◌<◌, rules}
use Rattle.sw_mend.proofs.AfterAll.{port_told_gone}
use Rattle.sw_mend.proofs.PortSets.{without_one}
use Rattle.sw_mend.proofs.tables.ports_left.Goals as goal

pub returns-then-entry-group : goal.returns-then-entry-group
returns-then-entry-group c =
    let small : c.args.set < 2 ^ 32 = search rules in
    let left = without_one c.args.set c.in-WithoutPort.port c.without.result small c.without.ensures.removed c.without.ensures.others in
    port_told_gone c.args.change.now c.args.switch c.args.entry c.args.set c.in-WithoutPort.at c.in-WithoutPort.group c.in-WithoutPort.port c.without.result c.in-WithoutPort.is
    c.if-switch-at-2.true c.if-entry-group.true left
