use Rattle.std.proofs.Common.{arith, length, rules, subst, sym, ◌<◌, ◌^◌, ◌≡◌}
use Rattle.sw_run.proofs.Policies.{at_switch, new_for, one_more}
use Rattle.sw_run.proofs.arbiters.new_arbiters.Goals as goal
use Rattle.sw_run.specs.Arbiters.{HasNewArbiters}

pub loop-number-preserved : goal.loop-number-preserved
loop-number-preserved c =
    let d = c.args.network.now in
    let w = c.in-Switch.w in
    let linked = c.linked-linked.result in
    let a = c.new-in-loop-number.result in
    let small : linked < 2 ^ 32 = search rules in
    let new = new_for d c.topology.result.now c.arbitration.result w linked a c.topology.ensures.wiring small c.linked-linked.ensures c.arbitration.ensures c.new-in-loop-number.ensures in
    one_more d w c.loop-number._number c.loop-number.all.items c.push.new.self.items a c.in_ok-push.ensures.items c.loop-number.invariant new

pub returns : goal.returns
returns c =
    let all = c.loop-number.all.items in
    let d = c.args.network.now in
    let whole : length all ≡ 32 = omega (arith, c.loop-number.invariant.0, c.loop-number-test.false, c.loop-number.auto._number-end) in
    subst (λ id. HasNewArbiters d id all) (sym c.in-Switch.is) (at_switch d c.in-Switch.w all whole c.loop-number.invariant.1)
