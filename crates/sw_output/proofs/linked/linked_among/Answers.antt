use Rattle.std.proofs.Common.{◌≡◌, false, rules, true}
use Rattle.sw_output.specs.LinkedPorts.{has_link}
use Rattle.sw_output.proofs.EachLine.{next_left_out, next_passes}
use Rattle.sw_output.proofs.linked.linked_among.Goals as goal

pub loop-port-preserved-then-is_none : goal.loop-port-preserved-then-is_none
loop-port-preserved-then-is_none c =
    let free : has_link c.args.network.now c.args.switch c.loop-port.port ≡ false = search rules in
    next_left_out (has_link c.args.network.now c.args.switch) c.loop-port.port c.loop-port.linked.items c.loop-port.invariant free

pub loop-port-preserved : goal.loop-port-preserved
loop-port-preserved c =
    let linked : has_link c.args.network.now c.args.switch c.loop-port.port ≡ true = search rules in
    next_passes (has_link c.args.network.now c.args.switch) c.loop-port.port c.loop-port.linked.items c.push.new.self.items c.loop-port.invariant linked c.in_ok-push.ensures.items
