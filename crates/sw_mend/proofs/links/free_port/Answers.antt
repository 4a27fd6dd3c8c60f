use Rattle.std.proofs.Common.{◌≡◌, ◌∙◌, Some, ap, sym}
use Rattle.sw_topo.proofs.Least.{least_found, least_more}
use Rattle.sw_mend.specs.Splits.{free_port_below, is_free_port}
use Rattle.sw_mend.proofs.links.free_port.Goals as goal

pub returns-then-is_free_port : goal.returns-then-is_free_port
unfolding free_port_below
returns-then-is_free_port c =
    let same : c.unwrap-port.result ≡ c.loop-number.number = rw c.unwrap-port.ensures at c.new.ensures.value in
    let test = sym c.is_free_port.ensures ∙ c.if-is_free_port.true in
    ap Some same ∙ sym (least_found (is_free_port c.args.topology.now.ends c.args.switch) c.loop-number.number c.args.bound c.loop-number.invariant (rw same at test) c.loop-number-test.true)

pub loop-number-preserved : goal.loop-number-preserved
loop-number-preserved c =
    let same : c.unwrap-port.result ≡ c.loop-number.number = rw c.unwrap-port.ensures at c.new.ensures.value in
    let test = sym c.is_free_port.ensures ∙ c.if-is_free_port.false in
    least_more (is_free_port c.args.topology.now.ends c.args.switch) c.loop-number.number c.loop-number.invariant (rw same at test)
