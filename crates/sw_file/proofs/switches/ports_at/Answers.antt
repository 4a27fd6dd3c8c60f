use Rattle.std.proofs.Common.{◌∙◌}
use Rattle.toml.specs.View.{table_view}
use Rattle.sw_file.proofs.Ports.{port_more, ports_are}
use Rattle.sw_file.proofs.switches.ports_at.Goals as goal

pub loop-number-preserved : goal.loop-number-preserved
loop-number-preserved c =
    port_more c.deref-number-items.result.now c.loop-number.number-index c.unwrap-port.result c.loop-number.ports c.with-ports.result c.new.result
    c.loop-number-test.true c.unwrap-port.ensures c.new.ensures.value c.loop-number.invariant c.with-ports.ensures.value

pub returns : goal.returns
returns c =
    ports_are c.args.route.now.section (table_view c.args.route.now.table.now) c.in_ok-numbers.numbers.items c.deref-number-items.result.now c.loop-number.number-index c.in_ok-numbers.numbers.len c.len.result c.loop-number.ports c.is_empty.result
    c.in_ok-numbers.ensures.gives c.in_ok-numbers.numbers.ok.0 c.is_empty.ensures c.if-is_empty.false (c.len.ensures ∙ c.in_ok-numbers.numbers.ok.0) c.if-len.false c.deref-number-items.ensures.value c.loop-number-test.false c.loop-number.invariant
