use Rattle.std.proofs.Common.{◌∙◌, get_or, string_bytes, sym}
use Rattle.std.proofs.lemmas.List.{get_or_default}
use Rattle.sw_output.proofs.EachLine.{all_added, line_added}
use Rattle.sw_explain.specs.DrawTexts.{field_text}
use Rattle.sw_explain.proofs.Lists.{switch_added}
use Rattle.sw_explain.proofs.dot_parts.add_switch.Goals as goal

pub returns : goal.returns
returns c =
    let ports = c.deref-port-items.result.now in
    let all = all_added field_text ports c.loop-port.port-index (string_bytes c.write.new.self) (string_bytes c.loop-port.text) c.loop-port-test.false c.loop-port.invariant in
    switch_added c.args.network.now c.args.switch c.push_str.result c.switch_name-name.result.now ports (string_bytes c.args.text.now) (string_bytes c.write.new.self) (string_bytes c.loop-port.text)
    (string_bytes c.push_str.new.self) c.switch_name-name.ensures (c.deref-port-items.ensures.value ∙ c.in_ok-ports.ensures) c.in_ok-write.ensures.bytes all c.push_str.ensures.bytes

pub loop-port-preserved : goal.loop-port-preserved
loop-port-preserved c =
    let ports = c.deref-port-items.result.now in
    let port = get_or ports c.loop-port.port-index 0 in
    line_added field_text ports c.loop-port.port-index port (string_bytes c.write.new.self) (string_bytes c.loop-port.text) (string_bytes c.write-in-loop-port.new.self) c.loop-port-test.true
    (sym (get_or_default ports c.loop-port.port-index port 0 c.loop-port-test.true)) c.loop-port.invariant c.in_ok-write-2.ensures.bytes
