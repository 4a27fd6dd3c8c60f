use Rattle.std.proofs.Common.{codes, length, string_bytes}
use Rattle.sw_config.specs.Entries.{wiring_of}
use Rattle.sw_explain.proofs.Lists.{all_numbers, parts_added, whole_drawn}
use Rattle.sw_explain.specs.Drawings.{drawn_over}
use Rattle.sw_explain.specs.DrawTexts.{channel_statement, head_text, node_statement, switch_statement}
use Rattle.sw_output.proofs.EachLine.{number_added}
use Rattle.sw_explain.proofs.dot_text.draw_text.Goals as goal

pub loop-node-preserved : goal.loop-node-preserved
loop-node-preserved c =
    number_added (node_statement c.args.network.now) c.loop-node.node (string_bytes c.in_ok-text.text) (string_bytes c.loop-node.text) (string_bytes c.add_node.new.text) c.loop-node.invariant c.in_ok-add_node.ensures

pub loop-switch-preserved : goal.loop-switch-preserved
loop-switch-preserved c =
    number_added (switch_statement c.args.network.now) c.loop-switch.switch (string_bytes c.loop-node.text) (string_bytes c.loop-switch.text) (string_bytes c.add_switch.new.text) c.loop-switch.invariant c.in_ok-add_switch.ensures

pub loop-number-preserved : goal.loop-number-preserved
loop-number-preserved c =
    number_added (channel_statement c.args.network.now (drawn_over c.args.places.now c.args.cycle.now c.args.numbers.now)) c.loop-number.number (string_bytes c.loop-switch.text) (string_bytes c.loop-number.text)
    (string_bytes c.add_channel.new.text) c.loop-number.invariant c.in_ok-add_channel.ensures

pub returns : goal.returns
returns c =
    let d = c.args.network.now in
    let drawing = drawn_over c.args.places.now c.args.cycle.now c.args.numbers.now in
    let start = string_bytes c.in_ok-text.text in
    let first = string_bytes c.loop-node.text in
    let second = string_bytes c.loop-switch.text in
    let after = string_bytes c.loop-number.text in
    let parts =
    parts_added start _ _ _ first second after
    (all_numbers (node_statement d) c.loop-node.node c.nodes-node-end.result (length d.nodes) start first c.loop-node.auto.node-end c.loop-node-test.false c.nodes-node-end.ensures.count c.loop-node.invariant)
    (all_numbers (switch_statement d) c.loop-switch.switch c.switches-switch-end.result (length d.switches) first second c.loop-switch.auto.switch-end c.loop-switch-test.false c.switches-switch-end.ensures.count c.loop-switch.invariant)
    (all_numbers (channel_statement d drawing) c.loop-number.number c.channels-number-end.result (length (wiring_of d).ends) second after c.loop-number.auto.number-end c.loop-number-test.false
    c.channels-number-end.ensures.ends c.loop-number.invariant) in
    whole_drawn head_text _ (codes "}\n") start after (string_bytes c.push_str.new.self) c.in_ok-text.ensures.ok parts c.in_ok-push_str.ensures.bytes
