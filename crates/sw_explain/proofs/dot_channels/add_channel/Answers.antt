use Rattle.std.proofs.Common.{◌++◌, string_bytes}
use Rattle.std.proofs.lemmas.Result.{on_ok_weaker}
use Rattle.sw_explain.specs.Drawings.{drawn_over}
use Rattle.sw_explain.specs.DrawTexts.{cycle_attributes, flow_attributes}
use Rattle.sw_explain.proofs.Lists.{channel_added}
use Rattle.sw_explain.proofs.dot_channels.add_channel.Goals as goal

pub returns : goal.returns
returns c =
    let channel = c.new-channel.result in
    let second = string_bytes c.add_end-2.new.text in
    let flow = flow_attributes c.args.places.now channel in
    on_ok_weaker c.end_marks.result
    (λ ended. channel_added c.args.network.now (drawn_over c.args.places.now c.args.cycle.now c.args.numbers.now) c.args.number channel c.topology-topology.result.now c.start_of.result c.end_of.result
    (string_bytes c.args.text.now) (string_bytes c.add_end.new.text) second (string_bytes c.end_marks.new.text) c.topology-topology.ensures.wiring c.new-channel.ensures c.start_of.ensures.place c.end_of.ensures.place
    c.in_ok-add_end.ensures c.in_ok-add_end-2.ensures (ended second (flow ++ cycle_attributes c.args.cycle.now channel) (c.in_ok-marked.ensures second flow c.in_ok-on_flow.ensures)))
    c.end_marks.ensures
