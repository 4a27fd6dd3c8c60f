use Rattle.std.proofs.Common.{◌<◌, ◌∙◌, List, ap, length, string_bytes, sym, ◌++◌, ℕ}
use Rattle.sw_config.specs.Entries.{wiring_of}
use Rattle.sw_flow.specs.declared.place.Place.{Place}
use Rattle.sw_explain.proofs.OnChannels.{way_within}
use Rattle.sw_explain.proofs.ExplainedTexts.{each_is, misrouted_told, way_more, way_told}
use Rattle.sw_explain.proofs.route_texts.misrouted_text.Goals as goal

pub channel_text-requires : goal.channel_text-requires
channel_text-requires c =
    let d = c.args.network.now in
    each_is (λ (p : Place). p.channel < length (wiring_of d).ends) c.args.way.now c.loop-before.before c.index-way-before.result c.loop-before-test.true c.index-way-before.is
    (way_within d c.args.flow c.args.place c.args.fault c.args.way.now c.requires)

pub loop-before-preserved : goal.loop-before-preserved
loop-before-preserved c =
    let before = c.loop-before.before in
    let place = c.index-way-before.result in
    let told =
    way_told c.args.network.now c.args.flow before place c.flow_name-name.result.now (string_bytes c.in_ok-channel.channel) c.ending-ending.result.now
    c.flow_name-name.ensures c.in_ok-channel.ensures c.ending-ending.ensures in
    way_more c.args.network.now c.args.flow before c.args.way.now place (string_bytes c.loop-before.text) (string_bytes c.write.new.self) c.loop-before-test.true c.index-way-before.is
    c.loop-before.invariant (c.in_ok-write.ensures.bytes ∙ ap (λ (l : List ℕ). string_bytes c.loop-before.text ++ l) (sym told))

pub returns : goal.returns
returns c =
    misrouted_told c.args.network.now c.args.flow c.args.fault c.args.way.now c.loop-before.before
    c.route_fault_text-fault_name.result.now c.fault_words-words.result.now (string_bytes c.loop-before.text) (string_bytes c.write-2.new.self)
    c.loop-before-test.false c.route_fault_text-fault_name.ensures c.fault_words-words.ensures c.loop-before.invariant c.in_ok-write-2.ensures.bytes
