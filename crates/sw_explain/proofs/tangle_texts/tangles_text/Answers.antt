use Rattle.std.proofs.Common.{[], length, refl, string_bytes}
use Rattle.sw_explain.specs.ExplainTexts.{IsOfChannels, tangle_text}
use Rattle.sw_explain.proofs.ExplainedTexts.{each_is, tangles_told}
use Rattle.sw_explain.proofs.OnChannels.{tangled_within}
use Rattle.sw_output.proofs.EachLine.{line_added}
use Rattle.sw_explain.proofs.tangle_texts.tangles_text.Goals as goal

pub add_tangle-requires : goal.add_tangle-requires
add_tangle-requires c =
    each_is (IsOfChannels c.args.network.now) c.args.tangles.now c.loop-tangle.tangle-index c.tangle-item.result c.loop-tangle-test.true c.tangle-item.is
    (tangled_within c.args.network.now c.topology-topology.ensures.valid c.args.tangles.now c.requires)

pub loop-tangle-preserved : goal.loop-tangle-preserved
loop-tangle-preserved c =
    line_added (tangle_text c.args.network.now c.args.all) c.args.tangles.now c.loop-tangle.tangle-index c.tangle-item.result
    [] (string_bytes c.loop-tangle.text) (string_bytes c.add_tangle.new.text) c.loop-tangle-test.true c.tangle-item.is c.loop-tangle.invariant c.in_ok-add_tangle.ensures

pub returns : goal.returns
returns c =
    tangles_told c.args.network.now c.args.all c.args.tangles.now c.loop-tangle.tangle-index (length c.args.tangles.now) c.ending-ending.result.now
    (string_bytes c.loop-tangle.text) (string_bytes c.write.new.self) (string_bytes c.add_counts.new.text) (string_bytes c.push_str.new.self) c.loop-tangle-test.false refl c.ending-ending.ensures
    c.loop-tangle.invariant c.in_ok-write.ensures.bytes c.in_ok-add_counts.ensures c.in_ok-push_str.ensures.bytes
