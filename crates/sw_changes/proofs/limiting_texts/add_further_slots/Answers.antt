use Rattle.std.proofs.Common.{string_bytes}
use Rattle.sw_output.proofs.EachLine.{all_added}
use Rattle.sw_topo.proofs.Lists.{line_at}
use Rattle.sw_changes.specs.LimitingTexts.{further_slots_words}
use Rattle.sw_changes.proofs.limiting_texts.add_further_slots.Goals as goal

pub loop-more-preserved : goal.loop-more-preserved
loop-more-preserved c =
    line_at (further_slots_words c.args.network.now) c.args.slots.now c.loop-more.more-index _ (string_bytes c.args.text.now) (string_bytes c.loop-more.text)
    (string_bytes c.add_target_slots.new.text) c.loop-more-test.true c.loop-more.invariant c.in_ok-add_target_slots.ensures

pub returns : goal.returns
returns c =
    all_added (further_slots_words c.args.network.now) c.args.slots.now c.loop-more.more-index (string_bytes c.args.text.now) (string_bytes c.loop-more.text) c.loop-more-test.false
    c.loop-more.invariant
