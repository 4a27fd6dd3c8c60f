use Rattle.std.proofs.Common.{string_bytes}
use Rattle.sw_output.proofs.EachLine.{all_added}
use Rattle.sw_summary.specs.Texts.{reasons, unanswered_line, unanswered_text}
use Rattle.sw_summary.proofs.Written.{told_line, untold_line}
use Rattle.sw_summary.proofs.unanswered.add_reasons.Goals as goal
use Rattle.sw_topo.proofs.Lists.{line_at}

pub loop-reason-preserved-then-count-eq0 : goal.loop-reason-preserved-then-count-eq0
loop-reason-preserved-then-count-eq0 c =
    line_at (unanswered_line c.args.name.now c.args.packets.now) reasons c.loop-reason.reason-index _ (string_bytes c.args.text.now) (string_bytes c.loop-reason.text)
    (string_bytes c.loop-reason.text) c.loop-reason-test.true c.loop-reason.invariant
    (untold_line (string_bytes c.loop-reason.text) c.args.name.now c.args.packets.now _ c.handled_as-count.result c.if-count-eq0.true c.handled_as-count.ensures)

pub loop-reason-preserved : goal.loop-reason-preserved
loop-reason-preserved c =
    line_at (unanswered_line c.args.name.now c.args.packets.now) reasons c.loop-reason.reason-index _ (string_bytes c.args.text.now) (string_bytes c.loop-reason.text)
    (string_bytes c.write.new.self) c.loop-reason-test.true c.loop-reason.invariant
    (told_line (string_bytes c.loop-reason.text) (string_bytes c.write.new.self) c.args.name.now c.handled_as-count.result _ c.reason-words.result.now _ c.if-count-eq0.false c.handled_as-count.ensures
    c.reason-words.ensures c.in_ok-write.ensures.bytes)

pub returns : goal.returns
unfolding unanswered_text
returns c =
    all_added (unanswered_line c.args.name.now c.args.packets.now) reasons c.loop-reason.reason-index (string_bytes c.args.text.now) (string_bytes c.loop-reason.text)
    c.loop-reason-test.false c.loop-reason.invariant
