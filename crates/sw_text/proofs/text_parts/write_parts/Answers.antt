use Rattle.sw_text.proofs.WrittenParts.{on_any_error, part_begun, part_written}
use Rattle.sw_text.proofs.text_parts.write_parts.Goals as goal

pub loop-part-preserved : goal.loop-part-preserved
loop-part-preserved g c =
    part_written c.args.parts.now c.loop-part.part-index c.part-item.result c.loop-part-test.true c.part-item.is _ _ _ c.loop-part.invariant
    (rw c.deref.ensures.value at c.in_ok-write_whole.ensures.whole)

pub returns-in_err-write_whole-clause-beginning : goal.returns-in_err-write_whole-clause-beginning
returns-in_err-write_whole-clause-beginning g c =
    on_any_error c.from_residual.result
    (part_begun c.args.parts.now c.loop-part.part-index c.part-item.result c.loop-part-test.true c.part-item.is _ _ _ c.loop-part.invariant
    (rw c.deref.ensures.value at c.in_err-write_whole.ensures.beginning))
