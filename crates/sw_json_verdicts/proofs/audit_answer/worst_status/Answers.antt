use Rattle.std.proofs.lemmas.List.{take_all}
use Rattle.sw_json_verdicts.proofs.Greatest.{greatest_more}
use Rattle.sw_json_verdicts.proofs.audit_answer.worst_status.Goals as goal

pub loop-judged-preserved : goal.loop-judged-preserved
loop-judged-preserved c =
    greatest_more c.args.all.now c.loop-judged.judged-index _ _ _ c.loop-judged-test.true c.judged-item.is c.loop-judged.invariant c.max-worst.ensures

pub returns : goal.returns
returns c = rw (take_all c.loop-judged.judged-index c.args.all.now c.loop-judged-test.false) at c.loop-judged.invariant
