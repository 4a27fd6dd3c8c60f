use Rattle.std.proofs.Common.{◌≡◌, take}
use Rattle.sw_json_verdicts.proofs.Greatest.{greatest}
use Rattle.sw_json_verdicts.proofs.audit_answer.worst_status.Given as goal

abbrev pub invariant-loop-judged : goal.invariant-loop-judged
invariant-loop-judged l = l.worst ≡ greatest (take l.judged-index l.all)
