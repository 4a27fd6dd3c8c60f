use Rattle.std.proofs.Common.{◌≡◌, map, take}
use Rattle.sw_json_verdicts.specs.AuditAnswers.{numbers_of}
use Rattle.sw_json_verdicts.proofs.audit_answer.numbers_without_flows.Given as goal

abbrev pub invariant-loop-place : goal.invariant-loop-place
invariant-loop-place l = l.numbers.items ≡ numbers_of (map (λ j. j.flowless) (take l.place l.all))
