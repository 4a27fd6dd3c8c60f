use Rattle.std.proofs.Common.{List, ℕ, IfOk, string_bytes}
use Rattle.std.specs.Borrow.{Bor}
use Rattle.sw_json_verdicts.specs.AuditAnswers.{IsNotedAnswer}
use Rattle.sw_json_verdicts.proofs.Chosen.{of_only}
use Rattle.sw_json_verdicts.proofs.audit_answer.audit_answer.Goals as goal

pub returns-in-len1 : goal.returns-in-len1
returns-in-len1 g c =
    let options = c.args.options.now in
    let gives = g.S.Storage.gives c.args.storage.now in
    let keeps = g.S.Storage.keeps c.args.storage.now in
    of_only (λ (s : Bor (List ℕ)). s.now) (λ paths. IfOk c.answer_to_one.result (λ a. IsNotedAnswer options gives keeps paths a.without_flows.items (string_bytes a.answer.text) a.answer.status))
    c.args.paths.now _ c.in-len1.len_at_least c.in-len1.len_below c.answer_to_one.ensures.of_all
