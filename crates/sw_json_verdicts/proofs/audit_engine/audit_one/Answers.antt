use Rattle.sw_json_verdicts.specs.Judgements.{finding_of}
use Rattle.sw_json_verdicts.proofs.Told.{of_file, told}
use Rattle.sw_json_verdicts.proofs.audit_engine.audit_one.Goals as goal

pub returns-clause-ended : goal.returns-clause-ended
returns-clause-ended g c = told c.args.options.now.json _ c.one_answer-answer.result _ _ _ c.one_answer-answer.ensures.of_all c.tell_audit-ended.ensures

pub returns-clause-told : goal.returns-clause-told
returns-clause-told g c =
    let known = c.judge_file-judged.result in
    let path = c.args.path.now in
    told c.args.options.now.json _ c.one_answer-answer.result _ _ _
    (of_file c.args.options.now (g.S.Storage.keeps c.args.storage.now) path known.file known.found (finding_of path known.judged) c.one_answer-answer.result
    c.judge_file-judged.ensures.told c.one_answer-answer.ensures.said)
    c.tell_audit-ended.ensures
