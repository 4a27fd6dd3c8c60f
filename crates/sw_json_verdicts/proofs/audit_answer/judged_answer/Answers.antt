use Rattle.std.proofs.Common.{◌∙◌, List, ℕ, map, max, ap, unwrap_or}
use Rattle.std.specs.Borrow.{Bor}
use Rattle.std.specs.List.{reduce}
use Rattle.sw_json_verdicts.specs.AuditAnswers.{numbers_of}
use Rattle.sw_json_verdicts.specs.Judgements.{findings_of}
use Rattle.sw_json_verdicts.specs.declared.judged.Judged.{Judged}
use Rattle.sw_json_verdicts.proofs.Chosen.{are_findings, are_numbered, is_worst}
use Rattle.sw_json_verdicts.proofs.Plainly.{findings_are_plain}
use Rattle.sw_json_verdicts.proofs.audit_answer.judged_answer.Goals as goal

pub audit_text-requires : goal.audit_text-requires
audit_text-requires g c = λ json.
    let paths = map (λ (s : Bor (List ℕ)). s.now) c.args.paths.now in
    let options = c.args.options.now in
    let gives = g.S.Storage.gives c.args.storage.now in
    let keeps = g.S.Storage.keeps c.args.storage.now in
    findings_are_plain
    (record {
      at_more = c.plain_at_more.ensures;
      verdicts = c.verdicts_are_plain.ensures;
      faults = c.faults_are_plain.ensures;
      kinds = c.kinds_are_plain.ensures;
      entries = c.entries_are_plain.ensures;
    })
    options gives keeps paths (findings_of paths c.args.all.items) json (are_findings options gives keeps paths c.args.all.items c.requires)

pub returns : goal.returns
returns g c =
    let paths = map (λ (s : Bor (List ℕ)). s.now) c.args.paths.now in
    let options = c.args.options.now in
    let gives = g.S.Storage.gives c.args.storage.now in
    let keeps = g.S.Storage.keeps c.args.storage.now in
    let worst = c.worst_status-status.ensures ∙ ap (λ (all : List Judged). unwrap_or (reduce max (map (λ (j : Judged). j.status) all)) 0) c.deref.ensures.value
    ∙ is_worst options gives keeps paths c.args.all.items c.requires in
    let are = are_findings options gives keeps paths c.args.all.items c.requires in
    let numbers =
    c.in_ok-without_flows.ensures ∙ ap (λ (all : List Judged). numbers_of (map (λ (j : Judged). j.flowless) all)) c.deref-2.ensures.value
    ∙ are_numbered options gives keeps paths c.args.all.items c.requires in
    record {
      of_all = (findings_of paths c.args.all.items, are, (c.in_ok-text.ensures, worst), numbers);
      said = (c.in_ok-text.ensures, worst);
    }
