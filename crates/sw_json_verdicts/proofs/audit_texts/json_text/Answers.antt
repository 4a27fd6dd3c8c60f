use Rattle.std.proofs.Common.{◌∙◌, ap, List, ℕ, map, string_bytes}
use Rattle.std.specs.Borrow.{Bor}
use Rattle.std.specs.List.{zip}
use Rattle.serde_json.specs.Data.{Data}
use Rattle.serde_json.specs.View.{view}
use Rattle.sw_json.specs.FileValues.{audit_value}
use Rattle.sw_json_verdicts.specs.AuditTexts.{objects}
use Rattle.sw_json_verdicts.specs.Judgements.{findings_of}
use Rattle.sw_json_verdicts.proofs.Plainly.{audits_plain, written}
use Rattle.sw_json_verdicts.proofs.audit_texts.json_text.Goals as goal

pub text_of-requires : goal.text_of-requires
text_of-requires c =
    let paths = map (λ (s : Bor (List ℕ)). s.now) c.args.paths.now in
    let found = findings_of paths c.args.all.items in
    rw (c.in_ok-value.ensures, c.in_ok-files.ensures) (audits_plain c.audits_are_plain.ensures c.args.options.now paths found c.requires).whole

pub returns : goal.returns
returns c =
    let paths = map (λ (s : Bor (List ℕ)). s.now) c.args.paths.now in
    let found = findings_of paths c.args.all.items in
    let options = c.args.options.now in
    let toolchain = options.release.toolchain.now in
    let version = options.release.version.now in
    written c.text_of.result string_bytes (view c.in_ok-value.value) (audit_value (objects options.quiet (zip paths found)) toolchain version)
    (c.in_ok-value.ensures ∙ ap (λ (files : List Data). audit_value files toolchain version) c.in_ok-files.ensures)
    (audits_plain c.audits_are_plain.ensures options paths found c.requires) c.text_of.ensures.text c.text_of.ensures.reads_back
