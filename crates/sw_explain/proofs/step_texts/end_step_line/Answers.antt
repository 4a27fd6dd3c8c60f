use Rattle.std.proofs.Common.{◌∙◌, codes, string_bytes}
use Rattle.std.proofs.lemmas.Result.{on_ok_weaker}
use Rattle.sw_cert.proofs.Numbered.{pushed}
use Rattle.sw_explain.proofs.ExplainedTexts.{few_told, flows_ended}
use Rattle.sw_explain.proofs.step_texts.end_step_line.Goals as goal

pub returns-then-count-lt2 : goal.returns-then-count-lt2
returns-then-count-lt2 c =
    pushed c.push_str.result (string_bytes c.args.text.now) (string_bytes c.push_str.new.self) (codes "\n") _ (few_told c.args.network.now c.args.all c.args.flows.now c.if-count-lt2.true) c.push_str.ensures.bytes

pub returns : goal.returns
returns c =
    let told =
    flows_ended c.args.network.now c.args.all c.args.flows.now c.flows_to_name-named.result.now (string_bytes c.args.text.now) (string_bytes c.push_str-2.new.self) (string_bytes c.add_names.new.text)
    c.if-count-lt2.false c.flows_to_name-named.ensures.is c.in_ok-push_str.ensures.bytes c.in_ok-add_names.ensures in
    on_ok_weaker c.add_more.result (λ is. is ∙ told) c.add_more.ensures
