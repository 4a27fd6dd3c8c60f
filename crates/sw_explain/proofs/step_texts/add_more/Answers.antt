use Rattle.std.proofs.Common.{◌++◌, ◌∙◌, ap, string_bytes, sym}
use Rattle.std.proofs.lemmas.Result.{on_ok_weaker}
use Rattle.sw_cert.proofs.Numbered.{pushed}
use Rattle.sw_explain.proofs.ExplainedTexts.{none_more, some_more}
use Rattle.sw_explain.proofs.step_texts.add_more.Goals as goal

pub returns-then-more-eq0 : goal.returns-then-more-eq0
returns-then-more-eq0 c =
    pushed c.push_str.result (string_bytes c.args.text.now) (string_bytes c.push_str.new.self) c.args.end.now _ (sym (none_more c.args.more c.args.end.now c.if-more-eq0.true)) c.push_str.ensures.bytes

pub returns : goal.returns
returns c =
    let told = ap (λ l. string_bytes c.args.text.now ++ l) (sym (some_more c.args.more c.args.end.now c.if-more-eq0.false)) in
    on_ok_weaker c.write.result (λ is. is ∙ told) c.write.ensures.bytes
