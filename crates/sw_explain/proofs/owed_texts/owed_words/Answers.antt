use Rattle.std.proofs.Common.{◌≡◌, string_bytes}
use Rattle.std.proofs.lemmas.Result.{IfOk-weaker}
use Rattle.sw_explain.proofs.ExplainedTexts.{limit_told, no_limit_told, owed_start}
use Rattle.sw_explain.proofs.owed_texts.owed_words.Goals as goal

pub returns-in-Some : goal.returns-in-Some
returns-in-Some c =
    IfOk-weaker c.format.result _ (λ s. string_bytes s ≡ owed_start c.args.slots c.args.limit)
    (λ s is. limit_told c.args.slots c.in-Some.limit c.args.limit c.replies-replies.result.now c.ending-ending.result.now (string_bytes s) c.in-Some.is c.replies-replies.ensures c.ending-ending.ensures is)
    c.format.ensures.ok

pub returns-in-None : goal.returns-in-None
returns-in-None c =
    IfOk-weaker c.format-in-None.result _ (λ s. string_bytes s ≡ owed_start c.args.slots c.args.limit)
    (λ s is. no_limit_told c.args.slots c.args.limit c.replies-replies.result.now (string_bytes s) c.in-None.is c.replies-replies.ensures is)
    c.format-in-None.ensures.ok
