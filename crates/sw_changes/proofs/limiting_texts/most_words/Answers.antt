use Rattle.std.proofs.Common.{◌≡◌, ◌∙◌, ◌++◌, ap, codes, string_bytes}
use Rattle.std.specs.Fmt.{decimal}
use Rattle.std.proofs.lemmas.Result.{IfOk-weaker}
use Rattle.sw_changes.specs.LimitingTexts.{most_words}
use Rattle.sw_changes.proofs.limiting_texts.most_words.Goals as goal

pub returns : goal.returns
returns c =
    IfOk-weaker c.format.result _ (λ s. string_bytes s ≡ most_words c.args.most)
    (λ s is. is ∙ ap (λ l. codes "at most " ++ (decimal c.args.most ++ (codes " unanswered command" ++ (l ++ codes " of each flow")))) c.ending-ending.ensures) c.format.ensures.ok
