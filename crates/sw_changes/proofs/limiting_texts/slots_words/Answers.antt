use Rattle.std.proofs.Common.{◌∙◌, ◌++◌, ap, codes, refl, string_bytes}
use Rattle.sw_changes.specs.LimitingTexts.{further_slots_words, slots_words, target_slots_words}
use Rattle.sw_explain.proofs.ExplainedTexts.{first_added}
use Rattle.sw_changes.proofs.limiting_texts.slots_words.Goals as goal

pub returns : goal.returns
returns c =
    let d = c.args.network.now in
    first_added (λ more. codes "slots " ++ target_slots_words d more) (further_slots_words d) (slots_words d) (λ more others. refl) c.args.slots.now _ _ (string_bytes c.new-text.result)
    (string_bytes c.add_target_slots.new.text) (string_bytes c.add_further_slots.new.text) c.in-len1-up.len_at_least refl c.in_ok-add_target_slots.ensures
    c.in_ok-add_further_slots.ensures
    ∙ ap (λ l. l ++ slots_words d c.args.slots.now) c.new-text.ensures.bytes
