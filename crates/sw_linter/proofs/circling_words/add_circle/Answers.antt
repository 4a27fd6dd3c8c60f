use Rattle.std.proofs.Common.{List, ap, append_assoc, codes, drop, length, string_bytes, take, ◌++◌, ◌-◌, ◌∙◌, ℕ}
use Rattle.std.specs.List.{flat_map}
use Rattle.std.proofs.lemmas.List.{take_all}
use Rattle.sw_output.specs.ChannelTexts.{channel_text}
use Rattle.sw_linter.proofs.Circles.{listed_is}
use Rattle.sw_linter.proofs.circling_words.add_circle.Goals as goal

pub returns : goal.returns
returns c =
    let text = channel_text c.args.network.now in
    let others = flat_map (λ (y : ℕ). codes ", " ++ text y) in
    let rest = take (length c.args.circle.now - 1) (drop 1 c.args.circle.now) in
    let old = string_bytes c.args.text.now in
    c.loop-channel.invariant
    ∙ ap (λ (them : List ℕ). string_bytes c.add_channel.new.text ++ others them) (take_all c.loop-channel.channel-index rest c.loop-channel-test.false)
    ∙ ap (λ (front : List ℕ). front ++ others rest) c.in_ok-add_channel.ensures
    ∙ append_assoc old (c.args.before.now ++ text c.first-item.result) (others rest)
    ∙ ap (λ (more : List ℕ). old ++ more) (listed_is text c.args.before.now c.args.circle.now c.first-item.result c.in-len1-up.len_at_least c.first-item.is)
