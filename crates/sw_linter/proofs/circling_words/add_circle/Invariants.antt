use Rattle.std.proofs.Common.{◌≡◌, ◌++◌, codes, string_bytes, take}
use Rattle.std.specs.List.{flat_map}
use Rattle.sw_output.specs.ChannelTexts.{channel_text}
use Rattle.sw_linter.proofs.circling_words.add_circle.Given as goal

abbrev pub invariant-loop-channel : goal.invariant-loop-channel
invariant-loop-channel l = string_bytes l.text ≡ string_bytes l.initial.text ++ flat_map (λ y. codes ", " ++ channel_text l.network y) (take l.channel-index l.rest)
