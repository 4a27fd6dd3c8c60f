use Rattle.std.proofs.Common.{◌≡◌, ◌++◌, codes, map, string_bytes, take}
use Rattle.std.specs.List.{flat_map}
use Rattle.sw_output.specs.ChannelTexts.{channel_text}
use Rattle.sw_linter.specs.CirclingTexts.{listed}
use Rattle.sw_linter.proofs.circling_words.add_circles.Given as goal

abbrev pub invariant-loop-circle : goal.invariant-loop-circle
invariant-loop-circle l =
    string_bytes l.text
    ≡ string_bytes l.initial.text ++ flat_map (λ other. listed (channel_text l.network) (codes "; over ") other) (map (λ circle. circle.items) (take l.circle-index l.rest))
