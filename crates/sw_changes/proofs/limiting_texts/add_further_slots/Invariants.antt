use Rattle.std.proofs.Common.{◌≡◌, ◌++◌, take, string_bytes}
use Rattle.std.specs.List.{flat_map}
use Rattle.sw_changes.specs.LimitingTexts.{further_slots_words}
use Rattle.sw_changes.proofs.limiting_texts.add_further_slots.Given as goal

abbrev pub invariant-loop-more : goal.invariant-loop-more
invariant-loop-more l = string_bytes l.text ≡ string_bytes l.initial.text ++ flat_map (further_slots_words l.network) (take l.more-index l.slots)
