use Rattle.std.proofs.Common.{◌≡◌, map, take}
use Rattle.std.specs.Prelude.{string_bytes}
use Rattle.sw_calls.proofs.given.given_words.Given as goal

abbrev pub invariant-loop-text : goal.invariant-loop-text
invariant-loop-text g l = map (λ s. s.now) l.words.items ≡ map string_bytes (take l.text-index l.texts)
