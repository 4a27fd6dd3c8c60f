use Rattle.std.proofs.Common.{◌≡◌, ◌++◌, [], ◌∷◌, ℕ, length, string_bytes, take}
use Rattle.std.specs.List.{flat_map, zip}
use Rattle.sw_cycle.specs.Cycles.{CauseEntry}
use Rattle.sw_output.specs.Lines.{line}
use Rattle.sw_output.specs.VerdictTexts.{cycle_line, cyclic_words}
use Rattle.sw_output.proofs.verdict_texts.cycle_text.Given as goal

abbrev pub invariant-loop-channel : goal.invariant-loop-channel
invariant-loop-channel l =
    string_bytes l.text
    ≡ line (cyclic_words (length l.cycle.channels) ∷ []) ++ flat_map (λ (p : ℕ × CauseEntry). cycle_line l.network p.0 p.1) (take (length l.yielded) (zip l.cycle.channels l.cycle.causes))
