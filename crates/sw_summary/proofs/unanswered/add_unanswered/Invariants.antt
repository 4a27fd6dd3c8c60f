use Rattle.std.proofs.Common.{◌≡◌, ◌++◌, [], string_bytes}
use Rattle.std.specs.List.{flat_map, range_with_len}
use Rattle.std.specs.Option.{option_map_or}
use Rattle.std.specs.Prelude.{slice_get}
use Rattle.sw_summary.specs.Texts.{unanswered_of}
use Rattle.sw_summary.proofs.unanswered.add_unanswered.Given as goal

abbrev pub invariant-loop-i : goal.invariant-loop-i
invariant-loop-i l =
    string_bytes l.text ≡ string_bytes l.initial.text ++ flat_map (λ i. option_map_or (unanswered_of l.network l.begun i) (slice_get l.network.flows i) []) (range_with_len 0 l.i)
