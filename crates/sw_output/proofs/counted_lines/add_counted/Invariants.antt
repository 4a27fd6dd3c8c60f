use Rattle.std.proofs.Common.{◌≡◌, ◌++◌, string_bytes, take}
use Rattle.std.specs.List.{flat_map}
use Rattle.sw_output.specs.Tallies.{counted_line, tallies}
use Rattle.sw_output.proofs.counted_lines.add_counted.Given as goal

abbrev pub invariant-loop-tally : goal.invariant-loop-tally
invariant-loop-tally l = string_bytes l.text ≡ string_bytes l.fn.text ++ flat_map (counted_line l.name) (take l.tally-index (tallies l.packets))
