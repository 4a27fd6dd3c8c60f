use Rattle.std.proofs.Common.{◌≡◌, map, take}
use Rattle.serde_json.specs.View.{view}
use Rattle.sw_runs.specs.PacketValues.{tally_value}
use Rattle.sw_runs.proofs.came_out_values.tally_values.Given as goal

abbrev pub invariant-loop-tally : goal.invariant-loop-tally
invariant-loop-tally l = map view l.values.items ≡ map tally_value (take l.tally-index l.all)
