use Rattle.std.proofs.Common.{◌≡◌, ℕ, length, map, take}
use Rattle.std.specs.List.{zip}
use Rattle.serde_json.specs.View.{view}
use Rattle.sw_search.specs.Cause.{Cause}
use Rattle.sw_search.specs.Cycles.{cause_of}
use Rattle.sw_json.specs.VerdictValues.{channel_value}
use Rattle.sw_json.proofs.cycles.channel_values.Given as goal

abbrev pub invariant-loop-channel : goal.invariant-loop-channel
invariant-loop-channel l =
    map view l.values.items ≡ map (λ (p : ℕ × Cause). channel_value l.network (p.0, cause_of p.1)) (take (length l.yielded) (zip l.channels l.causes))
