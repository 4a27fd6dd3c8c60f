use Rattle.std.proofs.Common.{◌≡◌, map, take}
use Rattle.serde_json.specs.View.{view}
use Rattle.sw_json.specs.PlaceValues.{place_value}
use Rattle.sw_json.proofs.places.place_values.Given as goal

abbrev pub invariant-loop-place : goal.invariant-loop-place
invariant-loop-place l = map view l.values.items ≡ map (place_value l.network) (take l.place-index l.places)
