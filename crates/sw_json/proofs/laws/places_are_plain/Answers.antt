use Rattle.sw_json.proofs.PlainValues.{misrouted_plain, place_plain}
use Rattle.sw_json.proofs.laws.places_are_plain.Goals as goal

pub returns : goal.returns
returns c = record { places = place_plain; faults = misrouted_plain }
