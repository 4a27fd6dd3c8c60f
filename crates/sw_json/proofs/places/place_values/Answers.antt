use Rattle.sw_json.specs.PlaceValues.{place_value}
use Rattle.sw_json.proofs.Added.{all_made, one_more}
use Rattle.sw_json.proofs.places.place_values.Goals as goal

pub loop-place-preserved : goal.loop-place-preserved
loop-place-preserved c =
    one_more (place_value c.args.network.now) c.args.places.now c.loop-place.place-index c.place-item.result c.loop-place.values.items c.add_value.new.values.items
    c.place_value.result c.loop-place.invariant c.loop-place-test.true c.place-item.is c.place_value.ensures c.in_ok-add_value.ensures.added

pub returns : goal.returns
returns c = all_made (place_value c.args.network.now) c.args.places.now c.loop-place.place-index c.loop-place.values.items c.loop-place.invariant c.loop-place-test.false
