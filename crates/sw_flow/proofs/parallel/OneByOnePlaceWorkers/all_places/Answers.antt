use Rattle.std.proofs.Common.{◌≡◌, length, arith}
use Rattle.std.specs.List.{range_with_len}
use Rattle.std.proofs.lemmas.Slice.Zip.{all_zipped_more}
use Rattle.sw_graph.proofs.Ranges.{range_more}
use Rattle.sw_config.specs.Entries.{all_flows}
use Rattle.sw_flow.specs.Places.{IsPlacesOf}
use Rattle.sw_flow.proofs.Jobs.{made_for_flows}
use Rattle.sw_flow.proofs.parallel.OneByOnePlaceWorkers.all_places.Goals as goal

pub loop-number-preserved : goal.loop-number-preserved
loop-number-preserved c =
    let n = c.loop-number.number in
    rw (c.in_ok-push.ensures.items, range_more n)
    (all_zipped_more (λ i v. IsPlacesOf c.args.network.now i v.items) (range_with_len 0 n) c.loop-number.all.items n c.in_ok-places.field-0 c.loop-number.invariant c.in_ok-places.ensures)

pub returns : goal.returns
returns c =
    let n = c.loop-number.number in
    let all : n ≡ length (all_flows c.args.network.now) = omega (arith, c.loop-number-test.false, c.loop-number.auto.number-end, c.flows-number-end.ensures.count) in
    made_for_flows c.args.network.now n c.loop-number.all.items all c.loop-number.invariant
