use Rattle.std.proofs.Common.{◌≡◌, ◌≤◌, length, map, arith, Vec, Global, rules}
use Rattle.std.specs.Prelude.{sum}
use Rattle.std.proofs.lemmas.List.{take_all}
use Rattle.sw_config.specs.Entries.{FlowEntry, all_flows}
use Rattle.sw_flow.specs.declared.place.Place.{Place}
use Rattle.sw_flow.specs.Places.{ends_of, IsPlaceList}
use Rattle.sw_search.proofs.Counted.{places_counted, short_lists}
use Rattle.sw_search.proofs.Zips.{zip_length}
use Rattle.sw_search.proofs.counts.places_in.Goals as goal

pub loop-list-init : goal.loop-list-init
loop-list-init c =
    let same = zip_length (λ (f : FlowEntry) (v : Vec Place Global). IsPlaceList c.args.network.now f v.items) (all_flows c.args.network.now) c.args.lists.now c.requires in
    let few : length (ends_of c.args.network.now) ≤ 2048 = omega (arith, c.channels-channels.ensures.ends, c.channels-channels.ensures.few) in
    record {
      counted = search rules;
      small = search rules;
      few = omega (arith, c.flows-flows.ensures.count, c.flows-flows.ensures.few);
      short = short_lists c.args.network.now c.args.lists.now c.topology-topology.ensures.valid few c.requires;
    }

pub returns : goal.returns
returns c =
    let all : c.loop-list.count ≡ sum (map (λ v. length v.items) c.args.lists.now) = rw (take_all c.loop-list.list-index c.args.lists.now (omega (arith, c.loop-list-test.false))) at c.loop-list.invariant.counted in
    places_counted c.args.network.now c.args.lists.now c.requires c.loop-list.count all
