use Rattle.std.proofs.Common.{◌≤◌, length, arith, sym, subst, Vec, Global}
use Rattle.sw_config.specs.Entries.{FlowEntry, all_flows}
use Rattle.sw_cert.specs.Reading.{items_of}
use Rattle.sw_flow.specs.declared.place.Place.{Place}
use Rattle.sw_flow.specs.Places.{ends_of, IsPlaceList}
use Rattle.sw_search.specs.Verdicts.{IsFree}
use Rattle.sw_search.proofs.Blocks.{are_blocks}
use Rattle.sw_search.proofs.Zips.{zip_length, zip_map}
use Rattle.sw_search.proofs.free.free.Goals as goal

pub certificate-requires-clause-flows : goal.certificate-requires-clause-flows
certificate-requires-clause-flows c =
    let same = zip_length (λ (f : FlowEntry) (v : Vec Place Global). IsPlaceList c.args.network.now f v.items) (all_flows c.args.network.now) c.args.places.items c.requires.lists in
    omega (arith, c.flows-flows.ensures.count, c.flows-flows.ensures.few)

pub certificate-requires-clause-blocks : goal.certificate-requires-clause-blocks
certificate-requires-clause-blocks c =
    let few : length (ends_of c.args.network.now) ≤ 2048 = omega (arith, c.channels-channels.ensures.ends, c.channels-channels.ensures.few) in
    are_blocks c.args.network.now c.args.places.items c.topology-topology.ensures.valid few c.requires.lists

pub returns : goal.returns
returns c =
    let d = c.args.network.now in
    let lists = zip_map (λ (f : FlowEntry) (v : Vec Place Global). IsPlaceList d f v.items) items_of (IsPlaceList d) (λ f v h. h) (all_flows d) c.args.places.items c.requires.lists in
    subst (IsFree d) (sym c.certificate.ensures) (record { routed = c.requires.routed; no_cycle = c.requires.no_cycle; levels = c.requires.levels; places = lists })
