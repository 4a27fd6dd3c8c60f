use Rattle.std.proofs.Common.{get_or, sym, ap, ◌∙◌, subst, arith}
use Rattle.std.proofs.lemmas.Slice.Zip.{AllZip-long}
use Rattle.sw_config.specs.Entries.{all_flows}
use Rattle.sw_flow.specs.Places.{IsPlaceList}
use Rattle.sw_cycle.proofs.Naming.{listed_at}
use Rattle.sw_cycle.proofs.flow_places.flow_and_places.Goals as goal

pub bounds-places-from : goal.bounds-places-from
bounds-places-from c =
    let d = c.args.network.now in
    let long = AllZip-long (λ f ps. IsPlaceList d f ps.items) (all_flows d) c.args.places.now c.requires.lists in
    omega (arith, long, c.from.ensures, c.requires.inside)

pub returns-clause-places : goal.returns-clause-places
returns-clause-places c =
    let d = c.args.network.now in
    let f = c.flow.result.now in
    let lists = c.args.places.now in
    let v = c.index-places-from.result in
    let at = c.index-places-from.is ∙ ap (λ i. get_or lists i v) c.from.ensures in
    subst (IsPlaceList d f) (sym c.deref.ensures.value) (listed_at d (all_flows d) lists c.args.number f v c.requires.lists c.flow.ensures.flow at)
