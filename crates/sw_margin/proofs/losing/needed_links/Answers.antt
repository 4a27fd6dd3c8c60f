use Rattle.std.proofs.Common.{◌≡◌, ◌<◌, ◌/◌, Bool, true, false, List, length, length-set, replicate, set, Some, sym, ap, ◌∙◌, subst, arith}
use Rattle.sw_topo.specs.Wiring.{Wiring, out}
use Rattle.sw_flow.specs.Places.{ends_of}
use Rattle.sw_graph.proofs.RelationSteps.{whole}
use Rattle.sw_margin.specs.Needs.{AreMarked, AreNeeded}
use Rattle.sw_margin.proofs.Needing.{all_needed}
use Rattle.sw_margin.proofs.Ways.{channels_paired}
use Rattle.sw_margin.proofs.losing.needed_links.Goals as goal

pub index_mut-requires : goal.index_mut-requires
index_mut-requires c =
    omega (
      arith,
      c.from-3.ensures,
      c.number.ensures,
      c.out-start.ensures.within,
      ap (λ (w : Wiring). length w.ends) c.topology.ensures.wiring,
      c.in_ok-marks.ensures.len,
      c.from.ensures,
      c.links.ensures.count,
      channels_paired c.args.network.now,
    )

pub returns : goal.returns
returns c =
    let d = c.args.network.now in
    let f = c.args.flow.now in
    let places = c.args.places.now in
    let n = c.from.result in
    let at = c.from-3.result in
    let items = c.in_ok-marks.marks.items in
    let new = c.mark_places.new.marks in
    let none : items ≡ replicate n false = c.in_ok-marks.ensures.items_if_clones_equal (λ y e. e) in
    let starts : out (ends_of d) f.from ≡ Some c.out-start.result = rw (c.topology.ensures.wiring, c.from-2.ensures) at c.out-start.ensures.channel in
    let inside : c.out-start.result < length (ends_of d) = rw c.topology.ensures.wiring at c.out-start.ensures.within in
    let half : at ≡ c.out-start.result / 2 = c.from-3.ensures ∙ ap (λ k. k / 2) c.number.ensures in
    let marked = subst (λ (l : List Bool). AreMarked d f places l new) (c.deref_mut.ensures.value ∙ ap (λ (l : List Bool). set l at true) none) c.mark_places.ensures in
    let size : length new ≡ length (set items at true) = c.mark_places.ensures.size ∙ ap length c.deref_mut.ensures.value in
    let e = whole c.in_ok-marks.marks.len new (set items at true) (c.in_ok-marks.marks.ok.0 ∙ sym (length-set items at true)) size in
    subst (λ (l : List Bool). AreNeeded d f l) (sym e) (all_needed d f places n c.out-start.result at new (c.from.ensures ∙ c.links.ensures.count) starts inside half c.requires.list marked)
