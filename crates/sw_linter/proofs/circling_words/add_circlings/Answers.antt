use Rattle.std.proofs.Common.{List, ap, get_or, length, map, string_bytes, subst, sym, ◌++◌, ◌<◌, ◌∙◌}
use Rattle.std.proofs.lemmas.List.{take_all}
use Rattle.sw_circles.proofs.Lawful.{IsWithin, all_within}
use Rattle.sw_circles.specs.Circlings.{CirclingView}
use Rattle.sw_linter.specs.CirclingTexts.{circling_text}
use Rattle.sw_linter.proofs.Ranges.{grown_map}
use Rattle.sw_linter.proofs.circling_words.add_circlings.Goals as goal

pub add_circling-requires : goal.add_circling-requires
add_circling-requires c =
    let d = c.args.network.now in
    let items = c.deref-circling-items.result.now in
    let within = subst (λ (them : List CirclingView). (i : _) (none : CirclingView) → i < length them → IsWithin d (get_or them i none)) (sym c.deref-circling-items.ensures.value) (all_within d c.in_ok-told.told.items c.in_ok-told.ensures) in
    subst (IsWithin d) (sym c.circling-item.is) (within c.loop-circling.circling-index c.circling-item.result c.loop-circling-test.true)

pub loop-circling-preserved : goal.loop-circling-preserved
loop-circling-preserved c =
    grown_map (circling_text c.args.network.now) (map string_bytes c.args.texts.now.items) _ _ c.loop-circling.circling-index c.deref-circling-items.result.now c.circling-item.result c.loop-circling-test.true c.circling-item.is c.loop-circling.invariant
    c.in_ok-add_circling.ensures

pub returns : goal.returns
returns c =
    let all = take_all c.loop-circling.circling-index c.deref-circling-items.result.now c.loop-circling-test.false ∙ c.deref-circling-items.ensures.value in
    (c.in_ok-told.told.items, c.in_ok-told.ensures, c.loop-circling.invariant ∙ ap (λ (told : List CirclingView). map string_bytes c.args.texts.now.items ++ map (circling_text c.args.network.now) told) all)
