use Rattle.std.proofs.Common.{◌≡◌, ◌+◌, ◌++◌, ◌∷◌, [], ℕ, Some, true, false, Contains, ap, refl, sym, ◌∙◌, subst, take, arith}
use Rattle.std.specs.Prelude.{slice_get}
use Rattle.std.proofs.lemmas.Bool.{false≢true}
use Rattle.std.proofs.lemmas.List.{take_all, take_more}
use Rattle.std.proofs.lemmas.List.Elements.{Contains-get_or}
use Rattle.std.proofs.lemmas.Option.{get_or_from_slice_get}
use Rattle.sw_flow.specs.declared.place.Place.{Place}
use Rattle.sw_cycle.specs.Firsts.{NoneFrom}
use Rattle.sw_cycle.proofs.AllGoing.{found_on, none_from_more, none_from_none, none_left}
use Rattle.sw_cycle.proofs.OnChannel.{all_after}
use Rattle.sw_cycle.proofs.Stepped.{no_step}
use Rattle.sw_cycle.proofs.Taken.{unmarked}
use Rattle.sw_cycle.proofs.goers.goes_on_from.Goals as goal

pub loop-place-init : goal.loop-place-init
loop-place-init c = none_from_none c.args.network.now c.args.flow.now c.args.from c.args.to

pub returns-then-is_some : goal.returns-then-is_some
returns-then-is_some c =
    let d = c.args.network.now in
    let p = c.place-item.result in
    let xs = c.places_from-place-items.result.now in
    let on = subst (λ (q : Place). Contains xs q) (sym c.place-item.is) (Contains-get_or xs c.loop-place.place-index p c.loop-place-test.true) in
    let listed = ((c.places_from-place-items.ensures.listed p).0 on).0 in
    let f = c.follower_between.ensures in
    let goes = found_on d c.args.number c.args.flow.now p c.args.from c.args.to c.follower_between.result (sym c.is_some.ensures ∙ c.if-is_some.true) f.from f.to f.goes c.requires.numbered ((c.requires.places.member p).0 listed) in
    (λ t. goes, λ g. refl)

pub loop-place-preserved : goal.loop-place-preserved
loop-place-preserved c =
    let d = c.args.network.now in
    let i = c.loop-place.place-index in
    let xs = c.places_from-place-items.result.now in
    let p = c.place-item.result in
    let more : take (i + 1) xs ≡ take i xs ++ p ∷ [] = take_more xs i p c.loop-place-test.true ∙ ap (λ q. take i xs ++ q ∷ []) (sym c.place-item.is) in
    rw more (none_from_more d c.args.number c.args.flow.now p c.args.from c.args.to (take i xs) c.follower_between.result (sym c.is_some.ensures ∙ c.if-is_some.false) c.follower_between.ensures.none c.loop-place.invariant)

pub returns : goal.returns
returns c =
    let d = c.args.network.now in
    let f = c.args.flow.now in
    let xs = c.places_from-place-items.result.now in
    let on : NoneFrom d f xs c.args.from c.args.to = rw (take_all c.loop-place.place-index xs (omega (arith, c.loop-place-test.false))) at c.loop-place.invariant in
    let none : NoneFrom d f c.args.places.now c.args.from c.args.to = λ p m at is. on p m ((c.places_from-place-items.ensures.listed p).1 (at, omega (arith, is))) is in
    (λ t. absurd (false≢true t), λ g. absurd (no_step d c.args.number f c.args.places.now c.requires.numbered c.requires.places c.args.from c.args.to none g))

pub returns-then-ne : goal.returns-then-ne
returns-then-ne c =
    let d = c.args.network.now in
    let f = c.args.flow.now in
    let i = c.loop-place.place-index in
    let p = c.place-item.result in
    let xs = c.places_from-place-items.result.now in
    let listed = c.places_from-place-items.ensures.listed in
    let on = subst (λ (q : Place). Contains xs q) (sym c.place-item.is) (Contains-get_or xs i p c.loop-place-test.true) in
    let after = all_after xs c.args.from c.places_from-place-items.ensures.order i p c.ne.result c.loop-place-test.true c.place-item.is ((listed p).0 on).1 c.ne.ensures c.if-ne.true in
    let past : NoneFrom d f xs c.args.from c.args.to = none_left d f xs i c.args.from c.args.to (omega (arith, c.loop-place-test.true)) after c.loop-place.invariant in
    let none : NoneFrom d f c.args.places.now c.args.from c.args.to = λ q m at is. past q m ((listed q).1 (at, omega (arith, is))) is in
    (λ t. absurd (false≢true t), λ g. absurd (no_step d c.args.number f c.args.places.now c.requires.numbered c.requires.places c.args.from c.args.to none g))

pub returns-then-not-is_marked : goal.returns-then-not-is_marked
returns-then-not-is_marked c =
    let marks = c.args.marks.now in
    let n = c.number.result in (
      λ t. absurd (false≢true t),
      λ g. absurd (unmarked c.args.network.now c.args.number c.args.flow.now c.args.places.now marks c.args.from c.args.to c.requires.numbered c.requires.places c.requires.marked (λ is.
          let set = subst (λ (k : ℕ). slice_get marks k ≡ Some true) (sym c.number.ensures) is in
          false≢true (sym c.if-not-is_marked.true ∙ c.is_marked.ensures ∙ get_or_from_slice_get marks n true false set)) g),
    )
