use Rattle.std.proofs.Common.{◌≡◌, ◌+◌, ◌∷◌, List, drop, refl, sym, ◌∙◌, subst}
use Rattle.std.proofs.lemmas.Bool.{false≢true}
use Rattle.std.proofs.lemmas.List.{drop_all}
use Rattle.sw_flow.specs.declared.place.Place.{Place}
use Rattle.sw_flow.specs.Ways.{GoesOver}
use Rattle.sw_cycle.proofs.check.goes_over.Goals as goal
use Rattle.sw_topo.proofs.Lists.{next_at}

pub loop-place-init : goal.loop-place-init
loop-place-init c = record { on = λ goes. goes; back = λ goes. goes }

pub loop-place-preserved : goal.loop-place-preserved
loop-place-preserved c =
    let i = c.loop-place.place-index in
    let places = c.args.places.now in
    let next : drop i places ≡ c.place-item.result ∷ drop (i + 1) places = next_at places i c.place-item.result c.loop-place-test.true c.place-item.is in
    let Rest : List Place → Type 0 = GoesOver c.args.network.now c.args.flow.now c.loop-place.last in
    let known = c.loop-place.invariant in
    record {
      on = λ goes. (subst Rest next (known.on goes)).1;
      back = λ goes. known.back (subst Rest (sym next) (c.follows.ensures.0 c.if-not-follows.false, goes));
    }

pub returns-then-not-follows : goal.returns-then-not-follows
returns-then-not-follows c =
    let i = c.loop-place.place-index in
    let places = c.args.places.now in
    let next : drop i places ≡ c.place-item.result ∷ drop (i + 1) places = next_at places i c.place-item.result c.loop-place-test.true c.place-item.is in
    let Rest : List Place → Type 0 = GoesOver c.args.network.now c.args.flow.now c.loop-place.last in (
      λ t. absurd (false≢true t),
      λ goes. absurd (false≢true (sym c.if-not-follows.true ∙ c.follows.ensures.1 (subst Rest next (c.loop-place.invariant.on goes)).0)),
    )

pub returns : goal.returns
returns c =
    let Rest : List Place → Type 0 = GoesOver c.args.network.now c.args.flow.now c.loop-place.last in
    (λ _. c.loop-place.invariant.back (subst Rest (sym (drop_all c.loop-place.place-index c.args.places.now c.loop-place-test.false)) tt), λ _. refl)
