use Rattle.std.proofs.Common.{None, ◌≡◌, ◌<◌, ◌++◌, ◌∷◌, [], get_or, length, refl, set, take, ap, sym, arith, ◌∙◌, ◌+◌}
use Rattle.std.specs.Prelude.{bit_or}
use Rattle.std.proofs.lemmas.Grind.{get_or_default_zero}
use Rattle.std.proofs.lemmas.List.{take_all, take_more}
use Rattle.sw_flow.specs.Faults.{fault_of}
use Rattle.sw_flow.specs.declared.place.Place.{Place}
use Rattle.sw_cycle.proofs.Naming.{added_more, added_none, added_one}
use Rattle.sw_cycle.proofs.Sound.{all_pushed, both_exact}
use Rattle.sw_cycle.proofs.named.add_places.Goals as goal

pub loop-place-preserved : goal.loop-place-preserved
loop-place-preserved c =
    let d = c.args.network.now in
    let f = c.args.flow.now in
    let xs = c.args.places.now in
    let i = c.loop-place.place-index in
    let item = c.place-item.result in
    let sets = c.loop-place.sets in
    let old = c.index-sets-channel.result in
    let named = c.named_at-ports in
    let listed = c.requires.inside i item c.loop-place-test.true in
    let inside : item.channel < length sets = omega (arith, listed, ap (λ (q : Place). q.channel) c.place-item.is, c.loop-place.auto.sets) in
    let at : c.from-channel.result ≡ item.channel = c.from-channel.ensures ∙ c.number.ensures in
    let was : old ≡ get_or sets item.channel 0 = c.index-sets-channel.is ∙ ap (λ k. get_or sets k old) at ∙ get_or_default_zero sets item.channel old inside in
    let both = c.union.ensures.value ∙ ap (λ n. bit_or n named.result.0) was in
    let one = added_one d f item sets c.from-channel.result named.result.0 c.union.result inside at named.ensures.ports both in
    let more : take (i + 1) xs ≡ take i xs ++ item ∷ [] = take_more xs i item c.loop-place-test.true ∙ ap (λ q. take i xs ++ q ∷ []) (sym c.place-item.is) in
    rw more (
      added_more d f (take i xs) item c.args.sets.now sets (set sets c.from-channel.result c.union.result) c.loop-place.invariant.0 one,
      let P : Place → Type 0 = λ p. fault_of d f p.channel p.deleted ≡ None in
          both_exact c.loop-place.all named.result.1 c.loop-place.invariant.1 named.ensures.sound (all_pushed P (take i xs) item),
    )

pub loop-place-init : goal.loop-place-init
loop-place-init c = (added_none c.args.network.now c.args.flow.now c.args.sets.now, (λ _ i q lt. absurd (omega (arith, lt)), λ _. refl))

pub bounds-sets-channel : goal.bounds-sets-channel
bounds-sets-channel c =
    let p = c.place-item in
    let listed = c.requires.inside c.loop-place.place-index p.result c.loop-place-test.true in
    omega (arith, listed, ap (λ (q : Place). q.channel) p.is, c.loop-place.auto.sets, c.from-channel.ensures, c.number.ensures)

pub named_at-ports-requires : goal.named_at-ports-requires
named_at-ports-requires c =
    let p = c.place-item in
    let listed = c.requires.inside c.loop-place.place-index p.result c.loop-place-test.true in
    omega (arith, listed, ap (λ (q : Place). q.channel) p.is, c.requires.size)

pub returns-clause-added : goal.returns-clause-added
returns-clause-added c = rw (take_all c.loop-place.place-index c.args.places.now c.loop-place-test.false) at c.loop-place.invariant.0

pub returns-clause-sound : goal.returns-clause-sound
returns-clause-sound c = rw (take_all c.loop-place.place-index c.args.places.now c.loop-place-test.false) at c.loop-place.invariant.1
