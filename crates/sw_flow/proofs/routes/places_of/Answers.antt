use Rattle.std.proofs.Common.{◌≡◌, ℕ, ◌*◌, ◌/◌, ◌%◌, ◌<◌, ◌++◌, ◌∷◌, [], ◌∙◌, ap, map, sym, take}
use Rattle.std.proofs.lemmas.List.{map_more, take_all}
use Rattle.std.proofs.lemmas.List.Elements.{All-get_or}
use Rattle.sw_flow.specs.declared.place.Place.{Place}
use Rattle.sw_flow.proofs.routes.places_of.Goals as goal

pub place_of-requires-clause-below : goal.place_of-requires-clause-below
place_of-requires-clause-below c = All-get_or (λ n. n < 2048 * c.args.width) c.args.numbers.now c.loop-number.number-index 0 c.loop-number-test.true c.requires.below

pub loop-number-preserved : goal.loop-number-preserved
loop-number-preserved c =
    let at : ℕ → Place = λ n. record { channel = n / c.args.width; deleted = n % c.args.width } in
    let i = c.loop-number.number-index in
    let numbers = c.args.numbers.now in
    let pushed : c.push.new.self.items ≡ c.loop-number.places.items ++ c.place_of.result ∷ [] = c.in_ok-push.ensures.items in
    pushed
    ∙ ap (λ places. places ++ c.place_of.result ∷ []) c.loop-number.invariant
    ∙ ap (λ place. map at (take i numbers) ++ place ∷ []) c.place_of.ensures
    ∙ sym (map_more at numbers i 0 c.loop-number-test.true)

pub returns : goal.returns
returns c =
    let at : ℕ → Place = λ n. record { channel = n / c.args.width; deleted = n % c.args.width } in
    c.loop-number.invariant ∙ ap (map at) (take_all c.loop-number.number-index c.args.numbers.now c.loop-number-test.false)
