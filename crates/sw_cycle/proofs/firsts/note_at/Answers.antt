use Rattle.std.proofs.Common.{◌≡◌, ◌<◌, ◌∙◌, ℕ, None, ap, get_or, is_some, length, refl, sym, arith}
use Rattle.std.proofs.lemmas.List.{get_or_default}
use Rattle.sw_flow.specs.Places.{Follows}
use Rattle.sw_cycle.specs.declared.steps.PlaceStep.{PlaceStep}
use Rattle.sw_cycle.specs.Firsts.{IsTaken}
use Rattle.sw_cycle.proofs.Chosen.{as_round}
use Rattle.sw_cycle.proofs.Found.{found_at, known_at, nothing_at}
use Rattle.sw_cycle.proofs.firsts.note_at.Goals as goal

pub returns-then-is_some : goal.returns-then-is_some
returns-then-is_some c =
    let steps = c.args.steps.now in
    let i = c.args.position in
    let old = c.index-steps-position.result in
    let within : i < length steps = omega (arith, c.requires.inside, c.requires.size) in
    let was : get_or steps i None ≡ get_or steps i old = get_or_default steps i None old within in
    known_at c.args.network.now c.args.number c.args.flow.now c.args.place.now c.args.channels.now i steps (ap is_some was ∙ sym c.is_some.ensures ∙ c.if-is_some.true)

pub returns-in_default : goal.returns-in_default
returns-in_default c =
    let d = c.args.network.now in
    let f = c.args.flow.now in
    let p = c.args.place.now in
    let channels = c.args.channels.now in
    let steps = c.args.steps.now in
    let i = c.args.position in
    let from = c.index-channels-position in
    let to = c.index-channels-position-2 in
    let old = c.index-steps-position.result in
    let within : i < length steps = omega (arith, c.requires.inside, c.requires.size) in
    let was : get_or steps i None ≡ get_or steps i old = get_or_default steps i None old within in
    let last = as_round d channels i from.result to.result c.requires.inside from.is to.is (λ x y. p.channel ≡ x → (m : ℕ) → Follows d f p.channel p.deleted y m → ⊥) c.in_default.ensures.none in
    nothing_at d c.args.number f p channels i steps (ap is_some was ∙ sym c.is_some.ensures ∙ c.if-is_some.false) last

pub returns : goal.returns
returns c =
    let d = c.args.network.now in
    let n = c.args.number in
    let f = c.args.flow.now in
    let p = c.args.place.now in
    let channels = c.args.channels.now in
    let steps = c.args.steps.now in
    let i = c.args.position in
    let from = c.index-channels-position in
    let to = c.index-channels-position-2 in
    let old = c.index-steps-position.result in
    let within : i < length steps = omega (arith, c.requires.inside, c.requires.size) in
    let was : get_or steps i None ≡ get_or steps i old = get_or_default steps i None old within in
    let s : PlaceStep = record { flow = n; last = p; next = c.in-Some.next } in
    let taken : IsTaken d n f p from.result to.result s = record { flow = refl; last = refl; from = c.in-Some.ensures.from; to = c.in-Some.ensures.to; goes = c.in-Some.ensures.goes } in
    found_at d n f p channels i steps s (ap is_some was ∙ sym c.is_some.ensures ∙ c.if-is_some.false) (as_round d channels i from.result to.result c.requires.inside from.is to.is (λ x y. IsTaken d n f p x y s) taken)
