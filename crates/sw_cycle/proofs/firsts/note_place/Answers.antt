use Rattle.std.proofs.Common.{◌≡◌, ℕ, List, get_or, subst, take}
use Rattle.std.proofs.lemmas.List.{take_all, take_more}
use Rattle.std.proofs.lemmas.List.Elements.{Contains-get_or}
use Rattle.sw_cycle.proofs.Found.{ArePartly, partly_all, partly_more}
use Rattle.sw_cycle.proofs.firsts.note_place.Goals as goal

pub note_at-requires-clause-inside : goal.note_at-requires-clause-inside
note_at-requires-clause-inside c =
    let i = c.loop-position.position-index in
    let xs = c.args.positions.now in
    ((c.requires.positions (get_or xs i 0)).0 (Contains-get_or xs i 0 c.loop-position-test.true)).0

pub loop-position-preserved : goal.loop-position-preserved
loop-position-preserved c = λ places first.
    let i = c.loop-position.position-index in
    let xs = c.args.positions.now in
    let inside = ((c.requires.positions (get_or xs i 0)).0 (Contains-get_or xs i 0 c.loop-position-test.true)).0 in
    rw (take_more xs i 0 c.loop-position-test.true)
    (partly_more c.args.network.now c.args.number c.args.flow.now places c.args.place.now c.args.channels.now (take i xs) c.loop-position.steps c.note_at.new.steps (get_or xs i 0) c.requires.numbered c.requires.place inside c.note_at.ensures (c.loop-position.invariant places first))

pub returns : goal.returns
returns c = λ places first.
    let i = c.loop-position.position-index in
    let xs = c.args.positions.now in
    let all : take i xs ≡ xs = take_all i xs c.loop-position-test.false in
    let partly = subst (λ (l : List ℕ). ArePartly c.args.network.now c.args.number c.args.flow.now places c.args.place.now c.args.channels.now l c.loop-position.steps) all (c.loop-position.invariant places first) in
    partly_all c.args.network.now c.args.number c.args.flow.now places c.args.place.now c.args.channels.now xs c.loop-position.steps (λ k lt at. (c.requires.positions k).1 (lt, at)) partly
