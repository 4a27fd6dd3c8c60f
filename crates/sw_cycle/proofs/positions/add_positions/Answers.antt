use Rattle.std.proofs.Common.{◌≡◌, ◌<◌, ℕ, ◌∙◌, ◌++◌, ◌∷◌, [], Vec, Global, ap, get_or, length, length-set, refl, set, subst, sym, arith}
use Rattle.std.proofs.lemmas.Option.{slice_get_read}
use Rattle.sw_graph.specs.Reversing.{AreAdded}
use Rattle.sw_cycle.specs.Positions.{ArePositions}
use Rattle.sw_cycle.proofs.Standing.{added_at, positions_more, positions_none}
use Rattle.sw_cycle.proofs.positions.add_positions.Goals as goal

pub loop-position-init : goal.loop-position-init
loop-position-init c = (refl, positions_none c.args.channels.now c.args.rows.now c.requires.empty)

pub bounds-rows-from : goal.bounds-rows-from
bounds-rows-from c =
    let channels = c.args.channels.now in
    let n = c.loop-position.position in
    let channel = c.index-channels-position in
    let listed = c.requires.inside n channel.result c.loop-position-test.true in
    omega (arith, listed, channel.is, c.loop-position.invariant.0, c.from.ensures, c.number.ensures)

pub loop-position-preserved : goal.loop-position-preserved
loop-position-preserved c =
    let channels = c.args.channels.now in
    let rows = c.loop-position.rows in
    let n = c.loop-position.position in
    let channel = c.index-channels-position.result in
    let row = c.index-rows-from in
    let new = c.push.new.self in
    let listed = c.requires.inside n channel c.loop-position-test.true in
    let inside : channel < length rows = omega (arith, listed, c.index-channels-position.is, c.loop-position.invariant.0) in
    let to = c.from.ensures ∙ c.number.ensures in
    let was = row.is ∙ ap (λ k. get_or rows k row.result) to in
    let push : new.items ≡ row.result.items ++ n ∷ [] = c.in_ok-push.ensures.items ∙ ap (λ (v : Vec ℕ Global). v.items ++ n ∷ []) (sym row.is) in
    let added = subst (λ (k : ℕ). AreAdded (channel ∷ []) n rows (set rows k new)) (sym to) (added_at rows channel n row.result new inside was push) in
    let at = slice_get_read channels (length channels) n channel refl c.loop-position-test.true c.index-channels-position.is in
    (length-set rows c.from.result new ∙ c.loop-position.invariant.0, positions_more channels n channel rows (set rows c.from.result new) c.loop-position.invariant.1 at added)

pub returns : goal.returns
returns c =
    let channels = c.args.channels.now in
    let all : c.loop-position.position ≡ length channels = omega (arith, c.loop-position-test.false, c.loop-position.auto.position-end) in
    subst (λ (n : ℕ). ArePositions channels n c.loop-position.rows) all c.loop-position.invariant.1
