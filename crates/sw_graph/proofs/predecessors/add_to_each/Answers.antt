use Rattle.std.proofs.Common.{◌<◌, ℕ, length, take, get_or, sym, subst}
use Rattle.std.proofs.lemmas.List.{take_all, take_more}
use Rattle.std.proofs.lemmas.List.Elements.{All-get_or}
use Rattle.sw_graph.proofs.RelationSteps.{added_at, added_more}
use Rattle.sw_graph.proofs.predecessors.add_to_each.Goals as goal

pub loop-d-preserved : goal.loop-d-preserved
loop-d-preserved c =
    let xs = c.args.members.now in
    let i = c.loop-d.d-index in
    let d = get_or xs i 0 in
    let within = All-get_or (λ k. k < length c.args.rows.now) xs i 0 c.loop-d-test.true c.requires in
    let inside : d < length c.loop-d.rows = subst (λ (n : ℕ). d < n) (sym c.loop-d.invariant.size) within in
    let added = added_at c.loop-d.rows d c.from.result c.args.c c.index-rows-from.result c.push.new.self inside c.from.ensures c.in_ok-push.ensures.items in
    rw (take_more xs i 0 c.loop-d-test.true) (added_more (take i xs) d c.args.c c.args.rows.now c.loop-d.rows _ c.loop-d.invariant added)

pub returns : goal.returns
returns c = rw (take_all c.loop-d.d-index c.args.members.now c.loop-d-test.false) at c.loop-d.invariant
