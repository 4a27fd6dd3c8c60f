use Rattle.std.proofs.Common.{◌≡◌, ◌++◌, ◌∷◌, [], length, sym, ap, ◌∙◌, arith}
use Rattle.std.specs.List.{range_with_len}
use Rattle.sw_graph.proofs.Ranges.{range_more}
use Rattle.sw_graph.proofs.Peels.{rounds_none, peeled, free_inside, left_inside, none_left, round_fits, some_left}
use Rattle.sw_graph.proofs.RelationSteps.{round_step}
use Rattle.sw_graph.proofs.rounds.take_rounds.Goals as goal

pub loop-member-preserved : goal.loop-member-preserved
loop-member-preserved g c = c.in_ok-push.ensures.items ∙ ap (λ l. l ++ c.loop-member.member ∷ []) c.loop-member.invariant ∙ sym (range_more c.loop-member.member)

pub loop-left-init : goal.loop-left-init
loop-left-init g c =
    let n = length c.args.predecessors.now in
    let all : c.loop-member.member ≡ n = let low = c.loop-member-test.false in let high = c.loop-member.auto.member-end in omega arith in
    rw (c.requires.levels, c.requires.done, c.loop-member.invariant ∙ ap (range_with_len 0) all) (rounds_none c.args.predecessors.now)

pub free_members-requires-clause-inside : goal.free_members-requires-clause-inside
free_members-requires-clause-inside g c = rw c.deref.ensures.value (left_inside c.args.predecessors.now _ _ _ _ c.loop-left.invariant)

pub take_all-requires-clause-size : goal.take_all-requires-clause-size
take_all-requires-clause-size g c = let i = c.loop-left.invariant in i.numbered ∙ sym i.marked

pub take_all-requires-clause-inside : goal.take_all-requires-clause-inside
take_all-requires-clause-inside g c =
    let free = rw c.deref.ensures.value at c.in_ok-free.ensures in
    rw c.deref-in-loop-left.ensures.value (free_inside c.args.predecessors.now c.loop-left.round c.loop-left.levels c.loop-left.done c.loop-left.left.items c.in_ok-free.free.items c.loop-left.invariant free)

pub overflow_add-round : goal.overflow_add-round
overflow_add-round g c =
    let free = rw c.deref.ensures.value at c.in_ok-free.ensures in
    let some = some_left c.in_ok-free.free.len c.in_ok-free.free.items c.is_empty.result c.in_ok-free.free.ok.0 c.is_empty.ensures c.if-is_empty.false in
    omega (arith, round_fits c.args.predecessors.now c.loop-left.round c.loop-left.levels c.loop-left.done c.loop-left.left.items c.in_ok-free.free.items c.loop-left.invariant free some c.requires.few)

pub loop-left-smaller : goal.loop-left-smaller
loop-left-smaller g c =
    let free = rw c.deref.ensures.value at c.in_ok-free.ensures in
    let some = some_left c.in_ok-free.free.len c.in_ok-free.free.items c.is_empty.result c.in_ok-free.free.ok.0 c.is_empty.ensures c.if-is_empty.false in
    let taken = rw c.deref-in-loop-left.ensures.value at c.take_all.ensures in
    let step =
    round_step c.args.predecessors.now c.requires.graph c.loop-left.round c.loop-left.levels c.loop-left.done c.loop-left.left.items c.in_ok-free.free.items c.loop-left.invariant free some
    c.take_all.new.levels c.take_all.new.done c.drop_done.new.left.items c.take_all.auto.levels c.take_all.auto.done taken c.drop_done.ensures in
    step.1

pub loop-left-preserved : goal.loop-left-preserved
loop-left-preserved g c =
    let free = rw c.deref.ensures.value at c.in_ok-free.ensures in
    let some = some_left c.in_ok-free.free.len c.in_ok-free.free.items c.is_empty.result c.in_ok-free.free.ok.0 c.is_empty.ensures c.if-is_empty.false in
    let taken = rw c.deref-in-loop-left.ensures.value at c.take_all.ensures in
    let step =
    round_step c.args.predecessors.now c.requires.graph c.loop-left.round c.loop-left.levels c.loop-left.done c.loop-left.left.items c.in_ok-free.free.items c.loop-left.invariant free some
    c.take_all.new.levels c.take_all.new.done c.drop_done.new.left.items c.take_all.auto.levels c.take_all.auto.done taken c.drop_done.ensures in
    step.0

pub returns-then-is_empty : goal.returns-then-is_empty
returns-then-is_empty g c =
    let free = rw c.deref.ensures.value at c.in_ok-free.ensures in
    let none = none_left c.in_ok-free.free.len c.in_ok-free.free.items c.is_empty.result c.in_ok-free.free.ok.0 c.is_empty.ensures c.if-is_empty.true in
    peeled c.args.predecessors.now c.requires.graph c.loop-left.round c.loop-left.levels c.loop-left.done c.loop-left.left.items c.in_ok-free.free.items c.loop-left.invariant free none
