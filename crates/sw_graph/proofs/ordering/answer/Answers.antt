use Rattle.std.proofs.Common.{length, ap, ◌∙◌, arith}
use Rattle.sw_graph.proofs.Cycles.{are_levels}
use Rattle.sw_graph.proofs.RelationSteps.{whole}
use Rattle.sw_graph.proofs.ordering.answer.Goals as goal

pub take_rounds-requires-clause-levels : goal.take_rounds-requires-clause-levels
take_rounds-requires-clause-levels g c = λ κs outlives. c.deref_mut.ensures.value ∙ c.in_ok-levels.ensures.items_if_clones_equal (λ y e. e)

pub take_rounds-requires-clause-done : goal.take_rounds-requires-clause-done
take_rounds-requires-clause-done g c = λ κs outlives. c.deref_mut-2.ensures.value ∙ c.in_ok-done.ensures.items_if_clones_equal (λ y e. e)

pub first_left-requires : goal.first_left-requires
first_left-requires g c =
    let made = c.in_ok-done.done in
    let done = whole made.len c.take_rounds.new.done made.items made.ok.0 (c.take_rounds.auto.done ∙ ap length c.deref_mut-2.ensures.value) in
    rw (c.deref.ensures.value, done) (let few = c.requires.few in let marked = c.in_ok-take_rounds.ensures.marked in omega arith)

pub returns-in_default : goal.returns-in_default
returns-in_default g c =
    let first = c.in_ok-levels.levels in
    let made = c.in_ok-done.done in
    let levels = whole first.len c.take_rounds.new.levels first.items first.ok.0 (c.take_rounds.auto.levels ∙ ap length c.deref_mut.ensures.value) in
    let done = whole made.len c.take_rounds.new.done made.items made.ok.0 (c.take_rounds.auto.done ∙ ap length c.deref_mut-2.ensures.value) in
    let all = rw (c.deref.ensures.value, done) at c.in_default.ensures in
    rw levels (are_levels c.args.predecessors.now c.requires.graph c.take_rounds.new.levels c.take_rounds.new.done c.in_ok-take_rounds.ensures all)

pub shown_cycle-requires-clause-peeled : goal.shown_cycle-requires-clause-peeled
shown_cycle-requires-clause-peeled g c =
    let made = c.in_ok-done.done in
    let done = whole made.len c.take_rounds.new.done made.items made.ok.0 (c.take_rounds.auto.done ∙ ap length c.deref_mut-2.ensures.value) in
    rw (c.deref-2.ensures.value, done) (c.take_rounds.new.levels, c.in_ok-take_rounds.ensures)

pub shown_cycle-requires-clause-first : goal.shown_cycle-requires-clause-first
shown_cycle-requires-clause-first g c =
    let first = rw c.deref.ensures.value at c.in-Some.ensures in
    rw c.deref-2.ensures.value first

pub returns : goal.returns
returns g c = c.in_ok-cycle.ensures
