use Rattle.std.proofs.Common.{length}
use Rattle.sw_flow.specs.Places.{ends_of}
use Rattle.sw_search.specs.Verdicts.{depends}
use Rattle.sw_search.proofs.Ordered.{cycle_of, levels_of}
use Rattle.sw_search.proofs.deciding.verdict_by.Goals as goal

pub free-requires-clause-no_cycle : goal.free-requires-clause-no_cycle
free-requires-clause-no_cycle g c =
    let d = c.args.network.now in
    (levels_of (depends d) (length (ends_of d)) c.in_ok-levels-in-None.field-0 c.in-Levels.levels c.in-Levels.is c.in_ok-levels-in-None.ensures).0

pub free-requires-clause-levels : goal.free-requires-clause-levels
free-requires-clause-levels g c =
    let d = c.args.network.now in
    (levels_of (depends d) (length (ends_of d)) c.in_ok-levels-in-None.field-0 c.in-Levels.levels c.in-Levels.is c.in_ok-levels-in-None.ensures).1

pub cycle-requires-clause-shown : goal.cycle-requires-clause-shown
cycle-requires-clause-shown g c =
    let d = c.args.network.now in
    rw c.deref-in-Cycle-2.ensures.value (cycle_of (depends d) (length (ends_of d)) c.in_ok-levels-in-None.field-0 c.in-Cycle.members c.in-Cycle.is c.in_ok-levels-in-None.ensures).1

pub cycle-requires-clause-lists : goal.cycle-requires-clause-lists
cycle-requires-clause-lists g c = rw c.deref-in-Cycle.ensures.value c.requires.lists

pub cycle-requires-clause-routed : goal.cycle-requires-clause-routed
cycle-requires-clause-routed g c = rw c.in-None.is at c.in_ok-flow.ensures

pub free-requires-clause-lists : goal.free-requires-clause-lists
free-requires-clause-lists g c = c.requires.lists

pub free-requires-clause-routed : goal.free-requires-clause-routed
free-requires-clause-routed g c = rw c.in-None.is at c.in_ok-flow.ensures

pub returns-in-Levels : goal.returns-in-Levels
returns-in-Levels g c = c.free.ensures

pub returns-in_ok-cycle-in-Cycle : goal.returns-in_ok-cycle-in-Cycle
returns-in_ok-cycle-in-Cycle g c = c.in_ok-cycle-in-Cycle.ensures

pub first_misrouted-requires-clause-lists : goal.first_misrouted-requires-clause-lists
first_misrouted-requires-clause-lists g c κs outlives = rw c.deref.ensures.value c.requires.lists
