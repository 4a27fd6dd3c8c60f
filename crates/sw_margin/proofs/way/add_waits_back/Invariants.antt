use Rattle.std.proofs.Common.{◌≡◌, ◌++◌, ◌-◌, length}
use Rattle.sw_flow.specs.Places.{ends_of}
use Rattle.sw_margin.specs.Bends.{answering}
use Rattle.sw_margin.proofs.Ways.{waits_from}
use Rattle.sw_margin.proofs.way.add_waits_back.Given as goal

abbrev pub invariant-loop : goal.invariant-loop
invariant-loop l = l.waits.items ++ waits_from l.network l.flow (length (ends_of l.network) - l.counter) l.place ≡ l.initial.waits.items ++ answering l.network l.flow
