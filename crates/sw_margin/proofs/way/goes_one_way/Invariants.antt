use Rattle.std.proofs.Common.{◌≡◌, ◌-◌, length}
use Rattle.sw_flow.specs.Places.{ends_of}
use Rattle.sw_margin.specs.Bends.{goes_one_way}
use Rattle.sw_margin.proofs.Ways.{alone_from}
use Rattle.sw_margin.proofs.way.goes_one_way.Given as goal

abbrev pub invariant-loop : goal.invariant-loop
invariant-loop l = alone_from l.network l.flow (length (ends_of l.network) - l.counter) l.place ≡ goes_one_way l.network l.flow
