use Rattle.sw_margin.specs.Needs.{AreAdded}
use Rattle.sw_margin.proofs.losing.add_flow.Given as goal

abbrev pub invariant-loop-link : goal.invariant-loop-link
invariant-loop-link l = AreAdded l.marks l.flow l.link l.fn.losses l.losses
