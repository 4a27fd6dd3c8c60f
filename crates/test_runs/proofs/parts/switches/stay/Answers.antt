use Rattle.std.proofs.Common.{arith}
use Rattle.std.proofs.lemmas.List.Elements.{All-replicate}
use Rattle.sw_link.specs.Ends.{IsCapacity}
use Rattle.test_runs.proofs.parts.switches.stay.Goals as goal

pub new-requires-2-clause-capacities : goal.new-requires-2-clause-capacities
new-requires-2-clause-capacities c = All-replicate IsCapacity 32 64 (omega arith, omega arith)
