use Rattle.std.proofs.Common.{◌≡◌, drop}
use Rattle.sw_flow.specs.Faults.{first_fault_of}
use Rattle.sw_flow.proofs.check.first_fault.Given as goal

abbrev pub invariant-loop-place : goal.invariant-loop-place
invariant-loop-place l = first_fault_of l.network l.entry (drop l.place-index l.places) ≡ first_fault_of l.network l.entry l.places
