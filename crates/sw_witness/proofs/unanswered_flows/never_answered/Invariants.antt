use Rattle.std.proofs.Common.{◌≡◌, take}
use Rattle.sw_mend.specs.Changes.{by_number}
use Rattle.sw_witness.specs.Unanswered.{number_if}
use Rattle.sw_witness.proofs.unanswered_flows.never_answered.Given as goal

abbrev pub invariant-loop-number : goal.invariant-loop-number
invariant-loop-number l = l.numbers.items ≡ by_number number_if 0 (take l.number l.network.flows)
