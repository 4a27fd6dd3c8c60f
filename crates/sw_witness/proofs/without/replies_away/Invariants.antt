use Rattle.std.proofs.Common.{◌≡◌, map, take}
use Rattle.sw_mend.specs.declared.change.Change.TheVariants.{WithoutReply}
use Rattle.sw_witness.proofs.without.replies_away.Given as goal

abbrev pub invariant-loop-flow : goal.invariant-loop-flow
invariant-loop-flow l = l.changes.items ≡ map WithoutReply (take l.flow-index l.flows)
