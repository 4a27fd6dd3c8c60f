use Rattle.sw_margin.specs.Needs.{AreLossesOf}
use Rattle.sw_margin.proofs.losing.losses.Given as goal

abbrev pub invariant-loop-number : goal.invariant-loop-number
invariant-loop-number l = AreLossesOf l.network l.number l.losses.items
