use Rattle.std.proofs.Common.{◌≡◌, filter, take}
use Rattle.sw_graph.specs.Walks.{holds}
use Rattle.sw_graph.proofs.together.in_both.Given as goal

abbrev pub invariant-loop-c : goal.invariant-loop-c
invariant-loop-c l = l.members.items ≡ filter (holds l.others) (take l.c-index l.numbers)
