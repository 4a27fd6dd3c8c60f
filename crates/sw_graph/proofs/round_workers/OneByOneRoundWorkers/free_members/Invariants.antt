use Rattle.std.proofs.Common.{take}
use Rattle.sw_graph.specs.Rounds.{AreFree}
use Rattle.sw_graph.proofs.round_workers.OneByOneRoundWorkers.free_members.Given as goal

abbrev pub invariant-loop-member : goal.invariant-loop-member
invariant-loop-member l = AreFree l.predecessors l.done (take l.member-index l.left) l.free.items
