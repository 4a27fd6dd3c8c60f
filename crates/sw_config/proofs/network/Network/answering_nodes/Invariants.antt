use Rattle.sw_config.proofs.Answering.{AreMarked}
use Rattle.sw_config.proofs.network.Network.answering_nodes.Given as goal

abbrev pub invariant-loop-number : goal.invariant-loop-number
invariant-loop-number l = AreMarked l.self l.number l.marks.items
