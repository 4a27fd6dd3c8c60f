use Rattle.sw_load.proofs.senders.add_places.Given as goal
use Rattle.sw_load.specs.Senders.{AreAdded}

abbrev pub invariant-loop : goal.invariant-loop
invariant-loop l = AreAdded l.node l.place l.counter l.fn.rows l.rows
