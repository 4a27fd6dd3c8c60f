use Rattle.std.proofs.Common.{List, length, ◌≡◌}
use Rattle.sw_history.proofs.draining.send_all.Given as goal
use Rattle.sw_history.specs.Turns.{TurnsLead}
use Rattle.sw_history.specs.Way.{IsOnTheWay}
use Rattle.sw_machine.specs.Steps.{Step}

abbrev pub invariant-loop : goal.invariant-loop
invariant-loop g l =
    (l.net.declared ≡ l.fn.net.declared)
    × (steps : List Step) × (length steps ≡ l.counter) × IsOnTheWay l.senders.load l.net l.begun l.unanswered steps l.moves × TurnsLead l.senders.load (goal.F-step g) l.fn.net l.fn.pick l.net steps l.pick
