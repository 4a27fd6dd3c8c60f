use Rattle.std.proofs.Common.{ℕ, ◌<◌}
use Rattle.sw_history.specs.Next.{IsIdle}
use Rattle.sw_journal.proofs.journal.Journal.is_still.Given as goal
use Rattle.sw_load.specs.History.{packets_of}
use Rattle.sw_machine.specs.Model.{network_of}

abbrev pub invariant-loop-number : goal.invariant-loop-number
invariant-loop-number l = (e : ℕ) → e < l.number → IsIdle (network_of l.self.declared) (packets_of l.self.load) l.self.history e
