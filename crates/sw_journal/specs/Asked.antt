-- What can be asked of a journal.
use Rattle.std.specs.Prelude.{List, length, ℕ, ◌<◌, ◌≡◌}
use Rattle.sw_history.specs.Next.{AreKeptBack, MayFollow}
use Rattle.sw_journal.specs.Record.{JournalView, LeadsTo}
use Rattle.sw_load.specs.History.{IsWhole, packets_of}
use Rattle.sw_machine.specs.Packets.{Packet}
use Rattle.sw_machine.specs.Runs.{CameOut, IsLockedUp, undelivered}
use Rattle.sw_machine.specs.State.{State}
use Rattle.sw_machine.specs.Steps.{Step}
use Rattle.sw_machine.specs.Model.{network_of}

-- so many characters are undelivered in the state after the history
abbrev pub IsUndelivered : JournalView → ℕ → Type 0
IsUndelivered j count = (s : State) → LeadsTo j s → count ≡ undelivered (network_of j.declared) s

-- these packets came out at node n in the state after the history
abbrev pub BroughtOut : JournalView → ℕ → List Packet → Type 0
BroughtOut j n packets = (s : State) → LeadsTo j s → CameOut s n packets

-- so many replies does node n owe in the state after the history, if it is the network's
abbrev pub IsOwed : JournalView → ℕ → ℕ → Type 0
IsOwed j n count = n < length j.declared.nodes → (s : State) → LeadsTo j s → count ≡ s.owed n

-- the whole load is begun, and nothing is undelivered
pub record IsDrained (j : JournalView) : Type 0 where
  pub whole : IsWhole (network_of j.declared) (packets_of j.load) j.history
  pub delivered : IsUndelivered j 0

-- no step may be the next
abbrev pub IsStill : JournalView → Type 0
IsStill j = (step : Step) → MayFollow (network_of j.declared) (packets_of j.load) j.history step → ⊥

-- no step may be the next, and the state after the history is locked up
pub record IsStuck (j : JournalView) : Type 0 where
  pub still : IsStill j
  pub locked_up : (s : State) → LeadsTo j s → IsLockedUp (network_of j.declared) s

-- no step may be the next and nothing is undelivered, while something of the load is not begun
pub record IsWaiting (j : JournalView) : Type 0 where
  pub not_whole : IsWhole (network_of j.declared) (packets_of j.load) j.history → ⊥
  pub still : IsStill j
  pub delivered : IsUndelivered j 0

-- the next packet of each node that has one is kept back by the limit on unanswered commands
abbrev pub IsKeptBack : JournalView → Type 0
IsKeptBack j = (s : State) → LeadsTo j s → AreKeptBack (network_of j.declared) (packets_of j.load) j.history s
