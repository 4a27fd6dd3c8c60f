-- What an outcome says.
use Rattle.std.specs.Prelude.{List, Some, length, map, slice_get, ℕ, ◌<◌, ◌≡◌, ◌≤◌}
use Rattle.sw_journal.specs.Next.{AreKeptBack, MayFollow}
use Rattle.sw_load.specs.History.{IsHistory, IsWhole, packets_of}
use Rattle.sw_load.specs.Load.{LoadEntry}
use Rattle.sw_machine.specs.Begun.{Begun}
use Rattle.sw_machine.specs.Network.{Network}
use Rattle.sw_machine.specs.Packets.{Packet}
use Rattle.sw_machine.specs.Runs.{CameOut, IsLockedUp, undelivered}
use Rattle.sw_machine.specs.State.{State}
use Rattle.sw_machine.specs.Steps as machine
use Rattle.sw_machine.specs.Model.{network_of}
use Rattle.sw_config.specs.Entries.{Declaration}
use Rattle.sw_run.specs.declared.outcome.Outcome.{Outcome}
use Rattle.sw_run.specs.declared.outcome.Stop.TheVariants.{Drained, JournalFull, Memory, Stuck, Waiting}

-- the steps of the history, as steps of the machine
abbrev pub steps_of : Outcome → List machine.Step
steps_of o = o.history

-- the packets that came out, a list for each node
abbrev pub came_out_of : Outcome → List (List Packet)
came_out_of o = map (λ packets. packets.items) o.came_out.items

-- no step may follow these, the beginning of a packet of the load included
abbrev pub NothingFollows : Network → List Begun → List machine.Step → Type 0
NothingFollows net packets steps = (step : machine.Step) → MayFollow net packets steps step → ⊥

-- a list for each node, of the packets that came out there
pub record AreOut (nodes : ℕ) (s : State) (lists : List (List Packet)) : Type 0 where
  pub all_nodes : length lists ≡ nodes
  pub out : (n : ℕ) (packets : List Packet) → slice_get lists n ≡ Some packets → CameOut s n packets

-- The run is not over: something of the load is to be begun or delivered, some step may follow or the network is not locked up, and some step may
-- follow where something is to be begun and nothing is undelivered.
pub record IsUnfinished (d : Declaration) (load : List LoadEntry) (o : Outcome) (s : State) : Type 0 where
  pub not_drained : IsWhole (network_of d) (packets_of load) (steps_of o) → o.undelivered ≡ 0 → ⊥
  pub not_stuck : IsLockedUp (network_of d) s → NothingFollows (network_of d) (packets_of load) (steps_of o) → ⊥
  pub not_waiting : (IsWhole (network_of d) (packets_of load) (steps_of o) → ⊥) → o.undelivered ≡ 0 → NothingFollows (network_of d) (packets_of load) (steps_of o) → ⊥

-- nothing is undelivered, something of the load was not begun, and no step may follow: each node's next packet is kept back by the limit
pub record IsKeptWaiting (d : Declaration) (load : List LoadEntry) (o : Outcome) (s : State) : Type 0 where
  pub delivered : o.undelivered ≡ 0
  pub not_whole : IsWhole (network_of d) (packets_of load) (steps_of o) → ⊥
  pub nothing_follows : NothingFollows (network_of d) (packets_of load) (steps_of o)
  pub kept_back : AreKeptBack (network_of d) (packets_of load) (steps_of o) s

-- The history is one of the load, no longer than the limit, and what the outcome tells is so in the state after it: what came out at each
-- node, and how many characters are undelivered. Drained: the whole load was begun, and nothing is undelivered. Stuck: the network is locked
-- up, and no step may follow. Waiting: nothing is undelivered, something of the load was not begun, and no step may follow, since the next packet
-- of each node that has one is kept back by the limit on unanswered commands. JournalFull: the history is as long as the limit. Memory: it is
-- shorter. Both are told only of a run that is at none of the ends before.
pub record IsOutcome (d : Declaration) (load : List LoadEntry) (limit : ℕ) (o : Outcome) : Type 0 where
  pub state : State
  pub history : IsHistory (network_of d) (packets_of load) (steps_of o) state
  pub within : length o.history ≤ limit
  pub came_out : AreOut (length d.nodes) state (came_out_of o)
  pub undelivered : o.undelivered ≡ undelivered (network_of d) state
  pub drained : o.stop ≡ Drained → IsWhole (network_of d) (packets_of load) (steps_of o) × (o.undelivered ≡ 0)
  pub stuck : o.stop ≡ Stuck → IsLockedUp (network_of d) state × NothingFollows (network_of d) (packets_of load) (steps_of o)
  pub waiting : o.stop ≡ Waiting → IsKeptWaiting d load o state
  pub full : o.stop ≡ JournalFull → (length o.history ≡ limit) × IsUnfinished d load o state
  pub memory : o.stop ≡ Memory → (length o.history < limit) × IsUnfinished d load o state
