-- What a replay tells of the state that it ends in.
use Rattle.std.specs.Prelude.{◌≡◌, ◌↔◌, ◌<◌, ℕ, Bool, IsTrue, List, [], length, map, slice_index_or}
use Rattle.sw_machine.specs.Network.{Network}
use Rattle.sw_machine.specs.Packets.{Packet}
use Rattle.sw_machine.specs.Runs.{CameOut, IsLockedUp, undelivered}
use Rattle.sw_machine.specs.State.{State}
use Rattle.sw_schedule.specs.declared.replayed.ReplayEnd.{ReplayEnd}
use Rattle.sw_schedule.specs.declared.replayed.Replayed.{Replayed}

pub record Report : Type 0 where
  pub outcome : ReplayEnd
  pub remaining : ℕ  -- how many characters are undelivered
  pub stuck : Bool
  pub came_out : List (List Packet)  -- by node, in the order in which they came out

abbrev pub report_of : Replayed → Report
report_of r = record {
  outcome = r.outcome;
  remaining = r.undelivered;
  stuck = r.stuck;
  came_out = map (λ packets. packets.items) r.came_out.items;
}

-- for each node, the packets that came out there
pub record AreOutputs (net : Network) (s : State) (all : List (List Packet)) : Type 0 where
  pub each_node : length all ≡ net.nodes
  pub packets : (n : ℕ) → n < net.nodes → CameOut s n (slice_index_or all n [])

-- what the report tells is true of state s
pub record IsTrueOf (net : Network) (s : State) (r : Report) : Type 0 where
  pub counted : r.remaining ≡ undelivered net s
  pub locked_up : IsTrue r.stuck ↔ IsLockedUp net s
  pub outputs : AreOutputs net s r.came_out
