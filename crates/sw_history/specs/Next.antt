-- What may come next in the history of a load.
use Rattle.std.specs.Prelude.{List, None, Option, Some, [], ℕ, ◌++◌, ◌∷◌, ◌≡◌}
use Rattle.sw_load.specs.History.{IsHistory, KeepsLimit, next_packet}
use Rattle.sw_machine.specs.Begun.{Begun}
use Rattle.sw_machine.specs.Network.{Network}
use Rattle.sw_machine.specs.Parts.{link_end_of}
use Rattle.sw_machine.specs.State.{State}
use Rattle.sw_machine.specs.Steps.{Begin, Step}

-- the steps with this one behind them are a history of the load too
abbrev pub MayFollow : Network → List Begun → List Step → Step → Type 0
MayFollow net packets steps step = (s : State) × IsHistory net packets (steps ++ step ∷ []) s

-- no step may follow that belongs to the link end where channel e starts, the beginning of a packet of the load included
abbrev pub IsIdle : Network → List Begun → List Step → ℕ → Type 0
IsIdle net packets steps e = (step : Step) → link_end_of net step ≡ e → MayFollow net packets steps step → ⊥

-- the node that begins a packet by the step, if it begins one
abbrev pub beginner_of : Network → Step → Option ℕ
beginner_of net (Begin flow cargo end) = Some (net.flow flow).from
beginner_of net step = None

-- the beginning of the packet
abbrev pub begin_of : Begun → Step
begin_of b = Begin b.flow b.cargo b.end

-- node n may begin its next packet
pub record BeginsOne (net : Network) (packets : List Begun) (steps : List Step) (n : ℕ) : Type 0 where
  pub packet : Begun
  pub from : (net.flow packet.flow).from ≡ n
  pub follows : MayFollow net packets steps (Begin packet.flow packet.cargo packet.end)

-- in state s after these steps the next packet of each node that has one is kept back by the limit on unanswered commands
abbrev pub AreKeptBack : Network → List Begun → List Step → State → Type 0
AreKeptBack net packets steps s = (n : ℕ) (b : Begun) → next_packet net packets steps n ≡ Some b → KeepsLimit net steps s (begin_of b) → ⊥
