-- Limits on unanswered commands, and the runs that keep them (this project's choice).
use Rattle.std.specs.Prelude.{Bool, List, None, Some, [], count_by, false, is_some, nat_eq, ℕ, ◌&&◌, ◌++◌, ◌+◌, ◌-◌, ◌<◌, ◌∷◌, ◌≡◌, ◌≤◌}
use Rattle.sw_char.specs.declared.nchar.End.{End}
use Rattle.sw_machine.specs.Begun.{Begun, beginnings}
use Rattle.sw_machine.specs.Network.{IsNetwork, Network, left_bytes}
use Rattle.sw_machine.specs.Packets.{Packet}
use Rattle.sw_machine.specs.Runs.{CameOut, Run, undelivered}
use Rattle.sw_machine.specs.State.{State, empty}
use Rattle.sw_machine.specs.Steps.{Begin, Leads, Step, is_begin}

-- a command to node n that is answered there
abbrev pub is_command_to : Network → ℕ → Begun → Bool
is_command_to net n b = nat_eq (net.flow b.flow).to n && is_some (net.reply_to n (left_bytes net b.flow b.cargo))

-- the same of a packet that came out there
abbrev pub is_command_at : Network → ℕ → Packet → Bool
is_command_at net n p = is_some (net.reply_to n p.bytes)

-- what is unanswered at node n: the commands that were begun for it but for those that came out there, and the replies that it owes
abbrev pub unanswered : Network → ℕ → List Step → List Packet → State → ℕ
unanswered net n steps came s = (count_by (is_command_to net n) (beginnings steps) + s.owed n) - count_by (is_command_at net n) came

-- after these steps what is unanswered at node n is within its limit, if it has one
abbrev pub IsWithinLimit : Network → List Step → State → ℕ → Type 0
IsWithinLimit net steps s n = (limit : ℕ) (came : List Packet) → net.limit n ≡ Some limit → CameOut s n came → unanswered net n steps came s ≤ limit

-- each packet is begun only where what is then unanswered at the node where its flow ends, itself counted, is within that node's limit
abbrev pub KeepsLimits : Network → List Step → Type 0
KeepsLimits net steps = (before after : List Step) (flow : ℕ) (cargo : List ℕ) (end : End) (s : State) → before ++ Begin flow cargo end ∷ after ≡ steps → Run net (empty net) (before ++ Begin flow cargo end ∷ []) s → IsWithinLimit net (before ++ Begin flow cargo end ∷ []) s (net.flow flow).to

-- a run that keeps the limits leads there
abbrev pub IsReachedWithinLimits : Network → State → Type 0
IsReachedWithinLimits net s = (steps : List Step) × Run net (empty net) steps s × KeepsLimits net steps

abbrev pub HasNoLimits : Network → Type 0
HasNoLimits net = (n : ℕ) → net.limit n ≡ None

-- without limits each run keeps them
abbrev pub WithoutLimitsAllAreKept : Type 0
WithoutLimitsAllAreKept = (net : Network) → HasNoLimits net → (steps : List Step) → KeepsLimits net steps

-- no step but a beginning raises what is unanswered
abbrev pub OnlyBeginningsRaise : Type 0
OnlyBeginningsRaise = (net : Network) → IsNetwork net → (steps : List Step) (s : State) → Run net (empty net) steps s → (step : Step) (t : State) → is_begin step ≡ false → Leads net s step t → (n : ℕ) → n < net.nodes → (came now : List Packet) → CameOut s n came → CameOut t n now → unanswered net n (steps ++ step ∷ []) now t ≤ unanswered net n steps came s

-- where nothing is undelivered, nothing is unanswered
abbrev pub NothingIsUnanswered : Network → Type 0
NothingIsUnanswered net = (steps : List Step) (s : State) → Run net (empty net) steps s → undelivered net s ≡ 0 → (n : ℕ) → n < net.nodes → (came : List Packet) → CameOut s n came → unanswered net n steps came s ≡ 0

-- so after each step of a run that keeps the limits what is unanswered at each node is within its limit
abbrev pub KeptAfterEachStep : Type 0
KeptAfterEachStep = (net : Network) → IsNetwork net → (steps : List Step) (s : State) → Run net (empty net) steps s → KeepsLimits net steps → (n : ℕ) → n < net.nodes → IsWithinLimit net steps s n
