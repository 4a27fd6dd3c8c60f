-- What a cycle of dependencies uses of a network, and which changes touch none of it.
use Rattle.std.specs.Prelude.{◌≡◌, ◌⊎◌, ℕ, ◌+◌, ◌*◌, ◌<◌, ◌==◌, ◌||◌, All, Bool, Contains, List, Some, false, length, slice_get, slice_index, true, unwrap_or}
use Rattle.sw_topo.specs.declared.place.PlaceEnd.TheVariants.{Switch}
use Rattle.sw_route.specs.declared.look.Route.{Route}
use Rattle.sw_route.specs.Looks.{covers}
use Rattle.sw_config.specs.Entries.{Declaration, FlowEntry, ReplyEntry, all_flows, is_answered_at, reply_flow, reply_flows, routes_of}
use Rattle.sw_config.specs.Limits.{is_limited}
use Rattle.sw_flow.specs.declared.place.Place.{Place}
use Rattle.sw_flow.specs.Places.{end_of}
use Rattle.sw_search.specs.Cycles.{ByFlow, ByTarget, CauseEntry, CycleEntry, IsShown}
use Rattle.sw_mend.specs.Changes.{loses_entry, loses_flow, loses_reply, ports_after}
use Rattle.sw_mend.specs.declared.change.Change.{Change}
use Rattle.sw_mend.specs.declared.uses.Uses.{Uses}

-- ---- what is used

-- by the marks, a flow comes to that switch with that leading byte
abbrev pub is_used : List Bool → ℕ → ℕ → Bool
is_used bytes switch byte = unwrap_or (slice_get bytes (256 * switch + byte)) true

-- it is marked with which leading byte the flow comes to a switch by the place
abbrev pub IsByteUsed : Declaration → FlowEntry → List Bool → Place → Type 0
IsByteUsed d f bytes place =
    (s p : ℕ) → end_of d place.channel ≡ Some (Switch s p) → place.deleted < length f.address → is_used bytes s (slice_index f.address place.deleted) ≡ true

-- the reply flow of that number among them is that of the declared flow of the other number
pub record IsReplyOf (d : Declaration) (reply number : ℕ) : Type 0 where
  pub flow : FlowEntry
  pub entry : ReplyEntry
  pub declared : slice_get d.flows number ≡ Some flow
  pub replies : flow.reply ≡ Some entry
  pub there : slice_get (reply_flows d.flows) reply ≡ Some (reply_flow flow entry)

-- flow i of all flows is a declared one that is used, or the reply flow of one that has to keep its replies
abbrev pub IsFlowUsed : Declaration → ℕ → Uses → Type 0
IsFlowUsed d i uses =
    ((i < length d.flows) × Contains uses.flows.items i)
    ⊎ ((reply : ℕ) × (number : ℕ) × (i ≡ length d.flows + reply) × IsReplyOf d reply number × Contains uses.answered.items number)

-- the flow of that number has commands to the node, and no limit
pub record IsUnlimitedCommand (d : Declaration) (node number : ℕ) : Type 0 where
  pub flow : FlowEntry
  pub declared : slice_get d.flows number ≡ Some flow
  pub answered : is_answered_at node flow ≡ true
  pub unlimited : is_limited d.nodes flow ≡ false

-- those have all flows that end or start at the node
abbrev pub AreAllAt : Declaration → ℕ → List ℕ → Type 0
AreAllAt d node numbers =
    (number : ℕ) (f : FlowEntry) → slice_get d.flows number ≡ Some f → (f.to == node || f.from == node) ≡ true → Contains numbers number

-- a flow of commands to the target that is not limited is used, or, by their limits, all flows that end or start there
abbrev pub IsTargetUsed : Declaration → ℕ → Uses → Type 0
IsTargetUsed d node uses =
    ((number : ℕ) × IsUnlimitedCommand d node number × Contains uses.answered.items number) ⊎ ((uses.rests_on_limits ≡ true) × AreAllAt d node uses.answered.items)

-- flow i of all flows is used, and so are the leading bytes with which it comes to switches by these places
pub record IsWayUsed (d : Declaration) (uses : Uses) (i : ℕ) (places : List Place) (f : FlowEntry) : Type 0 where
  pub flow : IsFlowUsed d i uses
  pub bytes : All (IsByteUsed d f uses.bytes.items) places

-- all that the cause rests on is used
abbrev pub IsCauseUsed : Declaration → Uses → CauseEntry → Type 0
IsCauseUsed d uses (ByTarget node) = IsTargetUsed d node uses
IsCauseUsed d uses (ByFlow i places) = (f : FlowEntry) → slice_get (all_flows d) i ≡ Some f → IsWayUsed d uses i places f

-- the uses are those of some cycle that is shown of the network
abbrev pub AreOfACycle : Declaration → Uses → Type 0
AreOfACycle d uses = (cycle : CycleEntry) × IsShown d cycle × All (IsCauseUsed d uses) cycle.causes

-- ---- changes that touch nothing of it

-- the change takes none of these flows
abbrev pub SparesFlows : Declaration → Change → List ℕ → Type 0
SparesFlows d change numbers = (number : ℕ) (f : FlowEntry) → Contains numbers number → slice_get d.flows number ≡ Some f → loses_flow change number f ≡ false

-- and none of their replies
abbrev pub SparesReplies : Declaration → Change → List ℕ → Type 0
SparesReplies d change numbers = (number : ℕ) (f : FlowEntry) → Contains numbers number → slice_get d.flows number ≡ Some f → loses_reply change number f ≡ false

-- the change takes neither the entry nor a port of it
abbrev pub IsEntrySpared : Change → ℕ → ℕ → Type 0
IsEntrySpared change switch entry = (loses_entry change switch entry ≡ false) × ((set : ℕ) → ports_after change switch entry set ≡ set)

-- each entry for a byte with which a flow comes to the switch stays as it is
abbrev pub SparesLooks : Declaration → Change → List Bool → Type 0
SparesLooks d change bytes =
    (switch entry byte : ℕ) (r : Route) → slice_get (routes_of d.switches switch) entry ≡ Some r → covers byte r ≡ true → is_used bytes switch byte ≡ true
    → IsEntrySpared change switch entry

-- the change touches nothing that is used
pub record IsSpared (d : Declaration) (change : Change) (uses : Uses) : Type 0 where
  pub flows : SparesFlows d change uses.flows.items
  pub answered : SparesFlows d change uses.answered.items
  pub replies : SparesReplies d change uses.answered.items
  pub looks : SparesLooks d change uses.bytes.items

-- none of these flows is one of commands that the node answers, so that a split of the node moves none
abbrev pub SparesCommands : Declaration → ℕ → List ℕ → Type 0
SparesCommands d node numbers = (number : ℕ) (f : FlowEntry) → Contains numbers number → slice_get d.flows number ≡ Some f → is_answered_at node f ≡ false

-- a split of the node touches nothing that is used
pub record IsSplitSpared (d : Declaration) (node : ℕ) (uses : Uses) : Type 0 where
  pub flows : SparesCommands d node uses.flows.items
  pub answered : SparesCommands d node uses.answered.items
  pub limits : uses.rests_on_limits ≡ false

-- ---- what the functions say

-- those numbers stay
abbrev pub AreKept : List ℕ → List ℕ → Type 0
AreKept before after = (number : ℕ) → Contains before number → Contains after number

-- the declared flow of that number is among those, if it ends or starts at the node
abbrev pub IsAddedIfAt : Declaration → ℕ → ℕ → List ℕ → Type 0
IsAddedIfAt d node number numbers = (f : FlowEntry) → slice_get d.flows number ≡ Some f → (f.to == node || f.from == node) ≡ true → Contains numbers number

-- marks that are set stay set
abbrev pub MarksStay : List Bool → List Bool → Type 0
MarksStay before after = (switch byte : ℕ) → is_used before switch byte ≡ true → is_used after switch byte ≡ true

-- nothing that is used is forgotten
pub record UsesGrow (before after : Uses) : Type 0 where
  pub flows : AreKept before.flows.items after.flows.items
  pub answered : AreKept before.answered.items after.answered.items
  pub limits : before.rests_on_limits ≡ true → after.rests_on_limits ≡ true
  pub bytes : MarksStay before.bytes.items after.bytes.items

-- no flow comes to the switch with a byte that the entry of that number is for
abbrev pub IsEntryUnused : Declaration → ℕ → ℕ → List Bool → Type 0
IsEntryUnused d switch entry bytes =
    (byte : ℕ) (r : Route) → slice_get (routes_of d.switches switch) entry ≡ Some r → covers byte r ≡ true → is_used bytes switch byte ≡ false

-- the change touches nothing that one of the cycles uses
abbrev pub SparesOne : Declaration → Change → List Uses → Type 0
SparesOne d change cycles = (uses : Uses) × Contains cycles uses × IsSpared d change uses

-- a split of the node touches nothing that one of the cycles uses
abbrev pub SplitSparesOne : Declaration → ℕ → List Uses → Type 0
SplitSparesOne d node cycles = (uses : Uses) × Contains cycles uses × IsSplitSpared d node uses

-- neither of the two changes touches anything that one of the cycles uses
abbrev pub BothSpareOne : Declaration → Change → Change → List Uses → Type 0
BothSpareOne d first second cycles = (uses : Uses) × Contains cycles uses × IsSpared d first uses × IsSpared d second uses

-- each of them is of some cycle that is shown of the network
abbrev pub AreOfCycles : Declaration → List Uses → Type 0
AreOfCycles d cycles = All (AreOfACycle d) cycles
