-- What single changes leave of a network, kind by kind, and what several take away.
use Rattle.std.specs.Prelude.{◌≡◌, ◌≢◌, ◌⊎◌, ◌↔◌, ℕ, ◌<◌, ◌==◌, ◌&&◌, ◌||◌, Bool, not, List, [], ◌∷◌, ◌++◌, IsBitSet, filter, length, map, None, if◌then◌else◌}
use Rattle.std.specs.List.{AllZip}
use Rattle.sw_route.specs.declared.look.Route.{Route}
use Rattle.sw_config.specs.Entries.{SwitchEntry, FlowEntry, Declaration}
use Rattle.sw_mend.specs.declared.change.Change.{Change}
use Rattle.sw_mend.specs.declared.change.Change.TheVariants.{WithoutReply, WithoutReplies, WithoutFlow, WithoutAnswers, WithoutPort, WithoutEntry, WithoutFlowsOf}
use Rattle.sw_mend.specs.Changes.{changed, changed_by_all, ports_but}

-- the flow without its reply
abbrev pub unanswered : FlowEntry → FlowEntry
unanswered f = record f { reply = None }

-- the flows, those that pass without their replies
abbrev pub all_unanswered : (FlowEntry → Bool) → List FlowEntry → List FlowEntry
all_unanswered test flows = map (λ f. if test f then unanswered f else f) flows

-- ---- each kind

-- What each change of flows leaves. A flow is told by how many flows stand before it.
pub record FlowChangesAre (d : Declaration) : Type 0 where
  pub reply : (before after : List FlowEntry) (f : FlowEntry) → d.flows ≡ before ++ f ∷ after → changed d (WithoutReply (length before)) ≡ record d { flows = before ++ unanswered f ∷ after }
  pub replies : (from to : ℕ) → changed d (WithoutReplies from to) ≡ record d { flows = all_unanswered (λ f. f.from == from && f.to == to) d.flows }
  pub flow : (before after : List FlowEntry) (f : FlowEntry) → d.flows ≡ before ++ f ∷ after → changed d (WithoutFlow (length before)) ≡ record d { flows = before ++ after }
  pub answers : (node : ℕ) → changed d (WithoutAnswers node) ≡ record d { flows = all_unanswered (λ f. f.to == node) d.flows }
  pub flows : (node : ℕ) → changed d (WithoutFlowsOf node) ≡ record d { flows = filter (λ f. not (f.from == node || f.to == node)) d.flows }

-- the network with that routing table in place of that of the switch that stands between those
abbrev pub with_table : Declaration → List SwitchEntry → SwitchEntry → List SwitchEntry → List Route → Declaration
with_table d before s after table = record d { switches = before ++ record s { routes = table } ∷ after }

-- What each change of a routing table leaves. The switch and the entry are told by how many stand before them.
pub record TableChangesAre (d : Declaration) (before after : List SwitchEntry) (s : SwitchEntry) (above below : List Route) (r : Route) : Type 0 where
  pub entry : changed d (WithoutEntry (length before) (length above)) ≡ with_table d before s after (above ++ below)
  pub port : (port : ℕ) → changed d (WithoutPort (length before) (length above) port) ≡ with_table d before s after (above ++ record r { ports = ports_but port r.ports } ∷ below)

abbrev pub FlowChangesInWords : Type 0
FlowChangesInWords = (d : Declaration) → FlowChangesAre d

abbrev pub TableChangesInWords : Type 0
TableChangesInWords =
    (d : Declaration) (before after : List SwitchEntry) (s : SwitchEntry) (above below : List Route) (r : Route)
    → d.switches ≡ before ++ s ∷ after → s.routes ≡ above ++ r ∷ below → TableChangesAre d before after s above below r

-- a set of ports without one of them has the others, 0 to 31
abbrev pub OtherPortsStay : Type 0
OtherPortsStay = (port set p : ℕ) → IsBitSet (ports_but port set) p ↔ ((p < 32) × IsBitSet set p × (p ≢ port))

-- ---- several

-- some elements of a list, in their order, each as the relation says
abbrev pub AreLeft : {A : Type 0} → (A → A → Type 0) → List A → List A → Type 0
AreLeft IsLeft [] left = left ≡ []
AreLeft IsLeft (x ∷ xs) left = AreLeft IsLeft xs left ⊎ ((y : _) × (rest : _) × (left ≡ y ∷ rest) × IsLeft x y × AreLeft IsLeft xs rest)

-- a flow as it was, or without its reply
abbrev pub IsFlowLeft : FlowEntry → FlowEntry → Type 0
IsFlowLeft f left = (left ≡ f) ⊎ (left ≡ unanswered f)

-- an entry as it was, or with fewer ports
abbrev pub IsEntryLeft : Route → Route → Type 0
IsEntryLeft r left = (left ≡ record r { ports = left.ports }) × ((p : ℕ) → IsBitSet left.ports p → IsBitSet r.ports p)

-- a switch with some entries of its routing table
abbrev pub IsSwitchLeft : SwitchEntry → SwitchEntry → Type 0
IsSwitchLeft s left = (left ≡ record s { routes = left.routes }) × AreLeft IsEntryLeft s.routes left.routes

-- nodes, links and switches stay, and of flows and tables nothing is added
pub record IsLeftOf (d left : Declaration) : Type 0 where
  pub nodes : left.nodes ≡ d.nodes
  pub links : left.links ≡ d.links
  pub switches : AllZip IsSwitchLeft d.switches left.switches
  pub flows : AreLeft IsFlowLeft d.flows left.flows

-- whatever changes are made, they only take away
abbrev pub ChangesTakeAway : Type 0
ChangesTakeAway = (d : Declaration) (changes : List Change) → IsLeftOf d (changed_by_all d changes)

-- of two changes it does not matter which is made first: each takes away what it names in the network as it was
abbrev pub ChangesCommute : Type 0
ChangesCommute = (d : Declaration) (first second : Change) → changed_by_all d (first ∷ second ∷ []) ≡ changed_by_all d (second ∷ first ∷ [])
