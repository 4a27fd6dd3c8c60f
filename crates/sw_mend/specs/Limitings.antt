-- How few commands may be unanswered for a network to be free, and how many replies its targets have to be able to owe.
use Rattle.std.specs.Prelude.{◌≡◌, ◌⊎◌, ℕ, zero, suc, ◌+◌, ◌≤◌, ◌==◌, ◌&&◌, Bool, not, is_some, List, [], ◌∷◌, ◌++◌, All, map, Option, Some, None, option_map, if◌then◌else◌}
use Rattle.std.specs.List.{list_any}
use Rattle.std.specs.Option.{option_map_or}
use Rattle.sw_rmap.specs.declared.config.TargetConfig.{TargetConfig}
use Rattle.sw_config.specs.Entries.{NodeEntry, ReplyEntry, FlowEntry, Declaration}
use Rattle.sw_config.specs.Limits.{all_limited_at, is_limited, limit_at, may_make_wait}
use Rattle.sw_search.specs.Laws.{RoutedAndFree}
use Rattle.sw_mend.specs.Changes.{by_number}
use Rattle.sw_mend.specs.declared.limiting.TargetSlots.{TargetSlots}

-- ---- flows that get a limit

-- the packets of the flow are commands that are answered, and any number of them may be unanswered
abbrev pub is_unlimited : List NodeEntry → FlowEntry → Bool
is_unlimited nodes f = is_some f.reply && not (is_limited nodes f)

-- the flow, of which at most that many commands may be unanswered at once; one that is limited stays
abbrev pub flow_limited : List NodeEntry → Option ℕ → FlowEntry → FlowEntry
flow_limited nodes most f =
    if is_limited nodes f then f else record f { reply = option_map (λ (r : ReplyEntry). record r { outstanding = most }) f.reply }

-- each unlimited flow so
abbrev pub limited_to : Declaration → Option ℕ → Declaration
limited_to d most = record d { flows = map (flow_limited d.nodes most) d.flows }

-- ---- targets that get more slots

-- how many replies the target of that node may owe: so many as are named for it, or as many as before
abbrev pub slots_after : List TargetSlots → ℕ → ℕ → ℕ
slots_after [] number before = before
slots_after (more ∷ others) number before = slots_after others number (if number == more.node then more.slots else before)

-- what the target of that node, if it has one, answers by
abbrev pub target_with : List TargetSlots → ℕ → Option TargetConfig → Option TargetConfig
target_with slots number target = option_map (λ (t : TargetConfig). record t { slots = slots_after slots number t.slots }) target

-- the node of that number so
abbrev pub node_with : List TargetSlots → ℕ → NodeEntry → List NodeEntry
node_with slots number n = record n { target = target_with slots number n.target } ∷ []

-- each node so; all else stays
abbrev pub with_slots : Declaration → List TargetSlots → Declaration
with_slots d slots = record d { nodes = by_number (node_with slots) 0 d.nodes }

-- the least slots with which a node where that many commands may be unanswered always takes what comes
abbrev pub slots_wanted : Declaration → ℕ → ℕ → ℕ
slots_wanted d n limit = if all_limited_at d n then limit else limit + 1

-- so many for a node that has a limit, and now may make others wait
abbrev pub slots_at : Declaration → ℕ → NodeEntry → List TargetSlots
slots_at d number n =
    option_map_or (λ limit. if may_make_wait d number then record { node = number; slots = slots_wanted d number limit } ∷ [] else []) (limit_at d number) []

-- of each node, in order
abbrev pub more_slots : Declaration → List TargetSlots
more_slots d = by_number (slots_at d) 0 d.nodes

-- what a target may have
abbrev pub IsSlots : TargetSlots → Type 0
IsSlots more = (1 ≤ more.slots) × (more.slots ≤ 64)

-- these, or none, where a target would need more than it may have
abbrev pub AreSlots : Declaration → Option (List TargetSlots) → Type 0
AreSlots d (Some slots) = (slots ≡ more_slots d) × All IsSlots slots
AreSlots d None = All IsSlots (more_slots d) → ⊥

-- ---- what is tried

-- how many commands of each unlimited flow may be unanswered, if there are such flows, and how many replies targets may owe
pub record Limiting : Type 0 where
  pub most : Option ℕ
  pub slots : List TargetSlots

-- what it leaves of the network
abbrev pub limited_by : Declaration → Limiting → Declaration
limited_by d limiting = with_slots (limited_to d limiting.most) limiting.slots

-- the limit alone
abbrev pub limit_alone : ℕ → Limiting
limit_alone most = record { most = Some most; slots = [] }

-- the limit, if one is asked for, and with it the slots with which each node that has a limit always takes what comes
abbrev pub limit_and_slots : Declaration → Option ℕ → Limiting
limit_and_slots d most = record { most = most; slots = more_slots (limited_to d most) }

-- from that number down to 1
abbrev pub down_from : ℕ → List ℕ
down_from zero = []
down_from (suc n) = suc n ∷ down_from n

-- limits from that number down to 1, and then 1 with slots
abbrev pub limits_from : Declaration → ℕ → List Limiting
limits_from d n = map limit_alone (down_from n) ++ limit_and_slots d (Some 1) ∷ []

-- a flow is unlimited
abbrev pub has_unlimited : Declaration → Bool
has_unlimited d = list_any (is_unlimited d.nodes) d.flows

-- where flows are unlimited the greatest limit first, which is 8; else slots alone
abbrev pub limitings : Declaration → List Limiting
limitings d = if has_unlimited d then limits_from d 8 else limit_and_slots d None ∷ []

-- each flow of the network that it leaves is well routed, no channels can wait for one another in a circle, and no target needs more than
-- 64 slots
abbrev pub FreesLimited : Declaration → Limiting → Type 0
FreesLimited d limiting = All IsSlots limiting.slots × RoutedAndFree (limited_by d limiting)

-- the first of those that are such, or none
abbrev pub IsFirst : {A : Type 0} → (A → Type 0) → List A → Option A → Type 0
IsFirst Is [] found = found ≡ None
IsFirst Is (x ∷ xs) found = (Is x × (found ≡ Some x)) ⊎ ((Is x → ⊥) × IsFirst Is xs found)

-- what frees the network first
abbrev pub IsLimiting : Declaration → Option Limiting → Type 0
IsLimiting d found = IsFirst (FreesLimited d) (limitings d) found
