-- Nodes that take nothing while they want to send, and flows that are answered: what then waits, and whether the network stays free.
use Rattle.std.specs.Prelude.{◌≡◌, ◌↔◌, ℕ, zero, suc, ◌==◌, ◌&&◌, Bool, false, not, IsTrue, is_some, List, [], ◌∷◌, ◌++◌, filter, map, length, slice_get, if◌then◌else◌}
use Rattle.std.specs.List.{AllZip, list_all, range_with_len}
use Rattle.std.specs.Option.{option_map_or}
use Rattle.sw_topo.specs.Wiring.{out, partner}
use Rattle.sw_config.specs.Entries.{FlowEntry, Declaration, target_of}
use Rattle.sw_config.specs.Limits.{limit_at, may_make_wait}
use Rattle.sw_rmap.specs.Targets.{slots_of}
use Rattle.sw_flow.specs.declared.place.Place.{Place}
use Rattle.sw_flow.specs.Places.{ends_of}
use Rattle.sw_flow.specs.Followers.{followers_of}
use Rattle.sw_margin.specs.declared.bend.Bend.{Bend}
use Rattle.sw_margin.specs.Waits.{StaysFree}

-- ---- nodes

-- the nodes where nothing that comes may have to wait for a reply, in order
abbrev pub quiet_nodes : Declaration → List ℕ
quiet_nodes d = filter (λ n. not (may_make_wait d n)) (range_with_len 0 (length d.nodes))

-- the node takes nothing while it wants to send: what comes to it waits for what goes from it
abbrev pub stall : Declaration → ℕ → List (ℕ × ℕ)
stall d n = option_map_or (λ c. (partner c, c) ∷ []) (out (ends_of d) n) []

-- ---- flows

-- from a place on, again and again by the first of the places that follow, so many times at most
abbrev pub first_way : Declaration → FlowEntry → ℕ → Place → List Place
first_way d f zero p = []
first_way d f (suc n) p = option_map_or (λ q. q ∷ first_way d f n q) (slice_get (followers_of d f p.channel p.deleted) 0) []

-- the place of the flow's start, on that channel
abbrev pub start_on : ℕ → Place
start_on c = record { channel = c; deleted = 0 }

-- from the flow's start on so; nothing where there is no such channel
abbrev pub way_of : Declaration → FlowEntry → List Place
way_of d f = option_map_or (λ c. start_on c ∷ first_way d f (length (ends_of d)) (start_on c)) (out (ends_of d) f.from) []

-- from the place the flow goes on to one place at most
abbrev pub goes_on_to_one : Declaration → FlowEntry → Place → Bool
goes_on_to_one d f p = not (is_some (slice_get (followers_of d f p.channel p.deleted) 1))

-- so it does from each place of its way: no group is on it
abbrev pub goes_one_way : Declaration → FlowEntry → Bool
goes_one_way d f = list_all (goes_on_to_one d f) (way_of d f)

-- a flow without a reply that goes one way
abbrev pub is_answerable : Declaration → FlowEntry → Bool
is_answerable d f = not (is_some f.reply) && goes_one_way d f

-- such flows, in order
abbrev pub answerable : Declaration → List ℕ
answerable d = filter (λ i. option_map_or (is_answerable d) (slice_get d.flows i) false) (range_with_len 0 (length d.flows))

-- Replies go back over the links of a way of these channels: what is on its last channel waits for the other channel of that link,
-- and what is on the other channel of each link for that of the link before.
abbrev pub waits_back : List ℕ → List (ℕ × ℕ)
waits_back [] = []
waits_back (c ∷ []) = (c, partner c) ∷ []
waits_back (c ∷ e ∷ cs) = (partner e, partner c) ∷ waits_back (e ∷ cs)

-- the flow is answered, and its replies go back over the links of its way
abbrev pub answering : Declaration → FlowEntry → List (ℕ × ℕ)
answering d f = waits_back (map (λ p. p.channel) (way_of d f))

-- as many commands may be unanswered at node n as replies may be owed: it always takes what comes only if nothing else ends there
abbrev pub is_just_enough : Declaration → ℕ → Bool
is_just_enough d n = option_map_or (λ l. l == slots_of (target_of d.nodes n)) (limit_at d n) false

-- replies come to end at node n: from then on what comes there may have to wait for its own replies
abbrev pub with_replies : Declaration → ℕ → List (ℕ × ℕ)
with_replies d n = if is_just_enough d n then stall d n else []

-- the flow is answered so, and the replies end where it starts
abbrev pub answered : Declaration → FlowEntry → List (ℕ × ℕ)
answered d f = answering d f ++ with_replies d f.from

-- the same of the flow of that number
abbrev pub answering_at : Declaration → ℕ → List (ℕ × ℕ)
answering_at d i = option_map_or (answered d) (slice_get d.flows i) []

-- ---- what is told

-- it is of that number, and says whether the network stays free with these further waits
abbrev pub IsBend : Declaration → List (ℕ × ℕ) → ℕ → Bend → Type 0
IsBend d more n b = (b.number ≡ n) × (IsTrue b.stays_free ↔ StaysFree d more)

abbrev pub IsStall : Declaration → ℕ → Bend → Type 0
IsStall d n b = IsBend d (stall d n) n b

abbrev pub IsAnswer : Declaration → ℕ → Bend → Type 0
IsAnswer d i b = IsBend d (answering_at d i) i b

-- of each node where nothing that comes may have to wait for a reply: whether the network stays free if the node takes nothing while it
-- wants to send
abbrev pub AreStalls : Declaration → List Bend → Type 0
AreStalls d told = AllZip (IsStall d) (quiet_nodes d) told

-- of each flow without a reply that goes one way: whether the network stays free if it is answered, the replies going back over its links
abbrev pub AreAnswers : Declaration → List Bend → Type 0
AreAnswers d told = AllZip (IsAnswer d) (answerable d) told
