-- The text of `explain` (this project's choice).
use Rattle.std.specs.Prelude.{◌≡◌, ◌<◌, ◌+◌, ◌-◌, ◌==◌, ◌&&◌, ◌||◌, ℕ, Bool, false, not, All, List, Vec, [], ◌∷◌, ◌++◌, Option, Some, None}
use Rattle.std.specs.Prelude.{codes, filter, flat_map, if◌then◌else◌, is_some, length, nat_lt, option_and_then, option_map, slice_get, take}
use Rattle.std.specs.Prelude.{unwrap_or}
use Rattle.std.specs.Option.{option_map_or}
use Rattle.std.specs.Fmt.{decimal}
use Rattle.std.specs.List.{range_with_len}
use Rattle.std.specs.declared.alloc.Global.{Global}
use Rattle.sw_config.specs.Entries.{Declaration, FlowEntry, all_flows, is_answered_at, target_of, wiring_of}
use Rattle.sw_config.specs.Limits.{flow_outstanding, is_limited, limit_at}
use Rattle.sw_cycle.specs.Cycles.{CauseEntry, CycleEntry, ByFlow, ByTarget, round}
use Rattle.sw_search.specs.declared.explanation.Explanation.{Explanation}
use Rattle.sw_search.specs.declared.explanation.Explanation.TheVariants.{Misrouted, Cyclic, Free}
use Rattle.sw_search.specs.declared.tangle.Tangle.{Tangle}
use Rattle.sw_flow.specs.declared.fault.RouteFault.{RouteFault}
use Rattle.sw_flow.specs.declared.fault.RouteFault.TheVariants.{AddressEnds, NoRoute, WrongNode, WrongLeft}
use Rattle.sw_flow.specs.declared.place.Place.{Place}
use Rattle.sw_graph.specs.Rows.{row}
use Rattle.sw_output.specs.ChannelTexts.{channel_text, node_name}
use Rattle.sw_output.specs.FlowTexts.{flow_name, route_fault_text}
use Rattle.sw_output.specs.Lines.{line, spaced}

-- ---- words

-- what ends a noun that counts so many
abbrev pub ending : ℕ → List ℕ
ending count = if count == 1 then [] else codes "s"

-- how many of the noun there are
abbrev pub counted : ℕ → List ℕ → List ℕ
counted count noun = spaced (decimal count ∷ (noun ++ ending count) ∷ [])

-- the number of a line that comes behind so many others
abbrev pub numbered : ℕ → List ℕ
numbered before = decimal (before + 1) ++ codes "."

-- ---- a flow that is not well routed

-- a channel, and what is deleted there
abbrev pub deleting_words : List ℕ → List ℕ → List ℕ
deleting_words channel deleted = channel ++ (codes ", with " ++ (deleted ++ codes " deleted"))

-- the channel of a place, and how many address bytes are deleted there
abbrev pub place_words : Declaration → Place → List ℕ
place_words d p = deleting_words (channel_text d p.channel) (counted p.deleted (codes "address byte"))

-- a place that packets of the flow go over, behind so many others
abbrev pub way_line : Declaration → ℕ → ℕ → Place → List ℕ
way_line d flow before p =
    line (numbered before ∷ codes "a packet of" ∷ flow_name d flow ∷ codes "goes on" ∷ place_words d p ∷ [])

-- a line for each place, those behind so many others
abbrev pub way_lines_from : Declaration → ℕ → ℕ → List Place → List ℕ
way_lines_from d flow before [] = []
way_lines_from d flow before (p ∷ ps) = way_line d flow before p ++ way_lines_from d flow (before + 1) ps

abbrev pub way_lines : Declaration → ℕ → List Place → List ℕ
way_lines d flow places = way_lines_from d flow 0 places

-- what is wrong where packets go no further
abbrev pub fault_words : RouteFault → List ℕ
fault_words AddressEnds = codes "a switch is reached with no address byte left"
fault_words NoRoute = codes "the switch has no linked port for the next address byte"
fault_words WrongNode = codes "a node is reached that is not the flow's 'to'"
fault_words WrongLeft = codes "the flow's 'to' is reached with another number of address bytes than 'left'"

abbrev pub fault_line : RouteFault → List ℕ
fault_line fault = line ((route_fault_text fault ++ codes ":") ∷ fault_words fault ∷ [])

-- the flow
abbrev pub misrouted_line : Declaration → ℕ → List ℕ
misrouted_line d flow = line (codes "misrouted" ∷ flow_name d flow ∷ [])

-- the flow, the places that its packets go over, and what is wrong at the last of them
abbrev pub misrouted_text : Declaration → ℕ → RouteFault → List Place → List ℕ
misrouted_text d flow fault way = misrouted_line d flow ++ (way_lines d flow way ++ fault_line fault)

-- ---- lists of flows

-- the flows that are named: all of them, or the first six
abbrev pub named : Bool → List ℕ → List ℕ
named all flows = if all then flows else take 6 flows

-- a text for each flow, with this between each two
abbrev pub joined : (ℕ → List ℕ) → List ℕ → List ℕ → List ℕ
joined text between [] = []
joined text between (flow ∷ flows) = text flow ++ flat_map (λ f. between ++ text f) flows

-- names of flows, with this between each two
abbrev pub joined_names : Declaration → List ℕ → List ℕ → List ℕ
joined_names d between flows = joined (flow_name d) between flows

-- with a comma between each two
abbrev pub names_text : Declaration → List ℕ → List ℕ
names_text d flows = joined_names d (codes ", ") flows

-- how many more there are
abbrev pub more_text : ℕ → List ℕ
more_text count = if count == 0 then [] else codes " and " ++ (decimal count ++ codes " more")

-- a text for each flow that is named, how many more there are, and the end of the list
abbrev pub listed : (ℕ → List ℕ) → Bool → List ℕ → List ℕ
listed text all flows = joined text (codes ", ") (named all flows) ++ (more_text (length flows - length (named all flows)) ++ codes ")")

-- all flows that make a step, where there are two or more
abbrev pub flows_text : Declaration → Bool → List ℕ → List ℕ
flows_text d all flows = if nat_lt (length flows) 2 then [] else codes " (flows " ++ listed (flow_name d) all flows

-- ---- commands that may be unanswered

-- the noun of so many replies
abbrev pub replies_noun : ℕ → List ℕ
replies_noun count = if count == 1 then codes "reply" else codes "replies"

-- so many replies
abbrev pub replies_text : ℕ → List ℕ
replies_text count = spaced (decimal count ∷ replies_noun count ∷ [])

-- how many commands may be unanswered, where None is any number of them
abbrev pub allowed_text : Option ℕ → List ℕ
allowed_text None = codes "any number of commands may be unanswered"
allowed_text (Some limit) = spaced (counted limit (codes "command") ∷ codes "may be unanswered" ∷ [])

-- how many replies node n may owe, if it is a target
abbrev pub slots_at : Declaration → ℕ → Option ℕ
slots_at d n = option_map (λ t. t.slots) (target_of d.nodes n)

-- The flow is told of at node n, which answers its packets: each such flow is where so many commands may be unanswered there, and else
-- those that are not limited, which are why any number may.
abbrev pub is_told_at : Declaration → ℕ → FlowEntry → Bool
is_told_at d n f = is_answered_at n f && (is_some (limit_at d n) || not (is_limited d.nodes f))

-- the same of a flow by its number
abbrev pub is_number_told : Declaration → ℕ → ℕ → Bool
is_number_told d n flow = option_map_or (is_told_at d n) (slice_get (all_flows d) flow) false

-- the numbers of these flows
abbrev pub told_commands : Declaration → ℕ → List ℕ
told_commands d n = filter (is_number_told d n) (range_with_len 0 (length (all_flows d)))

-- how many commands of the flow may be unanswered, if it has a limit of its own
abbrev pub own_limit : Declaration → ℕ → Option ℕ
own_limit d flow = option_and_then flow_outstanding (slice_get (all_flows d) flow)

-- its name, and then this limit
abbrev pub name_and_limit : Declaration → ℕ → List ℕ
name_and_limit d flow = flow_name d flow ++ option_map_or (λ limit. codes " " ++ decimal limit) (own_limit d flow) []

-- how many replies node n owes when it takes nothing, how many commands may be unanswered there, and the flows that say so
abbrev pub owed_text : Declaration → Bool → ℕ → List ℕ
owed_text d all n =
    replies_text (unwrap_or (slots_at d n) 1)
    ++ (codes ": " ++ (allowed_text (limit_at d n) ++ (codes " (" ++ listed (name_and_limit d) all (told_commands d n))))

-- ---- channels that may wait for one another

-- a flow's packet holds one channel until it gets another
abbrev pub holding_words : List ℕ → List ℕ → List ℕ → List ℕ
holding_words flow from to = spaced (codes "a packet of" ∷ flow ∷ codes "holds" ∷ from ∷ codes "and waits for" ∷ to ∷ [])

-- a target takes nothing from a channel while it owes so many replies
abbrev pub owing_words : List ℕ → List ℕ → List ℕ → List ℕ
owing_words node from owed = spaced (node ∷ codes "takes nothing from" ∷ from ∷ codes "while it owes" ∷ owed ∷ [])

-- what is waited for: that a packet gets the next channel, or that a target owes less
abbrev pub awaited : Declaration → Bool → ℕ → CauseEntry → List ℕ
awaited d all e (ByFlow flow places) = channel_text d e
awaited d all e (ByTarget node) = owed_text d all node

-- why a packet on one channel may wait for the next one
abbrev pub step_words : Declaration → Bool → ℕ → ℕ → CauseEntry → List ℕ
step_words d all c e (ByFlow flow places) = holding_words (flow_name d flow) (channel_text d c) (channel_text d e)
step_words d all c e (ByTarget node) = owing_words (node_name d node) (channel_text d c) (owed_text d all node)

-- the step from channel i of the cycle to the next one, by its cause
abbrev pub step_text : Declaration → Bool → CycleEntry → ℕ → List ℕ
step_text d all cycle i = option_map_or (step_words d all (round cycle.channels i) (round cycle.channels (i + 1))) (slice_get cycle.causes i) []

-- a step with its number and the flows that make it
abbrev pub numbered_line : List ℕ → List ℕ → List ℕ → List ℕ
numbered_line number step flows = number ++ (codes " " ++ (step ++ (flows ++ codes "\n")))

-- the line of channel i of the cycle
abbrev pub step_line : Declaration → Bool → CycleEntry → List (Vec ℕ Global) → ℕ → List ℕ
step_line d all cycle flows i = numbered_line (numbered i) (step_text d all cycle i) (flows_text d all (row flows i))

-- a line for each channel of the cycle
abbrev pub step_lines : Declaration → Bool → CycleEntry → List (Vec ℕ Global) → List ℕ
step_lines d all cycle flows = flat_map (step_line d all cycle flows) (range_with_len 0 (length cycle.channels))

-- how many channels a shortest cycle has
abbrev pub cycle_line : ℕ → List ℕ
cycle_line count = line (codes "shortest cycle:" ∷ counted count (codes "channel") ∷ [])

-- a tangle's shortest cycle
abbrev pub tangle_text : Declaration → Bool → Tangle → List ℕ
tangle_text d all t = cycle_line (length t.cycle.channels) ++ step_lines d all t.cycle t.flows.items

-- how many channels each tangle has, with a comma between each two
abbrev pub counts_text : List Tangle → List ℕ
counts_text [] = []
counts_text (t ∷ ts) = decimal t.channels ++ flat_map (λ (u : Tangle). codes ", " ++ decimal u.channels) ts

-- how many tangles there are, and of how many channels each
abbrev pub total_line : List Tangle → List ℕ
total_line ts = line (counted (length ts) (codes "tangle") ∷ codes "of" ∷ counts_text ts
    ∷ codes "channels; buffers and arbiters do not change this, limits on unanswered commands may" ∷ [])

abbrev pub tangles_text : Declaration → Bool → List Tangle → List ℕ
tangles_text d all ts = flat_map (tangle_text d all) ts ++ total_line ts

-- ---- all together

-- what it depends on where commands are limited, and what it never does
abbrev pub conditions : List ℕ
conditions =
    codes "buffers and arbiters do not change this; where the file limits unanswered commands, these limits have to be kept, "
    ++ codes "and others, or other slots, may change it"

-- that nothing can lock up, what that depends on, and what is taken for granted
abbrev pub free_text : List ℕ
free_text = line (codes "free" ∷ [])
    ++ (line (codes "no channels can wait for one another in a circle; swcheck decide writes the certificate" ∷ [])
    ++ (line (conditions ∷ [])
    ++ line (codes "taken for granted: nodes take what comes, sources end their packets, links lose and change nothing, only declared packets are sent" ∷ [])))

-- what is told of a network
abbrev pub explain_text : Declaration → Bool → Explanation → List ℕ
explain_text d all (Misrouted flow place fault way) = misrouted_text d flow fault way.items
explain_text d all (Cyclic tangles) = tangles_text d all tangles.items
explain_text d all Free = free_text

-- 0 where the network never locks up
abbrev pub explain_status : Explanation → ℕ
explain_status (Misrouted flow place fault way) = 1
explain_status (Cyclic tangles) = 1
explain_status Free = 0

-- ---- what has a text

-- the places are on channels of the network
abbrev pub AreOnChannels : Declaration → List Place → Type 0
AreOnChannels d places = All (λ p. p.channel < length (wiring_of d).ends) places

-- the cycle is one of the network's channels, with one cause and one list of flows for each
pub record IsOfChannels (d : Declaration) (t : Tangle) : Type 0 where
  pub within : All (λ c. c < length (wiring_of d).ends) t.cycle.channels
  pub caused : length t.cycle.causes ≡ length t.cycle.channels
  pub made : length t.flows.items ≡ length t.cycle.channels
