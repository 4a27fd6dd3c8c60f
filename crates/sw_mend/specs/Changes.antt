-- Single changes of a network, and what each leaves of it, and several together.
use Rattle.std.specs.Prelude.{ℕ, ◌+◌, ◌==◌, Bool, false, not, ◌||◌, ◌&&◌, is_some, None, List, [], ◌∷◌, ◌++◌, count_by, filter, flat_map, map, length, nat_lt, slice_get, take, if◌then◌else◌}
use Rattle.std.specs.Option.{option_map_or}
use Rattle.sw_topo.specs.Ports.{port_set, ports_of}
use Rattle.sw_route.specs.declared.look.Route.{Route}
use Rattle.sw_config.specs.Entries.{NodeEntry, SwitchEntry, FlowEntry, Declaration}
use Rattle.sw_mend.specs.declared.change.Change.{Change}
use Rattle.sw_mend.specs.declared.change.Pair.{Pair}
use Rattle.sw_mend.specs.declared.change.Change.TheVariants.{WithoutReply, WithoutReplies, WithoutFlow, WithoutAnswers, WithoutPort, WithoutEntry, WithoutFlowsOf}

-- what is made of each element and its number, one after the other; the first element has that number
abbrev pub by_number : {A B : Type 0} → (ℕ → A → List B) → ℕ → List A → List B
by_number make number [] = []
by_number make number (x ∷ xs) = make number x ++ by_number make (number + 1) xs

-- what is made of the element of that number
abbrev pub made_at : {A B : Type 0} → (ℕ → A → List B) → List A → ℕ → List B
made_at make xs number = option_map_or (make number) (slice_get xs number) []

-- ---- what a change leaves of a flow

-- the flow of that number is taken away
abbrev pub loses_flow : Change → ℕ → FlowEntry → Bool
loses_flow (WithoutFlow gone) number f = number == gone
loses_flow (WithoutFlowsOf node) number f = f.from == node || f.to == node
loses_flow change number f = false

-- the flow of that number is no longer answered
abbrev pub loses_reply : Change → ℕ → FlowEntry → Bool
loses_reply (WithoutReply flow) number f = number == flow
loses_reply (WithoutReplies from to) number f = f.from == from && f.to == to
loses_reply (WithoutAnswers node) number f = f.to == node
loses_reply change number f = false

-- the flow of that number, with its reply or without
abbrev pub flow_kept : Change → ℕ → FlowEntry → FlowEntry
flow_kept change number f = record f { reply = if loses_reply change number f then None else f.reply }

-- what is left of the flow of that number
abbrev pub flow_after : Change → ℕ → FlowEntry → List FlowEntry
flow_after change number f = if loses_flow change number f then [] else flow_kept change number f ∷ []

-- ---- what a change leaves of a routing table

-- the entry of that number is taken out of that switch's table
abbrev pub loses_entry : Change → ℕ → ℕ → Bool
loses_entry (WithoutEntry from gone) switch entry = switch == from && entry == gone
loses_entry change switch entry = false

-- the ports of a set, but that one
abbrev pub ports_but : ℕ → ℕ → ℕ
ports_but port set = port_set (filter (λ p. not (p == port)) (ports_of set))

-- the ports that the entry of that number of that switch's table names
abbrev pub ports_after : Change → ℕ → ℕ → ℕ → ℕ
ports_after (WithoutPort at group port) switch entry set = if switch == at && entry == group then ports_but port set else set
ports_after change switch entry set = set

-- what is left of the entry of that number of that switch's table
abbrev pub route_after : Change → ℕ → ℕ → Route → List Route
route_after change switch entry r =
    if loses_entry change switch entry then [] else record r { ports = ports_after change switch entry r.ports } ∷ []

-- the switch of that number with what is left of its table
abbrev pub switch_after : Change → ℕ → SwitchEntry → List SwitchEntry
switch_after change switch s = record s { routes = by_number (route_after change switch) 0 s.routes } ∷ []

-- ---- what a change leaves of a network

-- nodes and links stay as they are
abbrev pub changed : Declaration → Change → Declaration
changed d change =
    record d { switches = by_number (switch_after change) 0 d.switches; flows = by_number (flow_after change) 0 d.flows }

-- ---- what several changes leave, one after the other: an element keeps its number

-- what is left of an element after the first change is given to the next
abbrev pub after_all : {A : Type 0} → (Change → A → List A) → List Change → A → List A
after_all after [] x = x ∷ []
after_all after (change ∷ changes) x = flat_map (after_all after changes) (after change x)

-- of the flow of that number
abbrev pub flow_after_all : List Change → ℕ → FlowEntry → List FlowEntry
flow_after_all changes number = after_all (λ change. flow_after change number) changes

-- of the entry of that number of that switch's table
abbrev pub route_after_all : List Change → ℕ → ℕ → Route → List Route
route_after_all changes switch entry = after_all (λ change. route_after change switch entry) changes

-- the switch of that number with what is left of its table
abbrev pub switch_after_all : List Change → ℕ → SwitchEntry → List SwitchEntry
switch_after_all changes switch s = record s { routes = by_number (route_after_all changes switch) 0 s.routes } ∷ []

-- nodes and links stay as they are
abbrev pub changed_by_all : Declaration → List Change → Declaration
changed_by_all d changes =
    record d { switches = by_number (switch_after_all changes) 0 d.switches; flows = by_number (flow_after_all changes) 0 d.flows }

-- ---- the changes that are tried

abbrev pub reply_away : ℕ → FlowEntry → List Change
reply_away number f = if is_some f.reply then WithoutReply number ∷ [] else []

-- the flow has a reply, and goes from the one node to the other
abbrev pub is_answered_between : ℕ → ℕ → FlowEntry → Bool
is_answered_between from to f = is_some f.reply && f.from == from && f.to == to

-- how many of the flows do
abbrev pub answered_between : ℕ → ℕ → List FlowEntry → ℕ
answered_between from to flows = count_by (is_answered_between from to) flows

-- the flow of that number is the first of two or more that have a reply and go from its one node to its other
abbrev pub is_first_of_several : List FlowEntry → ℕ → FlowEntry → Bool
is_first_of_several flows number f =
    is_some f.reply
    && answered_between f.from f.to (take number flows) == 0
    && nat_lt 1 (answered_between f.from f.to flows)

-- Of the first of such flows, for them all. Where there is one alone, that is `reply_away`.
abbrev pub replies_away : List FlowEntry → ℕ → FlowEntry → List Change
replies_away flows number f = if is_first_of_several flows number f then WithoutReplies f.from f.to ∷ [] else []

abbrev pub flow_away : ℕ → FlowEntry → List Change
flow_away number f = WithoutFlow number ∷ []

-- of a target
abbrev pub answers_away : ℕ → NodeEntry → List Change
answers_away number n = if is_some n.target then WithoutAnswers number ∷ [] else []

-- each port of a group, which has two ports or more
abbrev pub ports_away : ℕ → ℕ → Route → List Change
ports_away switch entry r =
    if nat_lt 1 (length (ports_of r.ports)) then map (λ port. WithoutPort switch entry port) (ports_of r.ports) else []

abbrev pub group_ports_away : ℕ → SwitchEntry → List Change
group_ports_away switch s = by_number (ports_away switch) 0 s.routes

abbrev pub entry_away : ℕ → ℕ → Route → List Change
entry_away switch entry r = WithoutEntry switch entry ∷ []

abbrev pub entries_away : ℕ → SwitchEntry → List Change
entries_away switch s = by_number (entry_away switch) 0 s.routes

abbrev pub flows_away : ℕ → NodeEntry → List Change
flows_away number n = WithoutFlowsOf number ∷ []

-- one reply; the replies of one node to another; one flow; the answers of one target; one port of one group; one table entry
abbrev pub parts_away : Declaration → List Change
parts_away d =
    by_number reply_away 0 d.flows
    ++ by_number (replies_away d.flows) 0 d.flows
    ++ by_number flow_away 0 d.flows
    ++ by_number answers_away 0 d.nodes
    ++ by_number group_ports_away 0 d.switches
    ++ by_number entries_away 0 d.switches

-- the flows of one unit
abbrev pub units_away : Declaration → List Change
units_away d = by_number flows_away 0 d.nodes

-- All that is tried of what can be taken away: each kind by the numbers of what is taken away.
abbrev pub removals : Declaration → List Change
removals d = parts_away d ++ units_away d

-- each of the changes with each one after it, in the order of the first and then of the second
abbrev pub pairs_of : List Change → List Pair
pairs_of [] = []
pairs_of (first ∷ changes) = map (λ second. record { first = first; second = second }) changes ++ pairs_of changes
