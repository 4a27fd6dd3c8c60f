-- What in a network is probably a slip, although it is valid (this project's choice).
use Rattle.std.specs.Prelude.{◌≡◌, ℕ, ◌+◌, ◌*◌, ◌-◌, ◌==◌, ◌&&◌, ◌||◌, Bool, false, not, nat_lt, is_some, List, [], ◌∷◌, ◌++◌, filter, filter_map, find, flat_map, length, Option, Some, None, option_and_then, option_map, slice_get, if◌then◌else◌}
use Rattle.std.specs.List.{enumerate_from, list_any, range_with_len}
use Rattle.std.specs.Option.{option_map_or, option_to_list}
use Rattle.sw_topo.specs.Checked.{first_of}
use Rattle.sw_topo.specs.Ports.{ports_of}
use Rattle.sw_topo.specs.Wiring.{is_at_switch, is_port}
use Rattle.sw_route.specs.Looks.{covers}
use Rattle.sw_route.specs.declared.look.Route.{Route}
use Rattle.sw_config.specs.Entries.{FlowEntry, Declaration, routes_of, target_of}
use Rattle.sw_config.specs.Limits.{may_make_wait}
use Rattle.sw_flow.specs.Places.{end_of, ends_of}
use Rattle.sw_output.specs.LinkedPorts.{has_link}
use Rattle.sw_linter.specs.FlowPlaces.{FlowPlace, AreAllPlaces, leading_byte}
use Rattle.sw_linter.specs.declared.lint.Lint.{Lint}
use Rattle.sw_linter.specs.declared.lint.Lint.TheVariants.{NoFlows, UnusedNode, UnusedSwitch, UnusedTarget, UnusedEntry, OneLinkedPort, LeadsBack, Opposed, TwoInitiators, WrongInitiator, WrongTarget}

-- the first that is made of the elements, one after the other
abbrev pub first_made : {A B : Type 0} → (A → Option B) → List A → Option B
first_made make [] = None
first_made make (x ∷ xs) = first_of (make x) (first_made make xs)

-- what is made of each node, each switch and each link, by their numbers
abbrev pub by_nodes : Declaration → (ℕ → List Lint) → List Lint
by_nodes d make = flat_map make (range_with_len 0 (length d.nodes))

abbrev pub by_switches : Declaration → (ℕ → List Lint) → List Lint
by_switches d make = flat_map make (range_with_len 0 (length d.switches))

abbrev pub by_links : Declaration → (ℕ → List Lint) → List Lint
by_links d make = flat_map make (range_with_len 0 (length d.links))

-- what is made of each of these entries, by its number
abbrev pub made_of : (ℕ → Route → List Lint) → List Route → List Lint
made_of make routes = flat_map (λ e. make e.0 e.1) (enumerate_from 0 routes)

-- of those of the switch's table
abbrev pub by_entries : Declaration → (ℕ → Route → List Lint) → ℕ → List Lint
by_entries d make s = made_of make (routes_of d.switches s)

-- ---- what no flow uses

-- a flow is from the node
abbrev pub is_from : ℕ → FlowEntry → Bool
is_from n f = f.from == n

-- a flow is to the node
abbrev pub is_to : ℕ → FlowEntry → Bool
is_to n f = f.to == n

-- a declared flow is from the node or to it
abbrev pub is_used_node : Declaration → ℕ → Bool
is_used_node d n = list_any (is_from n) d.flows || list_any (is_to n) d.flows

abbrev pub unused_node : Declaration → ℕ → List Lint
unused_node d n = if is_used_node d n then [] else UnusedNode n ∷ []

-- the node is a target, and a flow is from it, but none is to it
abbrev pub is_idle_target : Declaration → ℕ → Bool
is_idle_target d n = is_some (target_of d.nodes n) && (list_any (is_from n) d.flows && not (list_any (is_to n) d.flows))

abbrev pub unused_target : Declaration → ℕ → List Lint
unused_target d n = if is_idle_target d n then UnusedTarget n ∷ [] else []

-- the place is on a channel that starts at the switch
abbrev pub starts_at : Declaration → ℕ → FlowPlace → Bool
starts_at d s v = option_map_or (is_at_switch s) (slice_get (ends_of d) v.place.channel) false

-- the place is on a channel that ends at the switch: packets come there
abbrev pub comes_to : Declaration → ℕ → FlowPlace → Bool
comes_to d s v = option_map_or (is_at_switch s) (end_of d v.place.channel) false

-- a flow goes over the switch
abbrev pub is_used_switch : Declaration → List FlowPlace → ℕ → Bool
is_used_switch d all s = list_any (starts_at d s) all || list_any (comes_to d s) all

abbrev pub unused_switch : Declaration → List FlowPlace → ℕ → List Lint
unused_switch d all s = if is_used_switch d all s then [] else UnusedSwitch s ∷ []

-- the leading byte there is one of the addresses of the entry
abbrev pub is_matched : Route → FlowPlace → Bool
is_matched r v = option_map_or (λ b. covers b r) (leading_byte v) false

-- packets that the entry is for come to the switch
abbrev pub is_used_entry : Declaration → List FlowPlace → ℕ → Route → Bool
is_used_entry d all s r = list_any (λ v. comes_to d s v && is_matched r v) all

abbrev pub unused_entry : Declaration → List FlowPlace → ℕ → ℕ → Route → List Lint
unused_entry d all s e r = if is_used_entry d all s r then [] else UnusedEntry s e ∷ []

-- of a switch that no flow goes over, its entries are not told
abbrev pub unused_entries : Declaration → List FlowPlace → ℕ → List Lint
unused_entries d all s = if is_used_switch d all s then by_entries d (unused_entry d all s) s else []

-- ---- groups

-- the entry's ports that have a link
abbrev pub linked : Declaration → ℕ → Route → List ℕ
linked d s r = filter (has_link d s) (ports_of r.ports)

-- there are several ports
abbrev pub is_group : List ℕ → Bool
is_group ports = nat_lt 1 (length ports)

-- the one element of a list of one
abbrev pub only : List ℕ → Option ℕ
only [] = None
only (p ∷ []) = Some p
only (p ∷ q ∷ ps) = None

-- the entry names several ports, of which one alone has a link
abbrev pub one_linked_port : Declaration → ℕ → ℕ → Route → List Lint
one_linked_port d s e r =
    if is_group (ports_of r.ports) then option_to_list (option_map (λ p. OneLinkedPort s e p) (only (linked d s r))) else []

-- packets come to the switch by that port, and lead with that byte
abbrev pub comes_by : Declaration → ℕ → ℕ → ℕ → FlowPlace → Bool
comes_by d s port byte v =
    option_map_or (is_port s port) (end_of d v.place.channel) false && option_map_or (λ b. b == byte) (leading_byte v) false

-- the first flow whose packets do
abbrev pub first_by : Declaration → List FlowPlace → ℕ → ℕ → ℕ → Option ℕ
first_by d all s port byte = option_map (λ v. v.number) (find (comes_by d s port byte) all)

-- the addresses of an entry, rising
abbrev pub addresses : Route → List ℕ
addresses r = range_with_len r.first (r.last + 1 - r.first)

-- the first flow whose packets come by that port, to the least address of the entry
abbrev pub back_by : Declaration → List FlowPlace → ℕ → Route → ℕ → Option ℕ
back_by d all s r port = first_made (first_by d all s port) (addresses r)

-- the first of the entry's ports by which packets come that it is for
abbrev pub first_back : Declaration → List FlowPlace → ℕ → ℕ → Route → Option Lint
first_back d all s e r = first_made (λ port. option_map (λ flow. LeadsBack s e port flow) (back_by d all s r port)) (ports_of r.ports)

-- several ports of the entry have links, and packets that it is for come by one of them
abbrev pub leads_back : Declaration → List FlowPlace → ℕ → ℕ → Route → List Lint
leads_back d all s e r = if is_group (linked d s r) then option_to_list (first_back d all s e r) else []

-- ---- targets on both sides of a link

-- the flow has a reply, and the place is on that channel
abbrev pub asks_on : ℕ → FlowPlace → Bool
asks_on c v = is_some v.flow.reply && v.place.channel == c

-- the flows go to two nodes, and what comes to one of the two may have to wait until it has sent a reply
abbrev pub can_block : Declaration → FlowPlace → FlowPlace → Bool
can_block d v w = not (w.flow.to == v.flow.to) && (may_make_wait d v.flow.to || may_make_wait d w.flow.to)

-- the first such flow with a reply that goes over that channel
abbrev pub first_opposed : Declaration → List FlowPlace → ℕ → ℕ → FlowPlace → Option Lint
first_opposed d all link c v = option_map (λ w. Opposed link v.number w.number) (find (λ w. asks_on c w && can_block d v w) all)

-- of the flows with replies that go over the link from its end a to its end b, the first for which such a one goes back
abbrev pub first_pair : Declaration → List FlowPlace → ℕ → Option Lint
first_pair d all link = first_made (first_opposed d all link (2 * link + 1)) (filter (asks_on (2 * link)) all)

abbrev pub opposed : Declaration → List FlowPlace → ℕ → List Lint
opposed d all link = option_to_list (first_pair d all link)

-- ---- logical addresses (ECSS-E-ST-50-52C, the fields of a command and of a reply)

-- the first of the address bytes that are left where packets of the flow end
abbrev pub left_byte : FlowEntry → Option ℕ
left_byte f = if f.left == 0 then None else slice_get f.address (length f.address - f.left)

-- the address is not the target's logical address
abbrev pub wrong_at : ℕ → ℕ → ℕ → Option Lint
wrong_at i address logical = if address == logical then None else Some (WrongTarget i address logical)

-- packets of the flow come to a target with an address that isn't its own
abbrev pub wrong_target : Declaration → ℕ → FlowEntry → Option Lint
wrong_target d i f = option_and_then (λ address. option_and_then (λ target. wrong_at i address target.logical) (target_of d.nodes f.to)) (left_byte f)

-- the address with which packets of the flow come to node n, if they do
abbrev pub address_to : ℕ → FlowEntry → Option ℕ
address_to n f = if f.to == n then left_byte f else None

-- the addresses that node n is known to have: its logical address as a target, and those with which flows come to it
abbrev pub known_addresses : Declaration → ℕ → List ℕ
known_addresses d n = option_to_list (option_map (λ target. target.logical) (target_of d.nodes n)) ++ filter_map (address_to n) d.flows

-- there are some, and this is none of them
abbrev pub is_none_of : List ℕ → ℕ → Bool
is_none_of [] address = false
is_none_of (x ∷ xs) address = not (list_any (λ own. own == address) (x ∷ xs))

abbrev pub is_stranger : Declaration → ℕ → ℕ → Bool
is_stranger d n address = is_none_of (known_addresses d n) address

-- replies of the flow go to an address that its node is not known to have; 254 is that of a node without one
abbrev pub wrong_initiator : Declaration → ℕ → FlowEntry → Option Lint
wrong_initiator d i f =
    option_and_then (λ r. if r.initiator == 254 || not (is_stranger d f.from r.initiator) then None else Some (WrongInitiator i r.initiator)) f.reply

-- the initiator address of flow g, if it goes from the same node to the same node as f and the address is another one
abbrev pub other_initiator : FlowEntry → ℕ → FlowEntry → Option ℕ
other_initiator f initiator g =
    option_and_then (λ r. if (g.from == f.from && g.to == f.to) && not (r.initiator == initiator) then Some r.initiator else None) g.reply

-- that of the flow of number j
abbrev pub differing : Declaration → ℕ → FlowEntry → ℕ → ℕ → Option Lint
differing d i f initiator j =
    option_map (λ one. TwoInitiators j i one initiator) (option_and_then (other_initiator f initiator) (slice_get d.flows j))

-- the first flow before this one that goes from the same node to the same node with another initiator address
abbrev pub two_initiators : Declaration → ℕ → FlowEntry → Option Lint
two_initiators d i f = option_and_then (λ r. first_made (differing d i f r.initiator) (range_with_len 0 i)) f.reply

-- what is made of the declared flow of that number
abbrev pub of_flow : Declaration → (Declaration → ℕ → FlowEntry → Option Lint) → ℕ → List Lint
of_flow d make i = option_to_list (option_and_then (make d i) (slice_get d.flows i))

-- of each declared flow
abbrev pub by_flows : Declaration → (Declaration → ℕ → FlowEntry → Option Lint) → List Lint
by_flows d make = flat_map (of_flow d make) (range_with_len 0 (length d.flows))

-- ---- all

abbrev pub addressed : Declaration → List Lint
addressed d = by_flows d wrong_target ++ (by_flows d wrong_initiator ++ by_flows d two_initiators)

abbrev pub unused : Declaration → List FlowPlace → List Lint
unused d all =
    by_nodes d (unused_node d)
    ++ (by_switches d (unused_switch d all) ++ (by_nodes d (unused_target d) ++ by_switches d (unused_entries d all)))

abbrev pub doubtful : Declaration → List FlowPlace → List Lint
doubtful d all =
    by_switches d (λ s. by_entries d (one_linked_port d s) s)
    ++ (by_switches d (λ s. by_entries d (leads_back d all s) s) ++ by_links d (opposed d all))

-- where there are no flows, that alone: all else would be unused
abbrev pub told_of : Declaration → List FlowPlace → List FlowEntry → List Lint
told_of d all [] = NoFlows ∷ []
told_of d all (f ∷ fs) = (unused d all ++ doubtful d all) ++ addressed d

-- all that is told of a network whose flows have these places, in this order
abbrev pub lints_of : Declaration → List FlowPlace → List Lint
lints_of d all = told_of d all d.flows

-- all that is told of a network
pub record AreLints (d : Declaration) (lints : List Lint) : Type 0 where
  pub all : List FlowPlace
  pub places : AreAllPlaces d all
  pub told : lints ≡ lints_of d all
