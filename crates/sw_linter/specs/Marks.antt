-- What is noted of the places of flows, in one pass over them, and what is told by it.
use Rattle.std.specs.Prelude.{◌≡◌, ℕ, ◌+◌, ◌*◌, ◌-◌, ◌==◌, ◌&&◌, ◌||◌, Bool, false, true, nat_lt, not, is_some, List, [], ◌∷◌, ◌++◌, flat_map, fold, length, Option, Some, None, option_and_then, option_map, replicate, slice_get, slice_index_or, slice_set, if◌then◌else◌}
use Rattle.std.specs.List.{list_any, range_with_len}
use Rattle.std.specs.Option.{option_to_list}
use Rattle.sw_graph.specs.Rounds.{is_marked}
use Rattle.sw_topo.specs.Checked.{first_of}
use Rattle.sw_topo.specs.Ports.{ports_of}
use Rattle.sw_topo.specs.Wiring.{out_of, partner}
use Rattle.sw_topo.specs.declared.place.PlaceEnd.{PlaceEnd}
use Rattle.sw_topo.specs.declared.place.PlaceEnd.TheVariants.{Node, Switch}
use Rattle.sw_route.specs.declared.look.Route.{Route}
use Rattle.sw_config.specs.Entries.{FlowEntry, Declaration, all_flows, target_of}
use Rattle.sw_config.specs.Limits.{may_make_wait}
use Rattle.sw_flow.specs.declared.place.Place.{Place}
use Rattle.sw_flow.specs.Places.{end_of, ends_of, IsPlaceList}
use Rattle.sw_linter.specs.FlowPlaces.{FlowPlace, AreFlowPlaces, leading_byte, places_of_flow}
use Rattle.sw_linter.specs.Lints.{addressed, by_entries, by_links, by_nodes, by_switches, first_made, is_group, linked, of_flow, one_linked_port, two_initiators, wrong_initiator, wrong_target}
use Rattle.sw_linter.specs.declared.addresses.AddressSlip.{AddressSlip}
use Rattle.sw_linter.specs.declared.addresses.AddressSlip.TheVariants.{Target, Initiator, Initiators}
use Rattle.sw_linter.specs.declared.asking.Asking.{Asking}
use Rattle.sw_linter.specs.declared.entries.EntrySlip.{EntrySlip}
use Rattle.sw_linter.specs.declared.entries.EntrySlip.TheVariants.{Unused, OneLinked, Back}
use Rattle.sw_linter.specs.declared.lint.Lint.{Lint}
use Rattle.sw_linter.specs.declared.slips.Slip.{Slip}
use Rattle.sw_linter.specs.declared.slips.Slip.TheVariants as slip
use Rattle.sw_linter.specs.declared.lint.Lint.TheVariants.{UnusedNode, UnusedSwitch, UnusedTarget, UnusedEntry, LeadsBack, Opposed}

-- ---- tables

-- the mark of that number is set, if there is one
abbrev pub marked : Option ℕ → List Bool → List Bool
marked None marks = marks
marked (Some k) marks = slice_set marks k true

-- what is noted at that number
abbrev pub note_at : {A : Type 0} → List (Option A) → ℕ → Option A
note_at notes k = slice_index_or notes k None

-- it is noted at that number, where nothing was
abbrev pub noted : {A : Type 0} → Option ℕ → A → List (Option A) → List (Option A)
noted None x notes = notes
noted (Some k) x notes = slice_set notes k (first_of (note_at notes k) (Some x))

-- ---- of nodes, by declared flows

-- for each node: whether a flow is from it, and whether one is to it
pub record NodeLists : Type 0 where
  pub from : List Bool
  pub to : List Bool

-- one flow more
abbrev pub with_flow : NodeLists → FlowEntry → NodeLists
with_flow m f = record { from = marked (Some f.from) m.from; to = marked (Some f.to) m.to }

-- no flow
abbrev pub no_nodes : Declaration → NodeLists
no_nodes d = record { from = replicate (length d.nodes) false; to = replicate (length d.nodes) false }

-- what is noted of all declared flows
abbrev pub nodes_of : Declaration → NodeLists
nodes_of d = fold with_flow (no_nodes d) d.flows

-- ---- of switches and channels, by places of flows

-- For each switch: whether a place is on a channel that starts there, and one that ends there; by the byte that packets lead with,
-- whether some come there. For each channel: by that byte, the first flow with a place on it; the first flow with a reply and a place
-- on it, and the first of those whose commands may have to wait elsewhere.
pub record MarkLists : Type 0 where
  pub starts : List Bool
  pub ends : List Bool
  pub arrivals : List Bool
  pub led : List (Option ℕ)
  pub asking : List (Option Asking)
  pub other : List (Option ℕ)

abbrev pub switch_at : Option PlaceEnd → Option ℕ
switch_at None = None
switch_at (Some (Node n)) = None
switch_at (Some (Switch s p)) = Some s

-- rows of 256, one number for each byte but 255, which no entry is for
abbrev pub in_row : Option ℕ → Option ℕ → Option ℕ
in_row None byte = None
in_row (Some r) None = None
in_row (Some r) (Some b) = if nat_lt b 255 then Some (256 * r + b) else None

abbrev pub start_key : Declaration → FlowPlace → Option ℕ
start_key d v = switch_at (slice_get (ends_of d) v.place.channel)

abbrev pub end_key : Declaration → FlowPlace → Option ℕ
end_key d v = switch_at (end_of d v.place.channel)

abbrev pub arrival_key : Declaration → FlowPlace → Option ℕ
arrival_key d v = in_row (end_key d v) (leading_byte v)

abbrev pub led_key : FlowPlace → Option ℕ
led_key v = in_row (Some v.place.channel) (leading_byte v)

abbrev pub asking_key : FlowPlace → Option ℕ
asking_key v = if is_some v.flow.reply then Some v.place.channel else None

-- the target where commands to node n may have to wait: none where it always takes what comes
abbrev pub waits_at : Declaration → ℕ → Option ℕ
waits_at d n = if may_make_wait d n then Some n else None

-- commands wait at one target, or none of them waits
abbrev pub is_same_wait : Option ℕ → Option ℕ → Bool
is_same_wait None None = true
is_same_wait None (Some n) = false
is_same_wait (Some m) None = false
is_same_wait (Some m) (Some n) = m == n

-- commands that wait there wait elsewhere than those of that flow
abbrev pub is_other : Option Asking → Option ℕ → Bool
is_other None wait = false
is_other (Some a) wait = not (is_same_wait wait a.waits_at)

abbrev pub asker : Declaration → FlowPlace → Asking
asker d v = record { number = v.number; waits_at = waits_at d v.flow.to }

abbrev pub other_key : Declaration → List (Option Asking) → FlowPlace → Option ℕ
other_key d asking v =
    if is_some v.flow.reply && is_other (note_at asking v.place.channel) (waits_at d v.flow.to) then Some v.place.channel else None

-- what is noted with one place more
abbrev pub with_place : Declaration → MarkLists → FlowPlace → MarkLists
with_place d m v = record {
  starts = marked (start_key d v) m.starts;
  ends = marked (end_key d v) m.ends;
  arrivals = marked (arrival_key d v) m.arrivals;
  led = noted (led_key v) v.number m.led;
  asking = noted (asking_key v) (asker d v) m.asking;
  other = noted (other_key d m.asking v) v.number m.other;
}

-- the part of it that is on the channel, if the flow has a reply
abbrev pub with_command : Declaration → MarkLists → ℕ → FlowEntry → ℕ → MarkLists
with_command d m number f channel = record m {
  asking = noted (if is_some f.reply then Some channel else None) (record { number = number; waits_at = waits_at d f.to }) m.asking;
  other = noted (if is_some f.reply && is_other (note_at m.asking channel) (waits_at d f.to) then Some channel else None) number m.other;
}

-- there is no place for a mark
abbrev pub no_rooms : MarkLists
no_rooms = record { starts = []; ends = []; arrivals = []; led = []; asking = []; other = [] }

-- nothing is noted
abbrev pub no_places : Declaration → MarkLists
no_places d = record {
  starts = replicate (length d.switches) false;
  ends = replicate (length d.switches) false;
  arrivals = replicate (256 * length d.switches) false;
  led = replicate (256 * length (ends_of d)) None;
  asking = replicate (length (ends_of d)) None;
  other = replicate (length (ends_of d)) None;
}

-- the places of the flow of that number are noted too
pub record IsFlowNoted (d : Declaration) (number : ℕ) (m after : MarkLists) : Type 0 where
  pub flow : FlowEntry
  pub numbered : slice_get (all_flows d) number ≡ Some flow
  pub places : List Place
  pub list : IsPlaceList d flow places
  pub noted : after ≡ fold (with_place d) m (places_of_flow number flow places)

-- the places of these flows, numbered from 0, are noted too
pub record AreNoted (d : Declaration) (flows : List FlowEntry) (m after : MarkLists) : Type 0 where
  pub all : List FlowPlace
  pub places : AreFlowPlaces d flows all
  pub noted : after ≡ fold (with_place d) m all

-- the places of all flows are noted
abbrev pub IsNoted : Declaration → MarkLists → Type 0
IsNoted d m = AreNoted d (all_flows d) (no_places d) m

-- ---- what is told by it

abbrev pub unused_node_by : NodeLists → ℕ → List Lint
unused_node_by m n = if is_marked m.from n || is_marked m.to n then [] else UnusedNode n ∷ []

abbrev pub unused_target_by : Declaration → NodeLists → ℕ → List Lint
unused_target_by d m n = if is_some (target_of d.nodes n) && (is_marked m.from n && not (is_marked m.to n)) then UnusedTarget n ∷ [] else []

abbrev pub is_used_by : MarkLists → ℕ → Bool
is_used_by m s = is_marked m.starts s || is_marked m.ends s

abbrev pub unused_switch_by : MarkLists → ℕ → List Lint
unused_switch_by m s = if is_used_by m s then [] else UnusedSwitch s ∷ []

-- the addresses of the entry, in the row of that number
abbrev pub row_of : ℕ → Route → List ℕ
row_of row r = range_with_len (256 * row + r.first) (r.last + 1 - r.first)

abbrev pub is_met_by : MarkLists → ℕ → Route → Bool
is_met_by m s r = list_any (is_marked m.arrivals) (row_of s r)

abbrev pub unused_entry_by : MarkLists → ℕ → ℕ → Route → List Lint
unused_entry_by m s e r = if is_used_by m s then (if is_met_by m s r then [] else UnusedEntry s e ∷ []) else []

-- the first flow to the least address of the entry, on that channel
abbrev pub first_led : MarkLists → Route → ℕ → Option ℕ
first_led m r c = first_made (note_at m.led) (row_of c r)

abbrev pub back_at : Declaration → MarkLists → ℕ → Route → ℕ → Option ℕ
back_at d m s r port = option_and_then (λ c. first_led m r (partner c)) (out_of (ends_of d) s port)

abbrev pub first_back_by : Declaration → MarkLists → ℕ → ℕ → Route → Option Lint
first_back_by d m s e r = first_made (λ port. option_map (λ flow. LeadsBack s e port flow) (back_at d m s r port)) (ports_of r.ports)

abbrev pub leads_back_by : Declaration → MarkLists → ℕ → ℕ → Route → List Lint
leads_back_by d m s e r = if is_group (linked d s r) then option_to_list (first_back_by d m s e r) else []

-- what is told of an entry, by what is looked for
abbrev pub entry_lint_by : Declaration → MarkLists → EntrySlip → ℕ → ℕ → Route → List Lint
entry_lint_by d m Unused = unused_entry_by m
entry_lint_by d m OneLinked = one_linked_port d
entry_lint_by d m Back = leads_back_by d m

-- of the first flows with replies both ways over the link, and the first ones whose commands may have to wait elsewhere
abbrev pub pair_of : ℕ → Option Asking → Option Asking → Option ℕ → Option ℕ → Option Lint
pair_of link None b other_a other_b = None
pair_of link (Some a) None other_a other_b = None
pair_of link (Some a) (Some b) other_a other_b =
    if is_same_wait b.waits_at a.waits_at then first_of (option_map (λ n. Opposed link a.number n) other_b) (option_map (λ n. Opposed link n b.number) other_a)
    else Some (Opposed link a.number b.number)

abbrev pub pair_by : MarkLists → ℕ → Option Lint
pair_by m link = pair_of link (note_at m.asking (2 * link)) (note_at m.asking (2 * link + 1)) (note_at m.other (2 * link)) (note_at m.other (2 * link + 1))

abbrev pub opposed_by : MarkLists → ℕ → List Lint
opposed_by m link = option_to_list (pair_by m link)

abbrev pub unused_by : Declaration → NodeLists → MarkLists → List Lint
unused_by d n m =
    by_nodes d (unused_node_by n)
    ++ (by_switches d (unused_switch_by m) ++ (by_nodes d (unused_target_by d n) ++ by_switches d (λ s. by_entries d (unused_entry_by m s) s)))

abbrev pub doubtful_by : Declaration → MarkLists → List Lint
doubtful_by d m =
    by_switches d (λ s. by_entries d (one_linked_port d s) s)
    ++ (by_switches d (λ s. by_entries d (leads_back_by d m s) s) ++ by_links d (opposed_by m))

-- what is told of the logical addresses of the flow of that number, by what is looked for
abbrev pub address_lint : Declaration → AddressSlip → ℕ → List Lint
address_lint d Target = of_flow d wrong_target
address_lint d Initiator = of_flow d wrong_initiator
address_lint d Initiators = of_flow d two_initiators

-- ---- one kind of slip after the other

-- how many nodes, switches, links or declared flows there are to look at
abbrev pub count_of : Declaration → Slip → ℕ
count_of d slip.Node = length d.nodes
count_of d slip.Switch = length d.switches
count_of d slip.Target = length d.nodes
count_of d (slip.Entry entry) = length d.switches
count_of d slip.Link = length d.links
count_of d (slip.Address address) = length d.flows

-- what is told of the one of that number
abbrev pub slip_at : Declaration → NodeLists → MarkLists → Slip → ℕ → List Lint
slip_at d n m slip.Node = unused_node_by n
slip_at d n m slip.Switch = unused_switch_by m
slip_at d n m slip.Target = unused_target_by d n
slip_at d n m (slip.Entry entry) = λ s. by_entries d (entry_lint_by d m entry s) s
slip_at d n m slip.Link = opposed_by m
slip_at d n m (slip.Address address) = address_lint d address

-- of all of them
abbrev pub slip_lints : Declaration → NodeLists → MarkLists → Slip → List Lint
slip_lints d n m kind = flat_map (slip_at d n m kind) (range_with_len 0 (count_of d kind))

-- all that is told by what is noted of all flows
pub record AreFound (d : Declaration) (lints : List Lint) : Type 0 where
  pub marks : MarkLists
  pub noted : IsNoted d marks
  pub told : lints ≡ (unused_by d (nodes_of d) marks ++ doubtful_by d marks) ++ addressed d
