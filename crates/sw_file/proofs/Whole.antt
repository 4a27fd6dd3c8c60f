-- What an entry is where all of its readings went well.
use Rattle.std.proofs.Common.{length-append, ap, ◌∙◌, ◌≡◌, ◌≤◌, ◌<◌, ◌+◌, ◌-◌, ℕ, false, Bool, List, [], ◌∷◌, ◌++◌, length, Option, Some, Ok, Err, refl, Fits, w8, w16, w32, w64, arith}
use Rattle.std.specs.Prelude.{nat_lt, position, IfSome}
use Rattle.std.specs.Str.{bytes_eq}
use Rattle.std.proofs.lemmas.Bool.{lt-ltb, ltb-true, le-leb, lt-leb, false_from_ne_true}
use Rattle.toml.specs.Data.{Members}
use Rattle.sw_topo.specs.declared.place.PlaceEnd.{PlaceEnd}
use Rattle.sw_topo.specs.declared.place.PlaceEnd.TheVariants as ends
use Rattle.sw_route.specs.declared.look.Route.{Route as RouteEntry}
use Rattle.sw_arb.specs.declared.arbitration.Arbitration.{Arbitration}
use Rattle.sw_rmap.specs.declared.config.TargetConfig.{TargetConfig}
use Rattle.sw_config.specs.Entries.{Declaration, NodeEntry, SwitchEntry, part_names}
use Rattle.sw_text.specs.declared.keys.Key.{Key}
use Rattle.sw_text.specs.declared.keys.Key.TheVariants.{Target, Logical, TargetKey, Start, Size, Slots, Outstanding, Address, Last, Delete, A, APort, B, BPort, Buffer, BufferA, BufferB}
use Rattle.sw_text.specs.declared.keys.Section.{Section}
use Rattle.sw_text.specs.declared.keys.Section.TheVariants as section
use Rattle.sw_text.specs.declared.keys.Version.{Version}
use Rattle.sw_text.specs.declared.fault.KeyFault.TheVariants.{OutOfRange}
use Rattle.sw_text.specs.declared.fault.TextFault.{TextFault}
use Rattle.sw_text.specs.declared.fault.TextFault.TheVariants as fault
use Rattle.sw_text.specs.Table.{only_known, absent, text_at, number_at, number_or, number_or_none, table_or_none, flag_or_false}
use Rattle.sw_text.specs.SectionKeys.{node_keys, target_keys, switch_keys, route_keys, link_keys}
use Rattle.sw_file.specs.Keys.{most_slots}
use Rattle.sw_file.specs.Names.{new_name, place_at}
use Rattle.sw_file.specs.Nodes.{size_at, config_of, target_or_none, node_of, next_node}
use Rattle.sw_file.specs.Switches.{arbitration_at, ports_at, route_of, routes_at, switch_of, next_switch}
use Rattle.sw_file.specs.Links.{end_at, link_of, next_link}

pub fits_byte : (n most : ℕ) → n ≤ most → most ≤ 255 → Fits w8 n
fits_byte n most le few = omega (arith, le, few)

pub fits_two_bytes : (n most : ℕ) → n ≤ most → most ≤ 65535 → Fits w16 n
fits_two_bytes n most le few = omega (arith, le, few)

pub fits_window : (start size : ℕ) → start ≤ 1099511627775 → size ≤ 65536 → Fits w64 (start + size)
fits_window start size low few = omega (arith, low, few)

pub fits_size : (size : ℕ) → size ≤ 65536 → Fits w32 size
fits_size size few = omega (arith, few)

pub fits_sum : (a b : ℕ) → a < 65536 → b < 65536 → Fits w64 (a + b)
fits_sum a b small few = omega (arith, small, few)

pub fits_below : (n most : ℕ) → n < most → most < 65536 → Fits w16 n
fits_below n most below few = omega (arith, below, few)

pub below_next : (n most : ℕ) → n ≤ most → n < most + 1
below_next n most le = omega (arith, le)

-- a place among the nodes and the switches, of which there are as many as were counted
pub fits_rest : (place count more nodes switches : ℕ) → count ≡ nodes → more ≡ switches → place < nodes + switches → more < 65536 → Fits w16 (place - count)
fits_rest place count more nodes switches counted told below few = omega (arith, counted, told, below, few)

pub none_past : (place count more nodes switches : ℕ) → count ≡ nodes → more ≡ switches → place < nodes + switches → count + more ≤ place → ⊥
none_past place count more nodes switches counted told below past = omega (arith, counted, told, below, past)

pub size_is : (i start size : ℕ) (ms : Members) → number_at (section.Target i) Size 1 65536 ms ≡ Ok size → start + size ≤ 1099511627776 → size_at i start ms ≡ Ok size
unfolding size_at
size_is i start size ms at_size window = rw (at_size, le-leb (start + size) 1099511627776 window) refl

pub config_is : (version : Version) (i : ℕ) (ms : Members) (keys : List Key) (u : Unit {0}) (logical key start size most slots : ℕ) → keys ≡ target_keys version → most ≡ most_slots version → only_known (section.Target i) keys ms ≡ Ok u
    → number_at (section.Target i) Logical 32 254 ms ≡ Ok logical → number_or (section.Target i) TargetKey 0 255 0 ms ≡ Ok key → number_or (section.Target i) Start 0 1099511627775 0 ms ≡ Ok start
    → size_at i start ms ≡ Ok size → number_or (section.Target i) Slots 1 most 1 ms ≡ Ok slots
    → config_of version i ms ≡ Ok (record { logical = logical; key = key; start = start; size = size; slots = slots })
unfolding config_of
config_is version i ms keys u logical key start size most slots same few known at_logical at_key at_start at_size at_slots =
    let known_so : only_known (section.Target i) (target_keys version) ms ≡ Ok u = rw same at known in
    let slots_so : number_or (section.Target i) Slots 1 (most_slots version) 1 ms ≡ Ok slots = rw few at at_slots in
    rw (known_so, at_logical, at_key, at_start, at_size, slots_so) refl

pub config_refused : (version : Version) (i : ℕ) (ms : Members) (keys : List Key) (u : Unit {0}) (logical key start size : ℕ) → keys ≡ target_keys version → only_known (section.Target i) keys ms ≡ Ok u
    → number_at (section.Target i) Logical 32 254 ms ≡ Ok logical → number_or (section.Target i) TargetKey 0 255 0 ms ≡ Ok key → number_or (section.Target i) Start 0 1099511627775 0 ms ≡ Ok start
    → number_at (section.Target i) Size 1 65536 ms ≡ Ok size → 1099511627776 < start + size → config_of version i ms ≡ Err (fault.Key OutOfRange (section.Target i) Size)
unfolding config_of size_at
config_refused version i ms keys u logical key start size same known at_logical at_key at_start at_size past =
    let known_so : only_known (section.Target i) (target_keys version) ms ≡ Ok u = rw same at known in
    rw (known_so, at_logical, at_key, at_start, at_size, lt-leb (start + size) 1099511627776 past) refl

-- a node's target, where it has a table for it
module _ (version : Version) (i : ℕ) (s : Section) (ms t : Members) where
  pub target_is : (config : TargetConfig) → s ≡ section.Node i → table_or_none s Target ms ≡ Ok (Some t) → config_of version i t ≡ Ok config → target_or_none version i ms ≡ Ok (Some config)
  unfolding target_or_none
  target_is config at there well = rw (← at, there, well) refl

  pub target_refused : (fault : TextFault) → s ≡ section.Node i → table_or_none s Target ms ≡ Ok (Some t) → config_of version i t ≡ Err fault → target_or_none version i ms ≡ Err fault
  unfolding target_or_none
  target_refused fault at there refused = rw (← at, there, refused) refl

pub route_is : (version : Version) (s : Section) (ms : Members) (keys : List Key) (u : Unit {0}) (first last ports : ℕ) (delete : Bool) → keys ≡ route_keys version → only_known s keys ms ≡ Ok u
    → number_at s Address 32 254 ms ≡ Ok first → number_or s Last first 254 first ms ≡ Ok last → ports_at s ms ≡ Ok ports → flag_or_false s Delete ms ≡ Ok delete
    → route_of version s ms ≡ Ok (record { first = first; last = last; ports = ports; delete = delete })
unfolding route_of
route_is version s ms keys u first last ports delete same known at_first at_last at_ports at_delete =
    let known_so : only_known s (route_keys version) ms ≡ Ok u = rw same at known in
    rw (known_so, at_first, at_last, at_ports, at_delete) refl

pub link_is : (version : Version) (i : ℕ) (d : Declaration) (ms : Members) (keys : List Key) (u : Unit {0}) (a b : PlaceEnd) (buffer buffer_a buffer_b : ℕ) → keys ≡ link_keys version → only_known (section.Link i) keys ms ≡ Ok u
    → end_at (section.Link i) A APort (length d.nodes) (part_names d) ms ≡ Ok a → end_at (section.Link i) B BPort (length d.nodes) (part_names d) ms ≡ Ok b
    → number_or (section.Link i) Buffer 8 4096 64 ms ≡ Ok buffer → number_or (section.Link i) BufferA 8 4096 buffer ms ≡ Ok buffer_a → number_or (section.Link i) BufferB 8 4096 buffer ms ≡ Ok buffer_b
    → next_link version i d ms ≡ Ok (record d { links = d.links ++ record { a = a; b = b; buffer_a = buffer_a; buffer_b = buffer_b } ∷ [] })
unfolding link_of next_link
link_is version i d ms keys u a b buffer buffer_a buffer_b same known at_a at_b at_buffer at_buffer_a at_buffer_b =
    let known_so : only_known (section.Link i) (link_keys version) ms ≡ Ok u = rw same at known in
    rw (known_so, at_a, at_b, at_buffer, at_buffer_a, at_buffer_b) refl

pub node_is : (version : Version) (i : ℕ) (d : Declaration) (ms : Members) (keys : List Key) (u : Unit {0}) (name : List ℕ) (target : Option TargetConfig) (outstanding : Option ℕ) → keys ≡ node_keys version → only_known (section.Node i) keys ms ≡ Ok u
    → new_name (section.Node i) (part_names d) ms ≡ Ok name → target_or_none version i ms ≡ Ok target → number_or_none (section.Node i) Outstanding 1 65535 ms ≡ Ok outstanding
    → next_node version i d ms ≡ Ok (record d { nodes = d.nodes ++ record { name = name; target = target; outstanding = outstanding } ∷ [] })
unfolding node_of next_node
node_is version i d ms keys u name target outstanding same known at_name at_target at_outstanding =
    let known_so : only_known (section.Node i) (node_keys version) ms ≡ Ok u = rw same at known in
    rw (known_so, at_name, at_target, at_outstanding) refl

pub switch_is : (version : Version) (i : ℕ) (d : Declaration) (ms : Members) (u : Unit {0}) (name : List ℕ) (arbitration : Arbitration) (routes : List RouteEntry) → only_known (section.Switch i) switch_keys ms ≡ Ok u
    → new_name (section.Switch i) (part_names d) ms ≡ Ok name → arbitration_at i ms ≡ Ok arbitration → routes_at version i ms ≡ Ok routes
    → next_switch version i d ms ≡ Ok (record d { switches = d.switches ++ record { name = name; arbitration = arbitration; routes = routes } ∷ [] })
unfolding switch_of next_switch
switch_is version i d ms u name arbitration routes known at_name at_arbitration at_routes = rw (known, at_name, at_arbitration, at_routes) refl

pub place_is : (s : Section) (key : Key) (names : List (List ℕ)) (ms : Members) (name : List ℕ) (place : ℕ) → text_at s key ms ≡ Ok name → Some place ≡ position (bytes_eq name) names → place_at s key names ms ≡ Ok place
unfolding place_at
place_is s key names ms name place at_name found = rw (at_name, ← found) refl

pub node_end_is : (s : Section) (key port : Key) (nodes : ℕ) (names : List (List ℕ)) (ms : Members) (place : ℕ) (u : Unit {0}) → place_at s key names ms ≡ Ok place → place < nodes → absent s port ms ≡ Ok u
    → end_at s key port nodes names ms ≡ Ok (ends.Node place)
unfolding end_at
node_end_is s key port nodes names ms place u at_place below no_port = rw (at_place, lt-ltb place nodes below, no_port) refl

pub switch_end_is : (s : Section) (key port : Key) (nodes count : ℕ) (names : List (List ℕ)) (ms : Members) (place number p : ℕ) (made : Option ℕ) → count ≡ nodes → place_at s key names ms ≡ Ok place → count ≤ place
    → number_at s port 0 31 ms ≡ Ok number → made ≡ Some p → IfSome made (λ q. q ≡ number) → end_at s key port nodes names ms ≡ Ok (ends.Switch (place - count) p)
unfolding end_at
switch_end_is s key port nodes count names ms place number p made counted at_place past at_number is value =
    let same : p ≡ number = rw is at value in
    let after : nat_lt place nodes ≡ false = false_from_ne_true (nat_lt place nodes) (λ below. absurd (omega (arith, counted, past, ltb-true place nodes below))) in
    rw (at_place, after, at_number, counted, same) refl

-- one part more
pub node_more : (d e : Declaration) (n : NodeEntry) → e ≡ record d { nodes = d.nodes ++ n ∷ [] } → length e.nodes ≡ length d.nodes + 1
node_more d e n same = ap (λ (x : Declaration). length x.nodes) same ∙ length-append d.nodes (n ∷ [])

pub switch_more : (d e : Declaration) (s : SwitchEntry) → e ≡ record d { switches = d.switches ++ s ∷ [] } → length e.switches ≡ length d.switches + 1
switch_more d e s same = ap (λ (x : Declaration). length x.switches) same ∙ length-append d.switches (s ∷ [])

-- a link's end at a switch is inside
pub within_switches : (place count nodes switches n : ℕ) (made : Option ℕ) → count ≡ nodes → count ≤ place → place < nodes + switches → made ≡ Some n → IfSome made (λ q. q < 32) → (place - count < switches) × (n < 32)
within_switches place count nodes switches n made counted past below is small = (omega (arith, counted, past, below), rw is at small)
