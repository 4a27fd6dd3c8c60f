-- What is a network by its words is valid, and its names are as names have to be.
use Rattle.std.proofs.Common.{◌≡◌, ℕ, ◌+◌, ◌*◌, ◌<◌, ◌≤◌, List, [], ◌∷◌, length, Option, Some, None, All, Fits, w8, refl, sym, subst, arith, inl, inr}
use Rattle.std.specs.Prelude.{IfSome}
use Rattle.std.specs.List.{AllZip}
use Rattle.std.specs.Str.{bytes_eq}
use Rattle.std.proofs.lemmas.List.{length-map, length-append}
use Rattle.std.proofs.lemmas.List.Elements.{All-nil, All-cons, All-head, All-tail}
use Rattle.std.proofs.lemmas.List.Quantifiers.{position-Some}
use Rattle.toml.specs.Data.{Data, Members}
use Rattle.sw_topo.specs.declared.place.PlaceEnd.{PlaceEnd}
use Rattle.sw_topo.specs.declared.place.PlaceEnd.TheVariants as places
use Rattle.sw_topo.specs.Checked.{IsIn}
use Rattle.sw_route.specs.declared.look.Route.{Route as RouteEntry}
use Rattle.sw_route.specs.Looks.{IsRoute}
use Rattle.sw_rmap.specs.declared.config.TargetConfig.{TargetConfig}
use Rattle.sw_rmap.specs.Config.{IsTargetConfig}
use Rattle.sw_config.specs.Entries.{NodeEntry, SwitchEntry, LinkEntry, FlowEntry, Declaration, part_names, link_ends}
use Rattle.sw_config.specs.Valid.{IsNode, IsSwitch, IsLink, IsFlow, IsValid}
use Rattle.sw_config.proofs.Steps.{length-link_ends}
use Rattle.sw_text.specs.declared.keys.Key.{Key}
use Rattle.sw_text.specs.declared.keys.Key.TheVariants.{Target, A, APort, B, BPort}
use Rattle.sw_text.specs.declared.keys.Version.{Version}
use Rattle.sw_text.specs.declared.keys.Version.TheVariants.{One, Two, Three}
use Rattle.sw_text.specs.Table.{item_list}
use Rattle.sw_file.specs.Values.{IsNumber, IsTableOf, HasOr, HasIfAny, HasTables}
use Rattle.sw_file.specs.Tables.{Refers, IsTargetTable, IsNodeTable, IsRouteTable, IsSwitchTable, HasEnd, IsLinkTable, IsFlowTable, IsNetworkTable}
use Rattle.sw_file.specs.Keys.{most_slots}
use Rattle.sw_file.specs.FlowTables.{node_names}
use Rattle.sw_file.specs.Laws.{ReadNetworksAreValid}
use Rattle.sw_file.proofs.Whole.{fits_byte}
use Rattle.sw_file.proofs.FlowTables.{limited}
use Rattle.sw_file.proofs.Documents.{networks_are_read_exactly}

-- a number, or a default that is in the range too
within : (low high default : ℕ) (key : Key) (ms : Members) (n : ℕ) → low ≤ default → default ≤ high → HasOr (IsNumber low high) default key ms n → (low ≤ n) × (n ≤ high)
within low high default key ms n least most (inl h) = (h.is.least, h.is.most)
within low high default key ms n least most (inr out) = (omega (arith, out.1), omega (arith, out.1))

-- what follows of each table holds of each entry
module _ {A : Type 0} (Is : Members → A → Type 0) (P : A → Type 0) (so : (t : Members) (e : A) → Is t e → P e) where
  of_items : (ds : List Data) (es : List A) → AllZip (IsTableOf Is) ds es → All P es
  of_items [] [] all = All-nil P
  of_items [] (e ∷ es) all = absurd all
  of_items (d ∷ ds) [] all = absurd all
  of_items (d ∷ ds) (e ∷ es) all = let first = all.0 in All-cons P e es (so first.members e first.is) (of_items ds es all.1)

  pub of_each : (key : Key) (ms : Members) (es : List A) → HasTables Is key ms es → All P es
  of_each key ms es (inl h) = of_items (item_list h.is.items) es h.is.each
  of_each key ms es (inr out) = subst (All P) (sym out.1) (All-nil P)

-- how many slots a target may have
some_slots : (version : Version) → 1 ≤ most_slots version
some_slots One = omega arith
some_slots Two = omega arith
some_slots Three = omega arith

few_slots : (version : Version) → most_slots version ≤ 64
few_slots One = omega arith
few_slots Two = omega arith
few_slots Three = omega arith

-- so many slots fit a byte
pub slots_within : (version : Version) (most slots : ℕ) → most ≡ most_slots version → slots ≤ most → slots ≤ 64
slots_within version most slots is few = omega (arith, is, few, few_slots version)

pub fits_slots : (version : Version) (most slots : ℕ) → most ≡ most_slots version → slots ≤ most → Fits w8 slots
fits_slots version most slots is few = fits_byte slots 64 (slots_within version most slots is few) (omega arith)

target_valid : (version : Version) (ms : Members) (c : TargetConfig) → IsTargetTable version ms c → IsTargetConfig c
target_valid version ms c is =
    let slots = within 1 (most_slots version) 1 _ ms c.slots (omega arith) (some_slots version) is.slots in
    record {
      low_logical = is.logical.is.least;
      high_logical = is.logical.is.most;
      low_size = is.size.is.least;
      high_size = is.size.is.most;
      window = is.window;
      low_slots = slots.0;
      high_slots = omega (arith, slots.1, few_slots version);
    }

if_target : (version : Version) (ms : Members) (o : Option TargetConfig) → HasIfAny (IsTableOf (IsTargetTable version)) Target ms o → IfSome o IsTargetConfig
if_target version ms None is = tt
if_target version ms (Some c) is = target_valid version is.is.members c is.is.is

route_valid : (version : Version) (ms : Members) (r : RouteEntry) → IsRouteTable version ms r → IsRoute r
route_valid version ms r is =
    let last = within r.first 254 r.first _ ms r.last (omega arith) is.first.is.most is.last in
    record { first = is.first.is.least; rising = last.0; last = last.1 }

switch_valid : (version : Version) (ms : Members) (s : SwitchEntry) → IsSwitchTable version ms s → IsSwitch s
switch_valid version ms s is = record { valid = of_each (IsRouteTable version) IsRoute (λ t r. route_valid version t r) _ ms s.routes is.routes; apart = is.apart }

link_valid : (version : Version) (nodes : ℕ) (names : List (List ℕ)) (ms : Members) (l : LinkEntry) → IsLinkTable version nodes names ms l → IsLink l
link_valid version nodes names ms l is =
    let both = within 8 4096 64 _ ms is.buffer (omega arith) (omega arith) is.both in
    let a = within 8 4096 is.buffer _ ms l.buffer_a both.0 both.1 is.buffer_a in
    let b = within 8 4096 is.buffer _ ms l.buffer_b both.0 both.1 is.buffer_b in
    record { low_a = a.0; high_a = a.1; low_b = b.0; high_b = b.1 }

-- a name that is found is one of them
found_within : (names : List (List ℕ)) (key : Key) (ms : Members) (i : ℕ) → Refers names key ms i → i < length names
found_within names key ms i is = (position-Some (bytes_eq is.name) names i [] is.number).0

end_inside : (key port : Key) (nodes switches : ℕ) (names : List (List ℕ)) (ms : Members) (e : PlaceEnd) → length names ≡ nodes + switches → HasEnd key port nodes names ms e → IsIn nodes switches e
end_inside key port nodes switches names ms (places.Node n) size is = is.1
end_inside key port nodes switches names ms (places.Switch s p) size is =
    (omega (arith, found_within names key ms (nodes + s) is.0, size), omega (arith, is.1.is.most))

abbrev EndsInside : ℕ → ℕ → LinkEntry → Type 0
EndsInside nodes switches l = IsIn nodes switches l.a × IsIn nodes switches l.b

all_inside : (nodes switches : ℕ) (ls : List LinkEntry) → All (EndsInside nodes switches) ls → All (IsIn nodes switches) (link_ends ls)
all_inside nodes switches [] all = All-nil (IsIn nodes switches)
all_inside nodes switches (l ∷ ls) all =
    let first = All-head (EndsInside nodes switches) l ls all in
    All-cons (IsIn nodes switches) l.a (l.b ∷ link_ends ls) first.0
    (All-cons (IsIn nodes switches) l.b (link_ends ls) first.1 (all_inside nodes switches ls (All-tail (EndsInside nodes switches) l ls all)))

size_of_names : (d : Declaration) → length (part_names d) ≡ length d.nodes + length d.switches
size_of_names d = rw (length-append, length-map, length-map) refl

flow_valid : (version : Version) (nodes : List NodeEntry) (ms : Members) (f : FlowEntry) → IsFlowTable version nodes ms f → IsFlow nodes f
flow_valid version nodes ms f is =
    let size : length (node_names nodes) ≡ length nodes = length-map nodes (λ (n : NodeEntry). n.name) in
    let left = within 0 (length f.address) 0 _ ms f.left (omega arith) (omega arith) is.left in
    record {
      from = omega (arith, found_within (node_names nodes) _ ms f.from is.from, size);
      to = omega (arith, found_within (node_names nodes) _ ms f.to is.to, size);
      address = is.few;
      left = left.1;
      reply = is.way;
    }

pub network_valid : (version : Version) (ms : Members) (d : Declaration) → IsNetworkTable version ms d → IsValid d
network_valid version ms d is =
    let pairs : length (link_ends d.links) ≡ 2 * length d.links = length-link_ends d.links in
    let IsItsLink : Members → LinkEntry → Type 0 = IsLinkTable version (length d.nodes) (part_names d) in
    record {
      sound = record {
        wiring = record {
          paired = omega (arith, pairs);
          inside = all_inside (length d.nodes) (length d.switches) d.links (of_each IsItsLink (EndsInside (length d.nodes) (length d.switches))
              (λ t l link. (end_inside A APort (length d.nodes) (length d.switches) (part_names d) t l.a (size_of_names d) link.a, end_inside B BPort (length d.nodes) (length d.switches) (part_names d) t l.b (size_of_names d) link.b))
              _ ms d.links is.links);
        };
        faultless = is.joined;
      };
      nodes = of_each (IsNodeTable version) IsNode (λ t n node. record { target = if_target version t n.target node.target; outstanding = limited t n.outstanding node.outstanding }) _ ms d.nodes is.nodes;
      switches = of_each (IsSwitchTable version) IsSwitch (λ t s. switch_valid version t s) _ ms d.switches is.switches;
      links = of_each IsItsLink IsLink (λ t l. link_valid version (length d.nodes) (part_names d) t l) _ ms d.links is.links;
      flows = of_each (IsFlowTable version d.nodes) (IsFlow d.nodes) (λ t f. flow_valid version d.nodes t f) _ ms d.flows is.flows;
      few_flows = is.few_flows;
      parts_named = is.parts_named;
      flows_named = is.flows_named;
    }

pub read_networks_are_valid : ReadNetworksAreValid
read_networks_are_valid bytes d h =
    let text = (networks_are_read_exactly bytes d).0 h in
    network_valid text.version text.table d text.network
