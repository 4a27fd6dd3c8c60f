-- A table that is for its entry by the words of one version is so by those of the next version too.
use Rattle.std.proofs.Common.{◌≡◌, ℕ, ◌≤◌, Bool, true, List, [], ◌∷◌, ◌++◌, Option, Some, None, Ok, refl, arith, inl, inr}
use Rattle.std.specs.List.{AllZip, list_any}
use Rattle.std.specs.Str.{bytes_eq}
use Rattle.std.proofs.lemmas.Bool.{cases_Bool, or_right}
use Rattle.toml.specs.Data.{Data, Members}
use Rattle.sw_route.specs.declared.look.Route.{Route as RouteEntry}
use Rattle.sw_rmap.specs.declared.config.TargetConfig.{TargetConfig}
use Rattle.sw_config.specs.Entries.{NodeEntry, SwitchEntry, LinkEntry, ReplyEntry, FlowEntry}
use Rattle.sw_text.specs.declared.keys.Key.{Key}
use Rattle.sw_text.specs.declared.keys.Key.TheVariants.{Target, Slots, Route, BufferA, BufferB, Reply, Outstanding}
use Rattle.sw_text.specs.declared.keys.Version.{Version}
use Rattle.sw_text.specs.declared.keys.Version.TheVariants.{One, Two, Three}
use Rattle.sw_text.specs.Keys.{key_text}
use Rattle.sw_text.specs.Table.{is_known, item_list}
use Rattle.sw_text.specs.SectionKeys.{node_keys, target_keys, route_keys, link_keys, reply_keys}
use Rattle.sw_file.specs.Keys.{most_slots}
use Rattle.sw_file.specs.Nodes.{node_of}
use Rattle.sw_file.specs.Links.{link_of}
use Rattle.sw_file.specs.FlowTables.{flow_of}
use Rattle.sw_file.specs.Values.{IsNumber, IsTableOf, HasOr, HasIfAny, HasTables}
use Rattle.sw_file.specs.Tables.{IsTargetTable, IsNodeTable, IsRouteTable, IsSwitchTable, IsLinkTable, IsReplyTable, IsFlowTable}
use Rattle.sw_file.proofs.PutMembers.{only_more}
use Rattle.sw_file.proofs.RowEntries.{more_keys}
use Rattle.sw_file.proofs.Tables.{is_node, node_is}
use Rattle.sw_file.proofs.LinkTables.{is_link, link_is}
use Rattle.sw_file.proofs.FlowTables.{is_flow, flow_is}

-- what is known among the first keys is known among the others
abbrev Wider : List Key → List Key → Type 0
Wider keys more = (name : List ℕ) → is_known keys name ≡ true → is_known more name ≡ true

any_more : (f : Key → Bool) (xs ys : List Key) → list_any f xs ≡ true → list_any f (xs ++ ys) ≡ true
any_more f [] ys known = absurd cc
any_more f (x ∷ xs) ys known =
    elim (cases_Bool (f x)) [
      | inl here ↦ rw here refl
      | inr off ↦ or_right (f x) (list_any f (xs ++ ys)) (any_more f xs ys (rw off at known))
    ]

with_more : (keys more : List Key) → Wider keys (keys ++ more)
with_more keys more = λ name known. any_more (λ k. bytes_eq (key_text k) name) keys more known

same_keys : (keys : List Key) → Wider keys keys
same_keys keys = λ name known. known

-- the later version has the keys of the old one, and as many slots
pub record IsLater (old new : Version) : Type 0 where
  node : Wider (node_keys old) (node_keys new)
  target : Wider (target_keys old) (target_keys new)
  slots : most_slots old ≤ most_slots new
  route : Wider (route_keys old) (route_keys new)
  link : Wider (link_keys old) (link_keys new)
  reply : Wider (reply_keys old) (reply_keys new)

pub two_after_one : IsLater One Two
two_after_one = record {
  node = same_keys (node_keys One);
  target = with_more (target_keys One) (Slots ∷ []);
  slots = omega arith;
  route = more_keys;
  link = with_more (link_keys One) (BufferA ∷ BufferB ∷ []);
  reply = same_keys (reply_keys One);
}

pub three_after_two : IsLater Two Three
three_after_two = record {
  node = with_more (node_keys Two) (Outstanding ∷ []);
  target = same_keys (target_keys Two);
  slots = omega arith;
  route = same_keys (route_keys Two);
  link = same_keys (link_keys Two);
  reply = with_more (reply_keys Two) (Outstanding ∷ []);
}

module _ {A : Type 0} (P Q : Members → A → Type 0) (so : (t : Members) (a : A) → P t a → Q t a) where
  table_of : (d : Data) (a : A) → IsTableOf P d a → IsTableOf Q d a
  table_of d a is = record { members = is.members; table = is.table; is = so is.members a is.is }

  items_of : (ds : List Data) (es : List A) → AllZip (IsTableOf P) ds es → AllZip (IsTableOf Q) ds es
  items_of [] [] all = tt
  items_of [] (e ∷ es) all = absurd all
  items_of (d ∷ ds) [] all = absurd all
  items_of (d ∷ ds) (e ∷ es) all = (table_of d e all.0, items_of ds es all.1)

  -- so for the tables of a list, and for a table that may be left out
  pub each_table : (key : Key) (ms : Members) (es : List A) → HasTables P key ms es → HasTables Q key ms es
  each_table key ms es (inl h) = inl (record { value = h.value; stands = h.stands; is = record { items = h.is.items; array = h.is.array; each = items_of (item_list h.is.items) es h.is.each } })
  each_table key ms es (inr out) = inr out

  table_if_any : (key : Key) (ms : Members) (o : Option A) → HasIfAny (IsTableOf P) key ms o → HasIfAny (IsTableOf Q) key ms o
  table_if_any key ms None h = h
  table_if_any key ms (Some a) h = record { value = h.value; stands = h.stands; is = table_of h.value a h.is }

-- a number that may be greater
more_numbers : (low high more default : ℕ) (key : Key) (ms : Members) (n : ℕ) → high ≤ more → HasOr (IsNumber low high) default key ms n → HasOr (IsNumber low more) default key ms n
more_numbers low high more default key ms n few (inl h) = inl (record { value = h.value; stands = h.stands; is = record { whole = h.is.whole; least = h.is.least; most = omega (arith, few, h.is.most) } })
more_numbers low high more default key ms n few (inr out) = inr out

module _ (old new : Version) (later : IsLater old new) where
  target_raised : (ms : Members) (c : TargetConfig) → IsTargetTable old ms c → IsTargetTable new ms c
  target_raised ms c is = record {
    keys = only_more (target_keys old) (target_keys new) ms later.target is.keys;
    logical = is.logical;
    key = is.key;
    start = is.start;
    size = is.size;
    window = is.window;
    slots = more_numbers 1 (most_slots old) (most_slots new) 1 Slots ms c.slots later.slots is.slots;
  }

  pub node_raised : (ms : Members) (n : NodeEntry) → IsNodeTable old ms n → IsNodeTable new ms n
  node_raised ms n is = record {
    keys = only_more (node_keys old) (node_keys new) ms later.node is.keys;
    named = is.named;
    target = table_if_any (IsTargetTable old) (IsTargetTable new) target_raised Target ms n.target is.target;
    outstanding = is.outstanding;
  }

  route_raised : (ms : Members) (r : RouteEntry) → IsRouteTable old ms r → IsRouteTable new ms r
  route_raised ms r is = record {
    keys = only_more (route_keys old) (route_keys new) ms later.route is.keys;
    first = is.first;
    last = is.last;
    ports = is.ports;
    delete = is.delete;
  }

  pub switch_raised : (ms : Members) (s : SwitchEntry) → IsSwitchTable old ms s → IsSwitchTable new ms s
  switch_raised ms s is = record {
    keys = is.keys;
    named = is.named;
    arbitration = is.arbitration;
    routes = each_table (IsRouteTable old) (IsRouteTable new) route_raised Route ms s.routes is.routes;
    apart = is.apart;
  }

  pub link_raised : (nodes : ℕ) (names : List (List ℕ)) (ms : Members) (l : LinkEntry) → IsLinkTable old nodes names ms l → IsLinkTable new nodes names ms l
  link_raised nodes names ms l is = record {
    keys = only_more (link_keys old) (link_keys new) ms later.link is.keys;
    a = is.a;
    b = is.b;
    buffer = is.buffer;
    both = is.both;
    buffer_a = is.buffer_a;
    buffer_b = is.buffer_b;
  }

  reply_raised : (ms : Members) (r : ReplyEntry) → IsReplyTable old ms r → IsReplyTable new ms r
  reply_raised ms r is = record {
    keys = only_more (reply_keys old) (reply_keys new) ms later.reply is.keys;
    path = is.path;
    initiator = is.initiator;
    outstanding = is.outstanding;
  }

  pub flow_raised : (nodes : List NodeEntry) (ms : Members) (f : FlowEntry) → IsFlowTable old nodes ms f → IsFlowTable new nodes ms f
  flow_raised nodes ms f is = record {
    keys = is.keys;
    named = is.named;
    from = is.from;
    to = is.to;
    address = is.address;
    few = is.few;
    left = is.left;
    reply = table_if_any (IsReplyTable old) (IsReplyTable new) reply_raised Reply ms f.reply is.reply;
    way = is.way;
  }

  -- and so what was read of it is read
  module _ (i : ℕ) where
    pub node_later : (taken : List (List ℕ)) (t : Members) (n : NodeEntry) → node_of old i taken t ≡ Ok n → node_of new i taken t ≡ Ok n
    node_later taken t n well = let is = is_node old i taken t n well in node_is new i taken t n (node_raised t n is.0) is.1

    pub link_later : (nodes : ℕ) (names : List (List ℕ)) (t : Members) (l : LinkEntry) → link_of old i nodes names t ≡ Ok l → link_of new i nodes names t ≡ Ok l
    link_later nodes names t l well = link_is new i nodes names t l (link_raised nodes names t l (is_link old i nodes names t l well))

    pub flow_later : (nodes : List NodeEntry) (taken : List (List ℕ)) (t : Members) (f : FlowEntry) → flow_of old i nodes taken t ≡ Ok f → flow_of new i nodes taken t ≡ Ok f
    flow_later nodes taken t f well = let is = is_flow old i nodes taken t f well in flow_is new i nodes taken t f (flow_raised nodes t f is.0) is.1
