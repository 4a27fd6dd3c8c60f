-- No table of a document that is read has a key that it may not have.
use Rattle.std.proofs.Common.{◌≡◌, ℕ, zero, suc, ◌+◌, ◌<◌, List, [], ◌∷◌, length, take, Option, Some, Result, Ok, Err, refl, sym, ◌∙◌, arith, inl, inr}
use Rattle.std.specs.Prelude.{slice_get, if◌then◌else◌}
use Rattle.std.proofs.lemmas.Option.{slice_get_cases, slice_get_within}
use Rattle.toml.specs.Data.{Members}
use Rattle.sw_rmap.specs.declared.config.TargetConfig.{TargetConfig}
use Rattle.sw_route.specs.declared.look.Route.{Route as RouteEntry}
use Rattle.sw_config.specs.Entries.{NodeEntry, SwitchEntry, LinkEntry, ReplyEntry, FlowEntry, part_names, flow_names}
use Rattle.sw_text.specs.declared.keys.Key.{Key}
use Rattle.sw_text.specs.declared.keys.Key.TheVariants.{Node, Switch, Link, Flow, Target, Route, From, To, Reply}
use Rattle.sw_text.specs.declared.keys.Section.{Section}
use Rattle.sw_text.specs.declared.keys.Section.TheVariants as section
use Rattle.sw_text.specs.declared.keys.Version.{Version}
use Rattle.sw_text.specs.declared.fault.TextFault.{TextFault}
use Rattle.sw_text.specs.declared.fault.TextFault.TheVariants as fault
use Rattle.sw_text.specs.Gives.{walk_from}
use Rattle.sw_text.specs.Table.{only_known, tables_or_none, table_or_none}
use Rattle.sw_text.specs.KeyLaws.{HasOnly}
use Rattle.sw_text.proofs.Unknown.{refuses_least_unknown}
use Rattle.sw_text.specs.SectionKeys.{document_keys, node_keys, target_keys, switch_keys, route_keys, link_keys, flow_keys, reply_keys}
use Rattle.sw_file.specs.Nodes.{config_of, target_or_none, node_of}
use Rattle.sw_file.specs.Switches.{route_of, next_route, routes_at, arbitration_at, switch_of}
use Rattle.sw_file.specs.Links.{link_of}
use Rattle.sw_file.specs.FlowTables.{node_names, addressed, can_reply, reply_of, reply_or_none, replies_at, flow_of}
use Rattle.sw_file.specs.Names.{new_name, place_at}
use Rattle.sw_file.specs.Network.{version_of}
use Rattle.sw_file.specs.Laws.{before_node, before_switch, Declares, IsKnownNode, IsKnownSwitch, IsKnownFlow, RefusesUnknownKeys}
use Rattle.sw_file.proofs.Entries.{reads_each_entry}
use Rattle.sw_text.proofs.Results.{bind_ok}

-- a part of what went well went well
pub well : {A B : Type 0} {P : Type 0} (r : Result A TextFault) (y : B) → ((f : TextFault) → r ≡ Err f → Err f ≡ Ok y) → ((x : A) → r ≡ Ok x → P) → P
well (Ok x) y failed rest = rest x refl
well (Err f) y failed rest = let bad = failed f refl in absurd cc

-- a table that passes has its keys alone
pub passed : (s : Section) (keys : List Key) (ms : Members) (u : Unit {0}) → only_known s keys ms ≡ Ok u → HasOnly keys ms
passed s keys ms u fine = (refuses_least_unknown s keys ms).0.0 fine

-- where a step of a walk went well, each of its steps is as P says, if those that go well are
each_step : {S X : Type 0} (step : ℕ → S → X → Result S TextFault) (P : ℕ → X → Type 0) → ((i : ℕ) (s t : S) (x : X) → step i s x ≡ Ok t → P i x) → (k : ℕ) (s t : S) (xs : List X) → walk_from step k s xs ≡ Ok t
    → (i : ℕ) (x : X) → slice_get xs i ≡ Some x → P (k + i) x
each_step step P so k s t [] well i x here = absurd cc
each_step step P so k s t (y ∷ xs) well zero x here =
    let z : k + 0 ≡ k = omega arith in
    let same : y ≡ x = cc in
    let first = bind_ok (step k s y) (λ u. walk_from step (suc k) u xs) t well in
    rw (z, ← same) (so k s first.0 y first.1)
each_step step P so k s t (y ∷ xs) well (suc i) x here =
    let shifted : k + suc i ≡ suc k + i = omega arith in
    let first = bind_ok (step k s y) (λ u. walk_from step (suc k) u xs) t well in
    rw shifted (each_step step P so (suc k) first.0 t xs first.2 i x here)

known_target : (version : Version) (i : ℕ) (ms target : Members) (y : Option TargetConfig) → target_or_none version i ms ≡ Ok y → table_or_none (section.Node i) Target ms ≡ Ok (Some target) → HasOnly (target_keys version) target
unfolding target_or_none config_of
known_target version i ms target y fine there =
    well (only_known (section.Target i) (target_keys version) target) y (λ f is. rw (there, is) at fine) (λ keys keys_is.
    passed (section.Target i) (target_keys version) target keys keys_is)

known_node : (version : Version) (i : ℕ) (taken : List (List ℕ)) (ms : Members) (e : NodeEntry) → node_of version i taken ms ≡ Ok e → IsKnownNode version i ms
unfolding node_of
known_node version i taken ms e fine =
    well (only_known (section.Node i) (node_keys version) ms) e (λ f is. rw is at fine) (λ keys keys_is.
    well (new_name (section.Node i) taken ms) e (λ f is. rw (keys_is, is) at fine) (λ name name_is.
    well (target_or_none version i ms) e (λ f is. rw (keys_is, name_is, is) at fine) (λ target target_is.
    record { keys = passed (section.Node i) (node_keys version) ms keys keys_is; target = λ table there. known_target version i ms table target target_is there })))

known_route : (version : Version) (i j : ℕ) (before after : List RouteEntry) (ms : Members) → next_route version i j before ms ≡ Ok after → HasOnly (route_keys version) ms
unfolding next_route route_of
known_route version i j before after ms fine =
    well (only_known (section.Route i j) (route_keys version) ms) after (λ f is. rw is at fine) (λ keys keys_is.
    passed (section.Route i j) (route_keys version) ms keys keys_is)

known_routes : (version : Version) (i : ℕ) (ms : Members) (routes : List RouteEntry) → routes_at version i ms ≡ Ok routes → (tables : List Members) (j : ℕ) (route : Members) → tables_or_none (section.Switch i) Route ms ≡ Ok tables → slice_get tables j ≡ Some route → HasOnly (route_keys version) route
unfolding routes_at
known_routes version i ms routes fine tables j route there here =
    let walked : walk_from (next_route version i) 0 [] tables ≡ Ok routes = rw there at fine in
    each_step (next_route version i) (λ _ x. HasOnly (route_keys version) x) (λ n s t x step. known_route version i n s t x step) 0 [] routes tables walked j route here

known_switch : (version : Version) (i : ℕ) (taken : List (List ℕ)) (ms : Members) (e : SwitchEntry) → switch_of version i taken ms ≡ Ok e → IsKnownSwitch version i ms
unfolding switch_of
known_switch version i taken ms e fine =
    well (only_known (section.Switch i) switch_keys ms) e (λ f is. rw is at fine) (λ keys keys_is.
    well (new_name (section.Switch i) taken ms) e (λ f is. rw (keys_is, is) at fine) (λ name name_is.
    well (arbitration_at i ms) e (λ f is. rw (keys_is, name_is, is) at fine) (λ arbitration arbitration_is.
    well (routes_at version i ms) e (λ f is. rw (keys_is, name_is, arbitration_is, is) at fine) (λ routes routes_is.
    record { keys = passed (section.Switch i) switch_keys ms keys keys_is; routes = known_routes version i ms routes routes_is }))))

known_link : (version : Version) (i nodes : ℕ) (names : List (List ℕ)) (ms : Members) (e : LinkEntry) → link_of version i nodes names ms ≡ Ok e → HasOnly (link_keys version) ms
unfolding link_of
known_link version i nodes names ms e fine =
    well (only_known (section.Link i) (link_keys version) ms) e (λ f is. rw is at fine) (λ keys keys_is.
    passed (section.Link i) (link_keys version) ms keys keys_is)

known_reply : (version : Version) (i : ℕ) (ms reply : Members) (y : Option ReplyEntry) → reply_or_none version i ms ≡ Ok y → table_or_none (section.Flow i) Reply ms ≡ Ok (Some reply) → HasOnly (reply_keys version) reply
unfolding reply_or_none reply_of
known_reply version i ms reply y fine there =
    well (only_known (section.Reply i) (reply_keys version) reply) y (λ f is. rw (there, is) at fine) (λ keys keys_is.
    passed (section.Reply i) (reply_keys version) reply keys keys_is)

known_replies : (version : Version) (i : ℕ) (nodes : List NodeEntry) (to : ℕ) (ms reply : Members) (y : Option ReplyEntry) → replies_at version i nodes to ms ≡ Ok y → table_or_none (section.Flow i) Reply ms ≡ Ok (Some reply) → HasOnly (reply_keys version) reply
unfolding replies_at
known_replies version i nodes to ms reply y fine there =
    let read = bind_ok (reply_or_none version i ms) (λ r. if can_reply nodes to r then Ok r else Err (fault.ReplyShape i)) y fine in
    known_reply version i ms reply read.0 read.1 there

known_flow : (version : Version) (i : ℕ) (nodes : List NodeEntry) (taken : List (List ℕ)) (ms : Members) (e : FlowEntry) → flow_of version i nodes taken ms ≡ Ok e → IsKnownFlow version i ms
unfolding flow_of
known_flow version i nodes taken ms e fine =
    well (only_known (section.Flow i) flow_keys ms) e (λ f is. rw is at fine) (λ keys keys_is.
    well (new_name (section.Flow i) taken ms) e (λ f is. rw (keys_is, is) at fine) (λ name name_is.
    well (place_at (section.Flow i) From (node_names nodes) ms) e (λ f is. rw (keys_is, name_is, is) at fine) (λ from from_is.
    well (place_at (section.Flow i) To (node_names nodes) ms) e (λ f is. rw (keys_is, name_is, from_is, is) at fine) (λ to to_is.
    well (addressed i ms) e (λ f is. rw (keys_is, name_is, from_is, to_is, is) at fine) (λ way way_is.
    well (replies_at version i nodes to ms) e (λ f is. rw (keys_is, name_is, from_is, to_is, way_is, is) at fine) (λ reply reply_is.
    record { keys = passed (section.Flow i) flow_keys ms keys keys_is; reply = λ table there. known_replies version i nodes to ms table reply reply_is there }))))))

known_document : (version : Version) (ms : Members) → version_of ms ≡ Ok version → HasOnly document_keys ms
unfolding version_of
known_document version ms fine =
    well (only_known section.Document document_keys ms) version (λ f is. rw is at fine) (λ keys keys_is.
    passed section.Document document_keys ms keys keys_is)

-- what table i declares, in a list of the document
entry_of : {A : Type 0} (key : Key) (ms : Members) (declared : ℕ → Members → Result A TextFault) (entries : List A) → Declares key ms declared entries → (tables : List Members) (i : ℕ) (table : Members)
    → tables_or_none section.Document key ms ≡ Ok tables → slice_get tables i ≡ Some table → (e : A) × (declared i table ≡ Ok e)
entry_of key ms declared entries are tables i table listed here =
    let same : are.tables ≡ tables = (let e : Ok are.tables ≡ Ok tables = sym are.listed ∙ listed in cc) in
    let there : slice_get are.tables i ≡ Some table = rw same here in
    let within : i < length are.tables = slice_get_within are.tables i table there in
    elim (slice_get_cases entries i).1 [
      | inl found ↦ (found.0, are.each i table found.0 there found.2)
      | inr past ↦ absurd (omega (arith, past.0, within, are.as_many))
    ]

pub refuses_unknown_keys : RefusesUnknownKeys
refuses_unknown_keys ms d fine =
    let read = reads_each_entry ms d fine in
    let version = read.0 in
    let is = read.1 in (
      version,
      record {
        versioned = is.versioned;
        keys = known_document version ms is.versioned;
        nodes = λ tables i table listed here. let e = entry_of Node ms (λ n. node_of version n (before_node d n)) d.nodes is.nodes tables i table listed here in known_node version i (before_node d i) table e.0 e.1;
        switches = λ tables i table listed here. let e = entry_of Switch ms (λ n. switch_of version n (before_switch d n)) d.switches is.switches tables i table listed here in known_switch version i (before_switch d i) table e.0 e.1;
        links = λ tables i table listed here. let e = entry_of Link ms (λ n. link_of version n (length d.nodes) (part_names d)) d.links is.links tables i table listed here in known_link version i (length d.nodes) (part_names d) table e.0 e.1;
        flows = λ tables i table listed here. let e = entry_of Flow ms (λ n. flow_of version n d.nodes (flow_names (take n d.flows))) d.flows is.flows tables i table listed here in known_flow version i d.nodes (flow_names (take i d.flows)) table e.0 e.1;
      },
    )
