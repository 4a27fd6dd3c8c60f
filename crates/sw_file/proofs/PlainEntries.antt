-- The tables of a network's nodes, switches, links and flows are plain.
use Rattle.std.proofs.Common.{◌≡◌, ℕ, suc, true, nat_lt, List, [], ◌∷◌, length, Option, Some, Ok, ap, ◌∙◌, inl, inr}
use Rattle.std.specs.List.{AllByRecursion}
use Rattle.std.proofs.lemmas.Bool.{cases_Bool}
use Rattle.toml.specs.Data.{Members, members_are_sorted}
use Rattle.sw_topo.specs.declared.place.PlaceEnd.{PlaceEnd}
use Rattle.sw_rmap.specs.declared.config.TargetConfig.{TargetConfig}
use Rattle.sw_route.specs.declared.look.Route.{Route as RouteEntry}
use Rattle.sw_arb.specs.declared.arbitration.Arbitration.{Arbitration}
use Rattle.sw_config.specs.Entries.{NodeEntry, SwitchEntry, LinkEntry, ReplyEntry, FlowEntry}
use Rattle.sw_text.specs.declared.keys.Key.{Key}
use Rattle.sw_text.specs.declared.keys.Key.TheVariants.{Name, Target, Logical, TargetKey, Start, Size, Arbiter, Route, Address, Last, Ports, Delete, A, APort, B, BPort, Buffer, From, To, Left, Reply, Path, Initiator}
use Rattle.sw_text.specs.declared.keys.Section.{Section}
use Rattle.sw_text.specs.declared.keys.Section.TheVariants as section
use Rattle.sw_text.specs.declared.keys.Version.TheVariants.{One}
use Rattle.sw_text.specs.Keys.{key_text}
use Rattle.sw_text.specs.Gives.{walk_from}
use Rattle.sw_text.specs.Table.{only_known, absent, text_at, text_or_none, number_at, number_or, numbers_at, numbers_or_none, tables_or_none, table_or_none, flag_or_false}
use Rattle.sw_text.specs.Names.{name_at}
use Rattle.sw_text.specs.SectionKeys.{node_keys, target_keys, switch_keys, route_keys, link_keys, flow_keys, reply_keys}
use Rattle.sw_file.specs.Names.{new_name, place_at}
use Rattle.sw_file.specs.Nodes.{size_at, config_of, target_or_none, node_of}
use Rattle.sw_file.specs.Switches.{arbitration_at, ports_at, route_of, next_route, routes_at, switch_of}
use Rattle.sw_file.specs.Links.{end_at, link_of}
use Rattle.sw_file.specs.FlowTables.{node_names, address_at, reply_of, reply_or_none, addressed, replies_at, flow_of}
use Rattle.sw_file.proofs.Known.{passed}
use Rattle.sw_file.proofs.RowRoutes.{route_step}
use Rattle.sw_file.proofs.Plain.{PlainMembers, Holds, known_plain}
use Rattle.sw_file.proofs.PlainReaders.{text_plain, text_or_plain, number_plain, number_or_plain, flag_plain, absent_plain, numbers_plain, numbers_or_plain, table_plain, tables_sorted, tables_hold}
use Rattle.sw_text.proofs.Results.{bind_ok}

name_plain : (n : ℕ) (s : Section) (taken : List (List ℕ)) (ms : Members) (x : List ℕ) → new_name s taken ms ≡ Ok x → Holds n ms (key_text Name)
unfolding new_name name_at
name_plain n s taken ms x well =
    let a = bind_ok (name_at s ms) _ x well in
    let b = bind_ok (text_at s Name ms) _ a.0 a.1 in
    text_plain n s Name ms b.0 b.1

place_plain : (n : ℕ) (s : Section) (key : Key) (names : List (List ℕ)) (ms : Members) (x : ℕ) → place_at s key names ms ≡ Ok x → Holds n ms (key_text key)
unfolding place_at
place_plain n s key names ms x well =
    let a = bind_ok (text_at s key ms) _ x well in
    text_plain n s key ms a.0 a.1

size_plain : (n i start : ℕ) (ms : Members) (x : ℕ) → size_at i start ms ≡ Ok x → Holds n ms (key_text Size)
unfolding size_at
size_plain n i start ms x well =
    let a = bind_ok (number_at (section.Target i) Size 1 65536 ms) _ x well in
    number_plain n (section.Target i) Size 1 65536 ms a.0 a.1

config_plain : (i : ℕ) (t : Members) (c : TargetConfig) → config_of One i t ≡ Ok c → members_are_sorted t ≡ true → PlainMembers 0 t
unfolding config_of
config_plain i t c well sorted =
    let s = section.Target i in
    let a = bind_ok (only_known s (target_keys One) t) _ c well in
    let b = bind_ok (number_at s Logical 32 254 t) _ c a.2 in
    let d = bind_ok (number_or s TargetKey 0 255 0 t) _ c b.2 in
    let e = bind_ok (number_or s Start 0 1099511627775 0 t) _ c d.2 in
    let f = bind_ok (size_at i e.0 t) _ c e.2 in
    known_plain 0 (target_keys One) t (passed s (target_keys One) t a.0 a.1) sorted
    (number_plain 0 s Logical 32 254 t b.0 b.1, (number_or_plain 0 s TargetKey 0 255 0 t d.0 d.1, (number_or_plain 0 s Start 0 1099511627775 0 t e.0 e.1, (size_plain 0 i e.0 t f.0 f.1, tt))))

target_inner : (i : ℕ) (t u : Members) (c : Option TargetConfig) → table_or_none (section.Node i) Target t ≡ Ok (Some u) → target_or_none One i t ≡ Ok c → (x : TargetConfig) × (config_of One i u ≡ Ok x)
unfolding target_or_none
target_inner i t u c there well =
    let a = bind_ok (config_of One i u) (λ x. Ok (Some x)) c (rw there at well) in
    (a.0, a.1)

target_plain : (i : ℕ) (t : Members) (c : Option TargetConfig) → target_or_none One i t ≡ Ok c → members_are_sorted t ≡ true → Holds 1 t (key_text Target)
unfolding target_or_none
target_plain i t c well sorted =
    let a = bind_ok (table_or_none (section.Node i) Target t) _ c well in
    table_plain 0 (section.Node i) Target t a.0 a.1 sorted (λ u is order.
    let x = target_inner i t u c (a.1 ∙ ap Ok is) well in
    config_plain i u x.0 x.1 order)

pub node_plain : (i : ℕ) (taken : List (List ℕ)) (t : Members) (n : NodeEntry) → node_of One i taken t ≡ Ok n → members_are_sorted t ≡ true → PlainMembers 1 t
unfolding node_of
node_plain i taken t n well sorted =
    let s = section.Node i in
    let a = bind_ok (only_known s (node_keys One) t) _ n well in
    let b = bind_ok (new_name s taken t) _ n a.2 in
    let c = bind_ok (target_or_none One i t) _ n b.2 in
    known_plain 1 (node_keys One) t (passed s (node_keys One) t a.0 a.1) sorted (name_plain 1 s taken t b.0 b.1, (target_plain i t c.0 c.1 sorted, tt))

ports_plain : (s : Section) (t : Members) (x : ℕ) → ports_at s t ≡ Ok x → Holds 1 t (key_text Ports)
unfolding ports_at
ports_plain s t x well =
    let a = bind_ok (numbers_at s Ports 31 t) _ x well in
    numbers_plain 0 s Ports 31 t a.0 a.1

pub route_plain : (s : Section) (t : Members) (r : RouteEntry) → route_of One s t ≡ Ok r → members_are_sorted t ≡ true → PlainMembers 1 t
unfolding route_of
route_plain s t r well sorted =
    let a = bind_ok (only_known s (route_keys One) t) _ r well in
    let b = bind_ok (number_at s Address 32 254 t) _ r a.2 in
    let c = bind_ok (number_or s Last b.0 254 b.0 t) _ r b.2 in
    let d = bind_ok (ports_at s t) _ r c.2 in
    let f = bind_ok (flag_or_false s Delete t) _ r d.2 in
    known_plain 1 (route_keys One) t (passed s (route_keys One) t a.0 a.1) sorted (number_plain 1 s Address 32 254 t b.0 b.1, (ports_plain s t d.0 d.1, (flag_plain 1 s Delete t f.0 f.1, tt)))

routes_plain : (i j : ℕ) (done : List RouteEntry) (ts : List Members) (rs : List RouteEntry) → walk_from (next_route One i) j done ts ≡ Ok rs → AllByRecursion (λ t. members_are_sorted t ≡ true) ts → AllByRecursion (PlainMembers 1) ts
routes_plain i j done [] rs well sorted = tt
routes_plain i j done (t ∷ ts) rs well sorted =
    let a = bind_ok (next_route One i j done t) (λ next. walk_from (next_route One i) (suc j) next ts) rs well in
    let step = route_step i j done t a.0 a.1 in
    (route_plain (section.Route i j) t step.0 step.1 sorted.0, routes_plain i (suc j) a.0 ts rs a.2 sorted.1)

table_routes_plain : (i : ℕ) (t : Members) (rs : List RouteEntry) → routes_at One i t ≡ Ok rs → members_are_sorted t ≡ true → Holds 3 t (key_text Route)
unfolding routes_at
table_routes_plain i t rs well sorted =
    let s = section.Switch i in
    let a = bind_ok (tables_or_none s Route t) (λ tables. walk_from (next_route One i) 0 [] tables) rs well in
    tables_hold 1 s Route t a.0 a.1 (routes_plain i 0 [] a.0 rs a.2 (tables_sorted s Route t a.0 a.1 sorted))

arbiter_plain : (n i : ℕ) (t : Members) (x : Arbitration) → arbitration_at i t ≡ Ok x → Holds n t (key_text Arbiter)
unfolding arbitration_at
arbiter_plain n i t x well =
    let a = bind_ok (text_or_none (section.Switch i) Arbiter t) _ x well in
    text_or_plain n (section.Switch i) Arbiter t a.0 a.1

pub switch_plain : (i : ℕ) (taken : List (List ℕ)) (t : Members) (x : SwitchEntry) → switch_of One i taken t ≡ Ok x → members_are_sorted t ≡ true → PlainMembers 3 t
unfolding switch_of
switch_plain i taken t x well sorted =
    let s = section.Switch i in
    let a = bind_ok (only_known s switch_keys t) _ x well in
    let b = bind_ok (new_name s taken t) _ x a.2 in
    let c = bind_ok (arbitration_at i t) _ x b.2 in
    let d = bind_ok (routes_at One i t) _ x c.2 in
    known_plain 3 switch_keys t (passed s switch_keys t a.0 a.1) sorted (name_plain 3 s taken t b.0 b.1, (arbiter_plain 3 i t c.0 c.1, (table_routes_plain i t d.0 d.1 sorted, tt)))

end_plain : (n : ℕ) (s : Section) (key port : Key) (nodes : ℕ) (names : List (List ℕ)) (t : Members) (x : PlaceEnd) → end_at s key port nodes names t ≡ Ok x → Holds n t (key_text key) × Holds n t (key_text port)
unfolding end_at
end_plain n s key port nodes names t x well =
    let a = bind_ok (place_at s key names t) _ x well in (
      place_plain n s key names t a.0 a.1,
      elim (cases_Bool (nat_lt a.0 nodes)) [
        | inl node ↦ let b = bind_ok (absent s port t) _ x (rw node at a.2) in absent_plain n s port t b.0 b.1
        | inr switch ↦ let b = bind_ok (number_at s port 0 31 t) _ x (rw switch at a.2) in number_plain n s port 0 31 t b.0 b.1
      ],
    )

pub link_plain : (i nodes : ℕ) (names : List (List ℕ)) (t : Members) (x : LinkEntry) → link_of One i nodes names t ≡ Ok x → members_are_sorted t ≡ true → PlainMembers 0 t
unfolding link_of
link_plain i nodes names t x well sorted =
    let s = section.Link i in
    let a = bind_ok (only_known s (link_keys One) t) _ x well in
    let b = bind_ok (end_at s A APort nodes names t) _ x a.2 in
    let c = bind_ok (end_at s B BPort nodes names t) _ x b.2 in
    let d = bind_ok (number_or s Buffer 8 4096 64 t) _ x c.2 in
    let p = end_plain 0 s A APort nodes names t b.0 b.1 in
    let q = end_plain 0 s B BPort nodes names t c.0 c.1 in
    known_plain 0 (link_keys One) t (passed s (link_keys One) t a.0 a.1) sorted (p.0, (p.1, (q.0, (q.1, (number_or_plain 0 s Buffer 8 4096 64 t d.0 d.1, tt)))))

address_plain : (i : ℕ) (t : Members) (x : List ℕ) → address_at i t ≡ Ok x → Holds 2 t (key_text Address)
unfolding address_at
address_plain i t x well =
    let a = bind_ok (numbers_or_none (section.Flow i) Address 255 t) _ x well in
    numbers_or_plain 1 (section.Flow i) Address 255 t a.0 a.1

addressed_plain : (i : ℕ) (t : Members) (x : List ℕ × ℕ) → addressed i t ≡ Ok x → Holds 2 t (key_text Address) × Holds 2 t (key_text Left)
unfolding addressed
addressed_plain i t x well =
    let a = bind_ok (address_at i t) _ x well in
    let b = bind_ok (number_or (section.Flow i) Left 0 (length a.0) 0 t) _ x a.2 in
    (address_plain i t a.0 a.1, number_or_plain 2 (section.Flow i) Left 0 (length a.0) 0 t b.0 b.1)

reply_of_plain : (i : ℕ) (t : Members) (x : ReplyEntry) → reply_of One i t ≡ Ok x → members_are_sorted t ≡ true → PlainMembers 1 t
unfolding reply_of
reply_of_plain i t x well sorted =
    let s = section.Reply i in
    let a = bind_ok (only_known s (reply_keys One) t) _ x well in
    let b = bind_ok (numbers_or_none s Path 255 t) _ x a.2 in
    let c = bind_ok (number_at s Initiator 0 255 t) _ x b.2 in
    known_plain 1 (reply_keys One) t (passed s (reply_keys One) t a.0 a.1) sorted (numbers_or_plain 0 s Path 255 t b.0 b.1, (number_plain 1 s Initiator 0 255 t c.0 c.1, tt))

reply_inner : (i : ℕ) (t u : Members) (x : Option ReplyEntry) → table_or_none (section.Flow i) Reply t ≡ Ok (Some u) → reply_or_none One i t ≡ Ok x → (y : ReplyEntry) × (reply_of One i u ≡ Ok y)
unfolding reply_or_none
reply_inner i t u x there well =
    let a = bind_ok (reply_of One i u) (λ y. Ok (Some y)) x (rw there at well) in
    (a.0, a.1)

reply_plain : (i : ℕ) (t : Members) (x : Option ReplyEntry) → reply_or_none One i t ≡ Ok x → members_are_sorted t ≡ true → Holds 2 t (key_text Reply)
unfolding reply_or_none
reply_plain i t x well sorted =
    let a = bind_ok (table_or_none (section.Flow i) Reply t) _ x well in
    table_plain 1 (section.Flow i) Reply t a.0 a.1 sorted (λ u is order.
    let y = reply_inner i t u x (a.1 ∙ ap Ok is) well in
    reply_of_plain i u y.0 y.1 order)

replies_plain : (i : ℕ) (nodes : List NodeEntry) (to : ℕ) (t : Members) (x : Option ReplyEntry) → replies_at One i nodes to t ≡ Ok x → members_are_sorted t ≡ true → Holds 2 t (key_text Reply)
unfolding replies_at
replies_plain i nodes to t x well sorted =
    let a = bind_ok (reply_or_none One i t) _ x well in
    reply_plain i t a.0 a.1 sorted

pub flow_plain : (i : ℕ) (nodes : List NodeEntry) (taken : List (List ℕ)) (t : Members) (x : FlowEntry) → flow_of One i nodes taken t ≡ Ok x → members_are_sorted t ≡ true → PlainMembers 2 t
unfolding flow_of
flow_plain i nodes taken t x well sorted =
    let s = section.Flow i in
    let a = bind_ok (only_known s flow_keys t) _ x well in
    let b = bind_ok (new_name s taken t) _ x a.2 in
    let c = bind_ok (place_at s From (node_names nodes) t) _ x b.2 in
    let d = bind_ok (place_at s To (node_names nodes) t) _ x c.2 in
    let e = bind_ok (addressed i t) _ x d.2 in
    let f = bind_ok (replies_at One i nodes d.0 t) (λ reply. Ok (record { name = b.0; from = c.0; to = d.0; address = e.0.0; left = e.0.1; reply = reply })) x e.2 in
    let way = addressed_plain i t e.0 e.1 in
    known_plain 2 flow_keys t (passed s flow_keys t a.0 a.1) sorted
    (name_plain 2 s taken t b.0 b.1, (place_plain 2 s From (node_names nodes) t c.0 c.1, (place_plain 2 s To (node_names nodes) t d.0 d.1, (way.0, (way.1, (replies_plain i nodes d.0 t f.0 f.1 sorted, tt))))))
