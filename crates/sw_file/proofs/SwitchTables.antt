-- A table of a switch is read exactly where it is as the words say.
use Rattle.std.proofs.Common.{◌≡◌, ◌≢◌, ℕ, ◌&&◌, Bool, true, false, List, [], ◌∷◌, ◌++◌, length, get_or, Option, Some, None, Result, Ok, Err, All, AllPairs, refl, sym, subst, ap, ◌∙◌, arith, inl, inr}
use Rattle.std.specs.Prelude.{nat_le, if◌then◌else◌}
use Rattle.std.specs.List.{list_any}
use Rattle.std.proofs.lemmas.Bool.{and_parts, cases_Bool, leb-true, le-leb, false≢true, false_from_ne_true}
use Rattle.std.proofs.lemmas.List.Folds.{list_any_at, list_any_none}
use Rattle.std.proofs.lemmas.List.Elements.{All-weaker}
use Rattle.toml.specs.Data.{Data, Members, get_member, as_str}
use Rattle.sw_topo.specs.Ports.{port_set}
use Rattle.sw_route.specs.declared.look.Route.{Route as RouteEntry}
use Rattle.sw_route.specs.Looks.{overlaps}
use Rattle.sw_arb.specs.declared.arbitration.Arbitration.{Arbitration}
use Rattle.sw_arb.specs.declared.arbitration.Arbitration.TheVariants.{RoundRobin}
use Rattle.sw_config.specs.Entries.{SwitchEntry}
use Rattle.sw_text.specs.declared.keys.Key.TheVariants.{Arbiter, Route, Address, Last, Ports, Delete}
use Rattle.sw_text.specs.declared.keys.Section.{Section}
use Rattle.sw_text.specs.declared.keys.Section.TheVariants as section
use Rattle.sw_text.specs.declared.keys.Version.{Version}
use Rattle.sw_text.specs.declared.fault.KeyFault.TheVariants.{WrongType, OutOfRange}
use Rattle.sw_text.specs.declared.fault.TextFault.{TextFault}
use Rattle.sw_text.specs.declared.fault.TextFault.TheVariants as fault
use Rattle.sw_text.specs.Keys.{key_text}
use Rattle.sw_text.specs.Gives.{◌>>=◌, ok_or, walk}
use Rattle.sw_text.specs.Table.{only_known, number_at, number_or, numbers_at, tables_or_none, flag_or_false}
use Rattle.sw_text.specs.SectionKeys.{switch_keys, route_keys}
use Rattle.sw_file.specs.Names.{new_name}
use Rattle.sw_file.specs.Switches.{arbitration_named, arbitration_at, ports_at, route_of, next_route, routes_at, switch_of}
use Rattle.sw_file.specs.Values.{HasOr, HasTables}
use Rattle.sw_file.specs.Tables.{IsArbitration, HasPorts, IsRouteTable, IsSwitchTable}
use Rattle.sw_file.proofs.Known.{well, passed}
use Rattle.sw_file.proofs.Values.{there, has_or, has_or_it, has_number, has_number_it, has_number_or, number_or_is, has_numbers, numbers_is, has_flag, flag_is, has_tables, tables_is, joined, parted}
use Rattle.sw_file.proofs.Walked.{walked, walks}
use Rattle.sw_file.proofs.Tables.{passes, has_new_name, new_name_is}
use Rattle.sw_text.proofs.Results.{bind_ok, test_passed}

-- how a switch arbitrates
arbitration_value : (i : ℕ) (ms : Members) (a : Arbitration) (d : Data) → get_member (key_text Arbiter) ms ≡ Some d → arbitration_at i ms ≡ Ok a → (t : Option (List ℕ)) → as_str d ≡ t → IsArbitration d a
unfolding arbitration_at
arbitration_value i ms a d e h None u = let bad : Err (fault.Key WrongType (section.Switch i) Arbiter) ≡ Ok a = rw (e, u) at h in absurd cc
arbitration_value i ms a d e h (Some name) u =
    let read : ok_or (arbitration_named name) (fault.Key OutOfRange (section.Switch i) Arbiter) ≡ Ok a = rw (e, u) at h in
    record { name = name; text = u; named = there (arbitration_named name) (fault.Key OutOfRange (section.Switch i) Arbiter) a read }

no_arbitration : (i : ℕ) (ms : Members) → get_member (key_text Arbiter) ms ≡ None → arbitration_at i ms ≡ Ok RoundRobin
unfolding arbitration_at
no_arbitration i ms e = rw e refl

value_is : (i : ℕ) (ms : Members) (a : Arbitration) (d : Data) → get_member (key_text Arbiter) ms ≡ Some d → IsArbitration d a → arbitration_at i ms ≡ Ok a
unfolding arbitration_at
value_is i ms a d e is = rw (e, is.text, is.named) refl

has_arbitration : (i : ℕ) (ms : Members) (a : Arbitration) → arbitration_at i ms ≡ Ok a → HasOr IsArbitration RoundRobin Arbiter ms a
has_arbitration i ms a h = has_or IsArbitration RoundRobin Arbiter ms a (arbitration_at i ms) (no_arbitration i ms) (λ d e g. arbitration_value i ms a d e g (as_str d) refl) h

arbitration_is : (i : ℕ) (ms : Members) (a : Arbitration) → HasOr IsArbitration RoundRobin Arbiter ms a → arbitration_at i ms ≡ Ok a
arbitration_is i ms a is = has_or_it IsArbitration RoundRobin Arbiter ms a (arbitration_at i ms) (no_arbitration i ms) (λ d e g. value_is i ms a d e g) is

-- the ports of an entry
has_ports : (s : Section) (ms : Members) (p : ℕ) → ports_at s ms ≡ Ok p → HasPorts ms p
unfolding ports_at
has_ports s ms p h =
    let n = bind_ok (numbers_at s Ports 31 ms) (λ ports. if nat_le 1 (length ports) && nat_le (length ports) 32 then Ok (port_set ports) else Err (fault.Key OutOfRange s Ports)) p h in
    let fits = test_passed (nat_le 1 (length n.0) && nat_le (length n.0) 32) (port_set n.0) p (fault.Key OutOfRange s Ports) n.2 in
    let both = and_parts (nat_le 1 (length n.0)) (nat_le (length n.0) 32) fits.0 in
    record { numbers = n.0; listed = has_numbers s Ports ms 31 n.0 n.1; some = leb-true 1 (length n.0) both.0; few = leb-true (length n.0) 32 both.1; set = sym fits.1 }

ports_is : (s : Section) (ms : Members) (p : ℕ) → HasPorts ms p → ports_at s ms ≡ Ok p
unfolding ports_at
ports_is s ms p is =
    rw (numbers_is s Ports ms 31 is.numbers is.listed, le-leb 1 (length is.numbers) is.some, le-leb (length is.numbers) 32 is.few) (ap Ok (sym is.set))

-- an entry of a routing table
pub is_route : (version : Version) (s : Section) (ms : Members) (r : RouteEntry) → route_of version s ms ≡ Ok r → IsRouteTable version ms r
unfolding route_of
is_route version s ms r h =
    well (only_known s (route_keys version) ms) r (λ f is. rw is at h) (λ u keys.
    well (number_at s Address 32 254 ms) r (λ f is. rw (keys, is) at h) (λ first at_first.
    well (number_or s Last first 254 first ms) r (λ f is. rw (keys, at_first, is) at h) (λ last at_last.
    well (ports_at s ms) r (λ f is. rw (keys, at_first, at_last, is) at h) (λ ports at_ports.
    well (flag_or_false s Delete ms) r (λ f is. rw (keys, at_first, at_last, at_ports, is) at h) (λ delete at_delete.
    let made : Ok (record { first = first; last = last; ports = ports; delete = delete }) ≡ Ok r = rw (keys, at_first, at_last, at_ports, at_delete) at h in
    let same : record { first = first; last = last; ports = ports; delete = delete } ≡ r = cc in
    subst (IsRouteTable version ms) same (record {
      keys = passed s (route_keys version) ms u keys;
      first = has_number s Address ms 32 254 first at_first;
      last = has_number_or s Last ms first 254 first last at_last;
      ports = has_ports s ms ports at_ports;
      delete = has_flag s Delete ms delete at_delete;
    }))))))

pub route_is : (version : Version) (s : Section) (ms : Members) (r : RouteEntry) → IsRouteTable version ms r → route_of version s ms ≡ Ok r
unfolding route_of
route_is version s ms r is =
    rw (
      passes s (route_keys version) ms is.keys,
      has_number_it s Address ms 32 254 r.first is.first,
      number_or_is s Last ms r.first 254 r.first r.last is.last,
      ports_is s ms r.ports is.ports,
      flag_is s Delete ms r.delete is.delete,
    ) refl

-- entries that are apart
abbrev pub Apart : RouteEntry → RouteEntry → Type 0
Apart r q = overlaps r q ≡ false

swapped : (a b : Bool) → (a && b) ≡ (b && a)
swapped true true = refl
swapped true false = refl
swapped false true = refl
swapped false false = refl

overlaps-swapped : (r q : RouteEntry) → overlaps r q ≡ overlaps q r
overlaps-swapped r q = swapped (nat_le q.first r.last) (nat_le r.first q.last)

apart : (es : List RouteEntry) (e : RouteEntry) → list_any (overlaps e) es ≡ false → All (λ r. Apart r e) es
apart es e none = λ k d lt. false_from_ne_true (overlaps (get_or es k d) e) (λ over. false≢true (sym none ∙ list_any_at (overlaps e) es k d lt (overlaps-swapped e (get_or es k d) ∙ over)))

apart_is : (es : List RouteEntry) (e : RouteEntry) → All (λ r. Apart r e) es → list_any (overlaps e) es ≡ false
apart_is es e all = list_any_none (overlaps e) es (All-weaker (λ r. Apart r e) (λ r. overlaps e r ≡ false) (λ r is. overlaps-swapped e r ∙ is) es all)

-- an entry that overlaps none of those before it
new_route : Version → ℕ → ℕ → List RouteEntry → Members → Result RouteEntry TextFault
new_route version i j es ms = route_of version (section.Route i j) ms >>= λ r. if list_any (overlaps r) es then Err (fault.DuplicateRoute i j) else Ok r

by_test : (test : Bool) (es : List RouteEntry) (r : RouteEntry) (e : TextFault) → (if test then Err e else Ok (es ++ r ∷ [])) ≡ ((if test then Err e else Ok r) >>= λ x. Ok (es ++ x ∷ []))
by_test true es r e = refl
by_test false es r e = refl

by_entry : (read : Result RouteEntry TextFault) (es : List RouteEntry) (e : TextFault)
    → (read >>= λ r. if list_any (overlaps r) es then Err e else Ok (es ++ r ∷ [])) ≡ ((read >>= λ r. if list_any (overlaps r) es then Err e else Ok r) >>= λ x. Ok (es ++ x ∷ []))
by_entry (Err f) es e = refl
by_entry (Ok r) es e = by_test (list_any (overlaps r) es) es r e

route_steps : (version : Version) (i j : ℕ) (es : List RouteEntry) (ms : Members) → next_route version i j es ms ≡ (new_route version i j es ms >>= λ x. Ok (es ++ x ∷ []))
unfolding next_route new_route
route_steps version i j es ms = by_entry (route_of version (section.Route i j) ms) es (fault.DuplicateRoute i j)

is_new_route : (version : Version) (i j : ℕ) (es : List RouteEntry) (ms : Members) (e : RouteEntry) → new_route version i j es ms ≡ Ok e → IsRouteTable version ms e × All (λ r. Apart r e) es
unfolding new_route
is_new_route version i j es ms e h =
    let r = bind_ok (route_of version (section.Route i j) ms) (λ r. if list_any (overlaps r) es then Err (fault.DuplicateRoute i j) else Ok r) e h in
    elim (cases_Bool (list_any (overlaps r.0) es)) [
      | inl over ↦ (let bad : Err (fault.DuplicateRoute i j) ≡ Ok e = rw over at r.2 in absurd cc)
      | inr none ↦
          let given : Ok r.0 ≡ Ok e = rw none at r.2 in
          let same : r.0 ≡ e = cc in
          (is_route version (section.Route i j) ms e (r.1 ∙ ap Ok same), apart es e (ap (λ x. list_any (overlaps x) es) (sym same) ∙ none))
    ]

new_route_is : (version : Version) (i j : ℕ) (es : List RouteEntry) (ms : Members) (e : RouteEntry) → IsRouteTable version ms e → All (λ r. Apart r e) es → new_route version i j es ms ≡ Ok e
unfolding new_route
new_route_is version i j es ms e is free = rw (route_is version (section.Route i j) ms e is, apart_is es e free) refl

pub has_routes : (version : Version) (i : ℕ) (ms : Members) (rs : List RouteEntry) → routes_at version i ms ≡ Ok rs → HasTables (IsRouteTable version) Route ms rs × AllPairs Apart rs
unfolding routes_at
has_routes version i ms rs h =
    let ts = bind_ok (tables_or_none (section.Switch i) Route ms) (λ tables. walk (next_route version i) [] tables) rs h in
    let w = walked (next_route version i) (new_route version i) (λ es. es) (IsRouteTable version) (λ e. e) (λ es. es) Apart (route_steps version i) (λ es e. refl)
    (λ j es x e. is_new_route version i j es x e) 0 [] ts.0 rs ts.2 (λ a b d lt inside. absurd (omega arith)) in
    subst (λ l. HasTables (IsRouteTable version) Route ms l × AllPairs Apart l) (sym w.1)
    (joined (section.Switch i) Route ms (IsRouteTable version) ts.0 w.0 (has_tables (section.Switch i) Route ms ts.0 ts.1) w.2, w.3)

pub routes_is : (version : Version) (i : ℕ) (ms : Members) (rs : List RouteEntry) → HasTables (IsRouteTable version) Route ms rs → AllPairs Apart rs → routes_at version i ms ≡ Ok rs
unfolding routes_at
routes_is version i ms rs is pairs =
    let ts = parted (section.Switch i) Route ms (IsRouteTable version) rs is in
    rw (tables_is (section.Switch i) Route ms ts.0 ts.1)
    (walks (next_route version i) (new_route version i) (λ es. es) (IsRouteTable version) (λ e. e) (λ es. es) Apart (route_steps version i) (λ es e. refl)
    (λ j es x e. new_route_is version i j es x e) 0 [] ts.0 rs ts.2 pairs)

-- a switch
pub is_switch : (version : Version) (i : ℕ) (taken : List (List ℕ)) (ms : Members) (e : SwitchEntry) → switch_of version i taken ms ≡ Ok e → IsSwitchTable version ms e × All (λ k. k ≢ e.name) taken
unfolding switch_of
is_switch version i taken ms e h =
    well (only_known (section.Switch i) switch_keys ms) e (λ f is. rw is at h) (λ u keys.
    well (new_name (section.Switch i) taken ms) e (λ f is. rw (keys, is) at h) (λ name at_name.
    well (arbitration_at i ms) e (λ f is. rw (keys, at_name, is) at h) (λ arbitration at_arbitration.
    well (routes_at version i ms) e (λ f is. rw (keys, at_name, at_arbitration, is) at h) (λ routes at_routes.
    let made : Ok (record { name = name; arbitration = arbitration; routes = routes }) ≡ Ok e = rw (keys, at_name, at_arbitration, at_routes) at h in
    let same : record { name = name; arbitration = arbitration; routes = routes } ≡ e = cc in
    let named = has_new_name (section.Switch i) taken ms name at_name in
    let table = has_routes version i ms routes at_routes in
    subst (λ (x : SwitchEntry). IsSwitchTable version ms x × All (λ k. k ≢ x.name) taken) same (
      record {
        keys = passed (section.Switch i) switch_keys ms u keys;
        named = named.0;
        arbitration = has_arbitration i ms arbitration at_arbitration;
        routes = table.0;
        apart = table.1;
      },
      named.1,
    )))))

pub switch_is : (version : Version) (i : ℕ) (taken : List (List ℕ)) (ms : Members) (e : SwitchEntry) → IsSwitchTable version ms e → All (λ k. k ≢ e.name) taken → switch_of version i taken ms ≡ Ok e
unfolding switch_of
switch_is version i taken ms e is new =
    rw (
      passes (section.Switch i) switch_keys ms is.keys,
      new_name_is (section.Switch i) taken ms e.name is.named new,
      arbitration_is i ms e.arbitration is.arbitration,
      routes_is version i ms e.routes is.routes is.apart,
    ) refl
