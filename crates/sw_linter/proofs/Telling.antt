-- What is told by what is noted is what is told of the places.
use Rattle.std.proofs.Common.{◌≡◌, ℕ, ◌+◌, ◌*◌, ◌-◌, ◌<◌, Bool, ◌&&◌, ◌||◌, not, List, [], ◌∷◌, ◌++◌, length, Contains, Option, Some, None, refl, sym, ap, ap₂, ◌∙◌, subst, arith}
use Rattle.std.specs.Prelude.{find, flat_map, fold, is_some, option_and_then, option_map, slice_get, if◌then◌else◌}
use Rattle.std.specs.List.{list_any, range_with_len}
use Rattle.std.specs.Option.{option_map_or, option_to_list}
use Rattle.std.proofs.lemmas.Bool.{and_from, and_parts}
use Rattle.std.proofs.lemmas.List.Elements.{All-contains}
use Rattle.std.proofs.lemmas.Option.{slice_get_within}
use Rattle.sw_topo.specs.Ports.{ports_of}
use Rattle.sw_topo.specs.Wiring.{out_of, partner}
use Rattle.sw_topo.proofs.Ends.{port_starts}
use Rattle.sw_route.specs.declared.look.Route.{Route}
use Rattle.sw_route.specs.Looks.{IsRoute, IsTable}
use Rattle.sw_config.specs.Entries.{FlowEntry, Declaration, SwitchEntry, reply_flows, routes_of, target_of, wiring_of}
use Rattle.sw_config.specs.Valid.{IsSwitch, IsValid}
use Rattle.sw_config.proofs.Steps.{length-link_ends}
use Rattle.sw_flow.specs.Places.{ends_of}
use Rattle.sw_circles.proofs.Lawful.{Contains-at}
use Rattle.sw_linter.specs.declared.asking.Asking.{Asking}
use Rattle.sw_linter.specs.declared.lint.Lint.{Lint}
use Rattle.sw_linter.specs.declared.lint.Lint.TheVariants.{LeadsBack, NoFlows, UnusedEntry, UnusedNode, UnusedSwitch, UnusedTarget}
use Rattle.sw_linter.specs.FlowPlaces.{FlowPlace, AreFlowPlaces}
use Rattle.sw_linter.specs.Lints.{addressed, AreLints, addresses, asks_on, back_by, by_entries, comes_by, comes_to, doubtful, first_by, first_pair, is_group, is_matched, is_used_entry, is_used_switch, leads_back, linked, one_linked_port, opposed, starts_at, told_of, unused, unused_entries, unused_entry, unused_node, unused_switch, unused_target}
use Rattle.sw_linter.specs.Marks.{AreFound, MarkLists, arrival_key, asker, back_at, doubtful_by, end_key, first_led, led_key, no_places, start_key, with_place, is_met_by, is_used_by, leads_back_by, nodes_of, note_at, opposed_by, pair_by, pair_of, unused_by, unused_entry_by, unused_node_by, unused_switch_by, unused_target_by}
use Rattle.sw_graph.specs.Rounds.{is_marked}
use Rattle.sw_linter.proofs.Keys.{arrives_key, comes_key, comes_not, ends_key, leads, matched, starts_key}
use Rattle.sw_linter.proofs.Noting.{AreMarks, marks_of, no_flow_places, nodes_noted, number_of}
use Rattle.sw_linter.proofs.Pairs.{pair_told}
use Rattle.sw_linter.proofs.Ranges.{first_made_none, first_made_same, first_made_shifted, flat_map_same, list_any_shifted, made_if, made_same}
use Rattle.sw_linter.proofs.TableSteps.{is_key}
use Rattle.sw_linter.proofs.Tests.{any_passes, find_none, find_same, list_any_same, passing}
use Rattle.sw_topo.proofs.Lists.{same_bool}
use Rattle.sw_flow.proofs.Partners.{partner_within}

-- some byte at some element, or some element with some byte
any_swap : {X : Type 0} (p : X → Bool) (q : ℕ → X → Bool) (bytes : List ℕ) (xs : List X) → list_any (λ b. list_any (λ v. p v && q b v) xs) bytes ≡ list_any (λ v. p v && list_any (λ b. q b v) bytes) xs
any_swap {X} p q bytes xs = same_bool _ _ (λ is.
    let at = passing (λ b. list_any (λ v. p v && q b v) xs) bytes is in
    let v = passing (λ v. p v && q at.element v) xs at.passes in
    let both = and_parts (p v.element) (q at.element v.element) v.passes in
    any_passes (λ v. p v && list_any (λ b. q b v) bytes) xs v.element v.listed
    (and_from (p v.element) (list_any (λ b. q b v.element) bytes) both.0 (any_passes (λ b. q b v.element) bytes at.element at.listed both.1))) (λ is.
    let v = passing (λ v. p v && list_any (λ b. q b v) bytes) xs is in
    let both = and_parts (p v.element) (list_any (λ b. q b v.element) bytes) v.passes in
    let at = passing (λ b. q b v.element) bytes both.1 in
    any_passes (λ b. list_any (λ v. p v && q b v) xs) bytes at.element at.listed
    (any_passes (λ v. p v && q at.element v) xs v.element v.listed (and_from (p v.element) (q at.element v.element) both.0 at.passes)))

-- an entry of a table is for logical addresses
route_is : (d : Declaration) (s : ℕ) (r : Route) → IsValid d → Contains (routes_of d.switches s) r → IsRoute r
route_is d s r valid h = by (slice_get d.switches s) refl h
  where
    by : (o : Option SwitchEntry) → slice_get d.switches s ≡ o → Contains (option_map_or (λ e. e.routes) o []) r → IsRoute r
    by None e k = absurd (omega (arith, k.1))
    by (Some e) is k =
        let table : IsTable e.routes = All-contains IsSwitch d.switches e valid.switches (Contains-at d.switches s e is) in
        All-contains IsRoute e.routes r table.valid k

module _ (d : Declaration) (valid : IsValid d) (all : List FlowPlace) (m : MarkLists) (a : AreMarks d all m) where
  used : (s : ℕ) → s < length d.switches → is_used_by m s ≡ is_used_switch d all s
  used s lt =
      ap₂ (λ b c. b || c)
      (a.starts s (omega (arith, a.long_starts)) ∙ list_any_same (λ v. is_key s (start_key d v)) (starts_at d s) all (starts_key d s))
      (a.ends s (omega (arith, a.long_ends)) ∙ list_any_same (λ v. is_key s (end_key d v)) (comes_to d s) all (ends_key d s))

  met : (s : ℕ) (r : Route) → s < length d.switches → IsRoute r → is_met_by m s r ≡ is_used_entry d all s r
  met s r lt route =
      let low = route.first in
      let rises = route.rising in
      let high = route.last in
      list_any_shifted (is_marked m.arrivals) (λ b. list_any (λ v. comes_to d s v && leads b v) all) (256 * s) (256 * s + r.first) r.first (r.last + 1 - r.first) refl
      (λ b from to.
      let small : b < 255 = omega arith in
      a.arrivals (256 * s + b) (omega (arith, a.long_arrivals)) ∙ list_any_same (λ v. is_key (256 * s + b) (arrival_key d v)) (λ v. comes_to d s v && leads b v) all (λ v. arrives_key d s b v small))
      ∙ any_swap (comes_to d s) leads (addresses r) all
      ∙ list_any_same (λ v. comes_to d s v && list_any (λ b. leads b v) (addresses r)) (λ v. comes_to d s v && is_matched r v) all (λ v. ap (λ b. comes_to d s v && b) (matched r v))

  back_same : (s : ℕ) (r : Route) (port : ℕ) → IsRoute r → back_at d m s r port ≡ back_by d all s r port
  back_same s r port route = by (out_of (ends_of d) s port) refl
    where
      by : (o : Option ℕ) → out_of (ends_of d) s port ≡ o → option_and_then (λ c. first_led m r (partner c)) o ≡ back_by d all s r port
      by None out = sym (first_made_none (first_by d all s port) (addresses r) (λ b. ap (option_map number_of) (find_none (comes_by d s port b) all (λ v. comes_not d valid.sound s port b v out))))
      by (Some c) out =
          let rises = route.rising in
          let high = route.last in
          let inside : partner c < length (ends_of d) = partner_within d c (slice_get_within (ends_of d) c _ (port_starts (wiring_of d) s port c out)) in
          first_made_shifted (note_at m.led) (first_by d all s port) (256 * partner c) (256 * partner c + r.first) r.first (r.last + 1 - r.first) refl
          (λ b from to.
          let small : b < 255 = omega arith in
          a.led (256 * partner c + b) (omega (arith, a.long_led)) ∙ ap (option_map number_of) (find_same (λ v. is_key (256 * partner c + b) (led_key v)) (comes_by d s port b) all (λ v. comes_key d valid.sound s port c b v out small)))

  pair_same : (link : ℕ) → link < length d.links → pair_by m link ≡ first_pair d all link
  pair_same link lt =
      let even = length-link_ends d.links in
      let on_a : 2 * link < length (ends_of d) = omega arith in
      let on_b : 2 * link + 1 < length (ends_of d) = omega arith in
      ap₂ (λ (x : Option Asking) (y : Option Asking). pair_of link x y (note_at m.other (2 * link)) (note_at m.other (2 * link + 1))) (a.asking (2 * link) on_a) (a.asking (2 * link + 1) on_b)
      ∙ ap₂ (λ (x : Option ℕ) (y : Option ℕ). pair_of link (option_map (asker d) (find (asks_on (2 * link)) all)) (option_map (asker d) (find (asks_on (2 * link + 1)) all)) x y) (a.other (2 * link) on_a) (a.other (2 * link + 1) on_b)
      ∙ pair_told d all link (2 * link) (2 * link + 1)

  unused_same : unused_by d (nodes_of d) m ≡ unused d all
  unused_same =
      let n = nodes_noted d in
      let nodes = flat_map_same (unused_node_by (nodes_of d)) (unused_node d) 0 (length d.nodes) (λ k low lt.
      ap₂ (λ b c. if b || c then [] else UnusedNode k ∷ []) (n.from k (omega (arith, n.long_from))) (n.to k (omega (arith, n.long_to)))) in
      let switches = flat_map_same (unused_switch_by m) (unused_switch d all) 0 (length d.switches) (λ s low lt. ap (λ b. if b then [] else UnusedSwitch s ∷ []) (used s (omega arith))) in
      let targets = flat_map_same (unused_target_by d (nodes_of d)) (unused_target d) 0 (length d.nodes) (λ k low lt.
      ap₂ (λ b c. if is_some (target_of d.nodes k) && (b && not c) then UnusedTarget k ∷ [] else []) (n.from k (omega (arith, n.long_from))) (n.to k (omega (arith, n.long_to)))) in
      let entries = flat_map_same (λ s. by_entries d (unused_entry_by m s) s) (unused_entries d all) 0 (length d.switches) (λ s low lt.
      made_same (unused_entry_by m s) (λ e r. if is_used_switch d all s then unused_entry d all s e r else []) (routes_of d.switches s) (λ e r h.
      ap₂ (λ b c. if b then (if c then [] else UnusedEntry s e ∷ []) else []) (used s (omega arith)) (met s r (omega arith) (route_is d s r valid h)))
      ∙ made_if (is_used_switch d all s) (unused_entry d all s) (routes_of d.switches s)) in
      ap₂ (λ k l. k ++ l) nodes (ap₂ (λ k l. k ++ l) switches (ap₂ (λ k l. k ++ l) targets entries))

  doubtful_same : doubtful_by d m ≡ doubtful d all
  doubtful_same =
      let backs = flat_map_same (λ s. by_entries d (leads_back_by d m s) s) (λ s. by_entries d (leads_back d all s) s) 0 (length d.switches) (λ s low lt.
      made_same (leads_back_by d m s) (leads_back d all s) (routes_of d.switches s) (λ e r h.
      ap (λ (o : Option Lint). if is_group (linked d s r) then option_to_list o else [])
      (first_made_same (λ port. option_map (λ flow. LeadsBack s e port flow) (back_at d m s r port)) (λ port. option_map (λ flow. LeadsBack s e port flow) (back_by d all s r port)) (ports_of r.ports)
      (λ port. ap (option_map (λ flow. LeadsBack s e port flow)) (back_same s r port (route_is d s r valid h)))))) in
      let links = flat_map_same (opposed_by m) (opposed d all) 0 (length d.links) (λ link low lt. ap option_to_list (pair_same link (omega arith))) in
      ap₂ (λ k l. (flat_map (λ s. by_entries d (one_linked_port d s) s) (range_with_len 0 (length d.switches))) ++ (k ++ l)) backs links

-- where there are flows
pub told_with_flows : (d : Declaration) (lints : List Lint) → IsValid d → (d.flows ≡ [] → ⊥) → AreFound d lints → AreLints d lints
told_with_flows d lints valid some f = record {
  all = f.noted.all;
  places = f.noted.places;
  told = f.told ∙ ap (λ k. (unused_by d (nodes_of d) k ++ doubtful_by d k) ++ addressed d) f.noted.noted ∙ ap₂ (λ k l. (k ++ l) ++ addressed d) (unused_same d valid f.noted.all (fold (with_place d) (no_places d) f.noted.all) a) (doubtful_same d valid f.noted.all (fold (with_place d) (no_places d) f.noted.all) a) ∙ sym (by d.flows some);
}
  where
    a : AreMarks d f.noted.all (fold (with_place d) (no_places d) f.noted.all)
    a = marks_of d f.noted.all

    by : (flows : List FlowEntry) → (flows ≡ [] → ⊥) → told_of d f.noted.all flows ≡ (unused d f.noted.all ++ doubtful d f.noted.all) ++ addressed d
    by [] none = absurd (none refl)
    by (g ∷ gs) none = refl

-- where there are none
pub told_without_flows : (d : Declaration) (lints : List Lint) → d.flows ≡ [] → lints ≡ NoFlows ∷ [] → AreLints d lints
told_without_flows d lints none is = record {
  all = [];
  places = subst (λ (l : List FlowEntry). AreFlowPlaces d l []) (sym (ap (λ (l : List FlowEntry). l ++ reply_flows l) none)) (no_flow_places d);
  told = is ∙ sym (ap (told_of d []) none);
}

pub no_flows_listed : (d : Declaration) → length d.flows ≡ 0 → d.flows ≡ []
no_flows_listed d none = by d.flows none
  where
    by : (flows : List FlowEntry) → length flows ≡ 0 → flows ≡ []
    by [] e = refl
    by (f ∷ fs) e = absurd (omega arith)

pub some_flows_listed : (d : Declaration) → (length d.flows ≡ 0 → ⊥) → d.flows ≡ [] → ⊥
some_flows_listed d some none = some (ap length none)
