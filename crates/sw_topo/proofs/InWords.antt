-- The first fault of a wiring, in words.
use Rattle.std.proofs.Common.{◌≡◌, ℕ, ◌+◌, ◌*◌, ◌/◌, ◌<◌, ◌≤◌, Bool, true, false, length, take, Some, None, Option, option_map, refl, sym, ap, ◌∙◌, ◌⊎◌, inl, inr, ◌↔◌, arith, eq-eqb}
use Rattle.std.specs.Prelude.{slice_get}
use Rattle.std.specs.List.{list_any}
use Rattle.std.specs.Option.{option_map_or}
use Rattle.std.proofs.lemmas.Bool.{cases_Bool, cases_lt, le-ltb, lt-ltb, false≢true}
use Rattle.std.proofs.lemmas.Option.{slice_get_within}
use Rattle.sw_topo.specs.declared.fault.Limit.{Limit}
use Rattle.sw_topo.specs.declared.fault.Limit.TheVariants.{Nodes, Switches, Links}
use Rattle.sw_topo.specs.declared.fault.TopoFault.{TopoFault}
use Rattle.sw_topo.specs.declared.fault.TopoFault.TheVariants.{TooMany, PortTaken, NodeLinks, PortUnlinked}
use Rattle.sw_topo.specs.declared.place.PlaceEnd.{PlaceEnd}
use Rattle.sw_topo.specs.declared.place.PlaceEnd.TheVariants.{Node, Switch}
use Rattle.sw_topo.specs.Wiring.{Wiring, is_node, is_port, is_at_switch, is_same_port}
use Rattle.sw_topo.specs.Checked.{IsWiring, too_many, first_of, first_below, fault_of, is_taken, takes_port, is_ill_linked, is_unlinked}
use Rattle.sw_topo.specs.FirstFault.{KeepsLimits, IsFirstPassed, StartsWhereOneDoes, TakesPort, HasOneLink, HasLink, IsFirstFault, FaultsInWords}
use Rattle.sw_topo.proofs.Converse.{first_is_least, none_first, not_true}
use Rattle.sw_topo.proofs.Ends.{node_is, node_once, node_passes, port_is, port_passes, switch_is}
use Rattle.sw_topo.proofs.Faultless.{none_below, not_not, yes_not}
use Rattle.sw_topo.proofs.Found.{any_place, before_found, found_before, one_counted, place_any}

-- ---- one fault before another

abbrev told : Option Limit → Option ℕ → Option ℕ → Option ℕ → Option TopoFault
told limit port node switch = first_of (option_map TooMany limit) (first_of (option_map PortTaken port) (first_of (option_map NodeLinks node) (option_map PortUnlinked switch)))

-- what is told is the first that there is
record IsTold (limit : Option Limit) (port node switch : Option ℕ) (o : Option TopoFault) : Type 0 where
  too_many : (l : Limit) → (o ≡ Some (TooMany l)) ↔ (limit ≡ Some l)
  port_taken : (i : ℕ) → (o ≡ Some (PortTaken i)) ↔ ((limit ≡ None) × (port ≡ Some i))
  node_links : (n : ℕ) → (o ≡ Some (NodeLinks n)) ↔ ((limit ≡ None) × (port ≡ None) × (node ≡ Some n))
  port_unlinked : (s : ℕ) → (o ≡ Some (PortUnlinked s)) ↔ ((limit ≡ None) × (port ≡ None) × (node ≡ None) × (switch ≡ Some s))

is_told : (limit : Option Limit) (port node switch : Option ℕ) → IsTold limit port node switch (told limit port node switch)
is_told (Some k) ports nodes switches = record {
  too_many = λ l. ((λ e. cc), (λ e. cc));
  port_taken = λ i. ((λ e. cc), (λ h. let e = h.0 in cc));
  node_links = λ n. ((λ e. cc), (λ h. let e = h.0 in cc));
  port_unlinked = λ s. ((λ e. cc), (λ h. let e = h.0 in cc));
}
is_told None (Some j) nodes switches = record {
  too_many = λ l. ((λ e. cc), (λ e. cc));
  port_taken = λ i. ((λ e. (refl, cc)), (λ h. let e = h.1 in cc));
  node_links = λ n. ((λ e. cc), (λ h. let e = h.1 in cc));
  port_unlinked = λ s. ((λ e. cc), (λ h. let e = h.1 in cc));
}
is_told None None (Some m) switches = record {
  too_many = λ l. ((λ e. cc), (λ e. cc));
  port_taken = λ i. ((λ e. cc), (λ h. let e = h.1 in cc));
  node_links = λ n. ((λ e. (refl, refl, cc)), (λ h. let e = h.2 in cc));
  port_unlinked = λ s. ((λ e. cc), (λ h. let e = h.2 in cc));
}
is_told None None None (Some t) = record {
  too_many = λ l. ((λ e. cc), (λ e. cc));
  port_taken = λ i. ((λ e. cc), (λ h. let e = h.1 in cc));
  node_links = λ n. ((λ e. cc), (λ h. let e = h.2 in cc));
  port_unlinked = λ s. ((λ e. (refl, refl, refl, cc)), (λ h. let e = h.3 in cc));
}
is_told None None None None = record {
  too_many = λ l. ((λ e. cc), (λ e. cc));
  port_taken = λ i. ((λ e. cc), (λ h. let e = h.1 in cc));
  node_links = λ n. ((λ e. cc), (λ h. let e = h.2 in cc));
  port_unlinked = λ s. ((λ e. cc), (λ h. let e = h.3 in cc));
}

-- ---- the limits

record IsLimit (w : Wiring) (o : Option Limit) : Type 0 where
  passed : (l : Limit) → (o ≡ Some l) ↔ IsFirstPassed w l
  kept : (o ≡ None) ↔ KeepsLimits w

module _ (w : Wiring) (wiring : IsWiring w.nodes w.switches w.ends) where
  whole : length w.ends ≡ 2 * (length w.ends / 2)
  whole = wiring.paired

  nodes_passed : 1024 < w.nodes → IsLimit w (Some Nodes)
  nodes_passed many = record { passed = by; kept = ((λ e. cc), (λ k. let few = k.nodes in absurd (omega arith))) }
    where
      by : (l : Limit) → (◌≡◌ {A = Option Limit} (Some Nodes) (Some l)) ↔ IsFirstPassed w l
      by Nodes = ((λ e. many), (λ h. refl))
      by Switches = ((λ e. cc), (λ h. absurd (omega (arith, many, h.0))))
      by Links = ((λ e. cc), (λ h. absurd (omega (arith, many, h.0))))

  switches_passed : w.nodes ≤ 1024 → 512 < w.switches → IsLimit w (Some Switches)
  switches_passed few many = record { passed = by; kept = ((λ e. cc), (λ k. let less = k.switches in absurd (omega arith))) }
    where
      by : (l : Limit) → (◌≡◌ {A = Option Limit} (Some Switches) (Some l)) ↔ IsFirstPassed w l
      by Nodes = ((λ e. cc), (λ h. absurd (omega arith)))
      by Switches = ((λ e. (few, many)), (λ h. refl))
      by Links = ((λ e. cc), (λ h. absurd (omega (arith, many, h.1))))

  links_passed : w.nodes ≤ 1024 → w.switches ≤ 512 → 1024 < length w.ends / 2 → IsLimit w (Some Links)
  links_passed few less many = record { passed = by; kept = ((λ e. cc), (λ k. let short = k.links in absurd (omega (arith, whole)))) }
    where
      by : (l : Limit) → (◌≡◌ {A = Option Limit} (Some Links) (Some l)) ↔ IsFirstPassed w l
      by Nodes = ((λ e. cc), (λ h. absurd (omega arith)))
      by Switches = ((λ e. cc), (λ h. absurd (omega (arith, less, h.1))))
      by Links = ((λ e. (few, less, omega (arith, whole))), (λ h. refl))

  none_passed : w.nodes ≤ 1024 → w.switches ≤ 512 → length w.ends / 2 ≤ 1024 → IsLimit w None
  none_passed few less short = record { passed = by; kept = ((λ e. record { nodes = few; switches = less; links = omega (arith, whole) }), (λ k. refl)) }
    where
      by : (l : Limit) → (◌≡◌ {A = Option Limit} None (Some l)) ↔ IsFirstPassed w l
      by Nodes = ((λ e. cc), (λ h. absurd (omega arith)))
      by Switches = ((λ e. cc), (λ h. absurd (omega (arith, less, h.1))))
      by Links = ((λ e. cc), (λ h. absurd (omega (arith, whole, short, h.2))))

  limit : IsLimit w (too_many w.nodes w.switches (length w.ends / 2))
  limit = by (cases_lt 1024 w.nodes) (cases_lt 512 w.switches) (cases_lt 1024 (length w.ends / 2))
    where
      by : (1024 < w.nodes) ⊎ (w.nodes ≤ 1024) → (512 < w.switches) ⊎ (w.switches ≤ 512) → (1024 < length w.ends / 2) ⊎ (length w.ends / 2 ≤ 1024) → IsLimit w (too_many w.nodes w.switches (length w.ends / 2))
      by (inl many) _ _ = rw (lt-ltb 1024 w.nodes many) (nodes_passed many)
      by (inr few) (inl many) _ = rw (le-ltb 1024 w.nodes few, lt-ltb 512 w.switches many) (switches_passed few many)
      by (inr few) (inr less) (inl many) = rw (le-ltb 1024 w.nodes few, le-ltb 512 w.switches less, lt-ltb 1024 (length w.ends / 2) many) (links_passed few less many)
      by (inr few) (inr less) (inr short) = rw (le-ltb 1024 w.nodes few, le-ltb 512 w.switches less, le-ltb 1024 (length w.ends / 2) short) (none_passed few less short)

-- ---- ports

module _ (w : Wiring) where
  taken_words : (c : ℕ) → is_taken w.ends c ≡ true → StartsWhereOneDoes w c
  taken_words c is = by (slice_get w.ends c) refl is
    where
      by : (o : Option PlaceEnd) → slice_get w.ends c ≡ o → option_map_or (λ e. list_any (is_same_port e) (take c w.ends)) o false ≡ true → StartsWhereOneDoes w c
      by None at is = absurd (false≢true is)
      by (Some (Node m)) at is = let found = before_found (is_same_port (Node m)) w.ends c is in absurd (false≢true (found.2).passes)
      by (Some (Switch s p)) at is =
          let found = before_found (is_port s p) w.ends c is in
          let there = found.2 in
          record { switch = s; port = p; starts = at; earlier = found.0; before = found.1; taken = there.at ∙ ap Some (port_is s p there.element there.passes) }

  words_taken : (c : ℕ) → StartsWhereOneDoes w c → is_taken w.ends c ≡ true
  words_taken c t = rw t.starts (found_before (is_port t.switch t.port) w.ends c t.earlier t.before (port_passes w t.switch t.port t.earlier t.taken))

  takes_words : (i : ℕ) → takes_port w.ends i ≡ true → TakesPort w i
  takes_words i takes =
      elim (cases_Bool (is_taken w.ends (2 * i))) [
        | inl a ↦ inl (taken_words (2 * i) a)
        | inr free ↦ inr (taken_words (2 * i + 1) (rw free at takes))
      ]

  words_take : (i : ℕ) → TakesPort w i → takes_port w.ends i ≡ true
  words_take i (inl a) = rw (words_taken (2 * i) a) refl
  words_take i (inr b) = elim (cases_Bool (is_taken w.ends (2 * i))) [ inl a ↦ rw a refl | inr free ↦ rw (free, words_taken (2 * i + 1) b) refl ]

  free_words : (i : ℕ) → takes_port w.ends i ≡ false → ¬ TakesPort w i
  free_words i free takes = false≢true (sym free ∙ words_take i takes)

  words_free : (i : ℕ) → ¬ TakesPort w i → takes_port w.ends i ≡ false
  words_free i none = not_true (takes_port w.ends i) (λ takes. none (takes_words i takes))

  link_within : length w.ends ≡ 2 * (length w.ends / 2) → (i : ℕ) → TakesPort w i → i < length w.ends / 2
  link_within whole i (inl a) = omega (arith, slice_get_within w.ends (2 * i) (Switch a.switch a.port) a.starts)
  link_within whole i (inr b) = omega (arith, slice_get_within w.ends (2 * i + 1) (Switch b.switch b.port) b.starts)

  -- ---- nodes and switches

  one_words : (n : ℕ) → is_ill_linked w.ends n ≡ false → HasOneLink w n
  one_words n well = let one = node_once w n (not_not _ 1 well) in (one.0, (one.1).starts)

  words_one : (n : ℕ) → HasOneLink w n → is_ill_linked w.ends n ≡ false
  words_one n one =
      rw (one_counted (is_node n) w.ends one.0 (node_passes w n one.0 (one.1).here) (λ d there. (one.1).alone d (there.at ∙ ap Some (node_is n there.element there.passes)))) refl

  some_words : (s : ℕ) → is_unlinked w.ends s ≡ false → HasLink w s
  some_words s linked =
      let some = any_place (is_at_switch s) w.ends (yes_not _ linked) in
      let here = switch_is s (some.1).element (some.1).passes in
      (here.port, some.0, (some.1).at ∙ ap Some here.is)

  words_some : (s : ℕ) → HasLink w s → is_unlinked w.ends s ≡ false
  words_some s some = rw (place_any (is_at_switch s) w.ends some.1 (record { element = Switch s some.0; at = some.2; passes = eq-eqb s s refl })) refl

-- a test that fails exactly where P holds
module _ (test : ℕ → Bool) (P : ℕ → Type 0) (words : (k : ℕ) → test k ≡ false → P k) (back : (k : ℕ) → P k → test k ≡ false) (n : ℕ) where
  all_hold : first_below test n ≡ None → (k : ℕ) → k < n → P k
  all_hold none k lt = words k (none_below test n none k lt)

  hold_all : ((k : ℕ) → k < n → P k) → first_below test n ≡ None
  hold_all all = none_first test n (λ k lt. back k (all k lt))

  first_fails : (k : ℕ) → first_below test n ≡ Some k → (k < n) × (¬ P k) × ((j : ℕ) → j < k → P j)
  first_fails k found =
      let is = (first_is_least test n k).0 found in
      (is.within, (λ holds. false≢true (sym (back k holds) ∙ is.passes)), (λ j lt. words j (is.least j lt)))

  fails_first : (k : ℕ) → k < n → ¬ P k → ((j : ℕ) → j < k → P j) → first_below test n ≡ Some k
  fails_first k lt not before = (first_is_least test n k).1 (record {
    within = lt;
    passes = elim (cases_Bool (test k)) [ inl passes ↦ passes | inr fails ↦ absurd (not (words k fails)) ];
    least = λ j below. back j (before j below);
  })

-- ---- all together

module _ (w : Wiring) (wiring : IsWiring w.nodes w.switches w.ends) where
  is : IsTold (too_many w.nodes w.switches (length w.ends / 2)) (first_below (takes_port w.ends) (length w.ends / 2)) (first_below (is_ill_linked w.ends) w.nodes) (first_below (is_unlinked w.ends) w.switches) (fault_of w)
  is = is_told (too_many w.nodes w.switches (length w.ends / 2)) (first_below (takes_port w.ends) (length w.ends / 2)) (first_below (is_ill_linked w.ends) w.nodes) (first_below (is_unlinked w.ends) w.switches)

  -- no link takes a port, whatever its number
  ports_free : first_below (takes_port w.ends) (length w.ends / 2) ≡ None → (i : ℕ) → ¬ TakesPort w i
  ports_free none i takes = all_hold (takes_port w.ends) (λ i. ¬ TakesPort w i) (free_words w) (words_free w) (length w.ends / 2) none i (link_within w wiring.paired i takes) takes

  free_ports : ((i : ℕ) → ¬ TakesPort w i) → first_below (takes_port w.ends) (length w.ends / 2) ≡ None
  free_ports free = hold_all (takes_port w.ends) (λ i. ¬ TakesPort w i) (free_words w) (words_free w) (length w.ends / 2) (λ i lt. free i)

  nodes_linked : first_below (is_ill_linked w.ends) w.nodes ≡ None → (n : ℕ) → n < w.nodes → HasOneLink w n
  nodes_linked = all_hold (is_ill_linked w.ends) (HasOneLink w) (one_words w) (words_one w) w.nodes

  linked_nodes : ((n : ℕ) → n < w.nodes → HasOneLink w n) → first_below (is_ill_linked w.ends) w.nodes ≡ None
  linked_nodes = hold_all (is_ill_linked w.ends) (HasOneLink w) (one_words w) (words_one w) w.nodes

  port_found : (i : ℕ) → first_below (takes_port w.ends) (length w.ends / 2) ≡ Some i → TakesPort w i × ((j : ℕ) → j < i → ¬ TakesPort w j)
  port_found i found =
      let least = (first_is_least (takes_port w.ends) (length w.ends / 2) i).0 found in
      (takes_words w i least.passes, (λ j lt. free_words w j (least.least j lt)))

  found_port : (i : ℕ) → TakesPort w i → ((j : ℕ) → j < i → ¬ TakesPort w j) → first_below (takes_port w.ends) (length w.ends / 2) ≡ Some i
  found_port i takes first = (first_is_least (takes_port w.ends) (length w.ends / 2) i).1 (record {
    within = link_within w wiring.paired i takes;
    passes = words_take w i takes;
    least = λ j lt. words_free w j (first j lt);
  })

  in_words : (f : TopoFault) → (fault_of w ≡ Some f) ↔ IsFirstFault w f
  in_words (TooMany l) = (
    λ e. ((limit w wiring).passed l).0 ((is.too_many l).0 e),
    λ passed. (is.too_many l).1 (((limit w wiring).passed l).1 passed),
  )
  in_words (PortTaken i) = (
    λ e.
        let h = (is.port_taken i).0 e in
        let found = port_found i h.1 in
        record { limits = (limit w wiring).kept.0 h.0; takes = found.0; first = found.1 },
    λ f. (is.port_taken i).1 ((limit w wiring).kept.1 f.limits, found_port i f.takes f.first),
  )
  in_words (NodeLinks n) = (
    λ e.
        let h = (is.node_links n).0 e in
        let found = first_fails (is_ill_linked w.ends) (HasOneLink w) (one_words w) (words_one w) w.nodes n h.2 in
        record { limits = (limit w wiring).kept.0 h.0; ports = ports_free h.1; in_network = found.0; ill_linked = found.1; first = found.2 },
    λ f. (is.node_links n).1 (
      (limit w wiring).kept.1 f.limits,
      free_ports f.ports,
      fails_first (is_ill_linked w.ends) (HasOneLink w) (one_words w) (words_one w) w.nodes n f.in_network f.ill_linked f.first,
    ),
  )
  in_words (PortUnlinked s) = (
    λ e.
        let h = (is.port_unlinked s).0 e in
        let found = first_fails (is_unlinked w.ends) (HasLink w) (some_words w) (words_some w) w.switches s h.3 in
        record { limits = (limit w wiring).kept.0 h.0; ports = ports_free h.1; nodes = nodes_linked h.2; in_network = found.0; unlinked = found.1; first = found.2 },
    λ f. (is.port_unlinked s).1 (
      (limit w wiring).kept.1 f.limits,
      free_ports f.ports,
      linked_nodes f.nodes,
      fails_first (is_unlinked w.ends) (HasLink w) (some_words w) (words_some w) w.switches s f.in_network f.unlinked f.first,
    ),
  )

pub faults_in_words : FaultsInWords
faults_in_words w wiring = in_words w wiring
