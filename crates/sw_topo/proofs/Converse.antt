-- A wiring that keeps the rules has no fault.
use Rattle.std.proofs.Common.{◌≡◌, ℕ, zero, suc, ◌+◌, ◌*◌, ◌/◌, ◌<◌, ◌≤◌, Bool, true, false, cond, length, take, Some, None, Option, refl, ap, ◌∙◌, arith, eq-eqb}
use Rattle.std.specs.Prelude.{slice_get}
use Rattle.std.specs.List.{list_any}
use Rattle.std.specs.Option.{option_map_or}
use Rattle.std.proofs.lemmas.Bool.{le-ltb, false≢true}
use Rattle.std.proofs.lemmas.Bool.Decides.{nat_tests}
use Rattle.sw_topo.specs.declared.fault.TopoFault.TheVariants.{TooMany}
use Rattle.sw_topo.specs.declared.place.PlaceEnd.{PlaceEnd}
use Rattle.sw_topo.specs.declared.place.PlaceEnd.TheVariants.{Node, Switch}
use Rattle.sw_topo.specs.Wiring.{Wiring, is_node, is_port, is_at_switch, is_same_port}
use Rattle.sw_topo.specs.Checked.{IsWiring, IsSound, too_many, first_of, first_below, fault_of, is_taken, takes_port, is_ill_linked, is_unlinked}
use Rattle.sw_topo.specs.Laws.{IsLeast, IsFaultless, FirstIsLeast, NoFaultMeansFaultless}
use Rattle.sw_topo.proofs.Faultless.{none_below, neither, no_map}
use Rattle.sw_topo.proofs.Least.{least_found}
use Rattle.sw_topo.proofs.Found.{Passes, one_counted, place_any, before_found}
use Rattle.sw_topo.proofs.Ends.{node_is, port_is, one_port, node_only, switch_linked}

-- where all numbers below n fail, none is found
pub none_first : (test : ℕ → Bool) (n : ℕ) → ((k : ℕ) → k < n → test k ≡ false) → first_below test n ≡ None
none_first test zero fails = refl
none_first test (suc n) fails = rw (none_first test n (λ k lt. fails k (omega arith)), fails n (omega arith)) refl

some_is : (k j : ℕ) → ◌≡◌ {A = Option ℕ} (Some k) (Some j) → k ≡ j
some_is k j e = cc

last_least : (test : ℕ → Bool) (n k : ℕ) (b : Bool) → test n ≡ b → first_below test n ≡ None → cond b (Some n) None ≡ Some k → IsLeast test (suc n) k
last_least test n k true passes none e = let same : n ≡ k = some_is n k e in rw (← same) (record { within = omega arith; passes = passes; least = none_below test n none })
last_least test n k false fails none e = absurd cc

more_least : (test : ℕ → Bool) (n k : ℕ) (o : Option ℕ) → first_below test n ≡ o → first_of o (cond (test n) (Some n) None) ≡ Some k
    → ((j : ℕ) → first_below test n ≡ Some j → IsLeast test n j) → IsLeast test (suc n) k
more_least test n k None none found rec = last_least test n k (test n) refl none found
more_least test n k (Some j) some found rec =
    let same : j ≡ k = some_is j k found in
    let before = rec j some in
    rw (← same) (record { within = omega (arith, before.within); passes = before.passes; least = before.least })

-- the first that passes is the least
first_least : (test : ℕ → Bool) (n k : ℕ) → first_below test n ≡ Some k → IsLeast test n k
first_least test zero k found = absurd cc
first_least test (suc n) k found = more_least test n k (first_below test n) refl found (first_least test n)

pub first_is_least : FirstIsLeast
first_is_least test n k = (
  first_least test n k,
  λ least. least_found test k n (none_first test k least.least) least.passes least.within,
)

-- ---- no fault

pub not_true : (b : Bool) → (b ≡ true → ⊥) → b ≡ false
not_true true fails = absurd (fails refl)
not_true false fails = refl

within_limits : (nodes switches links : ℕ) → too_many nodes switches links ≡ None → (nodes ≤ 1024) × (switches ≤ 512) × (links ≤ 1024)
within_limits nodes switches links none = grind (arith, nat_tests)

kept_rules : (w : Wiring) → IsWiring w.nodes w.switches w.ends → fault_of w ≡ None → IsFaultless w
kept_rules w wiring none =
    let sound : IsSound w = record { wiring = wiring; faultless = none } in
    let limits = within_limits w.nodes w.switches (length w.ends / 2) (no_map TooMany _ (neither _ _ none).0) in
    record {
      few_nodes = limits.0;
      few_switches = limits.1;
      few_links = omega (arith, limits.2, wiring.paired);
      ports = one_port w sound;
      nodes_linked = λ n lt. let one = node_only w sound n lt in (one.0, (one.1).starts);
      switches_linked = λ s lt. let some = switch_linked w sound s lt in (some.0, some.1, some.3);
    }

module _ (w : Wiring) (rules : IsFaultless w) where
  port_free : (c : ℕ) (e : PlaceEnd) → slice_get w.ends c ≡ Some e → list_any (is_same_port e) (take c w.ends) ≡ true → ⊥
  port_free c (Node m) at any = let found = before_found (is_same_port (Node m)) w.ends c any in false≢true (found.2).passes
  port_free c (Switch s p) at any =
      let found = before_found (is_port s p) w.ends c any in
      let there = found.2 in
      let same = rules.ports s p found.0 c (there.at ∙ ap Some (port_is s p there.element there.passes)) at in
      omega (arith, found.1)

  end_free : (c : ℕ) (o : Option PlaceEnd) → slice_get w.ends c ≡ o → option_map_or (λ e. list_any (is_same_port e) (take c w.ends)) o false ≡ false
  end_free c None at = refl
  end_free c (Some e) at = not_true _ (port_free c e at)

  free : (c : ℕ) → is_taken w.ends c ≡ false
  free c = end_free c (slice_get w.ends c) refl

  node_linked : (n : ℕ) → n < w.nodes → is_ill_linked w.ends n ≡ false
  node_linked n lt =
      let one = rules.nodes_linked n lt in
      let here : Passes (is_node n) w.ends one.0 = record { element = Node n; at = (one.1).here; passes = eq-eqb n n refl } in
      rw (one_counted (is_node n) w.ends one.0 here (λ d there. (one.1).alone d (there.at ∙ ap Some (node_is n there.element there.passes)))) refl

  some_linked : (s : ℕ) → s < w.switches → is_unlinked w.ends s ≡ false
  some_linked s lt =
      let some = rules.switches_linked s lt in
      rw (place_any (is_at_switch s) w.ends some.1 (record { element = Switch s some.0; at = some.2; passes = eq-eqb s s refl })) refl

  no_limit : too_many w.nodes w.switches (length w.ends / 2) ≡ None
  no_limit = rw (le-ltb 1024 w.nodes rules.few_nodes, le-ltb 512 w.switches rules.few_switches, le-ltb 1024 (length w.ends / 2) (omega (arith, rules.few_links))) refl

  rules_kept : fault_of w ≡ None
  rules_kept =
      rw (no_limit, none_first (takes_port w.ends) (length w.ends / 2) (λ i lt. rw (free (2 * i), free (2 * i + 1)) refl), none_first (is_ill_linked w.ends) w.nodes node_linked, none_first (is_unlinked w.ends) w.switches some_linked) refl

pub no_fault : NoFaultMeansFaultless
no_fault w wiring = (kept_rules w wiring, rules_kept w)
