-- What each fault of a place is.
use Rattle.std.proofs.Common.{◌≡◌, ◌≢◌, ℕ, ◌-◌, ◌<◌, ◌≤◌, true, false, Option, Some, None, length, refl, sym, ap, ◌∙◌, subst, ◌⊎◌, inl, inr, ◌↔◌, arith}
use Rattle.std.proofs.lemmas.Bool.{cases_eq, cases_lt, cases_Bool, eq-eqb, ne_eqb, lt-ltb, le-ltb}
use Rattle.sw_config.specs.PlaceEnd.{PlaceEnd}
use Rattle.sw_config.specs.PlaceEnd.TheVariants.{Node, Switch}
use Rattle.sw_config.specs.Looks.{NamesOutput}
use Rattle.sw_config.specs.Entries.{FlowEntry, Declaration}
use Rattle.sw_flow.specs.declared.fault.RouteFault.{RouteFault}
use Rattle.sw_flow.specs.declared.fault.RouteFault.TheVariants.{AddressEnds, NoRoute, WrongNode, WrongLeft}
use Rattle.sw_flow.specs.Places.{ends_of, end_of, look_after, deleted_behind, Follows}
use Rattle.sw_flow.specs.Faults.{fault_at_switch, fault_at_node, fault_at_end, has_output}
use Rattle.sw_flow.specs.Laws.{FaultsAre, FaultlessGoOn}
use Rattle.sw_flow.proofs.Outputs.{names-from_has_output, has_output-from_names}

-- x is the fault of a place that ends at o
record IsFault (d : Declaration) (f : FlowEntry) (k : ℕ) (o : Option PlaceEnd) (x : Option RouteFault) : Type 0 where
  address_ends : x ≡ Some AddressEnds ↔ ((s p : ℕ) × (o ≡ Some (Switch s p)) × (length f.address ≤ k))
  no_route : x ≡ Some NoRoute ↔ ((s p : ℕ) × (o ≡ Some (Switch s p)) × (k < length f.address) × ((e : ℕ) → ¬ NamesOutput (ends_of d) s (look_after d f s k) e))
  wrong_node : x ≡ Some WrongNode ↔ ((n : ℕ) × (o ≡ Some (Node n)) × (n ≢ f.to))
  wrong_left : x ≡ Some WrongLeft ↔ ((o ≡ Some (Node f.to)) × (length f.address - k ≢ f.left))

module _ (d : Declaration) (f : FlowEntry) (k s p : ℕ) where
  ended : length f.address ≤ k → IsFault d f k (Some (Switch s p)) (Some AddressEnds)
  ended le = record {
    address_ends = ((λ _. (s, p, refl, le)), (λ _. refl));
    no_route = ((λ h. cc), (λ w. absurd (omega (arith, w.3))));
    wrong_node = ((λ h. cc), (λ w. let e = w.1 in cc));
    wrong_left = ((λ h. cc), (λ w. let e = w.0 in cc));
  }

  routed : k < length f.address → has_output (ends_of d) s (look_after d f s k) ≡ true → IsFault d f k (Some (Switch s p)) None
  routed lt has = record {
    address_ends = ((λ h. cc), (λ w. absurd (omega (arith, w.3))));
    no_route = (
      (λ h. cc),
      (λ w.
          let same : s ≡ w.0 = let e = w.2 in cc in
          let out = names-from_has_output (ends_of d) s (look_after d f s k) has in
          absurd (subst (λ (t : ℕ). (e : ℕ) → ¬ NamesOutput (ends_of d) t (look_after d f t k) e) (sym same) w.4 out.0 out.1)),
    );
    wrong_node = ((λ h. cc), (λ w. let e = w.1 in cc));
    wrong_left = ((λ h. cc), (λ w. let e = w.0 in cc));
  }

  unrouted : k < length f.address → has_output (ends_of d) s (look_after d f s k) ≡ false → IsFault d f k (Some (Switch s p)) (Some NoRoute)
  unrouted lt none = record {
    address_ends = ((λ h. cc), (λ w. absurd (omega (arith, w.3))));
    no_route = ((λ _. (s, p, refl, lt, (λ e n. let has = has_output-from_names (ends_of d) s (look_after d f s k) e n in let bad : true ≡ false = sym has ∙ none in cc))), (λ _. refl));
    wrong_node = ((λ h. cc), (λ w. let e = w.1 in cc));
    wrong_left = ((λ h. cc), (λ w. let e = w.0 in cc));
  }

at_switch : (d : Declaration) (f : FlowEntry) (k s p : ℕ) → IsFault d f k (Some (Switch s p)) (fault_at_switch d f s k)
at_switch d f k s p = by (cases_lt k (length f.address)) (cases_Bool (has_output (ends_of d) s (look_after d f s k)))
  where
    by : (k < length f.address) ⊎ (length f.address ≤ k) → (has_output (ends_of d) s (look_after d f s k) ≡ true) ⊎ (has_output (ends_of d) s (look_after d f s k) ≡ false) → IsFault d f k (Some (Switch s p)) (fault_at_switch d f s k)
    by (inr le) _ = rw (le-ltb k (length f.address) le) (ended d f k s p le)
    by (inl lt) (inl has) = rw (lt-ltb k (length f.address) lt, has) (routed d f k s p lt has)
    by (inl lt) (inr none) = rw (lt-ltb k (length f.address) lt, none) (unrouted d f k s p lt none)

module _ (d : Declaration) (f : FlowEntry) (k n : ℕ) where
  strayed : n ≢ f.to → IsFault d f k (Some (Node n)) (Some WrongNode)
  strayed ne = record {
    address_ends = ((λ h. cc), (λ w. let e = w.2 in cc));
    no_route = ((λ h. cc), (λ w. let e = w.2 in cc));
    wrong_node = ((λ _. (n, refl, ne)), (λ _. refl));
    wrong_left = ((λ h. cc), (λ w. absurd (ne (let e = w.0 in cc))));
  }

  arrived : n ≡ f.to → length f.address - k ≡ f.left → IsFault d f k (Some (Node n)) None
  arrived here left = record {
    address_ends = ((λ h. cc), (λ w. let e = w.2 in cc));
    no_route = ((λ h. cc), (λ w. let e = w.2 in cc));
    wrong_node = ((λ h. cc), (λ w. absurd (w.2 (let e = w.1 in cc))));
    wrong_left = ((λ h. cc), (λ w. absurd (w.1 left)));
  }

  left_over : n ≡ f.to → length f.address - k ≢ f.left → IsFault d f k (Some (Node n)) (Some WrongLeft)
  left_over here other = record {
    address_ends = ((λ h. cc), (λ w. let e = w.2 in cc));
    no_route = ((λ h. cc), (λ w. let e = w.2 in cc));
    wrong_node = ((λ h. cc), (λ w. absurd (w.2 (let e = w.1 in cc))));
    wrong_left = ((λ _. (ap (λ (m : ℕ). Some (Node m)) here, other)), (λ _. refl));
  }

at_node : (d : Declaration) (f : FlowEntry) (k n : ℕ) → IsFault d f k (Some (Node n)) (fault_at_node f n k)
at_node d f k n = by (cases_eq n f.to) (cases_eq (length f.address - k) f.left)
  where
    by : (n ≡ f.to) ⊎ (n ≡ f.to → ⊥) → (length f.address - k ≡ f.left) ⊎ (length f.address - k ≡ f.left → ⊥) → IsFault d f k (Some (Node n)) (fault_at_node f n k)
    by (inr ne) _ = rw (ne_eqb n f.to ne) (strayed d f k n ne)
    by (inl here) (inl left) = rw (eq-eqb n f.to here, eq-eqb (length f.address - k) f.left left) (arrived d f k n here left)
    by (inl here) (inr other) = rw (eq-eqb n f.to here, ne_eqb (length f.address - k) f.left other) (left_over d f k n here other)

faults_at : (d : Declaration) (f : FlowEntry) (k : ℕ) (o : Option PlaceEnd) → IsFault d f k o (fault_at_end d f k o)
faults_at d f k None = record {
  address_ends = ((λ h. cc), (λ w. let e = w.2 in cc));
  no_route = ((λ h. cc), (λ w. let e = w.2 in cc));
  wrong_node = ((λ h. cc), (λ w. let e = w.1 in cc));
  wrong_left = ((λ h. cc), (λ w. let e = w.0 in cc));
}
faults_at d f k (Some (Switch s p)) = at_switch d f k s p
faults_at d f k (Some (Node n)) = at_node d f k n

pub faults_are : (d : Declaration) (f : FlowEntry) (c k : ℕ) → FaultsAre d f c k
faults_are d f c k = let a = faults_at d f k (end_of d c) in record {
  address_ends = a.address_ends;
  no_route = a.no_route;
  wrong_node = a.wrong_node;
  wrong_left = a.wrong_left;
}

-- how a place that ends at o goes on
abbrev GoesOn : Declaration → FlowEntry → ℕ → ℕ → PlaceEnd → Type 0
GoesOn d f c k o = ((e m : ℕ) × Follows d f c k e m) ⊎ ((o ≡ Node f.to) × (length f.address - k ≡ f.left))

switch_goes_on : (d : Declaration) (f : FlowEntry) (c k s p : ℕ) → end_of d c ≡ Some (Switch s p) → fault_at_switch d f s k ≡ None → GoesOn d f c k (Switch s p)
switch_goes_on d f c k s p at faultless = by (cases_lt k (length f.address)) (cases_Bool (has_output (ends_of d) s (look_after d f s k)))
  where
    by : (k < length f.address) ⊎ (length f.address ≤ k) → (has_output (ends_of d) s (look_after d f s k) ≡ true) ⊎ (has_output (ends_of d) s (look_after d f s k) ≡ false) → GoesOn d f c k (Switch s p)
    by (inr le) _ = let bad = rw (le-ltb k (length f.address) le) at faultless in cc
    by (inl lt) (inr none) = let bad = rw (lt-ltb k (length f.address) lt, none) at faultless in cc
    by (inl lt) (inl has) =
        let out = names-from_has_output (ends_of d) s (look_after d f s k) has in
        inl (out.0, deleted_behind (look_after d f s k) k, record { switch = s; port = p; ends = at; bytes_left = lt; named = out.1; deleted = refl })

node_goes_on : (d : Declaration) (f : FlowEntry) (c k n : ℕ) → fault_at_node f n k ≡ None → GoesOn d f c k (Node n)
node_goes_on d f c k n faultless = by (cases_eq n f.to) (cases_eq (length f.address - k) f.left)
  where
    by : (n ≡ f.to) ⊎ (n ≡ f.to → ⊥) → (length f.address - k ≡ f.left) ⊎ (length f.address - k ≡ f.left → ⊥) → GoesOn d f c k (Node n)
    by (inr ne) _ = let bad = rw (ne_eqb n f.to ne) at faultless in cc
    by (inl here) (inr other) = let bad = rw (eq-eqb n f.to here, ne_eqb (length f.address - k) f.left other) at faultless in cc
    by (inl here) (inl left) = inr (ap Node here, left)

pub faultless_go_on : FaultlessGoOn
faultless_go_on d f c k (Switch s p) at faultless = switch_goes_on d f c k s p at (rw at at faultless)
faultless_go_on d f c k (Node n) at faultless = node_goes_on d f c k n (rw at at faultless)
