-- A node always takes what comes by its declaration exactly where it does in the machine.
use Rattle.std.proofs.Common.{◌≡◌, ℕ, zero, suc, ◌==◌, ◌&&◌, ◌||◌, Bool, false, true, List, [], ◌∷◌, Option, Some, None, refl, sym, ap, ◌∙◌, inl, inr, ⊎_elim, lt-ltb, ltb-true, eq-eqb, ne_eqb}
use Rattle.std.specs.Prelude.{nat_lt, not, slice_get}
use Rattle.std.specs.List.{list_all}
use Rattle.std.specs.Option.{option_map_or}
use Rattle.std.proofs.lemmas.Bool.{and_from, and_parts, cases_Bool, cases_eq, eqb-true, false_from_ne_true, or_left, or_right}
use Rattle.std.proofs.lemmas.Option.{slice_get_within}
use Rattle.sw_flow.specs.Entries.{Declaration, FlowEntry, all_flows, is_answering, target_of}
use Rattle.sw_flow.specs.Limits.{all_limited_at, always_takes, is_limited, limit_at, may_make_wait}
use Rattle.sw_rmap.specs.Targets.{slots_of}
use Rattle.sw_machine.proofs.Flows.{some_at}
use Rattle.sw_machine.specs.Model.{network_of}
use Rattle.sw_machine.specs.ModelLaws.{AlwaysTakesAgrees}
use Rattle.sw_machine.specs.Places.{AllAreLimited, AlwaysTakes}

-- what all of a list pass, each passes
each_passes : {X : Type 0} (test : X → Bool) (xs : List X) (i : ℕ) (x : X) → list_all test xs ≡ true → slice_get xs i ≡ Some x → test x ≡ true
each_passes test [] i x all here = absurd cc
each_passes test (y ∷ xs) zero x all here =
    let both = and_parts (test y) (list_all test xs) all in
    let same : y ≡ x = cc in
    ap test (sym same) ∙ both.0
each_passes test (y ∷ xs) (suc i) x all here = each_passes test xs i x (and_parts (test y) (list_all test xs) all).1 here

all_pass : {X : Type 0} (test : X → Bool) (xs : List X) → ((i : ℕ) (x : X) → slice_get xs i ≡ Some x → test x ≡ true) → list_all test xs ≡ true
all_pass test [] each = refl
all_pass test (x ∷ xs) each = and_from (test x) (list_all test xs) (each 0 x refl) (all_pass test xs (λ i y here. each (suc i) y here))

module _ (d : Declaration) (n : ℕ) where
  abbrev slots : ℕ
  slots = slots_of (target_of d.nodes n)

  -- a flow ends elsewhere, or is limited
  ends_or : (f : FlowEntry) → f.to ≡ n → (not (f.to == n) || is_limited d.nodes f) ≡ is_limited d.nodes f
  ends_or f to = rw (eq-eqb f.to n to) refl

  limited_in : all_limited_at d n ≡ true → AllAreLimited (network_of d) n
  unfolding network_of
  limited_in all i lt to =
      let here = some_at (all_flows d) i lt in
      let f : FlowEntry = here.0 in
      let ends : f.to ≡ n = rw here.1 at to in
      let passes = each_passes (λ (f : FlowEntry). not (f.to == n) || is_limited d.nodes f) (all_flows d) i f all here.1 in
      rw here.1 (sym (ends_or f ends) ∙ passes)

  limited_back : AllAreLimited (network_of d) n → all_limited_at d n ≡ true
  unfolding network_of
  limited_back all = all_pass (λ (f : FlowEntry). not (f.to == n) || is_limited d.nodes f) (all_flows d) (λ i f here. elim (cases_eq f.to n) [
    | inl ends ↦
        let limited : is_limited d.nodes f ≡ true = rw here at (all i (slice_get_within (all_flows d) i f here) (rw here ends)) in
        ends_or f ends ∙ limited
    | inr away ↦ rw (ne_eqb f.to n away) refl
  ])

  takes_by : (o : Option ℕ) → limit_at d n ≡ o → option_map_or (λ l. nat_lt l slots || l == slots && all_limited_at d n) o false ≡ true → AlwaysTakes (network_of d) n
  unfolding network_of
  takes_by None is h = absurd cc
  takes_by (Some l) is h = elim (cases_Bool (nat_lt l slots)) [
    | inl less ↦ record { limit = l; is = is; few = inl (ltb-true l slots less) }
    | inr more ↦
        let rest : (l == slots && all_limited_at d n) ≡ true = rw more at h in
        let both = and_parts (l == slots) (all_limited_at d n) rest in
        record { limit = l; is = is; few = inr (eqb-true l slots both.0, limited_in both.1) }
  ]

  takes_back : AlwaysTakes (network_of d) n → always_takes d n ≡ true
  unfolding network_of
  takes_back a =
      let l : ℕ = a.limit in
      let is : limit_at d n ≡ Some l = a.is in
      rw is (⊎_elim
      (λ less. or_left (nat_lt l slots) (l == slots && all_limited_at d n) (lt-ltb l slots less))
      (λ equal. or_right (nat_lt l slots) (l == slots && all_limited_at d n) (and_from (l == slots) (all_limited_at d n) (eq-eqb l slots equal.0) (limited_back equal.1)))
      a.few)

pub always_takes_agrees : AlwaysTakesAgrees
always_takes_agrees d n = (λ h. takes_by d n (limit_at d n) refl h, takes_back d n)

-- where it may make wait by its declaration, it does not always take in the machine
pub not_always : (d : Declaration) (n : ℕ) → always_takes d n ≡ false → AlwaysTakes (network_of d) n → ⊥
not_always d n never always = let yes = takes_back d n always in cc

-- what comes to a node that answers may have to wait by its declaration exactly where it does not always take in the machine
pub may_wait_unless : (d : Declaration) (n : ℕ) → is_answering d n ≡ true → (AlwaysTakes (network_of d) n → ⊥) → may_make_wait d n ≡ true
may_wait_unless d n answers never =
    and_from (is_answering d n) (not (always_takes d n)) answers (ap not (false_from_ne_true (always_takes d n) (λ always. never (takes_by d n (limit_at d n) refl always))))

pub not_always_where : (d : Declaration) (n : ℕ) → may_make_wait d n ≡ true → AlwaysTakes (network_of d) n → ⊥
not_always_where d n waits = not_always d n (not_true (always_takes d n) (and_parts (is_answering d n) (not (always_takes d n)) waits).1)
  where
    not_true : (b : Bool) → not b ≡ true → b ≡ false
    not_true true e = sym e
    not_true false e = refl
