-- The places of each flow of a valid network can be listed, so that a free network has a certificate.
use Rattle.std.proofs.Common.{◌≡◌, ◌↔◌, ℕ, zero, suc, ◌+◌, ◌*◌, ◌<◌, ◌≤◌, List, [], ◌∷◌, length, map, Contains, Some, refl, sym, subst, inl, inr, arith}
use Rattle.std.specs.Prelude.{slice_get, slice_index}
use Rattle.std.specs.List.{AllZip}
use Rattle.std.specs.List.Sorted.{IsStrictlyIncreasing}
use Rattle.std.proofs.lemmas.Bool.{cases_eq}
use Rattle.std.proofs.lemmas.List.Elements.{Contains-append_cases, Contains-append_left, Contains-append_right, Contains-get_or, Contains-push}
use Rattle.sw_topo.specs.Wiring.{out}
use Rattle.sw_topo.proofs.Ends.{node_only}
use Rattle.sw_config.specs.Entries.{FlowEntry, Declaration, all_flows, wiring_of}
use Rattle.sw_config.specs.Valid.{IsFlow, IsValid}
use Rattle.sw_config.proofs.Flows.{All-at}
use Rattle.sw_config.proofs.FlowLaws.{valid_flows}
use Rattle.sw_flow.specs.declared.place.Place.{Place}
use Rattle.sw_flow.specs.Places.{IsPlaceList, ends_of}
use Rattle.sw_flow.specs.Numbers.{next_numbers, number_bound, place_of, width}
use Rattle.sw_flow.proofs.Placed.{place_list}
use Rattle.sw_flow.proofs.Stepping.{next_below}
use Rattle.sw_graph.specs.Reached.{IsListing, Reached}
use Rattle.sw_graph.specs.Reached.Reached.{begin, step}
use Rattle.sw_graph.proofs.Existence.{levels_are_where_no_cycle_is}
use Rattle.sw_cert.specs.Text.{Contents}
use Rattle.sw_search.specs.Laws.{RoutedAndFree}
use Rattle.sw_search.specs.Verdicts.{IsFree, depends}
use Rattle.sw_search.proofs.Decided.{among, depends_decided}
use Rattle.sw_search.proofs.Paths.{Decided, reached_decided}

-- ---- numbers of a set that is decided

nothing : (m : ℕ) → Contains [] m → ⊥
nothing m h = let lt : h.0 < 0 = h.1 in omega arith

rising_cons : (x : ℕ) (xs : List ℕ) → IsStrictlyIncreasing xs → ((m : ℕ) → Contains xs m → x < m) → IsStrictlyIncreasing (x ∷ xs)
rising_cons x xs rising above zero lt = above (slice_index xs 0) (Contains-get_or xs 0 0 (omega arith))
rising_cons x xs rising above (suc k) lt = let next : suc k + 1 ≡ suc (k + 1) = omega arith in rw next (rising k (omega arith))

module _ (P : ℕ → Type 0) (dec : (m : ℕ) → Decided (P m)) where
  -- the list has the numbers of the set from low on, so many that are tried
  record IsPart (low count : ℕ) (numbers : List ℕ) : Type 0 where
    rising : IsStrictlyIncreasing numbers
    member : (m : ℕ) → Contains numbers m ↔ ((low ≤ m) × (m < low + count) × P m)

  with_first : (low count : ℕ) (numbers : List ℕ) → IsPart (low + 1) count numbers → P low → IsPart low (suc count) (low ∷ numbers)
  with_first low count numbers part p = record {
    rising = rising_cons low numbers part.rising (λ m h. let above = ((part.member m).0 h).0 in omega arith);
    member = λ m. (
      λ h. elim (Contains-append_cases (low ∷ []) numbers m h) [
        | inl first ↦ elim (Contains-append_cases [] (low ∷ []) m first) [
          | inl never ↦ absurd (nothing m never)
          | inr one ↦ let same : low ≡ m = only low m one in (omega arith, omega arith, subst P same p)
        ]
        | inr later ↦ let is = (part.member m).0 later in let a = is.0 in let b = is.1 in (omega arith, omega arith, is.2)
      ],
      λ h. elim (cases_eq m low) [
        | inl same ↦ Contains-append_left (low ∷ []) numbers m (subst (Contains (low ∷ [])) (sym same) (Contains-push [] low))
        | inr other ↦ Contains-append_right (low ∷ []) numbers m ((part.member m).1 (let a = h.0 in omega arith, let b = h.1 in omega arith, h.2))
      ],
    );
  }
    where
      only : (x m : ℕ) → Contains (x ∷ []) m → x ≡ m
      only x m (zero, lt, is) = is
      only x m (suc k, lt, is) = absurd (omega arith)

  without_first : (low count : ℕ) (numbers : List ℕ) → IsPart (low + 1) count numbers → (P low → ⊥) → IsPart low (suc count) numbers
  without_first low count numbers part never = record {
    rising = part.rising;
    member = λ m. (
      λ h. let is = (part.member m).0 h in let a = is.0 in let b = is.1 in (omega arith, omega arith, is.2),
      λ h. elim (cases_eq m low) [
        | inl same ↦ absurd (never (subst P same h.2))
        | inr other ↦ (part.member m).1 (let a = h.0 in omega arith, let b = h.1 in omega arith, h.2)
      ],
    );
  }

  part_exists : (low count : ℕ) → (numbers : List ℕ) × IsPart low count numbers
  part_exists low zero = ([], record { rising = λ k lt. absurd (omega arith); member = λ m. (λ h. absurd (nothing m h), λ h. let a = h.0 in let b = h.1 in absurd (omega arith)) })
  part_exists low (suc count) =
      let rest = part_exists (low + 1) count in
      elim (dec low) [
        | inl p ↦ (low ∷ rest.0, with_first low count rest.0 rest.1 p)
        | inr never ↦ (rest.0, without_first low count rest.0 rest.1 never)
      ]

-- ---- what is reached

module _ (next : ℕ → List ℕ) (start bound : ℕ) (below : (a b : ℕ) → Contains (next a) b → b < bound) where
  within : (m : ℕ) → Reached next start m → m < 0 + (start + 1 + bound)
  within m begin = omega arith
  within m (step {n = n} r h) = let lt = below n m h in omega arith

  listing_exists : (numbers : List ℕ) × IsListing (Reached next start) numbers
  listing_exists =
      let part = part_exists (Reached next start) (λ m. reached_decided next start bound below m) 0 (start + 1 + bound) in (
        part.0,
        record {
          rising = part.1.rising;
          member = λ m. (λ h. ((part.1.member m).0 h).2, λ r. (part.1.member m).1 (omega arith, within m r, r));
        },
      )

-- ---- places

zip_exists : {A B : Type 0} (R : A → B → Type 0) (xs : List A) → ((i : ℕ) (x : A) → slice_get xs i ≡ Some x → (y : B) × R x y) → (ys : List B) × AllZip R xs ys
zip_exists R [] each = ([], tt)
zip_exists R (x ∷ xs) each =
    let first = each 0 x refl in
    let rest = zip_exists R xs (λ i y here. each (suc i) y here) in
    (first.0 ∷ rest.0, (first.1, rest.1))

module _ (d : Declaration) (valid : IsValid d) where
  places_exist : (i : ℕ) (f : FlowEntry) → slice_get (all_flows d) i ≡ Some f → (places : List Place) × IsPlaceList d f places
  places_exist i f here =
      let is = All-at (IsFlow d.nodes) (all_flows d) i f here (valid_flows d valid).0 in
      let only = node_only (wiring_of d) valid.sound f.from is.from in
      let start : ℕ = only.0 in
      let at : out (ends_of d) f.from ≡ Some start = only.1.first in
      let found = listing_exists (next_numbers d f) (start * width f) (number_bound d f) (next_below d f) in
      (map (place_of f) found.0, place_list d f start at found.0 found.1)

  pub lists_exist : (lists : List (List Place)) × AllZip (IsPlaceList d) (all_flows d) lists
  lists_exist = zip_exists (IsPlaceList d) (all_flows d) places_exist

  pub certificate_exists : RoutedAndFree d → (contents : Contents) × IsFree d contents
  certificate_exists free =
      let levels = (levels_are_where_no_cycle_is (depends d) (length (ends_of d)) (among d valid) (depends_decided d valid)).0 free.1 in
      let lists = lists_exist in
      (record { numbers = levels.0; places = lists.0 }, record { routed = free.0; no_cycle = free.1; levels = levels.1; places = lists.1 })
