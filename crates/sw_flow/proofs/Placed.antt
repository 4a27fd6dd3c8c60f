-- The list of a flow's places, from that of their numbers.
use Rattle.std.proofs.Common.{◌≡◌, ℕ, ◌+◌, ◌*◌, ◌/◌, ◌%◌, ◌<◌, ◌≤◌, Some, List, length, map, get_or, Contains, refl, sym, ap, ◌∙◌, subst, ◌⊎◌, inl, inr, arith}
use Rattle.std.proofs.lemmas.Bool.{cases_lt, cases_eq}
use Rattle.std.proofs.lemmas.Nat.{div-mul-add, mod-mul-add, div-add-mod'}
use Rattle.std.proofs.lemmas.List.{get_or-map, length-map}
use Rattle.std.proofs.lemmas.List.Kept.{AllPairs-from_increasing}
use Rattle.std.proofs.Math.Nat.{mul-le-mul_right, mod-lt}
use Rattle.sw_config.specs.Wiring.{Wiring, out}
use Rattle.sw_config.specs.Entries.{FlowEntry, Declaration, wiring_of}
use Rattle.sw_graph.specs.Reached.{Reached, IsListing}
use Rattle.sw_flow.specs.declared.place.Place.{Place}
use Rattle.sw_flow.specs.Places.{ends_of, IsPlace, IsBefore, IsPlaceList}
use Rattle.sw_flow.specs.Numbers.{width, place_of, next_numbers}
use Rattle.sw_flow.proofs.Listed.{Contains-map, Contains-from_map}
use Rattle.sw_flow.proofs.Stepping.{place_from_reached, reached_from_place}

-- of two numbers to a base, the lesser has the lesser first digit, or the same and the lesser second
by_digits : (w a b c d : ℕ) → b < w → a * w + b < c * w + d → d < w → (a < c) ⊎ ((a ≡ c) × (b < d))
by_digits w a b c d low lt high = by (cases_lt a c) (cases_eq a c)
  where
    by : (a < c) ⊎ (c ≤ a) → (a ≡ c) ⊎ (a ≡ c → ⊥) → (a < c) ⊎ ((a ≡ c) × (b < d))
    by (inl less) _ = inl less
    by (inr more) (inl same) = inr (same, let e : a * w ≡ c * w = ap (λ x. x * w) same in omega arith)
    by (inr more) (inr other) =
        let above : c + 1 ≤ a = omega arith in
        let far = mul-le-mul_right w above in
        absurd (omega arith)

module _ (d : Declaration) (f : FlowEntry) where
  before : (n m : ℕ) → n < m → IsBefore (place_of f n) (place_of f m)
  before n m lt =
      let w = width f in
      let left = div-add-mod' n w in
      let right = div-add-mod' m w in
      by_digits w (n / w) (n % w) (m / w) (m % w) (mod-lt n (omega arith)) (omega arith) (mod-lt m (omega arith))

  pub place_list : (s : ℕ) → out (ends_of d) f.from ≡ Some s → (numbers : List ℕ) → IsListing (Reached (next_numbers d f) (s * width f)) numbers → IsPlaceList d f (map (place_of f) numbers)
  place_list s at numbers l = record {
    in_order = λ i j p ij lt.
        let long = length-map numbers (place_of f) in
        let lj : j < length numbers = omega arith in
        rw (get_or-map (place_of f) numbers i 0 p (omega arith), get_or-map (place_of f) numbers j 0 p lj) (before (get_or numbers i 0) (get_or numbers j 0) (AllPairs-from_increasing numbers l.rising i j 0 ij lj));
    member = λ p. (to p, from p);
  }
    where
      to : (p : Place) → Contains (map (place_of f) numbers) p → IsPlace d f p.channel p.deleted
      to p h =
          let m = Contains-from_map (place_of f) numbers p h in
          subst (λ (q : Place). IsPlace d f q.channel q.deleted) m.2 (place_from_reached d f s at m.0 ((l.member m.0).0 m.1))

      from : (p : Place) → IsPlace d f p.channel p.deleted → Contains (map (place_of f) numbers) p
      from p h =
          let r = reached_from_place d f s at p.channel p.deleted h in
          let w = width f in
          let n : ℕ = p.channel * w + p.deleted in
          let same : place_of f n ≡ p = rw (div-mul-add p.channel w p.deleted r.0, mod-mul-add p.channel w p.deleted r.0) refl in
          subst (Contains (map (place_of f) numbers)) same (Contains-map (place_of f) numbers n ((l.member n).1 r.1))

  -- the list as the code makes it
  pub placed : (s number from : ℕ) (address numbers : List ℕ) (w : Wiring) (places : List Place) → w ≡ wiring_of d → from ≡ f.from → out w.ends from ≡ Some s → address ≡ f.address → number ≡ s
      → IsListing (Reached (next_numbers d f) (number * (length address + 1))) numbers
      → places ≡ map (λ n. record { channel = n / (length address + 1); deleted = n % (length address + 1) }) numbers
      → IsPlaceList d f places
  placed s number from address numbers w places wired starts at same is listing made =
      let start : out (ends_of d) f.from ≡ Some s = ap (λ (v : Wiring). out v.ends f.from) (sym wired) ∙ ap (out w.ends) (sym starts) ∙ at in
      let found = subst (λ (a : List ℕ). IsListing (Reached (next_numbers d f) (s * (length a + 1))) numbers) same (subst (λ (n : ℕ). IsListing (Reached (next_numbers d f) (n * (length address + 1))) numbers) is listing) in
      let list : places ≡ map (place_of f) numbers = made ∙ ap (λ (a : List ℕ). map (λ n. record { channel = n / (length a + 1); deleted = n % (length a + 1) }) numbers) same in
      subst (IsPlaceList d f) (sym list) (place_list s start numbers found)
