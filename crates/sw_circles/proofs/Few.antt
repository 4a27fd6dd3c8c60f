-- There are at most as many places with so many deleted bytes as there are channels.
use Rattle.std.proofs.Common.{◌≡◌, ◌==◌, ℕ, ◌+◌, ◌<◌, ◌≤◌, All, AllPairs, List, [], ◌∷◌, arith, eqb-true, get_or, inl, inr, length, suc, true}
use Rattle.std.proofs.lemmas.Bool.{cases_Bool}
use Rattle.std.proofs.lemmas.List.Elements.{Contains-get_or}
use Rattle.sw_config.specs.Entries.{Declaration, FlowEntry}
use Rattle.sw_flow.proofs.Stepping.{places_are_in}
use Rattle.sw_flow.specs.Places.{IsBefore, IsPlaceList, ends_of}
use Rattle.sw_flow.specs.declared.place.Place.{Place}
use Rattle.sw_circles.specs.Circles.{with_deleted}

tail_pairs : (p : Place) (places : List Place) → AllPairs IsBefore (p ∷ places) → AllPairs IsBefore places
tail_pairs p places order i j d lt within = order (suc i) (suc j) d (omega (arith, lt)) (omega (arith, within))

few_from : (k n low : ℕ) (places : List Place) → low ≤ n → AllPairs IsBefore places → All (λ p. p.channel < n) places → All (λ p. (p.deleted == k) ≡ true → low ≤ p.channel) places → length (with_deleted k places) + low ≤ n
few_from k n low [] least order below above = omega (arith, least)
few_from k n low (p ∷ places) least order below above =
    let here = below 0 p (omega arith) in
    elim (cases_Bool (p.deleted == k)) [
      | inl is ↦
          let rest = few_from k n (p.channel + 1) places (omega (arith, here)) (tail_pairs p places order)
          (λ i d lt. below (suc i) d (omega (arith, lt)))
          (λ i d lt also. elim (order 0 (suc i) d (omega arith) (omega (arith, lt))) [
            | inl rise ↦ omega (arith, rise)
            | inr same ↦ absurd (omega (arith, same.1, eqb-true p.deleted k is, eqb-true (get_or places i d).deleted k also))
          ]) in
          let first = above 0 p (omega arith) is in
          rw is (omega (arith, rest, first))
      | inr other ↦ rw other (few_from k n low places least (tail_pairs p places order)
          (λ i d lt. below (suc i) d (omega (arith, lt))) (λ i d lt. above (suc i) d (omega (arith, lt))))
    ]

-- at most 65,535 where the network has at most as many channels
pub few : (d : Declaration) (f : FlowEntry) (k : ℕ) (places : List Place) → length (ends_of d) ≤ 65535 → IsPlaceList d f places → length (with_deleted k places) ≤ 65535
few d f k places channels list =
    let most = few_from k (length (ends_of d)) 0 places (omega arith) list.in_order
    (λ i p lt. (places_are_in d f (get_or places i p).channel (get_or places i p).deleted ((list.member (get_or places i p)).0 (Contains-get_or places i p lt))).0)
    (λ i e lt is. omega arith) in
    omega (arith, most, channels)
