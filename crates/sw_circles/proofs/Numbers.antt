-- Numbers of places in a list in which the channels rise, as a binary search finds them.
use Rattle.std.proofs.Common.{◌≡◌, ◌∙◌, ℕ, ◌<◌, ◌≤◌, AllPairs, Bor, Err, List, Ok, None, Some, ap, arith, eqb-true, false, get_or, inl, inr, length, sym, true}
use Rattle.std.specs.Prelude.{◌==◌, position}
use Rattle.std.specs.Ordering.{nat_cmp, ordering_index}
use Rattle.std.specs.declared.cmp.Ordering.TheVariants.{Equal, Greater, Less}
use denote.Param.Members.{Mut}
use Rattle.std.specs.Fn.{Called, ComputesKey}
use Rattle.std.specs.declared.cmp.Ordering.{Ordering}
use Rattle.std.specs.List.Sorted.{IsBinarySearchResult, IsNonDecreasingBy, IsPartitionPoint}
use Rattle.std.proofs.lemmas.Fn.{always_returns_same}
use Rattle.std.proofs.lemmas.Bool.{cases_Bool, cases_lt, false≢true}
use Rattle.std.proofs.lemmas.Bool.Decides.{nat_tests}
use Rattle.std.proofs.lemmas.Cmp.{ranked}
use Rattle.std.proofs.lemmas.List.Elements.{filter_passes}
use Rattle.std.proofs.lemmas.List.Sorted.{IsNonDecreasingBy-from_default}
use Rattle.std.proofs.lemmas.Option.{slice_get-get_or}
use Rattle.sw_flow.specs.Places.{IsBefore}
use Rattle.sw_flow.specs.declared.place.Place.{Place}
use Rattle.sw_circles.specs.Circles.{ChannelsRise, is_place, with_deleted}
use Rattle.sw_circles.proofs.Told.{alike_in_order, none_is, number_is, same_place}

-- of places with as many deleted bytes the channels rise
pub alike_rise : (k : ℕ) (places : List Place) → AllPairs IsBefore places → ChannelsRise (with_deleted k places)
alike_rise k places order i j d lt within =
    let same : (n : ℕ) → n < length (with_deleted k places) → (get_or (with_deleted k places) n d).deleted ≡ k = λ n below. eqb-true (get_or (with_deleted k places) n d).deleted k (filter_passes (λ p. p.deleted == k) places n d below) in
    elim (alike_in_order k places order i j d lt within) [
      | inl rise ↦ rise
      | inr tie ↦ absurd (omega (arith, tie.1, same i (omega (arith, lt, within)), same j within))
    ]

-- what a binary search for a channel found: from its clause, where each call compares the channels
pub at_channel : {F : Type 0} {g : Mut F (Bor Place × Unit {0}) Ordering} {f : F} (places : List Place) (channel i : ℕ)
    → ((key : Place → Ordering) → ComputesKey g key f → IsBinarySearchResult key places (Ok i))
    → ((a : Bor Place × Unit {0}) (o : Ordering) (after : F) → Called g f a o after → (o ≡ nat_cmp a.0.now.channel channel) × (after ≡ f))
    → (d : Place) → nat_cmp (get_or places i d).channel channel ≡ Equal
at_channel {g = g} {f = f} places channel i clause h d = clause (λ p. nat_cmp p.channel channel) (always_returns_same g (λ a o. o ≡ nat_cmp a.0.now.channel channel) f h) d

pub no_channel : {F : Type 0} {g : Mut F (Bor Place × Unit {0}) Ordering} {f : F} (places : List Place) (channel i : ℕ)
    → ((key : Place → Ordering) → ComputesKey g key f → IsBinarySearchResult key places (Err i))
    → ((a : Bor Place × Unit {0}) (o : Ordering) (after : F) → Called g f a o after → (o ≡ nat_cmp a.0.now.channel channel) × (after ≡ f))
    → IsNonDecreasingBy (λ p. ordering_index (nat_cmp p.channel channel)) places
    → IsPartitionPoint (λ p. nat_cmp p.channel channel ≡ Less) (λ p. nat_cmp p.channel channel ≡ Greater) places i
no_channel {g = g} {f = f} places channel i clause h = clause (λ p. nat_cmp p.channel channel) (always_returns_same g (λ a o. o ≡ nat_cmp a.0.now.channel channel) f h)

module _ (places : List Place) (rising : ChannelsRise places) where
  in_order : AllPairs IsBefore places
  in_order i j d lt within = inl (rising i j d lt within)

  -- a channel stands there once
  once : (i j : ℕ) (d : Place) → i < length places → j < length places → (get_or places i d).channel ≡ (get_or places j d).channel → i ≡ j
  once i j d low high same = elim (cases_lt i j) [
    | inl before ↦ absurd (omega (arith, same, rising i j d before high))
    | inr not_before ↦ elim (cases_lt j i) [
      | inl behind ↦ absurd (omega (arith, same, rising j i d behind low))
      | inr not_behind ↦ omega (arith, not_before, not_behind)
    ]
  ]

  -- the place that was found
  pub found_is : (number : ℕ) (sought : Place) → number < length places → is_place sought (get_or places number sought) ≡ true → Some number ≡ position (is_place sought) places
  found_is number sought lt here =
      let same = same_place sought (get_or places number sought) here in
      let there : get_or places number sought ≡ sought = λ i. record { channel = same.0 i; deleted = same.1 i } in
      sym (number_is places number sought in_order (slice_get-get_or places number sought lt ∙ ap Some there))

  -- what stands nowhere
  nowhere : (sought : Place) → ((k : ℕ) → k < length places → is_place sought (get_or places k sought) ≡ false) → None ≡ position (is_place sought) places
  nowhere sought none = none_is (is_place sought) places (length places) sought (omega arith) (omega arith) none

  -- on the channel there is another place
  pub other_is : (number : ℕ) (sought : Place) → number < length places → nat_cmp (get_or places number sought).channel sought.channel ≡ Equal → is_place sought (get_or places number sought) ≡ false
      → None ≡ position (is_place sought) places
  other_is number sought lt tie other = nowhere sought (λ k within. elim (cases_Bool (is_place sought (get_or places k sought))) [
    | inl is ↦
        let on : (get_or places number sought).channel ≡ sought.channel = ranked _ sought.channel _ (sym tie) in
        let same : number ≡ k = once number k sought lt within (on ∙ sym (same_place sought (get_or places k sought) is).0) in
        absurd (false≢true (sym other ∙ ap (λ n. is_place sought (get_or places n sought)) same ∙ is))
    | inr apart ↦ apart
  ])

  compared : (channel : ℕ) (d : Place) → IsNonDecreasingBy (λ p. ordering_index (nat_cmp p.channel channel)) places
  compared channel d = IsNonDecreasingBy-from_default (λ p. ordering_index (nat_cmp p.channel channel)) places d (λ i j le in_range.
      let rise : (get_or places i d).channel ≤ (get_or places j d).channel = elim (cases_lt i j) [
        | inl before ↦ omega (arith, rising i j d before in_range)
        | inr not_before ↦ (let same : i ≡ j = omega (arith, le, not_before) in rw same (omega arith))
      ] in
      grind (arith, nat_tests))

  -- the channel is not there
  pub absent_is : (at : ℕ) (sought : Place)
      → (IsNonDecreasingBy (λ p. ordering_index (nat_cmp p.channel sought.channel)) places → IsPartitionPoint (λ p. nat_cmp p.channel sought.channel ≡ Less) (λ p. nat_cmp p.channel sought.channel ≡ Greater) places at)
      → None ≡ position (is_place sought) places
  absent_is at sought clause =
      let parted = clause (compared sought.channel sought) in
      nowhere sought (λ k within. elim (cases_Bool (is_place sought (get_or places k sought))) [
        | inl is ↦
            let on = (same_place sought (get_or places k sought) is).0 in
            elim (cases_lt k at) [
              | inl before ↦ let less = ranked _ sought.channel _ (sym (parted.0 k sought (omega arith) before)) in absurd (omega (arith, on, less))
              | inr not_before ↦ let greater = ranked _ sought.channel _ (sym (parted.1 k sought (omega (arith, not_before)) within)) in absurd (omega (arith, on, greater))
            ]
        | inr apart ↦ apart
      ])
