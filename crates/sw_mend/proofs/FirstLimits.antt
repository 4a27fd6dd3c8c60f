-- Which of the limits and slots that are tried is told.
use Rattle.std.proofs.Common.{◌≡◌, ◌≢◌, ◌↔◌, ℕ, zero, suc, ◌+◌, ◌-◌, ◌<◌, ◌≤◌, Bool, true, false, List, [], ◌∷◌, All, Option, Some, None, inl, inr, refl, subst, sym, ap, ◌∙◌, arith}
use Rattle.std.specs.Prelude.{IsTrue, slice_get, if◌then◌else◌}
use Rattle.std.proofs.lemmas.Bool.{cases_Bool, cases_lt, false≢true}
use Rattle.std.proofs.lemmas.List.Elements.{All-nil}
use Rattle.std.proofs.lemmas.Option.{same_Some}
use Rattle.sw_config.specs.Entries.{Declaration}
use Rattle.sw_search.specs.Laws.{RoutedAndFree}
use Rattle.sw_mend.specs.Limitings.{AreSlots, FreesLimited, IsFirst, IsLimiting, IsSlots, Limiting, has_unlimited, limit_alone, limit_and_slots, limited_by, limited_to, limits_from}
use Rattle.sw_mend.specs.LimitingLaws.{GreaterLimitsDoNotFree, LimitingsAreDetermined, LimitingsFree, SlotsAreForWant}
use Rattle.sw_mend.specs.declared.limiting.TargetSlots.{TargetSlots}
use Rattle.sw_mend.proofs.Firsts.{FirstAt, first_at, first_is, one_first}

-- ---- places in the list

limit_at_place : (d : Declaration) (n j : ℕ) → j < n → slice_get (limits_from d n) j ≡ Some (limit_alone (n - j))
limit_at_place d zero j lt = absurd (omega (arith, lt))
limit_at_place d (suc n) zero lt = ap (λ k. Some (limit_alone k)) (omega arith)
limit_at_place d (suc n) (suc j) lt = limit_at_place d n j (omega (arith, lt)) ∙ ap (λ k. Some (limit_alone k)) (omega arith)

last_place : (d : Declaration) (n : ℕ) → slice_get (limits_from d n) n ≡ Some (limit_and_slots d (Some 1))
last_place d zero = refl
last_place d (suc n) = last_place d n

no_place : (d : Declaration) (n j : ℕ) → n < j → slice_get (limits_from d n) j ≡ None
no_place d zero zero lt = absurd (omega (arith, lt))
no_place d zero (suc j) lt = refl
no_place d (suc n) zero lt = absurd (omega (arith, lt))
no_place d (suc n) (suc j) lt = no_place d n j (omega (arith, lt))

-- the limit n is at this place of those from 8 down
place_of : (d : Declaration) (n : ℕ) → 1 ≤ n → n ≤ 8 → slice_get (limits_from d 8) (8 - n) ≡ Some (limit_alone n)
place_of d n low high = limit_at_place d 8 (8 - n) (omega (arith, low, high)) ∙ ap (λ k. Some (limit_alone k)) (omega (arith, low, high))

-- ---- what is told where flows are unlimited

pub of_limits : (d : Declaration) (found : Option Limiting) → has_unlimited d ≡ true → IsLimiting d found → IsFirst (FreesLimited d) (limits_from d 8) found
of_limits d found is told = subst (λ b. IsFirst (FreesLimited d) (if b then limits_from d 8 else limit_and_slots d None ∷ []) found) is told

of_slots : (d : Declaration) (found : Option Limiting) → has_unlimited d ≡ false → IsLimiting d found → IsFirst (FreesLimited d) (limit_and_slots d None ∷ []) found
of_slots d found is told = subst (λ b. IsFirst (FreesLimited d) (if b then limits_from d 8 else limit_and_slots d None ∷ []) found) is told

-- a limit before the place of what is told does not free
never_before : (d : Declaration) (told : Limiting) (n : ℕ) (at : FirstAt (FreesLimited d) (limits_from d 8) told) → 1 ≤ n → n ≤ 8 → 8 - n < at.0
    → RoutedAndFree (limited_by d (limit_alone n)) → ⊥
never_before d told n at low high lt frees = at.2 (8 - n) (limit_alone n) lt (place_of d n low high) (All-nil IsSlots, frees)

-- what is told at a place of a limit alone
pub told_alone : (d : Declaration) (told : Limiting) (i : ℕ) → slice_get (limits_from d 8) i ≡ Some told → i < 8 → told ≡ limit_alone (8 - i)
told_alone d told i here lt = same_Some told (limit_alone (8 - i)) (sym here ∙ limit_at_place d 8 i lt)

pub told_last : (d : Declaration) (told : Limiting) (i : ℕ) → slice_get (limits_from d 8) i ≡ Some told → 8 ≤ i → (i ≡ 8) × (told ≡ limit_and_slots d (Some 1))
told_last d told i here past = elim (cases_lt 8 i) [
  | inl over ↦
      let none : Some told ≡ None = sym here ∙ no_place d 8 i over in
      absurd cc
  | inr not_over ↦
      let eight : i ≡ 8 = omega (arith, past, not_over) in
      (eight, same_Some told (limit_and_slots d (Some 1)) (sym here ∙ ap (slice_get (limits_from d 8)) eight ∙ last_place d 8))
]

greater_at : (d : Declaration) (told : Limiting) (most n : ℕ) (at : FirstAt (FreesLimited d) (limits_from d 8) told) → told.most ≡ Some most → most < n → n ≤ 8
    → RoutedAndFree (limited_by d (limit_alone n)) → ⊥
greater_at d told most n at is more high frees = elim (cases_lt at.0 8) [
  | inl alone ↦
      let same : 8 - at.0 ≡ most = same_Some (8 - at.0) most (sym (ap (λ (l : Limiting). l.most) (told_alone d told at.0 at.1 alone)) ∙ is) in
      never_before d told n at (omega (arith, more)) high (omega (arith, same, more, high, alone)) frees
  | inr last ↦
      let end = told_last d told at.0 at.1 (omega (arith, last)) in
      let same : 1 ≡ most = same_Some 1 most (sym (ap (λ (l : Limiting). l.most) end.1) ∙ is) in
      never_before d told n at (omega (arith, more)) high (omega (arith, end.0, same, more, high)) frees
]

slots_at_last : (d : Declaration) (told : Limiting) (n : ℕ) (at : FirstAt (FreesLimited d) (limits_from d 8) told) → told.slots ≢ [] → 1 ≤ n → n ≤ 8
    → RoutedAndFree (limited_by d (limit_alone n)) → ⊥
slots_at_last d told n at some low high frees = elim (cases_lt at.0 8) [
  | inl alone ↦ some (ap (λ (l : Limiting). l.slots) (told_alone d told at.0 at.1 alone))
  | inr last ↦ never_before d told n at low high (omega (arith, (told_last d told at.0 at.1 (omega (arith, last))).0, low)) frees
]

as_limits : (d : Declaration) (found : Option Limiting) → has_unlimited d ≡ true → IsFirst (FreesLimited d) (limits_from d 8) found → IsLimiting d found
as_limits d found is first = subst (λ b. IsFirst (FreesLimited d) (if b then limits_from d 8 else limit_and_slots d None ∷ []) found) (sym is) first

-- the same by what was tested
pub of_unlimited : (d : Declaration) (found : Option Limiting) (b : Bool) → b ≡ has_unlimited d → b ≡ true → IsFirst (FreesLimited d) (limits_from d 8) found
    → IsLimiting d found
of_unlimited d found b is tested first = as_limits d found (sym is ∙ tested) first

-- ---- one limit after the other

-- a limit that frees is told, if none before did
pub this_limit : (d : Declaration) (m : ℕ) (freed : Bool) → 1 ≤ m → (IsTrue freed ↔ RoutedAndFree (limited_by d (limit_alone m))) → freed ≡ true
    → IsFirst (FreesLimited d) (limits_from d m) (Some (limit_alone m))
this_limit d zero freed low iff is = absurd (omega (arith, low))
this_limit d (suc k) freed low iff is = inl ((All-nil IsSlots, iff.0 is), refl)

-- after one that does not, what is told is the first of those that are left
pub next_limit : (d : Declaration) (m k : ℕ) (freed : Bool) → m ≡ k + 1 → (IsTrue freed ↔ RoutedAndFree (limited_by d (limit_alone m))) → freed ≡ false
    → (found : Option Limiting) → IsFirst (FreesLimited d) (limits_from d k) found → IsFirst (FreesLimited d) (limits_from d m) found
next_limit d zero k freed next iff is found first = absurd (omega (arith, next))
next_limit d (suc j) k freed next iff is found first =
    let same : k ≡ j = omega (arith, next) in
    inr ((λ frees. false≢true (sym is ∙ iff.1 frees.1)), subst (λ n. IsFirst (FreesLimited d) (limits_from d n) found) same first)

-- ---- a limit with slots

module _ (d : Declaration) (most : Option ℕ) (slots : List TargetSlots) (are : AreSlots (limited_to d most) (Some slots)) where
  same_limiting : record { most = most; slots = slots } ≡ limit_and_slots d most
  same_limiting = λ t. record { most = most; slots = are.0 t }

  pub told_with_slots : (freed : Bool) → (IsTrue freed ↔ RoutedAndFree (limited_by d (record { most = most; slots = slots }))) → freed ≡ true
      → FreesLimited d (limit_and_slots d most) × (Some (record { most = most; slots = slots }) ≡ Some (limit_and_slots d most))
  told_with_slots freed iff is = (subst (FreesLimited d) same_limiting (are.1, iff.0 is), ap Some same_limiting)

  pub not_with_slots : (freed : Bool) → (IsTrue freed ↔ RoutedAndFree (limited_by d (record { most = most; slots = slots }))) → freed ≡ false
      → FreesLimited d (limit_and_slots d most) → ⊥
  not_with_slots freed iff is frees = false≢true (sym is ∙ iff.1 (subst (λ (l : Limiting). RoutedAndFree (limited_by d l)) (sym same_limiting) frees.1))

-- ---- the laws

pub limitings_free : LimitingsFree
limitings_free d told is = elim (cases_Bool (has_unlimited d)) [
  | inl some ↦ first_is (FreesLimited d) (limits_from d 8) told (of_limits d (Some told) some is)
  | inr none ↦ first_is (FreesLimited d) (limit_and_slots d None ∷ []) told (of_slots d (Some told) none is)
]

-- where each flow is limited no limit is told
pub no_limit_told : (d : Declaration) (told : Limiting) → has_unlimited d ≡ false → IsLimiting d (Some told) → told.most ≡ None
no_limit_told d told none is =
    elim (of_slots d (Some told) none is) [
      | inl here ↦ ap (λ (l : Limiting). l.most) (same_Some told (limit_and_slots d None) here.1)
      | inr past ↦
          let gone : Some told ≡ None = past.1 in
          absurd cc
    ]

pub greater_limits_do_not_free : GreaterLimitsDoNotFree
greater_limits_do_not_free d told most n is limit more high frees = elim (cases_Bool (has_unlimited d)) [
  | inl some ↦ greater_at d told most n (first_at (FreesLimited d) (limits_from d 8) told (of_limits d (Some told) some is)) limit more high frees
  | inr none ↦
      let gone : None ≡ Some most = sym (no_limit_told d told none is) ∙ limit in
      absurd cc
]

pub slots_are_for_want : SlotsAreForWant
slots_are_for_want d told n is some unlimited low high frees =
    slots_at_last d told n (first_at (FreesLimited d) (limits_from d 8) told (of_limits d (Some told) unlimited is)) some low high frees

pub limitings_are_determined : LimitingsAreDetermined
limitings_are_determined d told other is same = elim (cases_Bool (has_unlimited d)) [
  | inl some ↦ one_first (FreesLimited d) (limits_from d 8) told other (of_limits d told some is) (of_limits d other some same)
  | inr none ↦ one_first (FreesLimited d) (limit_and_slots d None ∷ []) told other (of_slots d told none is) (of_slots d other none same)
]
