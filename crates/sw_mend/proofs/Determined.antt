-- The changes and the pairs that are told are exactly those that free the network, and determined.
use Rattle.std.proofs.Common.{◌≡◌, ◌⊎◌, ◌↔◌, ℕ, suc, zero, List, [], ◌∷◌, Some, ap, arith, inl, inr, map, refl, subst, sym, ◌∙◌}
use Rattle.std.specs.Prelude.{Contains, slice_get}
use Rattle.std.proofs.lemmas.List.Elements.{Contains-append_cases, Contains-append_left, Contains-append_right}
use Rattle.std.proofs.lemmas.Option.{same_Some}
use Rattle.sw_config.specs.Entries.{Declaration}
use Rattle.sw_config.specs.Valid.{IsValid}
use Rattle.sw_mend.specs.Changes.{pairs_of, removals}
use Rattle.sw_mend.specs.Laws.{MendsAreDetermined, MendsAreThoseThatFree, MendsKeepValid, PairsAreDetermined, PairsAreThoseThatFree, StandsBefore, UnitMendsAreDetermined, UnitMendsAreThoseThatFree, UnitMendsKeepValid}
use Rattle.sw_mend.specs.Mends.{AreThose, Frees, FreesTogether, left_by, single_changes, unit_changes}
use Rattle.sw_mend.specs.declared.change.Change.{Change}
use Rattle.sw_mend.specs.declared.change.Pair.{Pair}
use Rattle.sw_mend.specs.declared.change.Trial.{Trial}
use Rattle.sw_mend.specs.declared.change.Trial.TheVariants.{Without, Split}
use Rattle.sw_mend.proofs.Kept.{changes_keep_valid}
use Rattle.sw_mend.proofs.Paired.{pair_with}

module _ {A : Type 0} where
  first_in : (c : A) (cs : List A) → Contains (c ∷ cs) c
  first_in c cs = (0, omega arith, refl)

  later_in : (c x : A) (cs : List A) → Contains cs x → Contains (c ∷ cs) x
  later_in c x cs (k, lt, is) = (suc k, omega arith, is)

  in_cases : (c x : A) (cs : List A) → Contains (c ∷ cs) x → (c ≡ x) ⊎ Contains cs x
  in_cases c x cs (zero, lt, is) = inl is
  in_cases c x cs (suc k, lt, is) = inr (k, omega arith, is)

-- ---- those that free

module _ {A : Type 0} (IsFree : A → Type 0) where
  told_or_not : (c : A) (tried rest told : List A) (x : A) → told ≡ c ∷ rest → IsFree c → (Contains rest x ↔ (Contains tried x × IsFree x))
      → Contains told x ↔ (Contains (c ∷ tried) x × IsFree x)
  told_or_not c tried rest told x is frees below = (
    λ here. elim (in_cases c x rest (subst (λ (l : List A). Contains l x) is here)) [
      | inl same ↦ (subst (Contains (c ∷ tried)) same (first_in c tried), subst IsFree same frees)
      | inr later ↦ (later_in c x tried (below.0 later).0, (below.0 later).1)
    ],
    λ both. subst (λ (l : List A). Contains l x) (sym is) (elim (in_cases c x tried both.0) [
      | inl same ↦ subst (Contains (c ∷ rest)) same (first_in c rest)
      | inr later ↦ later_in c x rest (below.1 (later, both.1))
    ]),
  )

  not_told : (c : A) (tried rest told : List A) (x : A) → told ≡ rest → (IsFree c → ⊥) → (Contains rest x ↔ (Contains tried x × IsFree x))
      → Contains told x ↔ (Contains (c ∷ tried) x × IsFree x)
  not_told c tried rest told x is never below = (
    λ here.
        let both = below.0 (subst (λ (l : List A). Contains l x) is here) in
        (later_in c x tried both.0, both.1),
    λ both. subst (λ (l : List A). Contains l x) (sym is) (elim (in_cases c x tried both.0) [
      | inl same ↦ absurd (never (subst IsFree (sym same) both.1))
      | inr later ↦ below.1 (later, both.1)
    ]),
  )

  exactly : (tried told : List A) (x : A) → AreThose IsFree tried told → Contains told x ↔ (Contains tried x × IsFree x)
  exactly [] told x none = (
    λ here. let gone : Contains [] x = subst (λ (l : List A). Contains l x) none here in absurd (omega (arith, gone.1)),
    λ both. absurd (omega (arith, both.0.1)),
  )
  exactly (c ∷ tried) told x (rest, those, inl first) = told_or_not c tried rest told x first.1 first.0 (exactly tried rest x those)
  exactly (c ∷ tried) told x (rest, those, inr never) = not_told c tried rest told x never.1 never.0 (exactly tried rest x those)

  one_list : (tried told other : List A) → AreThose IsFree tried told → AreThose IsFree tried other → told ≡ other
  one_list [] told other none also = none ∙ sym also
  one_list (c ∷ tried) told other (rest, those, inl first) (left, them, inl also) =
      first.1 ∙ ap (λ (l : List A). c ∷ l) (one_list tried rest left those them) ∙ sym also.1
  one_list (c ∷ tried) told other (rest, those, inl first) (left, them, inr never) = absurd (never.0 first.0)
  one_list (c ∷ tried) told other (rest, those, inr never) (left, them, inl first) = absurd (never.0 first.0)
  one_list (c ∷ tried) told other (rest, those, inr never) (left, them, inr also) = never.1 ∙ one_list tried rest left those them ∙ sym also.1

pub mends_are_those_that_free : MendsAreThoseThatFree
mends_are_those_that_free d told change are = exactly (Frees d) (single_changes d) told change are

freeing_keeps_valid : (d : Declaration) (change : Trial) → IsValid d → Frees d change → IsValid (left_by d change)
freeing_keeps_valid d (Without change) valid frees = changes_keep_valid d change valid
freeing_keeps_valid d (Split link) valid frees = frees.0

pub mends_keep_valid : MendsKeepValid
mends_keep_valid d told change valid are here = freeing_keeps_valid d change valid ((mends_are_those_that_free d told change are).0 here).1

pub mends_are_determined : MendsAreDetermined
mends_are_determined d told other are also = one_list (Frees d) (single_changes d) told other are also

-- ---- those of units

pub unit_mends_are_those_that_free : UnitMendsAreThoseThatFree
unit_mends_are_those_that_free d told change are = exactly (Frees d) (unit_changes d) told change are

pub unit_mends_keep_valid : UnitMendsKeepValid
unit_mends_keep_valid d told change valid are here = freeing_keeps_valid d change valid ((unit_mends_are_those_that_free d told change are).0 here).1

pub unit_mends_are_determined : UnitMendsAreDetermined
unit_mends_are_determined d told other are also = one_list (Frees d) (unit_changes d) told other are also

-- ---- pairs

seconds : (first : Change) (changes : List Change) (pair : Pair) → Contains (map (pair_with first) changes) pair
    → (first ≡ pair.first) × ((j : ℕ) × (slice_get changes j ≡ Some pair.second))
seconds first [] pair here = absurd (omega (arith, here.1))
seconds first (c ∷ changes) pair here = elim (in_cases _ pair _ here) [
  | inl same ↦ (ap (λ (p : Pair). p.first) same, (0, ap (λ (p : Pair). Some p.second) same))
  | inr later ↦ let at = seconds first changes pair later in (at.0, (suc at.1.0, at.1.1))
]

a_second : (first second : Change) (changes : List Change) (j : ℕ) → slice_get changes j ≡ Some second
    → Contains (map (pair_with first) changes) (record { first = first; second = second })
a_second first second [] j here = absurd cc
a_second first second (c ∷ changes) zero here = (0, omega arith, ap (pair_with first) (same_Some c second here))
a_second first second (c ∷ changes) (suc j) here = later_in _ _ _ (a_second first second changes j here)

stands : (changes : List Change) (pair : Pair) → Contains (pairs_of changes) pair → StandsBefore changes pair.first pair.second
stands [] pair here = absurd (omega (arith, here.1))
stands (c ∷ changes) pair here = elim (Contains-append_cases (map (pair_with c) changes) (pairs_of changes) pair here) [
  | inl with_first ↦
      let at = seconds c changes pair with_first in
      (0, suc at.1.0, omega arith, ap (λ (z : Change). Some z) at.0, at.1.1)
  | inr later ↦
      let before = stands changes pair later in
      (suc before.0, suc before.1, omega (arith, before.2), before.3, before.4)
]

is_pair : (changes : List Change) (first second : Change) → StandsBefore changes first second → Contains (pairs_of changes) (record { first = first; second = second })
is_pair [] first second (i, j, lt, a, b) = absurd cc
is_pair (c ∷ changes) first second (i, zero, lt, a, b) = absurd (omega arith)
is_pair (c ∷ changes) first second (zero, suc j, lt, a, b) =
    let same : c ≡ first = same_Some c first a in
    Contains-append_left (map (pair_with c) changes) (pairs_of changes) _
    (rw same (a_second first second changes j b))
is_pair (c ∷ changes) first second (suc i, suc j, lt, a, b) =
    Contains-append_right (map (pair_with c) changes) (pairs_of changes) _
    (is_pair changes first second (i, j, omega arith, a, b))

pub pairs_are_those_that_free : PairsAreThoseThatFree
pairs_are_those_that_free d told pair are =
    let both = exactly (FreesTogether d) (pairs_of (removals d)) told pair are in (
      λ here. (stands (removals d) pair (both.0 here).0, (both.0 here).1),
      λ (before, frees). both.1 (is_pair (removals d) pair.first pair.second before, frees),
    )

pub pairs_are_determined : PairsAreDetermined
pairs_are_determined d told other are also = one_list (FreesTogether d) (pairs_of (removals d)) told other are also
