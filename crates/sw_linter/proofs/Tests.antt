-- Tests of lists with one element more, and tests that agree.
use Rattle.std.proofs.Common.{◌≡◌, Bool, true, false, ◌||◌, List, [], ◌∷◌, ◌++◌, Contains, Option, Some, None, refl, sym, ap, ap₂, ◌∙◌, inl, inr, arith}
use Rattle.std.specs.Prelude.{find, if◌then◌else◌}
use Rattle.std.specs.List.{list_any}
use Rattle.std.proofs.lemmas.Bool.{false≢true}
use Rattle.std.proofs.lemmas.Option.{none-some}
use Rattle.sw_topo.specs.Checked.{first_of}
use Rattle.sw_flow.proofs.Listed.{Contains-cases, Contains-head, Contains-later}

or_assoc : (a b c : Bool) → (a || b) || c ≡ a || (b || c)
or_assoc true b c = refl
or_assoc false b c = refl

or_false : (a : Bool) → a || false ≡ a
or_false true = refl
or_false false = refl

or_mix : (a b c e : Bool) → (a || b) || (c || e) ≡ (a || c) || (b || e)
or_mix true b c e = refl
or_mix false true true e = refl
or_mix false true false e = refl
or_mix false false c e = refl

module _ {X : Type 0} where
  pub list_any_push : (p : X → Bool) (xs : List X) (y : X) → list_any p (xs ++ y ∷ []) ≡ list_any p xs || p y
  list_any_push p [] y = or_false (p y)
  list_any_push p (x ∷ xs) y = ap (λ b. p x || b) (list_any_push p xs y) ∙ sym (or_assoc (p x) (list_any p xs) (p y))

  pub list_any_same : (p q : X → Bool) (xs : List X) → ((x : X) → p x ≡ q x) → list_any p xs ≡ list_any q xs
  list_any_same p q [] same = refl
  list_any_same p q (x ∷ xs) same = ap₂ (λ a b. a || b) (same x) (list_any_same p q xs same)

  -- an element that passes
  pub record Passing (p : X → Bool) (xs : List X) : Type 0 where
    pub element : X
    pub listed : Contains xs element
    pub passes : p element ≡ true

  pub passing : (p : X → Bool) (xs : List X) → list_any p xs ≡ true → Passing p xs
  passing p [] any = absurd (false≢true any)
  passing p (x ∷ xs) any = by (p x) refl any (passing p xs)
    where
      by : (b : Bool) → p x ≡ b → b || list_any p xs ≡ true → (list_any p xs ≡ true → Passing p xs) → Passing p (x ∷ xs)
      by true is h on = record { element = x; listed = Contains-head x xs; passes = is }
      by false is h on = let rest = on h in record { element = rest.element; listed = Contains-later x rest.element xs rest.listed; passes = rest.passes }

  pub any_passes : (p : X → Bool) (xs : List X) (x : X) → Contains xs x → p x ≡ true → list_any p xs ≡ true
  any_passes p [] x h is = absurd (false≢true (none h))
    where
      none : Contains [] x → false ≡ true
      none (k, lt, e) = absurd (omega (arith, lt))
  any_passes p (y ∷ ys) x h is = elim (Contains-cases y x ys h) [
    | inl same ↦ ap (λ b. b || list_any p ys) (ap p same ∙ is)
    | inr later ↦ let rest = any_passes p ys x later is in ap (λ b. p y || b) rest ∙ or_true (p y)
  ]
    where
      or_true : (a : Bool) → a || true ≡ true
      or_true true = refl
      or_true false = refl

  pub find_push : (p : X → Bool) (xs : List X) (y : X) → find p (xs ++ y ∷ []) ≡ first_of (find p xs) (if p y then Some y else None)
  find_push p [] y = refl
  find_push p (x ∷ xs) y = by (p x) (find_push p xs y)
    where
      by : (b : Bool) → find p (xs ++ y ∷ []) ≡ first_of (find p xs) (if p y then Some y else None) → (if b then Some x else find p (xs ++ y ∷ [])) ≡ first_of (if b then Some x else find p xs) (if p y then Some y else None)
      by true on = refl
      by false on = on

  pub find_same : (p q : X → Bool) (xs : List X) → ((x : X) → p x ≡ q x) → find p xs ≡ find q xs
  find_same p q [] same = refl
  find_same p q (x ∷ xs) same = ap₂ (λ b (o : Option X). if b then Some x else o) (same x) (find_same p q xs same)

  pub find_none : (p : X → Bool) (xs : List X) → ((x : X) → p x ≡ false) → find p xs ≡ None
  find_none p [] none = refl
  find_none p (x ∷ xs) none = ap (λ b. if b then Some x else find p xs) (none x) ∙ find_none p xs none

  pub find_passes : (p : X → Bool) (xs : List X) (x : X) → find p xs ≡ Some x → p x ≡ true
  find_passes p [] x h = absurd (none-some x h)
  find_passes p (y ∷ ys) x h = by (p y) refl h (find_passes p ys x)
    where
      by : (b : Bool) → p y ≡ b → (if b then Some y else find p ys) ≡ Some x → (find p ys ≡ Some x → p x ≡ true) → p x ≡ true
      by true is e on = let same : y ≡ x = cc in ap p (sym same) ∙ is
      by false is e on = on e
