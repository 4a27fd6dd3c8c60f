-- The first two flows to two targets over the two channels of a link, by the first ones of each channel.
use Rattle.std.proofs.Common.{◌≡◌, ℕ, Bool, true, false, not, ◌&&◌, List, [], ◌∷◌, Contains, Option, Some, None, filter, refl, sym, ap, ap₂, ◌∙◌, ◌⊎◌, inl, inr, arith}
use Rattle.std.specs.Prelude.{find, option_and_then, option_map, if◌then◌else◌}
use Rattle.std.proofs.lemmas.Bool.{not-false}
use Rattle.std.proofs.lemmas.Option.{none-some}
use Rattle.sw_topo.specs.Checked.{first_of}
use Rattle.sw_flow.proofs.Listed.{Contains-cases, Contains-head, Contains-later}
use Rattle.sw_config.specs.Entries.{Declaration}
use Rattle.sw_linter.specs.declared.lint.Lint.{Lint}
use Rattle.sw_linter.specs.declared.lint.Lint.TheVariants.{Opposed}
use Rattle.sw_linter.specs.FlowPlaces.{FlowPlace}
use Rattle.sw_linter.specs.Lints.{asks_on, can_block, first_made, first_opposed}
use Rattle.sw_linter.specs.Marks.{asker, is_same_wait, pair_of}
use Rattle.sw_linter.proofs.Noting.{none_more, number_of, other_of}
use Rattle.sw_linter.proofs.Ranges.{first_made_none, first_made_same}
use Rattle.sw_linter.proofs.Tests.{find_none, find_same}
use Rattle.sw_linter.proofs.Waits.{can_block_is, elsewhere, same_wait, turned, waits}

and_true : (b : Bool) → b && true ≡ b
and_true true = refl
and_true false = refl

and_false : (b : Bool) → b && false ≡ false
and_false true = refl
and_false false = refl

module _ {X : Type 0} where
  filter_none : (p : X → Bool) (xs : List X) → find p xs ≡ None → filter p xs ≡ []
  filter_none p [] none = refl
  filter_none p (x ∷ xs) none = by (p x) none (filter_none p xs)
    where
      by : (b : Bool) → (if b then Some x else find p xs) ≡ None → (find p xs ≡ None → filter p xs ≡ []) → (if b then x ∷ filter p xs else filter p xs) ≡ []
      by true e on = absurd (none-some x (sym e))
      by false e on = on e

  -- the elements that pass begin with the first of them
  first_kept : (p : X → Bool) (xs : List X) (x : X) → find p xs ≡ Some x → (rest : List X) × (filter p xs ≡ x ∷ rest)
  first_kept p [] x found = absurd (none-some x found)
  first_kept p (y ∷ ys) x found = by (p y) found (first_kept p ys x)
    where
      by : (b : Bool) → (if b then Some y else find p ys) ≡ Some x → (find p ys ≡ Some x → (rest : List X) × (filter p ys ≡ x ∷ rest)) → (rest : List X) × ((if b then y ∷ filter p ys else filter p ys) ≡ x ∷ rest)
      by true e on = let same : y ≡ x = cc in (filter p ys, ap (λ z. z ∷ filter p ys) same)
      by false e on = on e

  find_both : (p q : X → Bool) (xs : List X) (x : X) → find p xs ≡ Some x → q x ≡ true → find (λ y. p y && q y) xs ≡ Some x
  find_both p q [] x found is = absurd (none-some x found)
  find_both p q (y ∷ ys) x found is = by (p y) found (λ e. find_both p q ys x e is)
    where
      by : (b : Bool) → (if b then Some y else find p ys) ≡ Some x → (find p ys ≡ Some x → find (λ z. p z && q z) ys ≡ Some x) → (if b && q y then Some y else find (λ z. p z && q z) ys) ≡ Some x
      by true e on = let same : y ≡ x = cc in ap (λ b. if b then Some y else find (λ z. p z && q z) ys) (ap q same ∙ is) ∙ ap Some same
      by false e on = on e

  find_filter : (p q : X → Bool) (xs : List X) → find q (filter p xs) ≡ find (λ y. p y && q y) xs
  find_filter p q [] = refl
  find_filter p q (y ∷ ys) = by (p y) (find_filter p q ys)
    where
      by : (b : Bool) → find q (filter p ys) ≡ find (λ z. p z && q z) ys → find q (if b then y ∷ filter p ys else filter p ys) ≡ (if b && q y then Some y else find (λ z. p z && q z) ys)
      by true on = ap (λ (o : Option X). if q y then Some y else o) on
      by false on = on

  none_passes : (p : X → Bool) (xs : List X) (x : X) → find p xs ≡ None → Contains xs x → p x ≡ false
  none_passes p [] x none h = absurd (omega (arith, h.1))
  none_passes p (y ∷ ys) x none h = by (p y) refl none (Contains-cases y x ys h) (none_passes p ys x)
    where
      by : (b : Bool) → p y ≡ b → (if b then Some y else find p ys) ≡ None → (y ≡ x) ⊎ Contains ys x → (find p ys ≡ None → Contains ys x → p x ≡ false) → p x ≡ false
      by true is e at on = absurd (none-some y (sym e))
      by false is e (inl same) on = ap p (sym same) ∙ is
      by false is e (inr later) on = on e later

  find_same_in : (p q : X → Bool) (xs : List X) → ((x : X) → Contains xs x → p x ≡ q x) → find p xs ≡ find q xs
  find_same_in p q [] same = refl
  find_same_in p q (x ∷ xs) same = ap₂ (λ b (o : Option X). if b then Some x else o) (same x (Contains-head x xs)) (find_same_in p q xs (λ y h. same y (Contains-later x y xs h)))

  first_made_if : {B : Type 0} (q : X → Bool) (f : X → B) (xs : List X) → first_made (λ u. if q u then Some (f u) else None) xs ≡ option_map f (find q xs)
  first_made_if q f [] = refl
  first_made_if {B} q f (x ∷ xs) = by (q x) (first_made_if q f xs)
    where
      by : (b : Bool) → first_made (λ u. if q u then Some (f u) else None) xs ≡ option_map f (find q xs) → first_of (if b then Some (f x) else None) (first_made (λ u. if q u then Some (f u) else None) xs) ≡ option_map f (if b then Some x else find q xs)
      by true on = refl
      by false on = on

  find_and_fixed : (p : X → Bool) (t : Bool) (xs : List X) → find (λ x. p x && t) xs ≡ (if t then find p xs else None)
  find_and_fixed p true xs = find_same (λ x. p x && true) p xs (λ x. and_true (p x))
  find_and_fixed p false xs = find_none (λ x. p x && false) xs (λ x. and_false (p x))

-- ---- targets

-- the commands of w wait where those of v do
elsewhere_alike : (d : Declaration) (v w x : FlowPlace) → waits d w ≡ waits d v → elsewhere d w x ≡ elsewhere d v x
elsewhere_alike d v w x same = ap (λ k. not (is_same_wait (waits d x) k)) same

module _ (d : Declaration) (all : List FlowPlace) (p : FlowPlace → Bool) (v w : FlowPlace) (found : find p all ≡ Some w) (none : find (λ x. p x && elsewhere d v x) all ≡ None) where
  -- where all wait where v does, for another flow either w is the first that waits elsewhere, or none does
  one_target : (u : FlowPlace) → find (λ x. p x && elsewhere d u x) all ≡ (if elsewhere d v u then Some w else None)
  one_target u = find_same_in (λ x. p x && elsewhere d u x) (λ x. p x && elsewhere d v u) all each ∙ find_and_fixed p (elsewhere d v u) all ∙ ap (λ (o : Option FlowPlace). if elsewhere d v u then o else None) found
    where
      each : (x : FlowPlace) → Contains all x → (p x && elsewhere d u x) ≡ (p x && elsewhere d v u)
      each x h = by (p x) refl
        where
          by : (b : Bool) → p x ≡ b → (b && elsewhere d u x) ≡ (b && elsewhere d v u)
          by false is = refl
          by true is =
              let fails : elsewhere d v x ≡ false = sym (ap (λ b. b && elsewhere d v x) is) ∙ none_passes (λ y. p y && elsewhere d v y) all x none h in
              let same : waits d x ≡ waits d v = same_wait (waits d x) (waits d v) (not-false (is_same_wait (waits d x) (waits d v)) fails) in
              ap (λ k. not (is_same_wait k (waits d u))) same ∙ ap not (turned (waits d v) (waits d u))

-- ---- the pair

-- the first flow whose commands may have to wait elsewhere than the first one's, if there is that
abbrev other_from : Declaration → List FlowPlace → ℕ → Option FlowPlace → Option ℕ
other_from d all c o = option_and_then (λ v. option_map number_of (find (λ w. asks_on c w && elsewhere d v w) all)) o

module _ (d : Declaration) (all : List FlowPlace) (link a b : ℕ) where
  abbrev pair : FlowPlace → FlowPlace → Lint
  pair v w = Opposed link v.number w.number

  abbrev opposed_to : FlowPlace → Option Lint
  opposed_to v = option_map (pair v) (find (λ w. asks_on b w && elsewhere d v w) all)

  mapped : (f : ℕ → Lint) (o : Option FlowPlace) → option_map f (option_map number_of o) ≡ option_map (λ w. f w.number) o
  mapped f None = refl
  mapped f (Some w) = refl

  abbrev first_over : Option Lint
  first_over = first_made opposed_to (filter (asks_on a) all)

  none_on_a : find (asks_on a) all ≡ None → first_over ≡ None
  none_on_a none = ap (first_made opposed_to) (filter_none (asks_on a) all none)

  none_on_b : find (asks_on b) all ≡ None → first_over ≡ None
  none_on_b none = first_made_none opposed_to (filter (asks_on a) all) (λ v. ap (option_map (pair v)) (none_more (asks_on b) (elsewhere d v) all none))

  module _ (v w : FlowPlace) (on_a : find (asks_on a) all ≡ Some v) (on_b : find (asks_on b) all ≡ Some w) where
    begins : first_over ≡ first_of (opposed_to v) (first_made opposed_to (first_kept (asks_on a) all v on_a).0)
    begins = ap (first_made opposed_to) (first_kept (asks_on a) all v on_a).1

    apart : is_same_wait (waits d w) (waits d v) ≡ false → Some (pair v w) ≡ first_over
    apart is = sym (begins ∙ ap (λ (o : Option FlowPlace). first_of (option_map (pair v) o) (first_made opposed_to (first_kept (asks_on a) all v on_a).0)) (find_both (asks_on b) (elsewhere d v) all w on_b (ap not is)))

    abbrev other_a : Option ℕ
    other_a = option_map number_of (find (λ x. asks_on a x && elsewhere d v x) all)

    abbrev other_b : Option ℕ
    other_b = option_map number_of (find (λ x. asks_on b x && elsewhere d w x) all)

    abbrev either_other : Option Lint
    either_other = first_of (option_map (λ n. Opposed link v.number n) other_b) (option_map (λ n. Opposed link n w.number) other_a)

    -- the commands of both wait at one target, or none waits
    together : waits d w ≡ waits d v → either_other ≡ first_over
    together same = by (find (λ x. asks_on b x && elsewhere d v x) all) refl
      where
        alike : other_b ≡ option_map number_of (find (λ x. asks_on b x && elsewhere d v x) all)
        alike = ap (option_map number_of) (find_same_in (λ x. asks_on b x && elsewhere d w x) (λ x. asks_on b x && elsewhere d v x) all (λ x h. ap (λ e. asks_on b x && e) (elsewhere_alike d v w x same)))

        by : (o : Option FlowPlace) → find (λ x. asks_on b x && elsewhere d v x) all ≡ o → either_other ≡ first_over
        by (Some x) is =
            ap (λ (o : Option ℕ). first_of (option_map (λ n. Opposed link v.number n) o) (option_map (λ n. Opposed link n w.number) other_a)) (alike ∙ ap (option_map number_of) is)
            ∙ sym (begins ∙ ap (λ (o : Option FlowPlace). first_of (option_map (pair v) o) (first_made opposed_to (first_kept (asks_on a) all v on_a).0)) is)
        by None is =
            let each : (u : FlowPlace) → opposed_to u ≡ (if elsewhere d v u then Some (pair u w) else None) = λ u. ap (option_map (pair u)) (one_target d all (asks_on b) v w on_b is u) ∙ chosen u (elsewhere d v u) in
            ap (λ (o : Option ℕ). first_of (option_map (λ n. Opposed link v.number n) o) (option_map (λ n. Opposed link n w.number) other_a)) (alike ∙ ap (option_map number_of) is)
            ∙ mapped (λ n. Opposed link n w.number) (find (λ x. asks_on a x && elsewhere d v x) all)
            ∙ sym (first_made_same opposed_to (λ u. if elsewhere d v u then Some (pair u w) else None) (filter (asks_on a) all) each
            ∙ first_made_if (elsewhere d v) (λ u. pair u w) (filter (asks_on a) all) ∙ ap (option_map (λ u. pair u w)) (find_filter (asks_on a) (elsewhere d v) all))
          where
            chosen : (u : FlowPlace) (e : Bool) → option_map (pair u) (if e then Some w else None) ≡ (if e then Some (pair u w) else None)
            chosen u true = refl
            chosen u false = refl

  -- what is noted of the two channels tells the first pair
  pair_noted : pair_of link (option_map (asker d) (find (asks_on a) all)) (option_map (asker d) (find (asks_on b) all)) (other_of d all a) (other_of d all b) ≡ first_over
  pair_noted = by (find (asks_on a) all) refl (find (asks_on b) all) refl
    where
      by : (o : Option FlowPlace) → find (asks_on a) all ≡ o → (p : Option FlowPlace) → find (asks_on b) all ≡ p
          → pair_of link (option_map (asker d) o) (option_map (asker d) p) (other_from d all a o) (other_from d all b p) ≡ first_over
      by None is p on = sym (none_on_a is)
      by (Some v) is None on = sym (none_on_b on)
      by (Some v) is (Some w) on = at (is_same_wait (waits d w) (waits d v)) refl
        where
          at : (e : Bool) → is_same_wait (waits d w) (waits d v) ≡ e
              → (if e then either_other v w is on else Some (pair v w)) ≡ first_over
          at true same = together v w is on (same_wait (waits d w) (waits d v) same)
          at false same = apart v w is on same

  -- which is the first of two flows to two targets one of which may make commands wait
  pub pair_told : pair_of link (option_map (asker d) (find (asks_on a) all)) (option_map (asker d) (find (asks_on b) all)) (other_of d all a) (other_of d all b) ≡ first_made (first_opposed d all link b) (filter (asks_on a) all)
  pair_told =
      pair_noted
      ∙ first_made_same opposed_to (first_opposed d all link b) (filter (asks_on a) all) (λ v.
      ap (option_map (pair v)) (find_same (λ w. asks_on b w && elsewhere d v w) (λ w. asks_on b w && can_block d v w) all (λ w. ap (λ e. asks_on b w && e) (sym (can_block_is d v w)))))
