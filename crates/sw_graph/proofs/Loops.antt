-- Steps of loops that look for an element, or leave some out.
use Rattle.std.proofs.Common.{◌≡◌, ◌∙◌, ◌+◌, ◌<◌, ◌≤◌, ℕ, List, Bool, true, false, get_or, length, length-set, set, take, drop, filter, cond, [], ◌∷◌, ◌++◌, ap, sym, arith, ◌||◌}
use Rattle.std.specs.List.{list_any}
use Rattle.std.proofs.lemmas.Grind.{drop_more_same}
use Rattle.std.proofs.lemmas.List.{append-nil, drop-set-lt, get_or-drop, take_all, take_more_set}
use Rattle.std.proofs.lemmas.List.Elements.{filter_more}
use Rattle.std.proofs.lemmas.List.Folds.{list_any_at, list_any_more}

-- one passes, none up to one more does, or none at all
module _ {A : Type 0} (test : A → Bool) where
  pub one_read : (xs : List A) (i : ℕ) (d : A) (b : Bool) → i < length xs → b ≡ test (get_or xs i d) → b ≡ true → true ≡ list_any test xs
  one_read xs i d b lt is passes = sym (list_any_at test xs i d lt (sym is ∙ passes))

  pub none_read : (xs : List A) (i : ℕ) (d : A) (b : Bool) → i < length xs → list_any test (take i xs) ≡ false → b ≡ test (get_or xs i d) → b ≡ false
      → list_any test (take (i + 1) xs) ≡ false
  none_read xs i d b lt none is fails = list_any_more test xs i d lt ∙ (λ t. none t || (sym is ∙ fails) t)

  pub none_passes : (xs : List A) (i : ℕ) → length xs ≤ i → list_any test (take i xs) ≡ false → false ≡ list_any test xs
  none_passes xs i past none = sym none ∙ ap (list_any test) (take_all i xs past)

-- one more element of a list that a test keeps, or leaves out
module _ (test : ℕ → Bool) (xs : List ℕ) (i : ℕ) (lt : i < length xs) where
  pub filter_kept : test (get_or xs i 0) ≡ true → filter test (take (i + 1) xs) ≡ filter test (take i xs) ++ get_or xs i 0 ∷ []
  filter_kept passes = filter_more test xs i 0 lt ∙ ap (λ b. filter test (take i xs) ++ cond b (get_or xs i 0 ∷ []) []) passes

  pub filter_left : test (get_or xs i 0) ≡ false → filter test (take (i + 1) xs) ≡ filter test (take i xs)
  filter_left fails = filter_more test xs i 0 lt ∙ ap (λ b. filter test (take i xs) ++ cond b (get_or xs i 0 ∷ []) []) fails ∙ append-nil (filter test (take i xs))

-- the elements that the test keeps are moved down, over those that it leaves out
pub record Moving (test : ℕ → Bool) (xs : List ℕ) (at kept : ℕ) (now : List ℕ) : Type 0 where
  pub long : length now ≡ length xs
  pub low : kept ≤ at
  pub done : take kept now ≡ filter test (take at xs)
  pub rest : drop at now ≡ drop at xs

module _ (test : ℕ → Bool) (xs : List ℕ) (at kept : ℕ) (now : List ℕ) (m : Moving test xs at kept now) (lt : at < length now) where
  same : get_or now at 0 ≡ get_or xs at 0
  same =
      let e : at + 0 ≡ at = omega arith in
      ap (λ k. get_or now k 0) (sym e) ∙ sym (get_or-drop at now 0 0) ∙ ap (λ l. get_or l 0 0) m.rest ∙ get_or-drop at xs 0 0 ∙ ap (λ k. get_or xs k 0) e

  inside : at < length xs
  inside = omega (arith, m.long)

  pub moved : (c : ℕ) → c ≡ get_or now at 0 → test c ≡ true → Moving test xs (at + 1) (kept + 1) (set now kept c)
  moved c is passes =
      let here : c ≡ get_or xs at 0 = is ∙ same in
      record {
        long = length-set now kept c ∙ m.long;
        low = omega (arith, m.low);
        done = take_more_set now kept c (omega (arith, m.low)) ∙ ap (λ (l : List ℕ). l ++ c ∷ []) m.done ∙ ap (λ k. filter test (take at xs) ++ k ∷ []) here ∙ sym (filter_kept test xs at inside (ap test (sym here) ∙ passes));
        rest = drop-set-lt (at + 1) now kept c (omega (arith, m.low)) ∙ drop_more_same now xs at m.rest;
      }

  pub passed : (c : ℕ) → c ≡ get_or now at 0 → test c ≡ false → Moving test xs (at + 1) kept now
  passed c is fails =
      let here : c ≡ get_or xs at 0 = is ∙ same in
      record {
        long = m.long;
        low = omega (arith, m.low);
        done = m.done ∙ sym (filter_left test xs at inside (ap test (sym here) ∙ fails));
        rest = drop_more_same now xs at m.rest;
      }

pub all_moved : (test : ℕ → Bool) (xs : List ℕ) (at kept : ℕ) (now : List ℕ) → Moving test xs at kept now → length xs ≤ at → take kept now ≡ filter test xs
all_moved test xs at kept now m past = m.done ∙ ap (filter test) (take_all at xs past)
