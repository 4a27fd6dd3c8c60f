-- A link end looked for in a list, one place after another.
use Rattle.std.proofs.Common.{Bool, List, None, Some, [], ap, arith, cond, false, find, get_or, length, sym, take, true, zero, suc, ℕ, ◌+◌, ◌<◌, ◌∙◌, ◌∷◌, ◌≡◌}
use Rattle.std.proofs.lemmas.Bool.{eq-eqb, ne_eqb}
use Rattle.std.proofs.lemmas.List.{take_more}
use Rattle.std.proofs.lemmas.List.Folds.{find-append}
use Rattle.std.specs.Option.{option_or}
use Rattle.std.specs.Prelude.{nat_eq, option_map}
use Rattle.sw_journal.specs.Cells.{end_numbers}
use Rattle.sw_net.specs.declared.numbers.Numbers.{Numbers}

module _ (e : ℕ) where
  abbrev is_it : ℕ × Numbers → Bool
  is_it p = nat_eq p.0 e

  behind : (xs : List (ℕ × Numbers)) (k : ℕ) (d : ℕ × Numbers) → k < length xs → find is_it (take k xs) ≡ None → is_it (get_or xs k d) ≡ true → find is_it xs ≡ Some (get_or xs k d)
  behind [] k d within none here = absurd (omega (arith, within))
  behind (x ∷ xs) zero d within none here = ap (λ b. cond b (Some x) (find is_it xs)) here
  behind (x ∷ xs) (suc k) d within none here = later (is_it x) (λ rest. behind xs k d (omega (arith, within)) rest here) none
    where
      later : (b : Bool) → (find is_it (take k xs) ≡ None → find is_it xs ≡ Some (get_or xs k d)) → cond b (Some x) (find is_it (take k xs)) ≡ None → cond b (Some x) (find is_it xs) ≡ Some (get_or xs k d)
      later true rest some = absurd cc
      later false rest before = rest before

  -- where the entry is read, of which these are the two numbers that are compared
  pub found : (xs ys : List (ℕ × Numbers)) (k : ℕ) (p : ℕ × Numbers) (own other : ℕ) → xs ≡ ys → k < length xs → p ≡ get_or xs k p → find is_it (take k ys) ≡ None → own ≡ p.0 → other ≡ e → own ≡ other
      → Some p.1 ≡ end_numbers ys e
  found xs ys k p own other same within at none own_is other_is equal =
      let here : is_it (get_or xs k p) ≡ true = ap is_it (sym at) ∙ eq-eqb p.0 e (sym own_is ∙ equal ∙ other_is) in
      let first = behind xs k p within (ap (λ l. find is_it (take k l)) same ∙ none) here in
      ap (λ (q : ℕ × Numbers). Some q.1) at ∙ sym (ap (option_map (λ (q : ℕ × Numbers). q.1)) (ap (find is_it) (sym same) ∙ first))

  pub not_found : (xs ys : List (ℕ × Numbers)) (k : ℕ) (p : ℕ × Numbers) (own other : ℕ) → xs ≡ ys → k < length xs → p ≡ get_or xs k p → find is_it (take k ys) ≡ None → own ≡ p.0 → other ≡ e → (own ≡ other → ⊥)
      → find is_it (take (k + 1) ys) ≡ None
  not_found xs ys k p own other same within at none own_is other_is apart =
      let here : is_it (get_or xs k p) ≡ false = ap is_it (sym at) ∙ ne_eqb p.0 e (λ equal. apart (own_is ∙ equal ∙ sym other_is)) in
      let before = ap (λ l. find is_it (take k l)) same ∙ none in
      ap (λ l. find is_it (take (k + 1) l)) (sym same)
      ∙ ap (find is_it) (take_more xs k p within)
      ∙ find-append is_it (take k xs) (get_or xs k p ∷ [])
      ∙ ap (λ o. option_or o (find is_it (get_or xs k p ∷ []))) before
      ∙ ap (λ b. cond b (Some (get_or xs k p)) None) here
