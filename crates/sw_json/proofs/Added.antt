-- Lists of values to which one more is added, if there was memory for it.
use Rattle.std.proofs.Common.{◌≡◌, ◌∙◌, ◌+◌, ◌<◌, ◌≤◌, ℕ, List, [], ◌∷◌, ◌++◌, ap, get_or, length, map, refl, string_bytes, sym, take}
use Rattle.std.proofs.lemmas.List.{map_more, map_push, take_all}
use Rattle.std.specs.Prelude.{Err, IfOk, IsOkAnd, Ok, Result}
use Rattle.std.specs.declared.alloc.AllocError.{AllocError}
use Rattle.std.specs.declared.alloc.Global.{Global}
use Rattle.std.specs.declared.string.String.{String}
use Rattle.serde_json.specs.Data.{Data, string}
use Rattle.serde_json.specs.View.{view}
use Rattle.serde_json.specs.declared.value.Value.{Value}

-- what stands in the list with one value more
pub added : (made : Result Value AllocError) (d : Data) (old now : List Value) → IfOk made (λ v. view v ≡ d) → IsOkAnd made (λ v. now ≡ old ++ v ∷ [])
    → map view now ≡ map view old ++ d ∷ []
added (Ok v) d old now is pushed = ap (map view) pushed ∙ map_push view old v ∙ ap (λ l. map view old ++ l ∷ []) is
added (Err e) d old now is pushed = absurd pushed

-- the values of one item more, and of all items
module _ {A : Type 0} (f : A → Data) (xs : List A) (i : ℕ) where
  pub one_more_at : (x : A) (old now : List Value) (made : Result Value AllocError) → map view old ≡ map f (take i xs) → i < length xs
      → IfOk made (λ v. view v ≡ f (get_or xs i x)) → IsOkAnd made (λ v. now ≡ old ++ v ∷ []) → map view now ≡ map f (take (i + 1) xs)
  one_more_at x old now made so_far lt is pushed =
      added made (f (get_or xs i x)) old now is pushed ∙ ap (λ l. l ++ f (get_or xs i x) ∷ []) so_far ∙ sym (map_more f xs i x lt)

  pub one_more : (x : A) (old now : List Value) (made : Result Value AllocError) → map view old ≡ map f (take i xs) → i < length xs → x ≡ get_or xs i x
      → IfOk made (λ v. view v ≡ f x) → IsOkAnd made (λ v. now ≡ old ++ v ∷ []) → map view now ≡ map f (take (i + 1) xs)
  one_more x old now made so_far lt at is pushed =
      added made (f x) old now is pushed ∙ ap (λ l. l ++ f x ∷ []) so_far ∙ ap (λ y. map f (take i xs) ++ f y ∷ []) at ∙ sym (map_more f xs i x lt)

  pub all_made : (values : List Value) → map view values ≡ map f (take i xs) → length xs ≤ i → map view values ≡ map f xs
  all_made values so_far past = so_far ∙ ap (map f) (take_all i xs past)

-- the value of a text is that of the same words
pub spelled : (made : Result Value AllocError) (said words : List ℕ) → IfOk made (λ v. view v ≡ string said) → said ≡ words → IfOk made (λ v. view v ≡ string words)
spelled (Ok v) said words is same = is ∙ ap string same
spelled (Err e) said words is same = tt

strings : (texts : List (String Global)) → map (λ t. string (string_bytes t)) texts ≡ map string (map string_bytes texts)
strings [] = refl
strings (t ∷ texts) = ap (λ rest. string (string_bytes t) ∷ rest) (strings texts)

-- the values of all texts
pub all_strings : (texts : List (String Global)) (values : List Value) → map view values ≡ map (λ t. string (string_bytes t)) texts
    → map view values ≡ map string (map string_bytes texts)
all_strings texts values made = made ∙ strings texts
