-- Changes that free a network, told with their line.
use Rattle.std.proofs.Common.{◌≡◌, ◌∙◌, ◌++◌, ◌+◌, ◌<◌, ◌≤◌, ℕ, Global, List, Vec, [], ◌∷◌, ap, append_assoc, get_or, length, map, sym, take}
use Rattle.std.proofs.lemmas.List.{map_more, take_all}
use Rattle.std.specs.Prelude.{Err, IfOk, IsOkAnd, Ok, Result, String, string_bytes}
use Rattle.std.specs.declared.alloc.AllocError.{AllocError}
use Rattle.serde_json.specs.Data.{Data}
use Rattle.serde_json.specs.View.{view}
use Rattle.serde_json.specs.declared.value.Value.{Value}
use Rattle.sw_json.proofs.Added.{added}
use Rattle.sw_changes.specs.MendValues.{mends_value, told_mend}

-- where the values stand for these changes, and the words are that line
pub told_with : (r : Result Value AllocError) (words : Result (String Global) AllocError) (made changes : List Data) (line : List ℕ) → made ≡ changes
    → IfOk words (λ s. string_bytes s ≡ line) → IfOk r (λ v. IsOkAnd words (λ s. view v ≡ told_mend made (string_bytes s)))
    → IfOk r (λ v. view v ≡ told_mend changes line)
told_with (Ok v) (Ok s) made changes line same is told = told ∙ ap (told_mend made) is ∙ ap (λ l. told_mend l line) same
told_with (Ok v) (Err e) made changes line same is told = absurd told
told_with (Err e) words made changes line same is told = told

-- what stands in a list with its first value
pub first_added : (made : Result Value AllocError) (d : Data) (old now : List Value) → old ≡ [] → IfOk made (λ v. view v ≡ d)
    → IsOkAnd made (λ v. now ≡ old ++ v ∷ []) → map view now ≡ d ∷ []
first_added made d old now none is pushed = added made d old now is pushed ∙ ap (λ (l : List Value). map view l ++ d ∷ []) none

-- behind what was told before, the values of one item more, and of all items
module _ {A : Type 0} (f : A → Data) (xs : List A) (i : ℕ) (start : List Data) where
  pub one_behind : (x : A) (old now : List Value) (made : Result Value AllocError) → map view old ≡ start ++ map f (take i xs) → i < length xs → x ≡ get_or xs i x
      → IfOk made (λ v. view v ≡ f x) → IsOkAnd made (λ v. now ≡ old ++ v ∷ []) → map view now ≡ start ++ map f (take (i + 1) xs)
  one_behind x old now made so_far lt at is pushed =
      added made (f x) old now is pushed ∙ ap (λ l. l ++ f x ∷ []) so_far ∙ append_assoc start (map f (take i xs)) (f x ∷ [])
      ∙ ap (λ y. start ++ (map f (take i xs) ++ f y ∷ [])) at ∙ ap (λ l. start ++ l) (sym (map_more f xs i x lt))

  -- the same of an item that is read
  pub one_read_behind : (x : A) (old now : List Value) (made : Result Value AllocError) → map view old ≡ start ++ map f (take i xs) → i < length xs
      → IfOk made (λ v. view v ≡ f (get_or xs i x)) → IsOkAnd made (λ v. now ≡ old ++ v ∷ []) → map view now ≡ start ++ map f (take (i + 1) xs)
  one_read_behind x old now made so_far lt is pushed =
      added made (f (get_or xs i x)) old now is pushed ∙ ap (λ l. l ++ f (get_or xs i x) ∷ []) so_far ∙ append_assoc start (map f (take i xs)) (f (get_or xs i x) ∷ [])
      ∙ ap (λ l. start ++ l) (sym (map_more f xs i x lt))

  pub all_behind : (values : List Value) → map view values ≡ start ++ map f (take i xs) → length xs ≤ i → map view values ≡ start ++ map f xs
  all_behind values so_far past = so_far ∙ ap (λ l. start ++ map f l) (take_all i xs past)

-- the values of three lists, one behind the other
pub three_told : (first second third : List Data) (none before between all : List Value) → none ≡ [] → map view before ≡ map view none ++ first
    → map view between ≡ map view before ++ second → map view all ≡ map view between ++ third → map view all ≡ first ++ (second ++ third)
three_told first second third none before between all empty one two three =
    three ∙ ap (λ l. l ++ third) (two ∙ ap (λ l. l ++ second) (one ∙ ap (λ (l : List Value). map view l ++ first) empty)) ∙ append_assoc first second third

-- where the values stand for these mends
pub told_all : (r : Result Value AllocError) (mends : Result (Vec Value Global) AllocError) (known : List Data) → IfOk mends (λ m. map view m.items ≡ known)
    → IfOk r (λ v. IsOkAnd mends (λ m. view v ≡ mends_value (map view m.items))) → IfOk r (λ v. view v ≡ mends_value known)
told_all (Ok v) (Ok m) known are told = told ∙ ap mends_value are
told_all (Ok v) (Err e) known are told = absurd told
told_all (Err e) mends known are told = tt
