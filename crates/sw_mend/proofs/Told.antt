-- Those of a list that free the network: of two lists joined, and with one more.
use Rattle.std.proofs.Common.{◌≡◌, ◌↔◌, append-nil, append_assoc, map, subst, ◌+◌, ◌<◌, ◌≤◌, ℕ, Bool, true, false, IsTrue, List, [], ◌∷◌, ◌++◌, get_or, inl, inr, length, refl, sym, take, ap, ◌∙◌}
use Rattle.std.specs.Prelude.{if◌then◌else◌}
use Rattle.std.proofs.lemmas.Bool.{false≢true}
use Rattle.std.proofs.lemmas.List.{map-append, take_all, take_more}
use Rattle.sw_config.specs.Entries.{Declaration}
use Rattle.sw_config.specs.Valid.{IsValid}
use Rattle.sw_search.specs.Laws.{RoutedAndFree}
use Rattle.sw_mend.specs.Changes.{by_number, made_at}
use Rattle.sw_mend.specs.Mends.{AreAdded, AreThose, Frees}
use Rattle.sw_mend.specs.Splits.{split}
use Rattle.sw_mend.specs.declared.change.TargetLink.{TargetLink}
use Rattle.sw_mend.specs.declared.change.Trial.TheVariants.{Split}
use Rattle.sw_mend.proofs.Numbered.{grown_at}

module _ {A : Type 0} (IsFree : A → Type 0) where
  -- those of two lists are those of the one, and then those of the other
  pub joined : (xs ys told more : List A) → AreThose IsFree xs told → AreThose IsFree ys more → AreThose IsFree (xs ++ ys) (told ++ more)
  joined [] ys told more none those = rw none those
  joined (x ∷ xs) ys told more (rest, those, inl first) others = (rest ++ more, joined xs ys rest more those others, inl (first.0, ap (λ (l : List A). l ++ more) first.1))
  joined (x ∷ xs) ys told more (rest, those, inr never) others = (rest ++ more, joined xs ys rest more those others, inr (never.0, ap (λ (l : List A). l ++ more) never.1))

  -- of one element
  alone : (x : A) (b : Bool) → (IsTrue b ↔ IsFree x) → AreThose IsFree (x ∷ []) (if b then x ∷ [] else [])
  alone x true is = ([], refl, inl (is.0 refl, refl))
  alone x false is = ([], refl, inr (λ frees. absurd (false≢true (is.1 frees)), refl))

  -- those of two lists are the ones and then the others
  pub parted : (xs ys told : List A) → AreThose IsFree (xs ++ ys) told → (those : List A) × (others : List A) × AreThose IsFree xs those × AreThose IsFree ys others × (told ≡ those ++ others)
  parted [] ys told are = ([], told, refl, are, refl)
  parted (x ∷ xs) ys told (rest, are, inl first) =
      let both = parted xs ys rest are in
      (x ∷ both.0, both.1, (both.0, both.2, inl (first.0, refl)), both.3, first.1 ∙ ap (λ (l : List A). x ∷ l) both.4)
  parted (x ∷ xs) ys told (rest, are, inr never) =
      let both = parted xs ys rest are in
      (both.0, both.1, (both.0, both.2, inr (never.0, refl)), both.3, never.1 ∙ both.4)

  -- one more is told if it frees
  pub told_one : (xs : List A) (x : A) (told after : List A) (b : Bool) → AreThose IsFree xs told → (IsTrue b ↔ IsFree x) → after ≡ told ++ (if b then x ∷ [] else [])
      → AreThose IsFree (xs ++ x ∷ []) after
  told_one xs x told after b those decided more = rw more (joined xs (x ∷ []) told (if b then x ∷ [] else []) those (alone x b decided))

  pub told_more : (xs : List A) (i : ℕ) (x : A) (told after : List A) (b : Bool) → i < length xs → x ≡ get_or xs i x → AreThose IsFree (take i xs) told
      → (IsTrue b ↔ IsFree x) → after ≡ told ++ (if b then x ∷ [] else []) → AreThose IsFree (take (i + 1) xs) after
  told_more xs i x told after b lt at those decided more =
      let cut : take (i + 1) xs ≡ take i xs ++ x ∷ [] = take_more xs i x lt ∙ ap (λ c. take i xs ++ c ∷ []) (sym at) in
      rw cut (told_one (take i xs) x told after b those decided more)

  -- ---- behind what was told before

  pub none_added : (before : List A) → AreAdded IsFree [] before before
  none_added before = ([], refl, sym (append-nil before))

  pub one_added : (x : A) (before after : List A) (b : Bool) → (IsTrue b ↔ IsFree x) → after ≡ before ++ (if b then x ∷ [] else []) → AreAdded IsFree (x ∷ []) before after
  one_added x before after b decided more = (if b then x ∷ [] else [], alone x b decided, more)

  pub not_added : (x : A) (before : List A) → (IsFree x → ⊥) → AreAdded IsFree (x ∷ []) before before
  not_added x before never = ([], ([], refl, inr (never, refl)), sym (append-nil before))

  -- one after the other
  pub both_added : (xs ys before now after : List A) → AreAdded IsFree xs before now → AreAdded IsFree ys now after → AreAdded IsFree (xs ++ ys) before after
  both_added xs ys before now after (those, are, so_far) (them, also, more) = (
    those ++ them,
    joined xs ys those them are also,
    more ∙ ap (λ (l : List A). l ++ them) so_far ∙ append_assoc before those them,
  )

-- the same for what is made of elements
module _ {A B : Type 0} (IsFree : B → Type 0) (f : A → B) where
  pub added_more : (xs : List A) (i : ℕ) (x : A) (before now after : List B) (b : Bool) → i < length xs → x ≡ get_or xs i x → AreAdded IsFree (map f (take i xs)) before now
      → (IsTrue b ↔ IsFree (f x)) → after ≡ now ++ (if b then f x ∷ [] else []) → AreAdded IsFree (map f (take (i + 1) xs)) before after
  added_more xs i x before now after b lt at so_far decided more =
      let cut : take (i + 1) xs ≡ take i xs ++ x ∷ [] = take_more xs i x lt ∙ ap (λ c. take i xs ++ c ∷ []) (sym at) in
      let made : map f (take (i + 1) xs) ≡ map f (take i xs) ++ f x ∷ [] = ap (map f) cut ∙ map-append f (take i xs) (x ∷ []) in
      subst (λ (l : List B). AreAdded IsFree l before after) (sym made)
      (both_added IsFree (map f (take i xs)) (f x ∷ []) before now after so_far (one_added IsFree (f x) now after b decided more))

  -- where all were tried
  pub all_tried : (xs : List A) (i : ℕ) (before after : List B) → length xs ≤ i → AreAdded IsFree (map f (take i xs)) before after → AreAdded IsFree (map f xs) before after
  all_tried xs i before after past = subst (λ (l : List A). AreAdded IsFree (map f l) before after) (take_all i xs past)

  -- of the same list
  pub added_as : (xs ys : List A) (before after : List B) → xs ≡ ys → AreAdded IsFree (map f xs) before after → AreAdded IsFree (map f ys) before after
  added_as xs ys before after is = subst (λ (l : List A). AreAdded IsFree (map f l) before after) is

  -- of what is made by numbers
  pub made_added : {C : Type 0} (make : ℕ → C → List A) (xs : List C) (i : ℕ) (before now after : List B)
      → AreAdded IsFree (map f (by_number make 0 (take i xs))) before now → AreAdded IsFree (map f (made_at make xs i)) now after
      → AreAdded IsFree (map f (by_number make 0 (take (i + 1) xs))) before after
  made_added make xs i before now after so_far more =
      let grown : by_number make 0 (take (i + 1) xs) ≡ by_number make 0 (take i xs) ++ made_at make xs i = sym (grown_at make [] (by_number make 0 (take i xs)) (by_number make 0 (take i xs) ++ made_at make xs i) i xs refl refl) in
      let made : map f (by_number make 0 (take (i + 1) xs)) ≡ map f (by_number make 0 (take i xs)) ++ map f (made_at make xs i) =
      ap (map f) grown ∙ map-append f (by_number make 0 (take i xs)) (made_at make xs i) in
      subst (λ (l : List B). AreAdded IsFree l before after) (sym made)
      (both_added IsFree (map f (by_number make 0 (take i xs))) (map f (made_at make xs i)) before now after so_far more)

-- whether a split frees the network, by the network that it leaves
pub split_decided : (d : Declaration) (link : TargetLink) (changed : Declaration) (freed : Bool) → changed ≡ split d link → IsValid changed → (IsTrue freed ↔ RoutedAndFree changed)
    → (IsTrue freed ↔ Frees d (Split link))
split_decided d link changed freed is valid decided =
    subst (λ (e : Declaration). IsTrue freed ↔ (IsValid e × RoutedAndFree e)) is (λ t. (valid, decided.0 t), λ both. decided.1 both.1)

-- where nothing was told before
pub all_added : {A : Type 0} (IsFree : A → Type 0) (xs first told : List A) → first ≡ [] → AreAdded IsFree xs first told → AreThose IsFree xs told
all_added {A = A} IsFree xs first told none all = subst (AreThose IsFree xs) (sym (all.2 ∙ ap (λ (l : List A). l ++ all.0) none)) all.1
