-- What each of a list brings.
use Rattle.std.proofs.Common.{◌≡◌, ◌∙◌, ◌<◌, ◌≤◌, ◌+◌, ◌++◌, ℕ, List, [], ◌∷◌, sym, ap, get_or, length, map, take}
use Rattle.std.specs.List.{flat_map}
use Rattle.std.proofs.lemmas.List.{append-nil, flat_map_more, map_more, take_all, take_more}
use Rattle.std.proofs.lemmas.List.Concat.{flat_map-append}

one_more : {T A : Type 0} (h : T → List A) (ts : List T) (i : ℕ) (d : T) → i < length ts
    → flat_map h (take (i + 1) ts) ≡ flat_map h (take i ts) ++ h (get_or ts i d)
one_more h ts i d within =
    ap (λ l. flat_map h l) (take_more ts i d within) ∙ flat_map-append h (take i ts) (get_or ts i d ∷ [])
    ∙ ap (λ l. flat_map h (take i ts) ++ l) (append-nil (h (get_or ts i d)))

-- one more turn of a walk that adds what each brings to nothing
pub added_more : {T A : Type 0} (h : T → List A) (ts : List T) (i : ℕ) (d : T) (before after : List A) → i < length ts
    → before ≡ flat_map h (take i ts) → after ≡ before ++ h (get_or ts i d) → after ≡ flat_map h (take (i + 1) ts)
added_more h ts i d before after within so_far adds = adds ∙ ap (λ l. l ++ h (get_or ts i d)) so_far ∙ sym (one_more h ts i d within)

-- where all were walked over
pub all_added : {T A : Type 0} (h : T → List A) (ts : List T) (i : ℕ) (made : List A) → length ts ≤ i → made ≡ flat_map h (take i ts) → made ≡ flat_map h ts
all_added h ts i made past so_far = so_far ∙ ap (flat_map h) (take_all i ts past)

-- one more, of what stands for each element, behind what was there before
pub brought_more : {T X A : Type 0} (f : T → X) (h : X → List A) (ts : List T) (i : ℕ) (t : T) (start before after piece : List A) → i < length ts
    → t ≡ get_or ts i t → piece ≡ h (f t) → before ≡ start ++ flat_map h (map f (take i ts)) → after ≡ before ++ piece
    → after ≡ start ++ flat_map h (map f (take (i + 1) ts))
brought_more f h ts i t start before after piece within is piece_is so_far adds =
    adds ∙ ap (λ l. l ++ piece) so_far ∙ ap (λ p. (start ++ flat_map h (map f (take i ts))) ++ p) piece_is ∙ flat_map_more h start (map f (take i ts)) (f t)
    ∙ ap (λ x. start ++ flat_map h (map f (take i ts) ++ f x ∷ [])) is ∙ ap (λ l. start ++ flat_map h l) (sym (map_more f ts i t within))

-- one that brings nothing
pub brought_none : {T X A : Type 0} (f : T → X) (h : X → List A) (ts : List T) (i : ℕ) (t : T) (start before : List A) → i < length ts
    → t ≡ get_or ts i t → [] ≡ h (f t) → before ≡ start ++ flat_map h (map f (take i ts)) → before ≡ start ++ flat_map h (map f (take (i + 1) ts))
brought_none f h ts i t start before within is nothing so_far =
    brought_more f h ts i t start before before [] within is nothing so_far (sym (append-nil before))

-- where all were walked over
pub all_brought : {T X A : Type 0} (f : T → X) (h : X → List A) (ts : List T) (xs : List X) (i : ℕ) (start made : List A) → length ts ≤ i
    → map f ts ≡ xs → made ≡ start ++ flat_map h (map f (take i ts)) → made ≡ start ++ flat_map h xs
all_brought f h ts xs i start made past is so_far =
    so_far ∙ ap (λ l. start ++ flat_map h (map f l)) (take_all i ts past) ∙ ap (λ l. start ++ flat_map h l) is
