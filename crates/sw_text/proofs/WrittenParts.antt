-- What was written of a text in parts.
use Rattle.std.proofs.Common.{◌≡◌, ℕ, ◌<◌, ◌+◌, List, [], ◌∷◌, ◌++◌, sym, ap, ◌∙◌, subst, length, take, drop, get_or, suc, arith, append-nil, length-append, Vec, Global}
use Rattle.std.specs.Prelude.{Err, Ok, OnErr, OnOk, Option, Result}
use Rattle.std.specs.Io.KnownBytes.{Appends}
use Rattle.std.proofs.KnownBytes.{Appends-trans}
use Rattle.std.proofs.Math.Seq.{split_at, take-append-add}
use Rattle.std.proofs.lemmas.Grind.{flat_map-append}
use Rattle.std.proofs.lemmas.List.{take-append-le, take_more}
use Rattle.sw_text.specs.Parts.{joined}

-- a beginning of a text that lacks something
abbrev pub Begins : Option (List ℕ) → Option (List ℕ) → List ℕ → Type 0
Begins old new text = (count : ℕ) × (count < length text) × Appends old new (take count text)

-- of the first of two texts
begun_first : (a c : Option (List ℕ)) (first rest : List ℕ) → Begins a c first → Begins a c (first ++ rest)
begun_first a c first rest (count, within, begun) = (
  count,
  omega (arith, length-append first rest, within),
  subst (Appends a c) (sym (take-append-le count first rest (omega (arith, within)))) begun,
)

-- of the second one, after the first
pub begun_second : (a b c : Option (List ℕ)) (first rest : List ℕ) → Appends a b first → Begins b c rest → Begins a c (first ++ rest)
begun_second a b c first rest written (count, within, begun) = (
  length first + count,
  omega (arith, length-append first rest, within),
  subst (Appends a c) (sym (take-append-add first rest count)) (Appends-trans a b c first (take count rest) written begun),
)

-- what holds whatever the error is
pub on_any_error : {T E : Type 0} (r : Result T E) {P : Type 0} → P → OnErr r P
on_any_error (Ok x) p = tt
on_any_error (Err e) p = p

-- a text after another one, or a beginning of it
pub written_after : {T E : Type 0} (r : Result T E) (a b c : Option (List ℕ)) (first rest : List ℕ) → Appends a b first → OnOk r (Appends b c rest) → OnErr r (Begins b c rest)
    → OnOk r (Appends a c (first ++ rest)) × OnErr r (Begins a c (first ++ rest))
written_after (Ok x) a b c first rest before whole begun = (Appends-trans a b c first rest before whole, tt)
written_after (Err e) a b c first rest before whole begun = (tt, begun_second a b c first rest before begun)

module _ (parts : List (Vec ℕ Global)) (i : ℕ) (part : Vec ℕ Global) (within : i < length parts) (is : part ≡ get_or parts i part) where
  -- the parts before one, that one, and those after it
  cut_there : joined parts ≡ joined (take i parts) ++ (part.items ++ joined (drop (suc i) parts))
  cut_there =
      ap joined (split_at parts i part within ∙ ap (λ it. take i parts ++ it ∷ drop (suc i) parts) (sym is))
      ∙ flat_map-append (λ (it : Vec ℕ Global). it.items) (take i parts) (part ∷ drop (suc i) parts)

  one_more : joined (take (i + 1) parts) ≡ joined (take i parts) ++ part.items
  one_more =
      ap joined (take_more parts i part within ∙ ap (λ it. take i parts ++ it ∷ []) (sym is))
      ∙ flat_map-append (λ (it : Vec ℕ Global). it.items) (take i parts) (part ∷ [])
      ∙ ap (λ text. joined (take i parts) ++ text) (append-nil part.items)

  -- one more part was written
  pub part_written : (a b c : Option (List ℕ)) → Appends a b (joined (take i parts)) → Appends b c part.items → Appends a c (joined (take (i + 1) parts))
  part_written a b c before written = subst (Appends a c) (sym one_more) (Appends-trans a b c (joined (take i parts)) part.items before written)

  -- one was not written whole
  pub part_begun : (a b c : Option (List ℕ)) → Appends a b (joined (take i parts)) → Begins b c part.items → Begins a c (joined parts)
  part_begun a b c before begun =
      subst (Begins a c) (sym cut_there)
      (begun_second a b c (joined (take i parts)) (part.items ++ joined (drop (suc i) parts)) before (begun_first b c part.items (joined (drop (suc i) parts)) begun))
