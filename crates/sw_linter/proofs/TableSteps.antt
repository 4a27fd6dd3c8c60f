-- Marks and notes, with one element more.
use Rattle.std.proofs.Common.{◌≡◌, ℕ, ◌<◌, Bool, true, false, ◌||◌, List, [], ◌∷◌, ◌++◌, length, set, replicate, Option, Some, None, refl, sym, ap, ◌∙◌, inl, inr, arith, eq-eqb, length-set}
use Rattle.std.specs.Prelude.{◌==◌, find, option_map, if◌then◌else◌}
use Rattle.std.specs.List.{list_any}
use Rattle.std.specs.Option.{option_map_or}
use Rattle.std.proofs.lemmas.Bool.{cases_eq, ne_eqb}
use Rattle.std.proofs.lemmas.List.{get_or-replicate, get_or-set_same, get_or-set_other, length-replicate}
use Rattle.sw_topo.specs.Checked.{first_of}
use Rattle.sw_linter.specs.Marks.{marked, note_at, noted}
use Rattle.sw_graph.specs.Rounds.{is_marked}
use Rattle.sw_linter.proofs.Tests.{find_push, list_any_push}
use Rattle.sw_topo.proofs.TableSteps.{first_alone}

-- it is that number
abbrev pub is_key : ℕ → Option ℕ → Bool
is_key k o = option_map_or (λ j. j == k) o false

-- the marks are those of the numbers that the key has at the elements
abbrev pub Marked : {X : Type 0} → (X → Option ℕ) → List X → List Bool → Type 0
Marked {X} key xs marks = (k : ℕ) → k < length marks → is_marked marks k ≡ list_any (λ x. is_key k (key x)) xs

-- at each number the value of the first element at which the key has it
abbrev pub Noted : {X A : Type 0} → (X → Option ℕ) → (X → A) → List X → List (Option A) → Type 0
Noted {X} {A} key value xs notes = (k : ℕ) → k < length notes → note_at notes k ≡ option_map value (find (λ x. is_key k (key x)) xs)

or_false : (a : Bool) → a || false ≡ a
or_false true = refl
or_false false = refl

or_true : (a : Bool) → a || true ≡ true
or_true true = refl
or_true false = refl

pub length-marked : (o : Option ℕ) (marks : List Bool) → length (marked o marks) ≡ length marks
length-marked None marks = refl
length-marked (Some k) marks = length-set marks k true

pub length-noted : {A : Type 0} (o : Option ℕ) (x : A) (notes : List (Option A)) → length (noted o x notes) ≡ length notes
length-noted None x notes = refl
length-noted (Some k) x notes = length-set notes k (first_of (note_at notes k) (Some x))

-- the mark of a number after one key more
marked_at : (o : Option ℕ) (marks : List Bool) (k : ℕ) → k < length marks → is_marked (marked o marks) k ≡ is_marked marks k || is_key k o
marked_at None marks k lt = sym (or_false (is_marked marks k))
marked_at (Some j) marks k lt = elim (cases_eq j k) [
  | inl same ↦ rw (same, eq-eqb k k refl, get_or-set_same marks k true false lt) (sym (or_true (is_marked marks k)))
  | inr other ↦ rw (ne_eqb j k other, get_or-set_other marks j k true false (λ e. other (sym e))) (sym (or_false (is_marked marks k)))
]

pub marked_more : {X : Type 0} (key : X → Option ℕ) (xs : List X) (x : X) (marks : List Bool) → Marked key xs marks → Marked key (xs ++ x ∷ []) (marked (key x) marks)
marked_more key xs x marks before = λ k lt.
    let inside : k < length marks = omega (arith, length-marked (key x) marks) in
    marked_at (key x) marks k inside ∙ ap (λ b. b || is_key k (key x)) (before k inside) ∙ sym (list_any_push (λ y. is_key k (key y)) xs x)

pub marked_none : {X : Type 0} (key : X → Option ℕ) (n : ℕ) → Marked key [] (replicate n false)
marked_none key n = λ k lt. get_or-replicate n k false false (omega (arith, length-replicate {A = Bool} n false))

pub noted_at : {A : Type 0} (o : Option ℕ) (x : A) (notes : List (Option A)) (k : ℕ) → k < length notes → note_at (noted o x notes) k ≡ first_of (note_at notes k) (if is_key k o then Some x else None)
noted_at None x notes k lt = sym (first_alone (note_at notes k))
noted_at {A} (Some j) x notes k lt =
    let v : Option A = first_of (note_at notes j) (Some x) in
    elim (cases_eq j k) [
      | inl same ↦ ap (λ i. note_at (set notes i (first_of (note_at notes i) (Some x))) k) same ∙ get_or-set_same notes k (first_of (note_at notes k) (Some x)) None lt
          ∙ ap (λ b. first_of (note_at notes k) (if b then Some x else None)) (sym (eq-eqb j k same))
      | inr other ↦ get_or-set_other notes j k v None (λ e. other (sym e)) ∙ sym (first_alone (note_at notes k))
          ∙ ap (λ b. first_of (note_at notes k) (if b then Some x else None)) (sym (ne_eqb j k other))
    ]

pub mapped_first : {X A : Type 0} (value : X → A) (o : Option X) (x : X) (b : Bool) → first_of (option_map value o) (if b then Some (value x) else None) ≡ option_map value (first_of o (if b then Some x else None))
mapped_first value None x true = refl
mapped_first value None x false = refl
mapped_first value (Some y) x b = refl

pub noted_more : {X A : Type 0} (key : X → Option ℕ) (value : X → A) (xs : List X) (x : X) (notes : List (Option A)) → Noted key value xs notes → Noted key value (xs ++ x ∷ []) (noted (key x) (value x) notes)
noted_more {X} {A} key value xs x notes before = λ k lt.
    let inside : k < length notes = omega (arith, length-noted (key x) (value x) notes) in
    let hits : X → Bool = λ y. is_key k (key y) in
    noted_at (key x) (value x) notes k inside ∙ ap (λ (o : Option A). first_of o (if is_key k (key x) then Some (value x) else None)) (before k inside)
    ∙ mapped_first value (find hits xs) x (is_key k (key x)) ∙ ap (option_map value) (sym (find_push hits xs x))

pub noted_none : {X A : Type 0} (key : X → Option ℕ) (value : X → A) (n : ℕ) → Noted key value [] (replicate n None)
noted_none {X} {A} key value n = λ k lt. get_or-replicate n k None None (omega (arith, length-replicate {A = Option A} n None))
