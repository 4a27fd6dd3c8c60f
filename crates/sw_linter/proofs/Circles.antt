-- Texts of circles.
use Rattle.std.proofs.Common.{◌≡◌, ◌++◌, ◌-◌, ◌<◌, ◌≤◌, ◌∙◌, ℕ, All, Global, List, String, string_bytes, [], ◌∷◌, ap, arith, codes, drop, get_or, length, map, subst, sym, take}
use Rattle.std.specs.List.{flat_map}
use Rattle.sw_config.specs.Entries.{Declaration}
use Rattle.sw_circles.specs.Circlings.{CirclingView}
use Rattle.sw_linter.specs.CirclingTexts.{circling_text, listed}
use Rattle.sw_linter.specs.Notes.{circling_note, note_view}
use Rattle.sw_linter.specs.declared.network_notes.NoteKind.TheVariants.{Circling}
use Rattle.std.proofs.lemmas.Simd.{map-map}
use Rattle.std.proofs.lemmas.List.{get_or-map, length-map, take_all}

-- what holds of each that f makes holds of each
pub of_made : {A B : Type 0} (f : A → B) (P : B → Type 0) (xs : List A) → All P (map f xs) → All (λ x. P (f x)) xs
of_made f P xs all i d lt = subst P (get_or-map f xs i d (f d) lt) (all i (f d) (subst (λ n. i < n) (sym (length-map xs f)) lt))

-- the first and the others
pub listed_is : (text : ℕ → List ℕ) (before : List ℕ) (xs : List ℕ) (x : ℕ) → 1 ≤ length xs → x ≡ get_or xs 0 x
    → (before ++ text x) ++ flat_map (λ y. codes ", " ++ text y) (take (length xs - 1) (drop 1 xs)) ≡ listed text before xs
listed_is text before [] x some is = absurd (omega (arith, some))
listed_is text before (y ∷ ys) x some is =
    ap (λ z. (before ++ text z) ++ flat_map (λ w. codes ", " ++ text w) (take (length (y ∷ ys) - 1) ys)) is
    ∙ ap (λ them. (before ++ text y) ++ flat_map (λ w. codes ", " ++ text w) them) (take_all (length (y ∷ ys) - 1) ys (omega arith))

-- the notes with these texts
pub circling_notes_are : (d : Declaration) (texts : List (String Global)) (told : List CirclingView) → map string_bytes texts ≡ map (circling_text d) told
    → map (λ (s : String Global). note_view Circling (string_bytes s)) texts ≡ map (circling_note d) told
circling_notes_are d texts told same =
    sym (map-map (note_view Circling) string_bytes texts) ∙ ap (map (note_view Circling)) same ∙ map-map (note_view Circling) (circling_text d) told
