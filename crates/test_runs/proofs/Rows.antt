-- Rows of a relation: none list anything at first, and a step between two members is added.
use Rattle.std.proofs.Common.{All, List, [], ap, arith, inl, inr, length, subst, sym, ℕ, ◌++◌, ◌<◌, ◌∙◌, ◌∷◌, ◌≡◌}
use Rattle.std.proofs.lemmas.Bool.{cases_eq, false≢true}
use Rattle.std.proofs.lemmas.List.Elements.{All-nil, All-push}
use Rattle.std.specs.Prelude.{Err, Ok, OnOk, Result, Vec, if◌then◌else◌, is_err, false, true}
use Rattle.std.specs.declared.alloc.AllocError.{AllocError}
use Rattle.std.specs.declared.alloc.Global.{Global}
use Rattle.sw_graph.proofs.Listed.{row_at, row_within}
use Rattle.sw_graph.specs.Reversing.{IsRowSet}
use Rattle.sw_graph.specs.Rows.{IsGraph, row}

abbrev Within : ℕ → List ℕ → Type 0
Within n members = All (λ d. d < n) members

-- rows that list members alone are those of a relation
graph_of : (rows : List (Vec ℕ Global)) → ((k : ℕ) → k < length rows → Within (length rows) (row rows k)) → IsGraph rows
graph_of rows each k v lt = subst (Within (length rows)) (row_at rows k v lt) (each k lt)

pub empty_graph : (rows : List (Vec ℕ Global)) → ((k : ℕ) → row rows k ≡ []) → IsGraph rows
empty_graph rows empty = graph_of rows (λ k lt. subst (Within (length rows)) (sym (empty k)) (All-nil (λ d. d < length rows)))

graph_with : (rows rows2 : List (Vec ℕ Global)) (place to : ℕ) → IsGraph rows → place < length rows → to < length rows
    → IsRowSet rows place (row rows place ++ to ∷ []) rows2 → IsGraph rows2
graph_with rows rows2 place to graph inside low set =
    let n = length rows in
    let sized = set.size in
    graph_of rows2 (λ k lt.
    subst (λ m. Within m (row rows2 k)) (sym sized) (elim (cases_eq k place) [
      | inl same ↦ subst (Within n) (sym (ap (row rows2) same ∙ set.set)) (All-push (λ d. d < n) (row rows place) to (row_within rows place graph inside) low)
      | inr other ↦ subst (Within n) (sym (set.others k other)) (row_within rows k graph (omega (arith, lt, sized)))
    ]))

-- what was added without a fault
pub graph_made : (r : Result (Unit {0}) AllocError) (rows rows2 : List (Vec ℕ Global)) (place to : ℕ) → IsGraph rows → place < length rows → to < length rows
    → is_err r ≡ false → OnOk r (IsRowSet rows place (if true then row rows place ++ to ∷ [] else row rows place) rows2) → IsGraph rows2
graph_made (Ok done) rows rows2 place to graph inside low none set = graph_with rows rows2 place to graph inside low set
graph_made (Err refused) rows rows2 place to graph inside low none set = absurd (false≢true (sym none))
