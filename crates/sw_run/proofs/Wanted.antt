-- What is wanted may follow.
use Rattle.std.proofs.Common.{Bool, List, None, Option, Some, [], ap, arith, cond, eq-eqb, false, le-leb, leb-true, nat_le, refl, subst, suc, sym, true, zero, ℕ, ◌∙◌, ◌∷◌, ◌≡◌, ◌≤◌}
use Rattle.std.specs.Prelude.{IsSome, find, nat_eq, option_map, slice_get, ◌&&◌}
use Rattle.sw_journal.proofs.FctNumbers.{decided, known}
use Rattle.sw_journal.specs.Cells.{end_numbers}
use Rattle.sw_journal.specs.Record.{CanCommit, CellView, IsNowCell, IsTrueView, JournalView}
use Rattle.sw_machine.specs.Network.{reverse_of}
use Rattle.sw_machine.specs.Steps as machine
use Rattle.sw_journal.specs.Numbers.{Numbers}
use Rattle.sw_run.specs.Wanted.{TellsOf, TellsWhatMayFollow, wants_by}
use Rattle.sw_topo.specs.Wiring.{partner}

reverse_back : (e : ℕ) → reverse_of (partner e) ≡ e
reverse_back e = grind arith

module _ (cell : CellView) (end : ℕ) (j : JournalView) (ok : IsTrueView j) (now : IsNowCell j cell) where
  abbrev May : Type 0
  May = CanCommit j cell.id (machine.Fct (partner end))

  by_tests : (n : Numbers) → (May → (8 ≤ n.room) × (n.outstanding ≤ 48)) → ((8 ≤ n.room) × (n.outstanding ≤ 48) → May) → (a b : Bool) → nat_le 8 n.room ≡ a → nat_le n.outstanding 48 ≡ b
      → TellsOf j cell end (a && b)
  by_tests n there back true true room few = back (leb-true 8 n.room room, leb-true n.outstanding 48 few)
  by_tests n there back true false room few = λ may.
      let bad : false ≡ true = sym few ∙ le-leb n.outstanding 48 (there may).1 in
      absurd cc
  by_tests n there back false b room few = λ may.
      let bad : false ≡ true = sym room ∙ le-leb 8 n.room (there may).0 in
      absurd cc

  by_numbers : (o : Option Numbers) → end_numbers cell.ends end ≡ o → TellsOf j cell end (wants_by o)
  by_numbers None is = λ may.
      let some : IsSome (end_numbers cell.ends (reverse_of (partner end))) = known j ok cell now (partner end) may in
      let none = ap (end_numbers cell.ends) (reverse_back end) ∙ is in
      absurd (no_some (end_numbers cell.ends (reverse_of (partner end))) none some)
    where
      no_some : (o : Option Numbers) → o ≡ None → IsSome o → ⊥
      no_some None e h = absurd cc
      no_some (Some n) e h = absurd cc
  by_numbers (Some n) is =
      let may = decided j ok cell now (partner end) n (ap (end_numbers cell.ends) (reverse_back end) ∙ is) in
      by_tests n may.0 may.1 (nat_le 8 n.room) (nat_le n.outstanding 48) refl refl

pub tells : (cell : CellView) (end : ℕ) (o : Option Numbers) (wants : Bool) → o ≡ end_numbers cell.ends end → wants ≡ wants_by o → TellsWhatMayFollow cell end wants
tells cell end o wants numbers is = λ j ok now. subst (TellsOf j cell end) (sym is) (by_numbers cell end j ok now o (sym numbers))

-- ---- a link end that stands at a place of the list has numbers there

first_has : (end : ℕ) (q : ℕ × Numbers) (ends : List (ℕ × Numbers)) (b : Bool) → b ≡ true → IsSome (option_map (λ (p : ℕ × Numbers). p.1) (cond b (Some q) (find (λ (p : ℕ × Numbers). nat_eq p.0 end) ends)))
first_has end q ends true is = refl
first_has end q ends false is = absurd cc

later_has : (end : ℕ) (q : ℕ × Numbers) (ends : List (ℕ × Numbers)) (b : Bool) → IsSome (end_numbers ends end) → IsSome (option_map (λ (p : ℕ × Numbers). p.1) (cond b (Some q) (find (λ (p : ℕ × Numbers). nat_eq p.0 end) ends)))
later_has end q ends true has = refl
later_has end q ends false has = has

has_numbers : (end : ℕ) (ends : List (ℕ × Numbers)) (k : ℕ) (p : ℕ × Numbers) → slice_get ends k ≡ Some p → nat_eq p.0 end ≡ true → IsSome (end_numbers ends end)
has_numbers end [] k p at is = absurd cc
has_numbers end (q ∷ ends) zero p at is =
    let same : p ≡ q = cc in
    first_has end q ends (nat_eq q.0 end) (ap (λ (x : ℕ × Numbers). nat_eq x.0 end) (sym same) ∙ is)
has_numbers end (q ∷ ends) (suc k) p at is = later_has end q ends (nat_eq q.0 end) (has_numbers end ends k p at is)

pub has_own : (ends : List (ℕ × Numbers)) (k : ℕ) (p : ℕ × Numbers) → slice_get ends k ≡ Some p → IsSome (end_numbers ends p.0)
has_own ends k p at = has_numbers p.0 ends k p at (eq-eqb p.0 p.0 refl)
