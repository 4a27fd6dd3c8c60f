-- Each step keeps the rule.
use Rattle.std.proofs.Common.{◌≡◌, ◌≢◌, ◌⊎◌, ℕ, zero, suc, Some, List, [], ◌∷◌, ◌++◌, length, set, Bool, true, false, true≢false, refl, sym, ap, ◌∙◌, subst, ⊎_elim, inl, inr, eq-eqb, ne_eqb}
use Rattle.std.specs.Prelude.{slice_get, slice_set, if◌then◌else◌, ◌==◌}
use mathlib.Core.Option.{some, none, some-ne-none, some-injective}
use lib.ListN.{get_elem?}
use prog.Atomic.{either}
use Rattle.atomic_table.specs.Table.{Me, Step, keeps, step, Allows, Splits, Joins}
use Rattle.atomic_table.proofs.Lists.{at_set}
use Rattle.sw_net.specs.declared.numbers.Numbers.{Numbers}
use Rattle.sw_journal.specs.declared.cell_table.Known.{Known}
use Rattle.sw_journal.specs.declared.cell_table.View.{View}
use Rattle.sw_cell.specs.declared.cell.CellId.{CellId}
use Rattle.sw_journal.specs.declared.cell_table.SeatChange.TheVariants as told
use Rattle.sw_journal.specs.declared.cell_table.SeatChange.{SeatChange}
use Rattle.sw_journal.specs.Views.{knower, nobody, shown, kept_of, held_of, with_known, Fits, Kept, Checked, changed, Changed, pushed, Pushed, grown, opened, Opened}
use Rattle.sw_topo.proofs.Lists.{slice_get-set_other, slice_get-set_same, slice_get-push_last}

off : {X : Type 0} → false ≡ true → X
off e = absurd (true≢false (sym e))

-- ---- places of lists

-- the slice_get-push_last of a longer list is the new one
at_snoc : {A : Type 0} (l : List A) (a b : A) (j : ℕ) → get_elem? (l ++ a ∷ []) j ≡ some b → (get_elem? l j ≡ some b) ⊎ ((j ≡ length l) × (a ≡ b))
at_snoc [] a b zero e = inr (refl, some-injective a b e)
at_snoc [] a b (suc j) e = absurd (some-ne-none b (sym e))
at_snoc (x ∷ xs) a b zero e = inl e
at_snoc (x ∷ xs) a b (suc j) e = ⊎_elim (λ t. inl t) (λ t. inr (ap suc t.0, t.1)) (at_snoc xs a b j e)

front : {X : Type 0} (xs : List X) (y x : X) (i : ℕ) → slice_get xs i ≡ Some x → slice_get (xs ++ y ∷ []) i ≡ Some x
front [] y x i e = absurd cc
front (z ∷ zs) y x zero e = e
front (z ∷ zs) y x (suc i) e = front zs y x i e

beyond : {X : Type 0} (xs : List X) (x : X) → slice_get xs (length xs) ≡ Some x → ⊥
beyond [] x e = cc
beyond (z ∷ zs) x e = beyond zs x e

-- ---- the rule

-- the rule after a change of one view
fits_set : (seat : ℕ) (all : List Known) (owner : ℕ → ℕ) (views : List View) (by : ℕ) (w : View)
    → ((j : ℕ) (u : View) → j ≢ by → get_elem? views j ≡ some u → Fits seat all owner j u) → Fits seat all owner by w
    → (j : ℕ) (u : View) → get_elem? (set views by w) j ≡ some u → Fits seat all owner j u
fits_set seat all owner views by w others mine j u e =
    ⊎_elim
    (λ (x : (j ≡ by) × (w ≡ u)). subst (λ (y : ℕ × View). Fits seat all owner y.0 y.1) (λ i. (sym x.0 i, x.1 i)) mine)
    (λ (x : (j ≢ by) × (get_elem? views j ≡ some u)). others j u x.0 x.1)
    (at_set views by j w u e)

pub begins : Kept (knower [] ∷ [])
begins = (0, [], λ _. 0, one)
  where
    one : (by : ℕ) (v : View) → get_elem? (knower [] ∷ []) by ≡ some v → Fits 0 [] (λ _. 0) by v
    one zero v e = subst (Fits 0 [] (λ _. 0) 0) (some-injective _ _ e) ((λ _. (refl, refl)), (λ c. off c))
    one (suc by) v e = absurd (some-ne-none v (sym e))

checks : (slots id : ℕ) (me : Me SeatChange View) (st : Step SeatChange) → me.0.keeps ≡ true → Allows (λ s. Kept s.views) slots id me 0 (λ n. n) (Checked st me)
checks slots id me st is s h _ at _ =
    let mine = h.3 id me.0 at in
    let known = mine.0 is in (
      me.0,
      keeps,
      tt,
      (h.0, h.1, h.2, fits_set h.0 h.1 h.2 s.views id me.0 (λ j u _ e. h.3 j u e) mine),
      (refl, λ c. subst (λ (l : List Known). slice_get l me.0.cell ≡ Some me.0.known) (sym known.1) (mine.1 c).0),
    )

-- the cell that the seat stands for may have any numbers from now on
sets : (slots id : ℕ) (me : Me SeatChange View) (known : Known) (f : ℕ → ℕ) → me.0.keeps ≡ true → me.0.claims ≡ true
    → Allows (λ s. Kept s.views) slots id me 0 f (λ (n : ℕ) (w : Me SeatChange View). w ≡ (with_known me.0 known, me.1))
sets slots id me new f is claims s h _ at _ =
    let v = me.0 in
    let mine = h.3 id v at in
    let known = mine.0 is in
    let here = mine.1 claims in
    let now = slice_set h.1 v.cell new in
    let w = with_known v new in
    let others : (j : ℕ) (u : View) → j ≢ id → get_elem? s.views j ≡ some u → Fits h.0 now h.2 j u = λ j u apart e.
    let theirs = h.3 j u e in (
      (λ k. absurd (apart ((theirs.0 k).0 ∙ sym known.0))),
      (λ c.
          let there = theirs.1 c in
          let ne : u.cell ≢ v.cell = λ same. apart (sym there.1 ∙ ap h.2 same ∙ here.1) in
          (slice_get-set_other h.1 v.cell u.cell new ne ∙ there.0, there.1)),
    ) in
    let after : Fits h.0 now h.2 id w = (
      (λ _. (known.0, ap (λ (l : List Known). slice_set l v.cell new) known.1)),
      (λ _. (slice_get-set_same h.1 v.cell v.known new here.0, here.1)),
    ) in
    (w, keeps, tt, (h.0, now, h.2, fits_set h.0 now h.2 s.views id w others after), refl)

opens : (slots id : ℕ) (me : Me SeatChange View) (cell : CellId) (f : ℕ → ℕ) → me.0.keeps ≡ true
    → Allows (λ s. Kept s.views) slots id me 0 f (λ (n : ℕ) (w : Me SeatChange View). w ≡ (opened me.0 cell, me.1))
opens slots id me cell f is s h _ at _ =
    let v = me.0 in
    let new : Known = record { id = cell; ends = [] } in
    let mine = h.3 id v at in
    let known = mine.0 is in
    let now = h.1 ++ new ∷ [] in
    let owner : ℕ → ℕ = λ c. if c == length h.1 then id else h.2 c in
    let w = opened v cell in
    let others : (j : ℕ) (u : View) → j ≢ id → get_elem? s.views j ≡ some u → Fits h.0 now owner j u = λ j u apart e.
    let theirs = h.3 j u e in (
      (λ k. absurd (apart ((theirs.0 k).0 ∙ sym known.0))),
      (λ c.
          let there = theirs.1 c in
          let ne : u.cell ≢ length h.1 = (λ same. beyond h.1 u.known (ap (slice_get h.1) (sym same) ∙ there.0)) in
          (front h.1 new u.known u.cell there.0, rw (ne_eqb u.cell (length h.1) ne) there.1)),
    ) in
    let same : length v.all ≡ length h.1 = ap (length {A = Known}) known.1 in
    let after : Fits h.0 now owner id w = (
      (λ _. (known.0, ap (λ (l : List Known). l ++ new ∷ []) known.1)),
      (λ _. (ap (slice_get now) same ∙ slice_get-push_last h.1 new, rw (eq-eqb (length v.all) (length h.1) same) refl)),
    ) in
    (w, keeps, tt, (h.0, now, owner, fits_set h.0 now owner s.views id w others after), refl)

-- what a seat stands for goes to a new seat
hands_at : (id : ℕ) (v : View) (b : Bool) → v.claims ≡ b → Splits {S = SeatChange} (λ s. Kept s.views) id v (kept_of v) (held_of v)
hands_at id v false is s h at =
    let mine = h.3 id v at in
    let left : Fits h.0 h.1 h.2 id (kept_of v) = (mine.0, λ c. off c) in (
      h.0,
      h.1,
      h.2,
      λ j u e. ⊎_elim
          (λ was. fits_set h.0 h.1 h.2 s.views id (kept_of v) (λ i y _ e'. h.3 i y e') left j u was)
          (λ (x : (j ≡ length (set s.views id (kept_of v))) × (held_of v ≡ u)). subst (Fits h.0 h.1 h.2 j) x.1 ((λ k. off k), (λ c. off (sym is ∙ c))))
          (at_snoc (set s.views id (kept_of v)) (held_of v) u j e),
    )
hands_at id v true is s h at =
    let mine = h.3 id v at in
    let here = mine.1 is in
    let new = length (set s.views id (kept_of v)) in
    let owner : ℕ → ℕ = λ c. if c == v.cell then new else h.2 c in
    let left : Fits h.0 h.1 owner id (kept_of v) = (mine.0, λ c. off c) in
    let others : (j : ℕ) (u : View) → j ≢ id → get_elem? s.views j ≡ some u → Fits h.0 h.1 owner j u = λ j u apart e.
    let theirs = h.3 j u e in (
      theirs.0,
      (λ c.
          let there = theirs.1 c in
          let ne : u.cell ≢ v.cell = λ same. apart (sym there.1 ∙ ap h.2 same ∙ here.1) in
          (there.0, rw (ne_eqb u.cell v.cell ne) there.1)),
    ) in (
      h.0,
      h.1,
      owner,
      λ j u e. ⊎_elim
          (λ was. fits_set h.0 h.1 owner s.views id (kept_of v) others left j u was)
          (λ (x : (j ≡ new) × (held_of v ≡ u)). subst (Fits h.0 h.1 owner j) x.1 ((λ k. off k), (λ c. (here.0, rw (eq-eqb v.cell v.cell refl) (sym x.0)))))
          (at_snoc (set s.views id (kept_of v)) (held_of v) u j e),
    )

pub hands : (id : ℕ) (v : View) → Splits {S = SeatChange} (λ s. Kept s.views) id v (kept_of v) (held_of v)
hands id v = hands_at id v v.claims refl

-- a seat that stands for nothing takes in what another stands for
takes_at : (id : ℕ) (v : View) (other : ℕ) (w : View) (b : Bool) → w.claims ≡ b → Joins {S = SeatChange} (λ s. Kept s.views) id v other w (shown v w) nobody
takes_at id v other w false is s h at apart there =
    let mine = h.3 id v at in
    let both : Fits h.0 h.1 h.2 id (shown v w) = (mine.0, λ c. off (sym is ∙ c)) in (
      h.0,
      h.1,
      h.2,
      fits_set h.0 h.1 h.2 (set s.views id (shown v w)) other nobody
          (λ j u _ e. fits_set h.0 h.1 h.2 s.views id (shown v w) (λ i y _ e'. h.3 i y e') both j u e)
          ((λ k. off k), (λ c. off c)),
    )
takes_at id v other w true is s h at apart there =
    let mine = h.3 id v at in
    let was = ⊎_elim
    (λ (t : (other ≡ id) × (shown v w ≡ w)). absurd (apart t.0))
    (λ (t : (other ≢ id) × (get_elem? s.views other ≡ some w)). h.3 other w t.1)
    (at_set s.views id other (shown v w) w there) in
    let theirs = was.1 is in
    let owner : ℕ → ℕ = λ c. if c == w.cell then id else h.2 c in
    let both : Fits h.0 h.1 owner id (shown v w) = (mine.0, λ c. (theirs.0, rw (eq-eqb w.cell w.cell refl) refl)) in
    let others : (j : ℕ) (u : View) → j ≢ other → get_elem? s.views j ≡ some u → Fits h.0 h.1 owner j u = λ j u away e.
    let x = h.3 j u e in (
      x.0,
      (λ c.
          let y = x.1 c in
          let ne : u.cell ≢ w.cell = λ same. away (sym y.1 ∙ ap h.2 same ∙ theirs.1) in
          (y.0, rw (ne_eqb u.cell w.cell ne) y.1)),
    ) in (
      h.0,
      h.1,
      owner,
      fits_set h.0 h.1 owner (set s.views id (shown v w)) other nobody
          (λ j u away e. ⊎_elim
          (λ (t : (j ≡ id) × (shown v w ≡ u)). subst (λ (y : ℕ × View). Fits h.0 h.1 owner y.0 y.1) (λ i. (sym t.0 i, t.1 i)) both)
          (λ (t : (j ≢ id) × (get_elem? s.views j ≡ some u)). others j u away t.1)
          (at_set s.views id j (shown v w) u e))
          ((λ k. off k), (λ c. off c)),
    )

pub takes : (id : ℕ) (v : View) (other : ℕ) (w : View) → Joins {S = SeatChange} (λ s. Kept s.views) id v other w (shown v w) nobody
takes id v other w = takes_at id v other w w.claims refl

-- ---- the same, as the code makes the step

pub opens_by : (slots id : ℕ) (me : Me SeatChange View) (cell : CellId) → me.0.keeps ≡ true
    → Allows (λ s. Kept s.views) slots id me 0 (λ k. either (k == 0) 0 k) (Opened (step slots 0 0 0 (some (told.Cell cell))) me)
opens_by slots id me cell is = opens slots id me cell (λ k. either (k == 0) 0 k) is

pub changes_by : (slots id : ℕ) (me : Me SeatChange View) (at : ℕ) (numbers : Numbers) → me.0.keeps ≡ true → me.0.claims ≡ true
    → Allows (λ s. Kept s.views) slots id me 0 (λ k. either (k == 0) 0 k) (Changed (step slots 0 0 0 (some (told.Numbers at numbers))) me)
changes_by slots id me at numbers is claims = sets slots id me (changed me.0 at numbers).known (λ k. either (k == 0) 0 k) is claims

pub pushes_by : (slots id : ℕ) (me : Me SeatChange View) (end : ℕ) (numbers : Numbers) → me.0.keeps ≡ true → me.0.claims ≡ true
    → Allows (λ s. Kept s.views) slots id me 0 (λ k. either (k == 0) 0 k) (Pushed (step slots 0 0 0 (some (told.End end numbers))) me)
pushes_by slots id me end numbers is claims = sets slots id me (pushed me.0 end numbers).known (λ k. either (k == 0) 0 k) is claims

pub checks_by : (slots id : ℕ) (me : Me SeatChange View) → me.0.keeps ≡ true → Allows (λ s. Kept s.views) slots id me 0 (λ n. n) (Checked (step slots 0 0 0 none) me)
checks_by slots id me is = checks slots id me (step slots 0 0 0 none) is

-- ---- a cell with link ends

set_last : {X : Type 0} (xs : List X) (x y : X) → slice_set (xs ++ x ∷ []) (length xs) y ≡ xs ++ y ∷ []
set_last [] x y = refl
set_last (z ∷ zs) x y = ap (λ l. z ∷ l) (set_last zs x y)

-- one link end more
pub grown_more : (before me after : Me SeatChange View) (id : CellId) (ends more : List (ℕ × Numbers)) (end : ℕ) (numbers : Numbers)
    → me ≡ (grown before.0 (record { id = id; ends = ends }), before.1) → after ≡ (pushed me.0 end numbers, me.1) → more ≡ ends ++ (end, numbers) ∷ []
    → after ≡ (grown before.0 (record { id = id; ends = more }), before.1)
grown_more before me after id ends more end numbers is pushes longer =
    let v = before.0 in
    let known : List (ℕ × Numbers) → Known = λ l. record { id = id; ends = l } in
    let push : Me SeatChange View → Me SeatChange View = λ m. (pushed m.0 end numbers, m.1) in
    let all = set_last v.all (known ends) (known (ends ++ (end, numbers) ∷ [])) in
    let set : Me SeatChange View → Me SeatChange View = λ m. m in
    pushes ∙ ap push is
    ∙ (λ i. (record { keeps = v.keeps; all = all i; claims = true; cell = length v.all; known = known (ends ++ (end, numbers) ∷ []) }, before.1))
    ∙ ap (λ (l : List (ℕ × Numbers)). let m : Me SeatChange View = (grown v (known l), before.1) in m) (sym longer)
