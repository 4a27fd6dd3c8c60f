-- Steps of the loops.
use Rattle.std.proofs.Common.{◌≡◌, ◌↔◌, ℕ, zero, suc, ◌+◌, ◌<◌, Bool, true, false, not, take, drop, filter, List, [], ◌∷◌, ◌++◌, length, get_or, set, refl, sym, ap, ◌∙◌, subst, inl, inr, arith, get_or-set_same, get_or-set_other, IsTrue, length-set}
use Rattle.std.specs.Prelude.{Vec, Contains, slice_index}
use Rattle.std.specs.declared.alloc.Global.{Global}
use Rattle.std.proofs.lemmas.Bool.{cases_eq, false≢true}
use Rattle.std.proofs.lemmas.List.{length_push}
use Rattle.std.proofs.lemmas.List.Elements.{Contains-append_left, Contains-append_right, Contains-append_cases, Contains-push, Contains-push_cases}
use Rattle.std.proofs.Math.Seq.{take-append_seam}
use Rattle.sw_graph.specs.Found.{AreKept}
use Rattle.sw_graph.specs.Reversing.{AreAdded, AreBegun}
use Rattle.sw_graph.specs.Rounds.{AllDone, AreFree, AreRounds, AreTaken, is_marked}
use Rattle.sw_graph.specs.Rows.{row, IsGraph, IsReversed, Leads}
use Rattle.sw_graph.proofs.Listed.{row_at, row_member}
use Rattle.sw_graph.proofs.Peels.{left_falls, rounds_more, later_listed, listed_cases, not_listed}

pub taken_more : (round e : ℕ) (xs levels levels2 : List ℕ) (done done2 : List Bool) → AreTaken round xs levels levels2 done done2 → e < length levels2 → e < length done2 → AreTaken round (xs ++ e ∷ []) levels (set levels2 e round) done (set done2 e true)
taken_more round e xs levels levels2 done done2 t inside marked = record {
  taken = λ c h. elim (cases_eq c e) [
    | inl same ↦ (ap (slice_index (set levels2 e round)) same ∙ get_or-set_same levels2 e round 0 inside, ap (is_marked (set done2 e true)) same ∙ get_or-set_same done2 e true false marked)
    | inr ne ↦ elim (Contains-push_cases xs e c h) [
      | inl old ↦ let k = t.taken c old in (get_or-set_other levels2 e c round 0 ne ∙ k.0, get_or-set_other done2 e c true false ne ∙ k.1)
      | inr same ↦ absurd (ne (sym same))
    ]
  ];
  others = λ c never.
      let ne : c ≡ e → ⊥ = λ same. never (subst (Contains (xs ++ e ∷ [])) (sym same) (Contains-push xs e)) in
      let k = t.others c (λ h. never (Contains-append_left xs (e ∷ []) c h)) in
      (get_or-set_other levels2 e c round 0 ne ∙ k.0, get_or-set_other done2 e c true false ne ∙ k.1);
}

pub added_none : (c : ℕ) (rows : List (Vec ℕ Global)) → AreAdded [] c rows rows
added_none c rows = record { size = refl; each = λ b d. (λ h. inl h, λ h. elim h [ inl k ↦ k | inr k ↦ absurd (not_listed d k.0) ]) }

pub added_more : (xs : List ℕ) (e c : ℕ) (rows rows1 rows2 : List (Vec ℕ Global)) → AreAdded xs c rows rows1 → AreAdded (e ∷ []) c rows1 rows2 → AreAdded (xs ++ e ∷ []) c rows rows2
added_more xs e c rows rows1 rows2 a b = record {
  size = b.size ∙ a.size;
  each = λ p d. (
    λ h. elim ((b.each p d).0 h) [
      | inl k ↦ elim ((a.each p d).0 k) [ inl old ↦ inl old | inr new ↦ inr (Contains-append_left xs (e ∷ []) d new.0, new.1) ]
      | inr k ↦ inr (Contains-append_right xs (e ∷ []) d k.0, k.1)
    ],
    λ h. elim h [
      | inl k ↦ (b.each p d).1 (inl ((a.each p d).1 (inl k)))
      | inr k ↦ elim (Contains-append_cases xs (e ∷ []) d k.0) [ inl old ↦ (b.each p d).1 (inl ((a.each p d).1 (inr (old, k.1)))) | inr new ↦ (b.each p d).1 (inr (new, k.1)) ]
    ],
  );
}

pub begun_none : (g rows : List (Vec ℕ Global)) → length rows ≡ length g → ((c : ℕ) → row rows c ≡ []) → AreBegun g 0 rows
begun_none g rows size empty = record {
  size = size;
  each = λ c d. (λ h. let P : List ℕ → Type 0 = λ l. Contains l c in absurd (not_listed c (subst P (empty d) h)), λ h. let lt = h.0 in absurd (omega arith));
}

pub begun_more : (g : List (Vec ℕ Global)) (k : ℕ) (rows rows2 : List (Vec ℕ Global)) (members : List ℕ) → AreBegun g k rows → members ≡ row g k → AreAdded members k rows rows2 → AreBegun g (k + 1) rows2
begun_more g k rows rows2 members a same b = record {
  size = b.size ∙ a.size;
  each = λ c d.
      let Listed : List ℕ → Type 0 = λ l. Contains l d in
      let Led : ℕ → Type 0 = λ x. Leads g x d in (
        λ h. elim ((b.each c d).0 h) [
          | inl old ↦ let r = (a.each c d).0 old in ((let lt = r.0 in omega arith), r.1)
          | inr new ↦ let e = new.1 in (omega arith, subst Led (sym e) (subst Listed same new.0))
        ],
        λ h. elim (cases_eq c k) [
          | inl e ↦ (b.each c d).1 (inr (subst Listed (sym same) (subst Led e h.1), e))
          | inr ne ↦ let lt = h.0 in (b.each c d).1 (inl ((a.each c d).1 (omega arith, h.1)))
        ],
      );
}

pub begun_all : (g rows : List (Vec ℕ Global)) (k : ℕ) → AreBegun g k rows → k ≡ length g → IsReversed g rows
begun_all g rows k a e = record {
  size = a.size;
  each = λ c d. (λ h. let lt = row_member g c d h in (a.each c d).1 (omega arith, h), λ h. ((a.each c d).0 h).1);
}

pub empty_more : (rows : List (Vec ℕ Global)) (v : Vec ℕ Global) → ((c : ℕ) → row rows c ≡ []) → v.items ≡ [] → (c : ℕ) → row (rows ++ v ∷ []) c ≡ []
empty_more [] v h e zero = e
empty_more [] v h e (suc c) = refl
empty_more (x ∷ rows) v h e zero = h zero
empty_more (x ∷ rows) v h e (suc c) = empty_more rows v (λ c. h (suc c)) e c

pub empty_rows_more : (rows more : List (Vec ℕ Global)) (v : Vec ℕ Global) (counter : ℕ) → ((c : ℕ) → row rows c ≡ []) × (length rows ≡ counter) → v.items ≡ [] → more ≡ rows ++ v ∷ [] → ((c : ℕ) → row more c ≡ []) × (length more ≡ counter + 1)
empty_rows_more rows more v counter old none is =
    (λ c. ap (λ x. row x c) is ∙ empty_more rows v old.0 none c, ap length is ∙ length_push rows v ∙ ap (λ n. n + 1) old.1)

-- a row that is set
pub set_row : (rows : List (Vec ℕ Global)) (k : ℕ) (v : Vec ℕ Global) → k < length rows → row (set rows k v) k ≡ v.items
set_row [] k v lt = absurd (omega arith)
set_row (x ∷ rows) zero v lt = refl
set_row (x ∷ rows) (suc k) v lt = set_row rows k v (omega arith)

other_row : (rows : List (Vec ℕ Global)) (k other : ℕ) (v : Vec ℕ Global) → (other ≡ k → ⊥) → row (set rows k v) other ≡ row rows other
other_row [] k other v ne = refl
other_row (x ∷ rows) zero zero v ne = absurd (ne refl)
other_row (x ∷ rows) zero (suc other) v ne = refl
other_row (x ∷ rows) (suc k) zero v ne = refl
other_row (x ∷ rows) (suc k) (suc other) v ne = other_row rows k other v (λ e. ne (ap suc e))

-- a number that is added to the row of d
added_set : (rows : List (Vec ℕ Global)) (d k c : ℕ) (v : Vec ℕ Global) → d < length rows → k ≡ d → v.items ≡ row rows d ++ c ∷ [] → AreAdded (d ∷ []) c rows (set rows k v)
added_set rows d k c v lt at is = subst (λ (i : ℕ). AreAdded (d ∷ []) c rows (set rows i v)) (sym at) (record {
  size = length-set rows d v;
  each = λ b e. elim (cases_eq e d) [
    | inl same ↦
        let here : row (set rows d v) e ≡ row rows e ++ c ∷ [] = ap (row (set rows d v)) same ∙ set_row rows d v lt ∙ is ∙ ap (λ x. row rows x ++ c ∷ []) (sym same) in
        let P : List ℕ → Type 0 = λ l. Contains l b in
        let Q : ℕ → Type 0 = λ x. Contains (row rows e ++ c ∷ []) x in (
          λ h. elim (Contains-push_cases (row rows e) c b (subst P here h)) [ inl old ↦ inl old | inr new ↦ inr (let R : ℕ → Type 0 = λ x. Contains (d ∷ []) x in subst R (sym same) (Contains-push [] d), sym new) ],
          λ h. subst P (sym here) (elim h [ inl old ↦ Contains-append_left (row rows e) (c ∷ []) b old | inr new ↦ subst Q (sym new.1) (Contains-push (row rows e) c) ]),
        )
    | inr ne ↦
        let here = other_row rows d e v ne in
        let P : List ℕ → Type 0 = λ l. Contains l b in (
          λ h. inl (subst P here h),
          λ h. subst P (sym here) (elim h [ inl old ↦ old | inr new ↦ absurd (elim (listed_cases d [] e new.0) [ inl s ↦ ne (sym s) | inr k ↦ not_listed e k ]) ]),
        )
  ];
})

pub added_at : (rows : List (Vec ℕ Global)) (d k c : ℕ) (old v : Vec ℕ Global) → d < length rows → k ≡ d → v.items ≡ (get_or rows k old).items ++ c ∷ [] → AreAdded (d ∷ []) c rows (set rows k v)
added_at rows d k c old v lt at is =
    let inside : k < length rows = omega arith in
    added_set rows d k c v lt at (is ∙ ap (λ l. l ++ c ∷ []) (sym (row_at rows k old inside) ∙ ap (row rows) at))

-- what is kept by a test
kept_members : (P : ℕ → Type 0) (xs ys : List ℕ) → AreKept (λ x b. IsTrue b ↔ P x) xs ys → (c : ℕ) → Contains ys c ↔ (Contains xs c × P c)
kept_members P [] ys h c = (λ k. absurd (not_listed c (subst (λ (l : List ℕ). Contains l c) h k)), λ k. absurd (not_listed c k.0))
kept_members P (x ∷ xs) ys (true, told, (zs, same, h)) c =
    let r = kept_members P xs zs h c in
    let back : Contains (x ∷ zs) c ↔ (Contains (x ∷ xs) c × P c) = (
      λ k. elim (listed_cases x zs c k) [
        | inl e ↦ ((0, omega arith, e), subst P e (told.0 refl))
        | inr later ↦ let s = r.0 later in (later_listed x xs c s.0, s.1)
      ],
      λ k. elim (listed_cases x xs c k.0) [
        | inl e ↦ (0, omega arith, e)
        | inr later ↦ later_listed x zs c (r.1 (later, k.1))
      ],
    ) in
    subst (λ (l : List ℕ). Contains l c ↔ (Contains (x ∷ xs) c × P c)) (sym same) back
kept_members P (x ∷ xs) ys (false, told, h) c =
    let r = kept_members P xs ys h c in (
      λ k. let s = r.0 k in (later_listed x xs c s.0, s.1),
      λ k. elim (listed_cases x xs c k.0) [
        | inl e ↦ absurd (false≢true (told.1 (subst P (sym e) k.1)))
        | inr later ↦ r.1 (later, k.1)
      ],
    )

pub free_are : (g : List (Vec ℕ Global)) (done : List Bool) (left items : List ℕ) → AreKept (λ x b. IsTrue b ↔ AllDone done (row g x)) left items → AreFree g done left items
free_are g done left items kept c = kept_members (λ x. AllDone done (row g x)) left items kept c

-- one member more, of which all predecessors are done
pub free_kept : (g : List (Vec ℕ Global)) (done : List Bool) (left items : List ℕ) (x : ℕ) → AreFree g done left items → AllDone done (row g x) → AreFree g done (left ++ x ∷ []) (items ++ x ∷ [])
free_kept g done left items x free is c = (
  λ h. elim (Contains-push_cases items x c h) [
    | inl old ↦ let known = (free c).0 old in (Contains-append_left left (x ∷ []) c known.0, known.1)
    | inr same ↦ (subst (Contains (left ++ x ∷ [])) same (Contains-push left x), subst (λ (y : ℕ). AllDone done (row g y)) same is)
  ],
  λ h. elim (Contains-push_cases left x c h.0) [
    | inl old ↦ Contains-append_left items (x ∷ []) c ((free c).1 (old, h.1))
    | inr same ↦ subst (Contains (items ++ x ∷ [])) same (Contains-push items x)
  ],
)

-- one member more, of which a predecessor is not done
pub free_passed : (g : List (Vec ℕ Global)) (done : List Bool) (left items : List ℕ) (x : ℕ) → AreFree g done left items → (AllDone done (row g x) → ⊥) → AreFree g done (left ++ x ∷ []) items
free_passed g done left items x free other c = (
  λ h. let known = (free c).0 h in (Contains-append_left left (x ∷ []) c known.0, known.1),
  λ h. elim (Contains-push_cases left x c h.0) [
    | inl old ↦ (free c).1 (old, h.1)
    | inr same ↦ absurd (other (subst (λ (y : ℕ). AllDone done (row g y)) (sym same) h.1))
  ],
)

-- what a slice's owner holds after a call that keeps its length
pub whole : {A : Type 0} (len : ℕ) (new old : List A) → len ≡ length old → length new ≡ length old → take len (new ++ drop (length new) old) ≡ new
whole len new old a b = let e : len ≡ length new = omega arith in ap (λ k. take k (new ++ drop (length new) old)) e ∙ take-append_seam new (drop (length new) old)

-- a round as the code makes it
pub round_step : (g : List (Vec ℕ Global)) → IsGraph g → (round : ℕ) (levels : List ℕ) (done : List Bool) (left free : List ℕ) → AreRounds g round levels done left → AreFree g done left free → 0 < length free
    → (levels1 : List ℕ) (done1 : List Bool) (left1 : List ℕ) → length levels1 ≡ length levels → length done1 ≡ length done → AreTaken round free levels levels1 done done1 → left1 ≡ filter (λ c. not (is_marked done1 c)) left
    → AreRounds g (round + 1) levels1 done1 left1 × (length left1 < length left)
round_step g ok round levels done left free r f some levels1 done1 left1 size marks t is =
    let P : List ℕ → Type 0 = λ x. AreRounds g (round + 1) levels1 done1 x × (length x < length left) in
    subst P (sym is) (rounds_more g ok round levels done left free r f levels1 done1 t some size marks, left_falls g ok round levels done left free r f levels1 done1 t some)
