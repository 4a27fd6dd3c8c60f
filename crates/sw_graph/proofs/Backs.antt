-- The walk back.
use Rattle.std.proofs.Common.{◌≡◌, ℕ, ◌+◌, ◌<◌, ◌≤◌, Bool, true, false, not, List, [], ◌∷◌, ◌++◌, length, set, get_or, replicate, refl, sym, ap, ◌∙◌, inl, inr, arith, get_or-set_same, get_or-set_other, length-set}
use Rattle.std.specs.Prelude.{Vec, slice_index, count_by}
use Rattle.std.specs.declared.alloc.Global.{Global}
use Rattle.std.proofs.lemmas.Bool.{cases_eq, cases_lt}
use Rattle.std.proofs.lemmas.List.{get_or-replicate, length-replicate, get_or_past}
use Rattle.std.proofs.lemmas.List.Sums.{sum_by-set}
use Rattle.sw_graph.specs.Cycles.{Walks}
use Rattle.sw_graph.specs.Rounds.{is_marked}
use Rattle.sw_graph.specs.Rows.{row, IsGraph}
use Rattle.sw_graph.specs.Walking.{IsLeastLeft, IsWalk, times}
use Rattle.sw_graph.proofs.Counts.{times_push, flag, flag_here, flag_there}
use Rattle.sw_graph.proofs.Listed.{row_inside}

abbrev pub Next : List (Vec ℕ Global) → List Bool → ℕ → ℕ → Type 0
Next g done d c = IsLeastLeft (row g d) done c

pub record Walking (g : List (Vec ℕ Global)) (done : List Bool) (start : ℕ) (seen : List Bool) (path : List ℕ) (now : ℕ) : Type 0 where
  pub size : length seen ≡ length g
  pub inside : now < length g
  pub left : is_marked done now ≡ false
  pub begins : slice_index (path ++ now ∷ []) 0 ≡ start
  pub walks : Walks (Next g done) path now
  pub marks : (c : ℕ) → times path c ≡ flag (is_marked seen c)

pub walks_more : (next : ℕ → ℕ → Type 0) (path : List ℕ) (now q : ℕ) → Walks next path now → next now q → Walks next (path ++ now ∷ []) q
walks_more next [] now q w n = n
walks_more next (c ∷ []) now q w n = (w, n)
walks_more next (c ∷ d ∷ rest) now q w n = (w.0, walks_more next (d ∷ rest) now q w.1 n)

pub walks_map : (P Q : ℕ → ℕ → Type 0) → ((c d : ℕ) → P c d → Q c d) → (path : List ℕ) (end : ℕ) → Walks P path end → Walks Q path end
walks_map P Q f [] end w = tt
walks_map P Q f (c ∷ []) end w = f c end w
walks_map P Q f (c ∷ d ∷ rest) end w = (f c d w.0, walks_map P Q f (d ∷ rest) end w.1)

pub head_more : (xs : List ℕ) (now q : ℕ) → slice_index ((xs ++ now ∷ []) ++ q ∷ []) 0 ≡ slice_index (xs ++ now ∷ []) 0
head_more [] now q = refl
head_more (x ∷ xs) now q = refl

pub head_same : (xs : List ℕ) (c : ℕ) → 0 < times xs c → slice_index (xs ++ c ∷ []) 0 ≡ slice_index xs 0
head_same [] c h = absurd (omega arith)
head_same (x ∷ xs) c h = refl

pub none_marked : (n d : ℕ) → is_marked (replicate n false) d ≡ false
none_marked n d = elim (cases_lt d n) [ inl lt ↦ get_or-replicate n d false false lt | inr le ↦ get_or_past (replicate n false) d false (let m = length-replicate n false in omega arith) ]

pub walk_none : (g : List (Vec ℕ Global)) (done : List Bool) (start : ℕ) → start < length g → is_marked done start ≡ false → Walking g done start (replicate (length g) false) [] start
walk_none g done start lt e = record {
  size = length-replicate (length g) false;
  inside = lt;
  left = e;
  begins = refl;
  walks = tt;
  marks = λ c. rw (none_marked (length g) c) refl;
}

module _ (g : List (Vec ℕ Global)) (done : List Bool) (start : ℕ) (seen : List Bool) (path : List ℕ) (now : ℕ) (w : Walking g done start seen path now) where
  pub walk_more : (q : ℕ) → is_marked seen now ≡ false → IsGraph g → IsLeastLeft (row g now) done q → Walking g done start (set seen now true) (path ++ now ∷ []) q
  walk_more q fresh ok here =
      record {
        size = length-set seen now true ∙ w.size;
        inside = (row_inside g ok q now here.listed).0;
        left = here.left;
        begins = head_more path now q ∙ w.begins;
        walks = walks_more (Next g done) path now q w.walks here;
        marks = λ c.
            let p = times_push path now c in
            let m = w.marks c in
            elim (cases_eq c now) [
              | inl s ↦
                  let f = flag_here now c (sym s) in
                  let size = w.size in
                  let inn = w.inside in
                  let a : flag (is_marked (set seen now true) c) ≡ 1 = ap (λ x. flag (is_marked (set seen now true) x)) s ∙ ap flag (get_or-set_same seen now true false (omega arith)) in
                  let b : flag (is_marked seen c) ≡ 0 = ap (λ x. flag (is_marked seen x)) s ∙ ap flag fresh in
                  omega arith
              | inr ne ↦
                  let f = flag_there now c (λ e. ne (sym e)) in
                  let a = ap flag (get_or-set_other seen now c true false ne) in
                  omega arith
            ];
      }

  pub walk_falls : is_marked seen now ≡ false → count_by not (set seen now true) + 1 ≡ count_by not seen
  walk_falls fresh =
      let size = w.size in
      let inn = w.inside in
      let h = sum_by-set (λ (b : Bool). flag (not b)) seen now true false (omega arith) in
      let e : flag (not (get_or seen now false)) ≡ 1 = rw fresh refl in
      omega arith

  pub walk_done : is_marked seen now ≡ true → IsWalk g done start path now
  walk_done e = record {
    begins = w.begins;
    walks = w.walks;
    once = λ c. let m = w.marks c in one (is_marked seen c) (times path c) m;
    comes_again = let m = w.marks now in let f : flag (is_marked seen now) ≡ 1 = rw e refl in omega arith;
  }
    where
      one : (b : Bool) (t : ℕ) → t ≡ flag b → t ≤ 1
      one true t m = omega arith
      one false t m = omega arith
