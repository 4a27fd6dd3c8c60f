-- Levels and the shown cycle of what was peeled.
use Rattle.std.proofs.Common.{◌≡◌, ℕ, zero, suc, ◌+◌, ◌-◌, ◌<◌, ◌≤◌, Bool, true, false, List, ◌++◌, length, refl, sym, ap, ◌∙◌, subst, inl, inr, arith}
use Rattle.std.specs.Prelude.{Vec, slice_index, Result, Ok, Err, IfOk}
use Rattle.std.specs.declared.alloc.Global.{Global}
use Rattle.std.proofs.lemmas.Bool.{cases_Bool, false≢true, cases_lt}
use Rattle.sw_graph.specs.Rows.{row, IsGraph, Precedes}
use Rattle.sw_graph.specs.Cycles.{Walks, IsBehindCycle, IsLeast, IsLeastPredecessor, IsShownCycle, IsTurned}
use Rattle.sw_graph.specs.Levels.{Chain, HasCycle, IsLevels}
use Rattle.sw_graph.specs.Rounds.{is_marked, IsPeeled}
use Rattle.sw_graph.specs.Walking.{GoesOn, IsFirstLeft, IsLeastLeft, IsSince, IsWalk, times}
use Rattle.sw_graph.proofs.Backs.{Next, head_same, walks_map}
use Rattle.sw_graph.proofs.Listed.{row_inside}
use Rattle.sw_graph.proofs.Pigeons.{pigeons}

module _ (g : List (Vec ℕ Global)) (ok : IsGraph g) (levels : List ℕ) (done : List Bool) (p : IsPeeled g levels done) where
  -- a chain to a peeled member rises
  pub chain_rises : (n b c : ℕ) → is_marked done c ≡ true → Chain (Precedes g) n b c → (is_marked done b ≡ true) × (slice_index levels b + n ≤ slice_index levels c)
  chain_rises zero b c e h = let P : ℕ → Type 0 = λ x. (is_marked done x ≡ true) × (slice_index levels x + 0 ≤ slice_index levels c) in subst P (sym h) (e, omega arith)
  chain_rises (suc n) b c e h =
      let r = p.rising h.0 c e h.2 in
      let s = chain_rises n b h.0 r.0 h.1 in
      (s.0, (let x = r.1 in let y = s.1 in omega arith))

  pub no_cycle_at : (n c : ℕ) → is_marked done c ≡ true → Chain (Precedes g) (suc n) c c → ⊥
  no_cycle_at n c e h = let r = (chain_rises (suc n) c c e h).1 in omega arith

  pub behind_left : (c : ℕ) → IsBehindCycle (Precedes g) c → is_marked done c ≡ false
  behind_left c h = elim (cases_Bool (is_marked done c)) [
    | inl t ↦ let r = chain_rises h.2 h.0 c t h.4 in absurd (no_cycle_at h.1 h.0 r.0 h.3)
    | inr f ↦ f
  ]

  -- the level as the end of a chain
  pub chain_to : (v c : ℕ) → is_marked done c ≡ true → slice_index levels c ≡ v → (b : ℕ) × Chain (Precedes g) v b c
  chain_to zero c e h = (c, refl)
  chain_to (suc v) c e h =
      let r = p.reached c v e h in
      let s = chain_to v r.0 r.1 r.3 in
      (s.0, (r.0, s.1, r.2))

  pub are_levels : ((d : ℕ) → d < length done → is_marked done d ≡ true) → (HasCycle (Precedes g) → ⊥) × IsLevels (Precedes g) (length g) levels
  are_levels all =
      let every : (d : ℕ) → d < length g → is_marked done d ≡ true = λ d lt. all d (let m = p.marked in omega arith) in (
        λ h. no_cycle_at h.0 h.1 (every h.1 (row_inside g ok h.2.0 h.1 h.2.2).1) h.2,
        record {
          size = p.numbered;
          each = λ c lt. record {
            reached = chain_to (slice_index levels c) c (every c lt) refl;
            greatest = λ n b h. let r = (chain_rises n b c (every c lt) h).1 in omega arith;
          };
        },
      )

  -- a member that is left, k steps back
  pub record Trail (c k : ℕ) : Type 0 where
    pub now : ℕ
    pub inside : now < length g
    pub left : is_marked done now ≡ false

  abbrev trail_on : (c k : ℕ) → Trail c k → Trail c (suc k)
  trail_on c k t = let r = p.tangled t.now t.inside t.left in record { now = r.0; inside = (row_inside g ok r.0 t.now r.2).0; left = r.1 }

  abbrev trail : (c : ℕ) → c < length g → is_marked done c ≡ false → (k : ℕ) → Trail c k
  trail c lt e zero = record { now = c; inside = lt; left = e }
  trail c lt e (suc k) = trail_on c k (trail c lt e k)

  trail_chain : (c : ℕ) (lt : c < length g) (e : is_marked done c ≡ false) (i n k : ℕ) → k ≡ n + i → Chain (Precedes g) n (trail c lt e k).now (trail c lt e i).now
  trail_chain c lt e i zero k s = let same : k ≡ i = omega arith in ap (λ x. (trail c lt e x).now) same
  trail_chain c lt e i (suc n) k s =
      let t = trail c lt e i in
      ((trail c lt e (suc i)).now, trail_chain c lt e (suc i) n k (omega arith), (p.tangled t.now t.inside t.left).2)

  pub left_behind : (c : ℕ) → c < length g → is_marked done c ≡ false → IsBehindCycle (Precedes g) c
  left_behind c lt e =
      let f : ℕ → ℕ = λ k. (trail c lt e k).now in
      let r = pigeons (length g) f (λ k le. (trail c lt e k).inside) in
      let less = r.2 in
      let m : ℕ = r.1 - r.0 - 1 in
      let around : Chain (Precedes g) (suc m) (f r.1) (f r.0) = trail_chain c lt e r.0 (suc m) r.1 (omega arith) in
      let P : ℕ → Type 0 = λ x. Chain (Precedes g) (suc m) x (f r.0) in
      (f r.0, m, r.0, subst P (sym r.4) around, trail_chain c lt e 0 r.0 r.0 (omega arith))

  pub has_cycle : (c : ℕ) → c < length g → is_marked done c ≡ false → HasCycle (Precedes g)
  has_cycle c lt e = let b = left_behind c lt e in (b.1, b.0, b.3)

  pub first_behind : (c : ℕ) → c < length g → is_marked done c ≡ false → ((d : ℕ) → d < c → is_marked done d ≡ true) → IsLeast (IsBehindCycle (Precedes g)) c
  first_behind c lt e before = record {
    member = left_behind c lt e;
    least = λ d h. elim (cases_lt d c) [ inl less ↦ absurd (false≢true (sym (behind_left d h) ∙ before d less)) | inr more ↦ more ];
  }

  pub goes_on : GoesOn g done
  goes_on d lt e = let r = p.tangled d lt e in (r.0, r.2, r.1)

  pub next_is : (d c : ℕ) → IsLeastLeft (row g d) done c → IsLeastPredecessor (Precedes g) d c
  next_is d c h = record {
    member = (left_behind c (row_inside g ok c d h.listed).0 h.left, h.listed);
    least = λ r b. h.least r b.1 (behind_left r b.0);
  }

  -- the walk shows the cycle
  pub walk_shows : (start : ℕ) (path : List ℕ) (again : ℕ) (between cycle : List ℕ) → IsFirstLeft done start → IsWalk g done start path again → IsSince path again between → IsTurned between cycle → HasCycle (Precedes g) × IsShownCycle (Precedes g) cycle
  walk_shows start path again between cycle f w s t =
      let marked = p.marked in
      let inn = f.inside in
      let lt : start < length g = omega arith in
      let head : slice_index (s.before ++ between) 0 ≡ start = ap (λ l. slice_index l 0) s.parts ∙ sym (head_same path again w.comes_again) ∙ w.begins in
      let walked = walks_map (Next g done) (IsLeastPredecessor (Precedes g)) next_is path again w.walks in
      let W : List ℕ → Type 0 = λ l. Walks (IsLeastPredecessor (Precedes g)) l again in
      let V : ℕ → Type 0 = λ e. Walks (IsLeastPredecessor (Precedes g)) (s.before ++ between) e in (
        has_cycle start lt f.left,
        record {
          before = s.before;
          between = between;
          some = s.some;
          begins = subst (IsLeast (IsBehindCycle (Precedes g))) (sym head) (first_behind start lt f.left f.before);
          goes_back = subst V (sym s.begins) (subst W (sym s.parts) walked);
          once = λ c. let P : List ℕ → Type 0 = λ l. times l c ≤ 1 in subst P (sym s.parts) (w.once c);
          shown = t;
        },
      )

pub on_ok_of : {A E : Type 0} (P Q : A → Type 0) (r : Result A E) → ((x : A) → P x → Q x) → IfOk r P → IfOk r Q
on_ok_of P Q (Ok x) f h = f x h
on_ok_of P Q (Err e) f h = tt
