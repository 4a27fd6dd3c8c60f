-- Levels of a finite relation that has no cycle.
use Rattle.std.proofs.Common.{◌≡◌, ℕ, zero, suc, ◌+◌, ◌-◌, ◌<◌, ◌≤◌, ◌⊎◌, List, map, refl, sym, subst, inl, inr, arith}
use Rattle.std.specs.Prelude.{slice_index}
use Rattle.std.specs.List.{range_with_len}
use Rattle.std.proofs.lemmas.Bool.{cases_eq, cases_lt}
use Rattle.std.proofs.lemmas.List.FromFn.{get_or-map-range_with_len, length-map-range_with_len}
use Rattle.sw_graph.specs.Laws.{IsAmong, LevelsAreWhereNoCycleIs, LevelsRise}
use Rattle.sw_graph.specs.Levels.{Chain, HasCycle, IsLevel, IsLevels}
use Rattle.sw_graph.proofs.Pigeons.{chain_join, pigeons}

-- one of the first n numbers has the property, or none has
some_before : (P : ℕ → Type 0) → ((b : ℕ) → P b ⊎ (P b → ⊥)) → (n : ℕ) → ((b : ℕ) × (b < n) × P b) ⊎ ((b : ℕ) → b < n → P b → ⊥)
some_before P dec zero = inr (λ b lt p. omega arith)
some_before P dec (suc n) = elim (some_before P dec n) [
  | inl r ↦ inl (r.0, (let lt = r.1 in omega arith), r.2)
  | inr none ↦ elim (dec n) [
    | inl p ↦ inl (n, omega arith, p)
    | inr never ↦ inr (λ b lt p. elim (cases_eq b n) [ inl e ↦ never (subst P e p) | inr ne ↦ none b (omega arith) p ])
  ]
]

-- of the numbers with the property, which are bounded, the greatest
greatest : (P : ℕ → Type 0) → ((k : ℕ) → P k ⊎ (P k → ⊥)) → P 0 → (m : ℕ) → ((k : ℕ) → P k → k ≤ m) → (v : ℕ) × P v × ((k : ℕ) → P k → k ≤ v)
greatest P dec first zero bound = (0, first, bound)
greatest P dec first (suc m) bound = elim (dec (suc m)) [
  | inl p ↦ (suc m, p, bound)
  | inr never ↦ greatest P dec first m (λ k p. elim (cases_eq k (suc m)) [ inl e ↦ absurd (never (subst P e p)) | inr ne ↦ let le = bound k p in omega arith ])
]

module _ (dep : ℕ → ℕ → Type 0) where
  -- the member of a chain that stands k steps before its end
  abbrev pub stop : (n b c : ℕ) → Chain dep n b c → ℕ → ℕ
  stop zero b c h k = c
  stop (suc n) b c h zero = c
  stop (suc n) b c h (suc k) = stop n b h.0 h.1 k

  pub stop_first : (n b c : ℕ) (h : Chain dep n b c) (j : ℕ) → j ≤ n → Chain dep j (stop n b c h j) c
  stop_first zero b c h zero le = refl
  stop_first zero b c h (suc j) le = absurd (omega arith)
  stop_first (suc n) b c h zero le = refl
  stop_first (suc n) b c h (suc j) le = (h.0, stop_first n b h.0 h.1 j (omega arith), h.2)

  stop_between : (n b c : ℕ) (h : Chain dep n b c) (i j k : ℕ) → j ≤ n → j ≡ k + i → Chain dep k (stop n b c h j) (stop n b c h i)
  stop_between zero b c h i j k le e = let P : ℕ → Type 0 = λ x. Chain dep x c c in let z : 0 ≡ k = omega arith in subst P z refl
  stop_between (suc n) b c h zero j k le e = let P : ℕ → Type 0 = λ x. Chain dep x (stop (suc n) b c h j) c in let z : j ≡ k = omega arith in subst P z (stop_first (suc n) b c h j le)
  stop_between (suc n) b c h (suc i) zero k le e = absurd (omega arith)
  stop_between (suc n) b c h (suc i) (suc j) k le e = stop_between n b h.0 h.1 i j k (omega arith) (omega arith)

  pub stop_last : (n b c : ℕ) (h : Chain dep n b c) (j k : ℕ) → n ≡ k + j → Chain dep k b (stop n b c h j)
  stop_last zero b c h j k e = let P : ℕ → Type 0 = λ x. Chain dep x b c in let z : 0 ≡ k = omega arith in subst P z h
  stop_last (suc n) b c h zero k e = let P : ℕ → Type 0 = λ x. Chain dep x b c in let z : suc n ≡ k = omega arith in subst P z h
  stop_last (suc n) b c h (suc j) k e = stop_last n b h.0 h.1 j k (omega arith)

  module _ (count : ℕ) (among : IsAmong dep count) where
    pub stop_inside : (n b c : ℕ) (h : Chain dep n b c) (k : ℕ) → c < count → stop n b c h k < count
    stop_inside zero b c h k lt = lt
    stop_inside (suc n) b c h zero lt = lt
    stop_inside (suc n) b c h (suc k) lt = stop_inside n b h.0 h.1 k (among h.0 c h.2).0

    -- a chain that is longer than there are members has a cycle
    long_chain : (n b c : ℕ) → Chain dep (suc n) b c → count < suc n → HasCycle dep
    long_chain n b c h long =
        let f : ℕ → ℕ = stop (suc n) b c h in
        let r = pigeons count f (λ k le. stop_inside (suc n) b c h k (among h.0 c h.2).1) in
        let less = r.2 in
        let last = r.3 in
        let m : ℕ = r.1 - r.0 - 1 in
        let around : Chain dep (suc m) (f r.1) (f r.0) = stop_between (suc n) b c h r.0 r.1 (suc m) (omega arith) (omega arith) in
        let P : ℕ → Type 0 = λ x. Chain dep (suc m) x (f r.0) in
        (m, f r.0, subst P (sym r.4) around)

    short : (HasCycle dep → ⊥) → (n b c : ℕ) → Chain dep n b c → n ≤ count
    short free zero b c h = omega arith
    short free (suc n) b c h = elim (cases_lt count (suc n)) [ inl long ↦ absurd (free (long_chain n b c h long)) | inr le ↦ le ]

    module _ (decided : (c d : ℕ) → dep c d ⊎ (dep c d → ⊥)) where
      abbrev Ends : ℕ → ℕ → Type 0
      Ends c k = (b : ℕ) × Chain dep k b c

      both : (A B : Type 0) → A ⊎ (A → ⊥) → B ⊎ (B → ⊥) → (A × B) ⊎ (A × B → ⊥)
      both A B (inl a) (inl b) = inl (a, b)
      both A B (inl a) (inr b) = inr (λ h. b h.1)
      both A B (inr a) b = inr (λ h. a h.0)

      ends_decided : (k c : ℕ) → Ends c k ⊎ (Ends c k → ⊥)
      ends_decided zero c = inl (c, refl)
      ends_decided (suc k) c = elim (some_before (λ e. dep e c × Ends e k) (λ e. both (dep e c) (Ends e k) (decided e c) (ends_decided k e)) count) [
        | inl r ↦ let s = r.2 in inl (s.1.0, (r.0, s.1.1, s.0))
        | inr none ↦ inr (λ h. let s = h.1 in none s.0 (among s.0 c s.2).0 (s.2, (h.0, s.1)))
      ]

      level_of : (HasCycle dep → ⊥) → (c : ℕ) → (v : ℕ) × IsLevel dep c v
      level_of free c =
          let r = greatest (Ends c) (λ k. ends_decided k c) (c, refl) count (λ k h. short free k h.0 c h.1) in
          (r.0, record { reached = r.1; greatest = λ n b h. r.2 n (b, h) })

      pub levels_of : (HasCycle dep → ⊥) → (levels : List ℕ) × IsLevels dep count levels
      levels_of free =
          let f : ℕ → ℕ = λ c. (level_of free c).0 in
          let levels : List ℕ = map f (range_with_len 0 count) in (
            levels,
            record {
              size = length-map-range_with_len f 0 count;
              each = λ c lt. subst (IsLevel dep c) (sym (get_or-map-range_with_len f 0 count c c 0 lt (omega arith))) (level_of free c).1;
            },
          )

    pub no_cycle : (levels : List ℕ) → IsLevels dep count levels → HasCycle dep → ⊥
    no_cycle levels h cycle =
        let c = cycle.1 in
        let around = cycle.2 in
        let l = h.each c (among around.0 c around.2).1 in
        let v : ℕ = slice_index levels c in
        let le = l.greatest (v + suc cycle.0) l.reached.0 (chain_join dep v (suc cycle.0) l.reached.0 c c l.reached.1 around (v + suc cycle.0) refl) in
        omega arith

pub levels_are_where_no_cycle_is : (dep : ℕ → ℕ → Type 0) → LevelsAreWhereNoCycleIs dep
levels_are_where_no_cycle_is dep n among decided = (levels_of dep n among decided, λ h. no_cycle dep n among h.0 h.1)

pub levels_rise : (dep : ℕ → ℕ → Type 0) → LevelsRise dep
levels_rise dep n levels h c d cl dl step =
    let r = (h.each c cl).reached in
    (h.each d dl).greatest (suc (slice_index levels c)) r.0 (c, r.1, step)
