-- The best of the members that were looked at.
use Rattle.std.proofs.Common.{◌≡◌, ℕ, zero, suc, ◌+◌, ◌-◌, ◌<◌, ◌≤◌, List, length, refl, sym, ap, subst, inl, inr, arith}
use Rattle.std.specs.Prelude.{Contains, slice_index}
use Rattle.std.specs.List.Sorted.{IsStrictlyIncreasing}
use Rattle.std.proofs.lemmas.Bool.{cases_eq, cases_lt}
use Rattle.std.proofs.lemmas.List.Kept.{AllPairs-from_increasing}
use Rattle.sw_graph.specs.Levels.{Chain}
use Rattle.sw_graph.specs.declared.shortest_cycle.KnownCycle.{KnownCycle}
use Rattle.sw_graph.specs.Bests.{IsBest, IsBetter}
use Rattle.sw_graph.specs.Shortest.{IsFewest}
use Rattle.sw_graph.proofs.Adding.{at_contains, contains_at}

-- the best of the first members
pub record Bettering (dep : ℕ → ℕ → Type 0) (members : List ℕ) (done : ℕ) (best : KnownCycle) : Type 0 where
  pub member : Contains members best.start
  pub fewest : IsFewest dep best.start best.start best.length
  pub shortest : (k i : ℕ) → k < done → Chain dep (suc i) (slice_index members k) (slice_index members k) → best.length ≤ suc i
  pub least : (k : ℕ) → k < done → Chain dep best.length (slice_index members k) (slice_index members k) → best.start ≤ slice_index members k
  pub rest : (k : ℕ) → done ≤ k → k < length members → best.start ≤ slice_index members k

module _ (dep : ℕ → ℕ → Type 0) (members : List ℕ) (rising : IsStrictlyIncreasing members) where
  rises : (i k : ℕ) → i ≤ k → k < length members → slice_index members i ≤ slice_index members k
  rises i k le lt = elim (cases_eq i k) [ inl e ↦ (let s : slice_index members i ≡ slice_index members k = ap (slice_index members) e in omega arith) | inr ne ↦ (let s : slice_index members i < slice_index members k = AllPairs-from_increasing members rising i k 0 (omega arith) lt in omega arith) ]

  pub bettering_first : (best : KnownCycle) → 0 < length members → slice_index members 0 ≡ best.start → IsFewest dep best.start best.start best.length → Bettering dep members 0 best
  bettering_first best some begins f = record {
    member = contains_at members 0 best.start some begins;
    fewest = f;
    shortest = λ k i lt. absurd (omega arith);
    least = λ k lt. absurd (omega arith);
    rest = λ k le lt. let s = rises 0 k (omega arith) lt in omega arith;
  }

  pub bettering_more : (done : ℕ) (known best : KnownCycle) → done < length members → Bettering dep members done known → IsBetter dep (slice_index members done) known best → Bettering dep members (done + 1) best
  bettering_more done known best lt b h = elim h.either [
    | inl same ↦
        let l : best.length ≡ known.length = ap (λ (r : KnownCycle). r.length) same in
        let s : best.start ≡ known.start = ap (λ (r : KnownCycle). r.start) same in
        record {
          member = let P : ℕ → Type 0 = λ x. Contains members x in subst P (sym s) b.member;
          fewest = h.fewest;
          shortest = λ k i less c. elim (cases_lt k done) [ inl old ↦ (let le = b.shortest k i old c in omega arith) | inr past ↦ (let e : k ≡ done = omega arith in let P : ℕ → Type 0 = λ x. Chain dep (suc i) (slice_index members x) (slice_index members x) in h.shorter i (subst P e c)) ];
          least = λ k less c. elim (cases_lt k done) [
            | inl old ↦ (let P : ℕ → Type 0 = λ n. Chain dep n (slice_index members k) (slice_index members k) in let le = b.least k old (subst P l c) in omega arith)
            | inr past ↦ (let le = b.rest k past (omega arith) in omega arith)
          ];
          rest = λ k le less. let x = b.rest k (omega arith) less in omega arith;
        }
    | inr new ↦
        let s : best.start ≡ slice_index members done = new.0 in
        let shorter : best.length < known.length = new.1 in
        record {
          member = contains_at members done best.start lt (sym s);
          fewest = h.fewest;
          shortest = λ k i less c. elim (cases_lt k done) [ inl old ↦ (let le = b.shortest k i old c in omega arith) | inr past ↦ (let e : k ≡ done = omega arith in let P : ℕ → Type 0 = λ x. Chain dep (suc i) (slice_index members x) (slice_index members x) in h.shorter i (subst P e c)) ];
          least = λ k less c. elim (cases_lt k done) [
            | inl old ↦ absurd (too_short best.length h.fewest.some k old c shorter)
            | inr past ↦ (let e : k ≡ done = omega arith in let a : slice_index members k ≡ slice_index members done = ap (slice_index members) e in omega arith)
          ];
          rest = λ k le less. let x = rises done k (omega arith) less in omega arith;
        }
  ]
    where
      too_short : (n : ℕ) → 0 < n → (k : ℕ) → k < done → Chain dep n (slice_index members k) (slice_index members k) → n < known.length → ⊥
      too_short zero some k old c shorter = omega arith
      too_short (suc i) some k old c shorter = let le = b.shortest k i old c in omega arith

  pub is_best : (best : KnownCycle) (done : ℕ) → length members ≤ done → Bettering dep members done best → IsBest dep members best
  is_best best done all b = record {
    member = b.member;
    fewest = b.fewest;
    shortest = λ c i m k. let P : ℕ → Type 0 = λ x. Chain dep (suc i) x x in b.shortest m.0 i (omega (arith, m.1)) (subst P (sym (at_contains members c m)) k);
    least = λ c m k. let P : ℕ → Type 0 = λ x. Chain dep best.length x x in let e : slice_index members m.0 ≡ c = at_contains members c m in let le = b.least m.0 (omega (arith, m.1)) (subst P (sym e) k) in omega arith;
  }

-- what is known, or what was found through c
pub kept : (dep : ℕ → ℕ → Type 0) (c : ℕ) (known : KnownCycle) → IsFewest dep known.start known.start known.length → ((i : ℕ) → i < known.length - 1 → Chain dep (suc i) c c → ⊥) → IsBetter dep c known known
kept dep c known f none = record {
  fewest = f;
  shorter = λ i h. let some = f.some in elim (cases_lt i (known.length - 1)) [ inl lt ↦ absurd (none i lt h) | inr past ↦ omega arith ];
  either = inl refl;
}

pub bettered : (dep : ℕ → ℕ → Type 0) (c n : ℕ) (known : KnownCycle) → IsFewest dep known.start known.start known.length → n ≤ known.length - 1 → IsFewest dep c c n → IsBetter dep c known (record { start = c; length = n })
bettered dep c n known g le f = record {
  fewest = f;
  shorter = f.fewest;
  either = let some = g.some in inr (refl, omega arith);
}
