-- How many ports of a set are below a number.
use Rattle.std.specs.Prelude.{IsBitSet, count_ones}
use Rattle.std.specs.Int.{bit_at}
use Rattle.std.proofs.Common.{◌≡◌, ℕ, zero, suc, ◌+◌, ◌-◌, ◌/◌, ◌%◌, ◌^◌, ◌<◌, ◌≤◌, ap, ◌∙◌, arith, inl, inr}
use Rattle.std.proofs.lemmas.Nat.{pow_pos, mod_below}
use Rattle.std.proofs.lemmas.Bool.{cases_order}
use Rattle.std.proofs.lemmas.Nat.Bits.{bit_at-lt}
use Rattle.sw_topo.proofs.PortBits.{set_one, clear_zero}
use lib.Count.{ones_cat, ones-ones}
use lib.Pow.{mod-pow-add, split}

-- the ports below n of a set are the bits that it has below bit n
abbrev pub ports_below : ℕ → ℕ → ℕ
ports_below set n = count_ones (set % 2 ^ n)

bit-ones : (b : ℕ) → b < 2 → count_ones b ≡ b
bit-ones zero lt = ones-ones 0
bit-ones (suc zero) lt = ones-ones 1
bit-ones (suc (suc b)) lt = absurd (omega arith)

-- one number more counts its bit
ports_below-step : (set n : ℕ) → ports_below set (n + 1) ≡ bit_at set n + ports_below set n
ports_below-step set n =
    let turned : n + 1 ≡ 1 + n = omega arith in
    ap (λ (k : ℕ). ports_below set k) turned ∙ ap count_ones (mod-pow-add set 1 n)
    ∙ ones_cat n (bit_at set n) (set % 2 ^ n) (mod_below set (2 ^ n) (pow_pos n))
    ∙ ap (λ (b : ℕ). b + ports_below set n) (bit-ones (bit_at set n) (bit_at-lt set n))

-- a port of the set is one more below the next number
pub ports_below-member : (set n : ℕ) → IsBitSet set n → ports_below set (n + 1) ≡ ports_below set n + 1
ports_below-member set n member = omega (arith, ports_below-step set n, set_one set n member)

pub ports_below-other : (set n : ℕ) → ¬ IsBitSet set n → ports_below set (n + 1) ≡ ports_below set n
ports_below-other set n other = omega (arith, ports_below-step set n, clear_zero set n other)

ports_below-on : (set m d : ℕ) → ports_below set m ≤ ports_below set (m + d)
ports_below-on set m zero = let e : m + 0 ≡ m = omega arith in rw e (omega arith)
ports_below-on set m (suc d) =
    let e : m + suc d ≡ (m + d) + 1 = omega arith in
    rw e (omega (arith, ports_below-step set (m + d), ports_below-on set m d))

-- further up there are no fewer
pub ports_below-rises : (set m n : ℕ) → m ≤ n → ports_below set m ≤ ports_below set n
ports_below-rises set m n le =
    let e : m + (n - m) ≡ n = omega arith in
    rw e at (ports_below-on set m (n - m))

pub ports_below-all : (set n : ℕ) → ports_below set n ≤ count_ones set
ports_below-all set n =
    omega (arith, ones_cat n (set / 2 ^ n) (set % 2 ^ n) (mod_below set (2 ^ n) (pow_pos n)), ap count_ones (split set n))

-- a port of the set is not below itself
pub ports_below-lt : (set n : ℕ) → IsBitSet set n → ports_below set n < count_ones set
ports_below-lt set n member = omega (arith, ports_below-member set n member, ports_below-all set (n + 1))

-- two ports of the set have as many below them only if they are one
pub ports_below-distinct : (set p q : ℕ) → IsBitSet set p → IsBitSet set q → ports_below set p ≡ ports_below set q → p ≡ q
ports_below-distinct set p q in_p in_q e = elim (cases_order p q) [
  | inl same ↦ same
  | inr (inl lt) ↦ absurd (omega (arith, ports_below-member set p in_p, ports_below-rises set (p + 1) q (omega arith)))
  | inr (inr lt) ↦ absurd (omega (arith, ports_below-member set q in_q, ports_below-rises set (q + 1) p (omega arith)))
]
