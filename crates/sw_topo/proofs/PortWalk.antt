-- The ports of a set, as a walk gives them.
use Rattle.std.proofs.Common.{◌≡◌, ◌≢◌, ℕ, zero, suc, ◌+◌, ◌-◌, ◌/◌, ◌%◌, ◌^◌, ◌<◌, ◌≤◌, ◌↔◌, Bool, true, false, cond, length, List, [], ◌∷◌, refl, sym, ap, ◌∙◌, inl, inr, arith, filter, get_or, zero-add, All}
use Rattle.std.specs.Prelude.{IsBitSet, bit_and, Contains, count_by}
use Rattle.std.specs.Int.{bit_at}
use Rattle.std.specs.Int.Count.{ones, ones_step}
use Rattle.std.proofs.lemmas.Nat.{ones-le}
use Rattle.std.proofs.Math.Nat.{pow-suc}
use Rattle.std.proofs.lemmas.Nat.Bits.{bit_at-suc, bit_at_lowest, bit_at-lt}
use Rattle.std.proofs.lemmas.List.Sums.{sum_by-cons, length-filter, count_by-le-length}
use Rattle.sw_topo.proofs.PortBits.{one_set, set_one}
use Rattle.std.specs.List.{range_with_len}
use Rattle.std.specs.List.Sorted.{IsStrictlyIncreasing}
use Rattle.std.proofs.lemmas.List.Elements.{Contains-get_or, All-contains, All-filter, filter_passes, filter_agree}
use Rattle.std.proofs.lemmas.List.FromFn.{length-range_with_len, get_or-range_with_len}
use Rattle.std.proofs.lemmas.List.Kept.{IsStrictlyIncreasing-filter}
use Rattle.std.proofs.lemmas.Bool.{cases_eq, cases_lt, ne_eqb, eq-eqb, false≢true}
use Rattle.sw_topo.specs.Ports.{has_port, ports_of, NoneFrom, IsLeastFrom, IsListed, PortsAreListed}
use Rattle.sw_topo.proofs.Lists.{kept}

pub has_set : (set p : ℕ) → IsBitSet set p → has_port set p ≡ true
has_set set p here = rw (ne_eqb (bit_and set (2 ^ p)) 0 here) refl

has_not : (set p : ℕ) → ¬ IsBitSet set p → has_port set p ≡ false
has_not set p none = elim (cases_eq (bit_and set (2 ^ p)) 0) [ inl gone ↦ rw (eq-eqb _ _ gone) refl | inr here ↦ absurd (none here) ]

has_alike : (s t p : ℕ) → (IsBitSet s p ↔ IsBitSet t p) → has_port s p ≡ has_port t p
has_alike s t p alike =
    elim (cases_eq (bit_and t (2 ^ p)) 0) [
      | inl gone ↦ has_not s p (λ here. alike.0 here gone) ∙ sym (has_not t p (λ here. here gone))
      | inr here ↦ has_set s p (alike.1 here) ∙ sym (has_set t p here)
    ]

-- numbers from a on that fail are left out
skip : (p : ℕ → Bool) (a k n m e : ℕ) → m ≡ k + n → e ≡ a + k → ((q : ℕ) → a ≤ q → q < a + k → p q ≡ false) → filter p (range_with_len a m) ≡ filter p (range_with_len e n)
skip p a zero n m e count end fails = let x : m ≡ n = omega arith in let y : e ≡ a = omega arith in rw (x, y) refl
skip p a (suc k) n zero e count end fails = absurd (omega arith)
skip p a (suc k) n (suc m) e count end fails = rw (fails a (omega arith) (omega arith)) (skip p (a + 1) k n m e (omega arith) (omega arith) (λ q low high. fails q (omega arith) (omega arith)))

-- tests that agree from a on keep the same
agree : (p q : ℕ → Bool) (a m : ℕ) → ((x : ℕ) → a ≤ x → p x ≡ q x) → filter p (range_with_len a m) ≡ filter q (range_with_len a m)
agree p q a zero same = refl
agree p q a (suc m) same = rw (same a (omega arith), agree p q (a + 1) m (λ x low. same x (omega arith))) refl

module _ (n s : ℕ) where
  nothing_left : NoneFrom 0 s → filter (has_port s) (range_with_len 0 n) ≡ []
  nothing_left none = skip (has_port s) 0 n 0 n n (omega arith) (omega arith) (λ q low high. has_not s q (none q low))

  first_left : (t f : ℕ) → f < n → IsLeastFrom 0 s f → ¬ IsBitSet t f → ((p : ℕ) → p ≢ f → (IsBitSet t p ↔ IsBitSet s p)) → filter (has_port s) (range_with_len 0 n) ≡ f ∷ filter (has_port t) (range_with_len 0 n)
  first_left t f within least gone others =
      let rest = n - (f + 1) in
      let below : (q : ℕ) → q < f → ¬ IsBitSet t q = λ q lt here. least.least q (omega arith) lt ((others q (λ e. omega (arith, e))).0 here) in
      let from_f : filter (has_port s) (range_with_len 0 n) ≡ filter (has_port s) (range_with_len f (suc rest)) =
      skip (has_port s) 0 f (suc rest) n f (omega arith) (omega arith) (λ q low high. has_not s q (least.least q low (omega arith))) in
      let after_f : filter (has_port t) (range_with_len 0 n) ≡ filter (has_port t) (range_with_len (f + 1) rest) =
      skip (has_port t) 0 (f + 1) rest n (f + 1) (omega arith) (omega arith) (λ q low high. elim (cases_lt q f) [
        | inl before ↦ has_not t q (below q before)
        | inr past ↦ let same : q ≡ f = omega arith in rw same (has_not t f gone)
      ]) in
      let alike : filter (has_port s) (range_with_len (f + 1) rest) ≡ filter (has_port t) (range_with_len (f + 1) rest) =
      agree (has_port s) (has_port t) (f + 1) rest (λ x low. sym (has_alike t s x (others x (λ e. omega (arith, e))))) in
      let here : filter (has_port s) (range_with_len f (suc rest)) ≡ f ∷ filter (has_port s) (range_with_len (f + 1) rest) = ap (λ b. cond b (f ∷ filter (has_port s) (range_with_len (f + 1) rest)) (filter (has_port s) (range_with_len (f + 1) rest))) (has_set s f least.member) in
      from_f ∙ here ∙ ap (λ ps. f ∷ ps) (alike ∙ sym after_f)

-- an empty set has no ports
pub ports_none : (s : ℕ) → NoneFrom 0 s → ports_of s ≡ []
unfolding ports_of
ports_none = nothing_left 32

-- the least port comes first, and then those of the set without it
pub ports_first : (s t f : ℕ) → IsLeastFrom 0 s f → ¬ IsBitSet t f → ((p : ℕ) → p ≢ f → (IsBitSet t p ↔ IsBitSet s p)) → ports_of s ≡ f ∷ ports_of t
unfolding ports_of
ports_first s t f least = first_left 32 s t f least.port least

range_rises : (a n : ℕ) → IsStrictlyIncreasing (range_with_len a n)
range_rises a n k lt =
    let short : k + 1 < n = omega (arith, length-range_with_len a n) in
    rw (get_or-range_with_len a n k 0 (omega arith), get_or-range_with_len a n (k + 1) 0 short) (omega arith)

in_range : (n x : ℕ) → x < n → Contains (range_with_len 0 n) x
in_range n x lt =
    let at : get_or (range_with_len 0 n) x 0 ≡ x = get_or-range_with_len 0 n x 0 lt ∙ zero-add x in
    rw at at (Contains-get_or (range_with_len 0 n) x 0 (omega (arith, length-range_with_len 0 n)))

range_below : (n : ℕ) → All (λ x. x < n) (range_with_len 0 n)
range_below n k d lt = let short : k < n = omega (arith, length-range_with_len 0 n) in rw (get_or-range_with_len 0 n k d short) (omega arith)

listed : (n s : ℕ) → IsListed n s (filter (has_port s) (range_with_len 0 n))
listed n s =
    let ports = range_with_len 0 n in
    record {
      rising = IsStrictlyIncreasing-filter (has_port s) ports (range_rises 0 n);
      members = λ p. (
        λ here.
            let passes : has_port s p ≡ true = All-contains (λ x. has_port s x ≡ true) (filter (has_port s) ports) p (filter_passes (has_port s) ports) here in
            (All-contains (λ x. x < n) (filter (has_port s) ports) p (All-filter (has_port s) (λ x. x < n) ports (range_below n)) here, λ none. false≢true (sym (has_not s p (λ set. set none)) ∙ passes)),
        λ both. kept (has_port s) ports p (in_range n p both.0) (has_set s p both.1),
      );
    }

pub ports_listed : PortsAreListed
unfolding ports_of
ports_listed = listed 32

-- ---- how many there are

shifted : (p : ℕ → Bool) (a k : ℕ) → count_by p (range_with_len (a + 1) k) ≡ count_by (λ i. p (i + 1)) (range_with_len a k)
shifted p a zero = refl
shifted p a (suc k) = sum_by-cons (λ i. cond (p i) 1 0) (a + 1) (range_with_len (a + 1 + 1) k) ∙ ap (λ n. cond (p (a + 1)) 1 0 + n) (shifted p (a + 1) k) ∙ sym (sum_by-cons (λ i. cond (p (i + 1)) 1 0) a (range_with_len (a + 1) k))

alike_counted : (p q : ℕ → Bool) (xs : List ℕ) → ((i : ℕ) → p i ≡ q i) → count_by p xs ≡ count_by q xs
alike_counted p q xs same = sym (length-filter p xs) ∙ ap length (filter_agree p q same xs) ∙ length-filter q xs

half_has : (s i : ℕ) → has_port s (i + 1) ≡ has_port (s / 2) i
half_has s i =
    let e : i + 1 ≡ suc i = omega arith in
    let bits : bit_at s (i + 1) ≡ bit_at (s / 2) i = ap (bit_at s) e ∙ bit_at-suc s i in
    elim (cases_eq (bit_at (s / 2) i) 1) [
      | inl one ↦ has_set s (i + 1) (one_set s (i + 1) (bits ∙ one)) ∙ sym (has_set (s / 2) i (one_set (s / 2) i one))
      | inr other ↦ has_not s (i + 1) (λ set. other (sym bits ∙ set_one s (i + 1) set)) ∙ sym (has_not (s / 2) i (λ set. other (set_one (s / 2) i set)))
    ]

lowest_has : (s : ℕ) → cond (has_port s 0) 1 0 ≡ s % 2
lowest_has s =
    elim (cases_eq (bit_at s 0) 1) [
      | inl one ↦ rw (has_set s 0 (one_set s 0 one)) (sym one ∙ bit_at_lowest s)
      | inr other ↦ rw (has_not s 0 (λ set. other (set_one s 0 set))) (omega (arith, bit_at_lowest s, bit_at-lt s 0, other))
    ]

counted_ones : (k s : ℕ) → s < 2 ^ k → count_by (has_port s) (range_with_len 0 k) ≡ ones s
counted_ones zero s small = omega (arith, ones-le 0 s small)
counted_ones (suc k) s small =
    let rest : count_by (has_port s) (range_with_len 1 k) ≡ ones (s / 2) =
    shifted (has_port s) 0 k ∙ alike_counted (λ i. has_port s (i + 1)) (has_port (s / 2)) (range_with_len 0 k) (half_has s) ∙ counted_ones k (s / 2) (omega (arith, pow-suc 2 k)) in
    sum_by-cons (λ i. cond (has_port s i) 1 0) 0 (range_with_len 1 k) ∙ omega (arith, rest, lowest_has s, ones_step s)

count_listed : (n s : ℕ) → s < 2 ^ n → length (filter (has_port s) (range_with_len 0 n)) ≡ ones s
count_listed n s small = length-filter (has_port s) (range_with_len 0 n) ∙ counted_ones n s small

-- a set has as many ports as its number has ones
pub ports_counted : (s : ℕ) → s < 2 ^ 32 → length (ports_of s) ≡ ones s
unfolding ports_of
ports_counted = count_listed 32

few_listed : (n s : ℕ) → length (filter (has_port s) (range_with_len 0 n)) ≤ n
few_listed n s = omega (arith, length-filter (has_port s) (range_with_len 0 n), count_by-le-length (has_port s) (range_with_len 0 n), length-range_with_len 0 n)

pub ports_few : (s : ℕ) → length (ports_of s) ≤ 32
unfolding ports_of
ports_few = few_listed 32
