-- One port of a set, as one bit of its number.
use Rattle.std.proofs.Common.{◌≡◌, ◌≢◌, ℕ, zero, suc, ◌-◌, ◌*◌, ◌%◌, ◌^◌, ◌<◌, ◌≤◌, ◌↔◌, ◌⊎◌, inl, inr, refl, sym, ◌∙◌, arith}
use Rattle.std.specs.Prelude.{IsBitSet, bit_and, bit_or, List, [], ◌∷◌, ◌++◌, fold, Contains}
use Rattle.std.specs.Int.{bit_at, bit_not, w32, trailing_zeros}
use Rattle.std.proofs.lemmas.Bool.{cases_eq, cases_lt}
use Rattle.std.proofs.lemmas.List.Elements.{Contains-append_left, Contains-append_right, Contains-append_cases, Contains-push, Contains-push_cases}
use Rattle.std.proofs.lemmas.Nat.{pow_pos}
use Rattle.std.proofs.lemmas.Nat.Bits.{and_pow, bit_at-lt, bit_at_and, bit_at_or, bit_at-pow_same, bit_at-pow_other, bit_at-trailing_zeros, bit_at_above, bit_at-zero, bit_at_clear_same, bit_at_clear_other, bit_at_mask_inside, bit_at_mask_below, ones_shl, same_from_bits}
use Rattle.sw_topo.specs.Ports.{port_set, NoneFrom, IsLeastFrom, PortSetHasThePorts}

-- a bit that is set is 1, and one that is 1 is set
pub set_one : (n k : ℕ) → IsBitSet n k → bit_at n k ≡ 1
set_one n k set = by (bit_at n k) refl (bit_at-lt n k)
  where
    by : (b : ℕ) → b ≡ bit_at n k → b < 2 → b ≡ 1
    by zero e lt = absurd (set (and_pow n k ∙ rw (← e) (omega arith)))
    by (suc b) e lt = omega arith

pub one_set : (n k : ℕ) → bit_at n k ≡ 1 → IsBitSet n k
one_set n k one none = omega (arith, pow_pos k, rw one at (sym (and_pow n k) ∙ none))

-- a bit that is not set is 0
pub clear_zero : (n k : ℕ) → ¬ IsBitSet n k → bit_at n k ≡ 0
clear_zero n k clear = by (bit_at n k) refl (bit_at-lt n k)
  where
    by : (b : ℕ) → b ≡ bit_at n k → b < 2 → b ≡ 0
    by zero e lt = refl
    by (suc b) e lt = let one : bit_at n k ≡ 1 = omega arith in absurd (clear (one_set n k one))

pub zero_clear : (n k : ℕ) → bit_at n k ≡ 0 → ¬ IsBitSet n k
zero_clear n k none set = omega (arith, set_one n k set)

-- a set's ports are below 32
pub set_below : (n k : ℕ) → n < 2 ^ 32 → IsBitSet n k → k < 32
set_below n k small set = elim (cases_lt k 32) [ inl lt ↦ lt | inr past ↦ absurd (omega (arith, set_one n k set, bit_at_above n 32 k small past)) ]

pub pow_members : (k p : ℕ) → IsBitSet (2 ^ k) p ↔ (p ≡ k)
pow_members k p = (
  λ set. elim (cases_eq p k) [ inl same ↦ same | inr other ↦ absurd (zero_clear (2 ^ k) p (bit_at-pow_other k p other) set) ],
  λ same. rw same (one_set (2 ^ k) k (bit_at-pow_same k)),
)

pub and_members : (a b p : ℕ) → IsBitSet (bit_and a b) p ↔ (IsBitSet a p × IsBitSet b p)
and_members a b p = (
  λ set.
      (one_set a p (omega (arith, set_one (bit_and a b) p set, bit_at_and a b p, bit_at-lt a p)), one_set b p (omega (arith, set_one (bit_and a b) p set, bit_at_and a b p, bit_at-lt b p))),
  λ both. one_set (bit_and a b) p (omega (arith, set_one a p both.0, set_one b p both.1, bit_at_and a b p)),
)

pub or_members : (a b p : ℕ) → IsBitSet (bit_or a b) p ↔ (IsBitSet a p ⊎ IsBitSet b p)
or_members a b p = (
  λ set. elim (cases_eq (bit_at a p) 1) [
    | inl in_a ↦ inl (one_set a p in_a)
    | inr not_a ↦ inr (one_set b p (omega (arith, set_one (bit_or a b) p set, bit_at_or a b p, bit_at-lt a p, bit_at-lt b p)))
  ],
  λ either. elim either [
    | inl in_a ↦ one_set (bit_or a b) p (omega (arith, set_one a p in_a, bit_at_or a b p, bit_at-lt b p))
    | inr in_b ↦ one_set (bit_or a b) p (omega (arith, set_one b p in_b, bit_at_or a b p, bit_at-lt a p))
  ],
)

-- what `!(1 << k)` leaves
pub clear_same : (n k : ℕ) → k < 32 → ¬ IsBitSet (bit_and n (bit_not w32 (1 * 2 ^ k % 2 ^ 32))) k
clear_same n k lt = zero_clear _ k (bit_at_clear_same w32 n k lt)

pub clear_other : (n k p : ℕ) → n < 2 ^ 32 → k < 32 → p ≢ k → IsBitSet (bit_and n (bit_not w32 (1 * 2 ^ k % 2 ^ 32))) p ↔ IsBitSet n p
clear_other n k p small lt other = (
  λ set. ((and_members n _ p).0 set).0,
  λ set. one_set _ p (bit_at_clear_other w32 n k lt p (set_below n p small set) other ∙ set_one n p set),
)

-- the set with no port is 0
pub none_zero : (n : ℕ) → NoneFrom 0 n → n ≡ 0
none_zero n none = same_from_bits n 0 (λ i. clear_zero n i (none i (omega arith)) ∙ sym (bit_at-zero i))

pub zero_none : (n : ℕ) → n ≡ 0 → NoneFrom 0 n
zero_none n e p le set = set (rw e refl)

pub first_least : (n : ℕ) → n ≢ 0 → n < 2 ^ 32 → IsLeastFrom 0 n (trailing_zeros w32 n)
first_least n some small =
    let pos : 0 < n = omega arith in
    let found = bit_at-trailing_zeros w32 n pos small in
    record { port = found.0; reached = omega arith; member = one_set n _ found.1; least = λ q le lt. zero_clear n q (found.2 q lt) }

-- what `MAX << m` leaves
pub rest_members : (n m p : ℕ) → n < 2 ^ 32 → m < 32 → IsBitSet (bit_and n ((2 ^ 32 - 1) * 2 ^ m % 2 ^ 32)) p ↔ ((m ≤ p) × IsBitSet n p)
rest_members n m p small lt = rw (ones_shl 32 m (omega arith)) (
  λ set. let both = (and_members n (2 ^ 32 - 2 ^ m) p).0 set in
      elim (cases_lt p m) [
        | inl below ↦ absurd (zero_clear (2 ^ 32 - 2 ^ m) p (bit_at_mask_below m 32 p below) both.1)
        | inr past ↦ (past, both.0)
      ],
  λ both. (and_members n (2 ^ 32 - 2 ^ m) p).1 (both.1, one_set (2 ^ 32 - 2 ^ m) p (bit_at_mask_inside m 32 p both.0 (set_below n p small both.1))),
)

-- the least port of what is left is the least from m on
pub rest_least : (n m p : ℕ) → n < 2 ^ 32 → m < 32 → IsLeastFrom 0 (bit_and n ((2 ^ 32 - 1) * 2 ^ m % 2 ^ 32)) p → IsLeastFrom m n p
rest_least n m p small lt first =
    let here = (rest_members n m p small lt).0 first.member in
    record { port = first.port; reached = here.0; member = here.1; least = λ q le below set. first.least q (omega arith) below ((rest_members n m q small lt).1 (le, set)) }

pub rest_none : (n m : ℕ) → n < 2 ^ 32 → m < 32 → (bit_and n ((2 ^ 32 - 1) * 2 ^ m % 2 ^ 32) ≡ 0) ↔ NoneFrom m n
rest_none n m small lt = (
  λ none p le set. zero_none _ none p (omega arith) ((rest_members n m p small lt).1 (le, set)),
  λ none. none_zero _ (λ p le set. let both = (rest_members n m p small lt).0 set in none p both.0 both.1),
)

-- no port is 32 or more
pub none_past : (n m : ℕ) → n < 2 ^ 32 → 32 ≤ m → NoneFrom m n
none_past n m small past p le set = omega (arith, set_below n p small set)

fold_push : (set : ℕ) (numbers : List ℕ) (n : ℕ) → fold (λ s p. bit_or s (2 ^ p)) set (numbers ++ n ∷ []) ≡ bit_or (fold (λ s p. bit_or s (2 ^ p)) set numbers) (2 ^ n)
fold_push set [] n = refl
fold_push set (m ∷ ms) n = fold_push (bit_or set (2 ^ m)) ms n

-- one more port in the list is one more in the set
pub port_set_push : (numbers : List ℕ) (n : ℕ) → port_set (numbers ++ n ∷ []) ≡ bit_or (port_set numbers) (2 ^ n)
port_set_push numbers n = fold_push 0 numbers n

fold_members : (set : ℕ) (numbers : List ℕ) (p : ℕ) → IsBitSet (fold (λ s n. bit_or s (2 ^ n)) set numbers) p ↔ (IsBitSet set p ⊎ Contains numbers p)
fold_members set [] p = (λ here. inl here, λ either. elim either [ inl here ↦ here | inr there ↦ absurd (omega (arith, there.1)) ])
fold_members set (n ∷ ns) p = (
  λ here. elim ((fold_members (bit_or set (2 ^ n)) ns p).0 here) [
    | inl now ↦ elim ((or_members set (2 ^ n) p).0 now) [
      | inl before ↦ inl before
      | inr new ↦ inr (rw ((pow_members n p).0 new) (Contains-append_left (n ∷ []) ns n (Contains-push [] n)))
    ]
    | inr later ↦ inr (Contains-append_right (n ∷ []) ns p later)
  ],
  λ either. (fold_members (bit_or set (2 ^ n)) ns p).1 (elim either [
    | inl before ↦ inl ((or_members set (2 ^ n) p).1 (inl before))
    | inr named ↦ elim (Contains-append_cases (n ∷ []) ns p named) [
      | inl first ↦ elim (Contains-push_cases [] n p first) [
        | inl none ↦ absurd (omega (arith, none.1))
        | inr same ↦ inl ((or_members set (2 ^ n) p).1 (inr ((pow_members n p).1 (sym same))))
      ]
      | inr later ↦ inr later
    ]
  ]),
)

-- a port is in the set where the list names it
pub port_set_members : PortSetHasThePorts
port_set_members numbers p = (
  λ here. elim ((fold_members 0 numbers p).0 here) [ inl none ↦ absurd (none refl) | inr named ↦ named ],
  λ named. (fold_members 0 numbers p).1 (inr named),
)
