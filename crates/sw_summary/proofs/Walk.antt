-- What the walk over the tallies finds.
use Rattle.std.proofs.Common.{List, [], ap, arith, min, refl, suc, zero, ℕ, ◌+◌, ◌-◌, ◌∙◌, ◌∷◌, ◌≡◌}
use Rattle.std.proofs.lemmas.Bool.Decides.{nat_tests}
use Rattle.std.specs.Prelude.{if◌then◌else◌, nat_lt}
use Rattle.sw_summary.specs.Items.{Item, shares, times}
use Rattle.sw_summary.specs.KeyCounts.{KeyCountView, found, key_counts, left, taken, taken_all}
use Rattle.sw_summary.proofs.Different.{one_itself, split_at, sum_cons, sum_of, zeroed, zeroed_alike}
use Rattle.sw_summary.proofs.Left.{left_is, left_taken}
use Rattle.sw_summary.proofs.Same.{times_cons}

first_found : (n count : ℕ) → (if nat_lt 0 count then 1 else 0) + min n (count - 1) ≡ min (1 + n) count
first_found n zero = omega arith
first_found n (suc count) = grind (arith, nat_tests)

found_is : (items : List Item) (ts : List KeyCountView) → found ts items ≡ sum_of (λ p. min (times p items) (left p ts)) items
found_is [] ts = refl
found_is (x ∷ xs) ts =
    let all : Item → ℕ = λ p. min (times p (x ∷ xs)) (left p ts) in
    let rest : Item → ℕ = λ p. min (times p xs) (left p (taken x ts)) in
    let later : found (taken x ts) xs ≡ sum_of rest xs = found_is xs (taken x ts) in
    let part : sum_of rest xs ≡ sum_of (zeroed x rest) xs + rest x = split_at x xs rest (λ none. omega (arith, none)) in
    let sum : sum_of all (x ∷ xs) ≡ all x + sum_of (zeroed x all) xs = sum_cons all x xs in
    let same : sum_of (zeroed x all) xs ≡ sum_of (zeroed x rest) xs =
    ap (λ (g : Item → ℕ). sum_of g xs)
    (zeroed_alike x all rest (λ p other. (let many = times_cons p x xs in let fewer = left_taken p x ts in omega (arith, many, fewer, other)))) in
    let many = times_cons x x xs in
    let fewer = left_taken x x ts in
    let itself = one_itself x in
    let first = first_found (times x xs) (left x ts) in
    let here : all x ≡ min (1 + times x xs) (left x ts) = omega (arith, many, itself) in
    let there : rest x ≡ min (times x xs) (left x ts - 1) = omega (arith, fewer, itself) in
    omega (arith, later, part, sum, same, first, here, there)

-- the walk finds each one's share
pub walk_is : (came before mine : List Item) → found (taken_all (key_counts came) before) mine ≡ shares came before mine
walk_is came before mine =
    found_is mine (taken_all (key_counts came) before) ∙ ap (λ (f : Item → ℕ). sum_of f mine) (λ i p. min (times p mine) (left_is p came before i))
