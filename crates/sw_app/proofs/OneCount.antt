-- Two listings of the same members, each once, are of one length.
use Rattle.std.proofs.Common.{◌≡◌, ◌∙◌, ◌≢◌, ℕ, ◌+◌, ◌-◌, ◌<◌, ◌≤◌, List, [], ◌∷◌, ap, arith, get_or, inl, inr, length, sym}
use Rattle.std.specs.List.{remove}
use Rattle.std.specs.Prelude.{AllPairs, Contains}
use Rattle.std.proofs.lemmas.Bool.{cases_lt}
use Rattle.std.proofs.lemmas.List.{get_or_default}
use Rattle.std.proofs.lemmas.List.Edits.{get_or-remove_above, get_or-remove_below, length-remove}
use Rattle.sw_flow.proofs.Listed.{Contains-head, Contains-later}
use Rattle.sw_flow.proofs.Sorted.{before_rest, tail_pairs}

-- another member than the one that is removed
still_there : {X : Type 0} (ys : List X) (k : ℕ) (x z : X) → k < length ys → get_or ys k x ≡ x → (x ≢ z) → Contains ys z → Contains (remove ys k) z
still_there ys k x z lt at_k other (j, within, at_j) =
    let fewer : length (remove ys k) + 1 ≡ length ys = length-remove ys k lt in
    elim (cases_lt j k) [
      | inl before ↦ (j, omega arith, get_or-remove_below ys k z j before lt ∙ at_j)
      | inr past ↦ elim (cases_lt k j) [
        | inl after ↦
            let back : (j - 1) + 1 ≡ j = omega arith in
            (j - 1, omega arith, get_or-remove_above ys k z (j - 1) (omega arith) lt ∙ (ap (λ (i : ℕ). get_or ys i z) back ∙ at_j))
        | inr here ↦
            let same : j ≡ k = omega arith in
            absurd (other (sym at_k ∙ (get_or_default ys k x z lt ∙ (ap (λ (i : ℕ). get_or ys i z) (sym same) ∙ at_j))))
      ]
    ]

-- members that come once are at most as many as the members among which they are
no_more : {X : Type 0} (xs ys : List X) → AllPairs (λ x y. x ≢ y) xs → ((z : X) → Contains xs z → Contains ys z) → length xs ≤ length ys
no_more [] ys once among = omega arith
no_more (x ∷ xs) ys once among =
    let here = among x (Contains-head x xs) in
    let fewer : length (remove ys here.0) + 1 ≡ length ys = length-remove ys here.0 here.1 in
    let rest : length xs ≤ length (remove ys here.0) =
    no_more xs (remove ys here.0) (tail_pairs (λ a b. a ≢ b) x xs once)
    (λ z later. still_there ys here.0 x z here.1 here.2 (before_rest (λ a b. a ≢ b) x xs once z later) (among z (Contains-later x z xs later))) in
    omega arith

pub one_count : {X : Type 0} (xs ys : List X) → AllPairs (λ x y. x ≢ y) xs → AllPairs (λ x y. x ≢ y) ys → ((z : X) → Contains xs z → Contains ys z) → ((z : X) → Contains ys z → Contains xs z)
    → length xs ≡ length ys
one_count xs ys p q there back =
    let up = no_more xs ys p there in
    let down = no_more ys xs q back in
    omega arith
