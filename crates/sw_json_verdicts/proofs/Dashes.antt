-- A number before a dash is read back from what they begin.
use Rattle.std.proofs.Common.{◌≡◌, ℕ, ◌+◌, ◌%◌, ◌<◌, ◌^◌, List, [], ◌∷◌, ◌++◌, refl, sym, arith}
use Rattle.std.specs.Fmt.{decimal}
use Rattle.std.proofs.lemmas.Fmt.{decimal_by_steps, decimal_injective}
use Rattle.sw_json_verdicts.specs.Names.{NamesDiffer}

-- no byte of the text is a dash
abbrev HasNoDash : List ℕ → Type 0
HasNoDash [] = Unit {0}
HasNoDash (b ∷ bs) = (b ≡ 45 → ⊥) × HasNoDash bs

dashless_push : (bs : List ℕ) (b : ℕ) → HasNoDash bs → (b ≡ 45 → ⊥) → HasNoDash (bs ++ b ∷ [])
dashless_push [] b h other = (other, tt)
dashless_push (c ∷ bs) b h other = (h.0, dashless_push bs b h.1 other)

dashless_decimal : (n : ℕ) → n < 2 ^ 64 → HasNoDash (decimal n)
dashless_decimal = decimal_by_steps (λ n bs. HasNoDash bs) (λ n lt. ((λ e. omega arith), tt)) (λ n bs ge h. dashless_push bs (48 + n % 10) h (λ e. omega arith))

before_dash : (xs ys more rest : List ℕ) → HasNoDash xs → HasNoDash ys → xs ++ (45 ∷ more) ≡ ys ++ (45 ∷ rest) → xs ≡ ys
before_dash [] [] more rest h k e = refl
before_dash [] (y ∷ ys) more rest h k e = let first : 45 ≡ y = cc in absurd (k.0 (sym first))
before_dash (x ∷ xs) [] more rest h k e = let first : x ≡ 45 = cc in absurd (h.0 first)
before_dash (x ∷ xs) (y ∷ ys) more rest h k e =
    let first : x ≡ y = cc in
    let behind : xs ++ (45 ∷ more) ≡ ys ++ (45 ∷ rest) = cc in
    let same : xs ≡ ys = before_dash xs ys more rest h.1 k.1 behind in
    λ i. first i ∷ same i

pub names_differ : NamesDiffer
names_differ number other path second small few e =
    decimal_injective number other small few (before_dash (decimal number) (decimal other) _ _ (dashless_decimal number small) (dashless_decimal other few) e)
