-- The one spelling of a number.
use Rattle.std.proofs.Common.{◌≡◌, ◌≢◌, ℕ, ◌+◌, ◌-◌, ◌*◌, ◌/◌, ◌%◌, ◌^◌, ◌<◌, ◌≤◌, Bool, true, false, ◌&&◌, not, List, [], ◌∷◌, ◌++◌, length, get_or, refl, sym, ap, ◌∙◌, inl, inr, arith, eq-eqb, ne_eqb, Some, None, append_assoc, append-nil}
use Rattle.std.specs.Prelude.{nat_le, nat_lt, ◌==◌}
use Rattle.std.specs.Fmt.{decimal}
use Rattle.std.proofs.lemmas.Bool.{cases_eq, cases_Bool, false≢true, and_parts, and_from, leb-true, le-leb, ltb-true, lt-ltb}
use Rattle.std.proofs.lemmas.Fmt.{decimal_digit, decimal_step, decimal_by_steps}
use Rattle.sw_text.specs.Number.{goes_on, number_of, ill_begun, is_empty}
use Rattle.sw_topo.proofs.Lists.{none_some}

abbrev passes : ℕ → ℕ → ℕ → Bool
passes limit n c = nat_le 48 c && (nat_lt c 58 && nat_le (10 * n + (c - 48)) limit)

passes_parts : (limit n c : ℕ) → passes limit n c ≡ true → (48 ≤ c) × (c < 58) × (10 * n + (c - 48) ≤ limit)
passes_parts limit n c e =
    let a = and_parts (nat_le 48 c) (nat_lt c 58 && nat_le (10 * n + (c - 48)) limit) e in
    let b = and_parts (nat_lt c 58) (nat_le (10 * n + (c - 48)) limit) a.1 in
    (leb-true 48 c a.0, ltb-true c 58 b.0, leb-true (10 * n + (c - 48)) limit b.1)

passes_from : (limit n c : ℕ) → 48 ≤ c → c < 58 → 10 * n + (c - 48) ≤ limit → passes limit n c ≡ true
passes_from limit n c a b d = and_from _ _ (le-leb 48 c a) (and_from _ _ (lt-ltb c 58 b) (le-leb (10 * n + (c - 48)) limit d))

-- one more digit
decimal_more : (n d : ℕ) → 0 < n → d < 10 → n < 2 ^ 30 → decimal (10 * n + d) ≡ decimal n ++ (48 + d) ∷ []
decimal_more n d pos low few =
    let q : (10 * n + d) / 10 ≡ n = omega arith in
    let r : (10 * n + d) % 10 ≡ d = omega arith in
    decimal_step (10 * n + d) (omega arith) (omega arith) ∙ ap (λ k. decimal k ++ (48 + (10 * n + d) % 10) ∷ []) q ∙ ap (λ k. decimal n ++ (48 + k) ∷ []) r

-- what digits go on to
pub goes_spelled : (limit n m : ℕ) (cs : List ℕ) → limit < 2 ^ 24 → 0 < n → n ≤ limit → goes_on limit n cs ≡ Some m → (decimal m ≡ decimal n ++ cs) × (m ≤ limit)
goes_spelled limit n m [] few pos le e = let s : n ≡ m = cc in (ap decimal (sym s) ∙ sym (append-nil (decimal n)), omega arith)
goes_spelled limit n m (c ∷ cs) few pos le e = elim (cases_Bool (passes limit n c)) [
  | inl t ↦
      let h = passes_parts limit n c t in
      let h0 = h.0 in let h1 = h.1 in let h2 = h.2 in
      let next : goes_on limit (10 * n + (c - 48)) cs ≡ Some m = rw t at e in
      let r = goes_spelled limit (10 * n + (c - 48)) m cs few (omega arith) h2 next in
      let more = decimal_more n (c - 48) pos (omega arith) (omega arith) in
      let same : 48 + (c - 48) ≡ c = omega arith in
      (r.0 ∙ ap (λ l. l ++ cs) (more ∙ ap (λ k. decimal n ++ k ∷ []) same) ∙ append_assoc (decimal n) (c ∷ []) cs, r.1)
  | inr f ↦ let bad : None ≡ Some m = rw f at e in absurd (none_some m bad)
]

-- what is read is spelled so
pub read_spelled : (limit n : ℕ) (bytes : List ℕ) → limit < 2 ^ 24 → number_of limit bytes ≡ Some n → (bytes ≡ decimal n) × (n ≤ limit)
read_spelled limit n [] few e = absurd (none_some n e)
read_spelled limit n (c ∷ cs) few e = elim (cases_Bool (ill_begun (c ∷ cs))) [
  | inl t ↦ let bad : None ≡ Some n = rw t at e in absurd (none_some n bad)
  | inr f ↦
      let start : goes_on limit 0 (c ∷ cs) ≡ Some n = rw f at e in
      elim (cases_Bool (passes limit 0 c)) [
        | inl t ↦
            let h = passes_parts limit 0 c t in
            let h0 = h.0 in let h1 = h.1 in let h2 = h.2 in
            let next : goes_on limit (10 * 0 + (c - 48)) cs ≡ Some n = rw t at start in
            let one : decimal (10 * 0 + (c - 48)) ≡ c ∷ [] = decimal_digit (10 * 0 + (c - 48)) (omega arith) ∙ (let s : 48 + (10 * 0 + (c - 48)) ≡ c = omega arith in ap (λ k. k ∷ []) s) in
            elim (cases_eq c 48) [
              | inl z ↦ let alone = only_zero c cs z f in let n_is : 10 * 0 + (c - 48) ≡ n = some_same (10 * 0 + (c - 48)) n (ap (goes_on limit (10 * 0 + (c - 48))) (sym alone) ∙ next) in (ap (λ l. c ∷ l) alone ∙ sym one ∙ ap decimal n_is, omega arith)
              | inr nz ↦ let r = goes_spelled limit (10 * 0 + (c - 48)) n cs few (omega arith) h2 next in (sym (r.0 ∙ ap (λ l. l ++ cs) one), r.1)
            ]
        | inr g ↦ let bad : None ≡ Some n = rw g at start in absurd (none_some n bad)
      ]
]
  where
    some_same : (a b : ℕ) → Some a ≡ Some b → a ≡ b
    some_same a b e = cc

    only_zero : (c : ℕ) (cs : List ℕ) → c ≡ 48 → ill_begun (c ∷ cs) ≡ false → cs ≡ []
    only_zero c [] z f = refl
    only_zero c (x ∷ cs) z f = absurd (false≢true (sym f ∙ ap (λ b. b && true) (eq-eqb c 48 z)))

goes_push : (limit m q c : ℕ) (ds : List ℕ) → goes_on limit m ds ≡ Some q → passes limit q c ≡ true → goes_on limit m (ds ++ c ∷ []) ≡ Some (10 * q + (c - 48))
goes_push limit m q c [] e t = let s : m ≡ q = cc in let t2 : passes limit m c ≡ true = ap (λ k. passes limit k c) s ∙ t in rw t2 (ap (λ k. Some (10 * k + (c - 48))) s)
goes_push limit m q c (x ∷ ds) e t = elim (cases_Bool (passes limit m x)) [
  | inl p ↦ let next : goes_on limit (10 * m + (x - 48)) ds ≡ Some q = rw p at e in rw p (goes_push limit (10 * m + (x - 48)) q c ds next t)
  | inr f ↦ let bad : None ≡ Some q = rw f at e in absurd (none_some q bad)
]

-- what holds of a number's spelling
record Spelled (n : ℕ) (ds : List ℕ) : Type 0 where
  goes : (limit : ℕ) → n ≤ limit → goes_on limit 0 ds ≡ Some n
  begun : ill_begun ds ≡ false
  head : 0 < n → (0 < length ds) × (get_or ds 0 0 ≢ 48)

and_false : (b : Bool) → (b && false) ≡ false
and_false true = refl
and_false false = refl

ill_push : (ds : List ℕ) (y : ℕ) → 0 < length ds → get_or ds 0 0 ≢ 48 → (ill_begun (ds ++ y ∷ []) ≡ false) × (get_or (ds ++ y ∷ []) 0 0 ≡ get_or ds 0 0) × (0 < length (ds ++ y ∷ []))
ill_push [] y lt ne = absurd (omega arith)
ill_push (x ∷ ds) y lt ne = (ap (λ b. b && not (is_empty (ds ++ y ∷ []))) (ne_eqb x 48 ne), refl, omega arith)

pub spelled_read : (limit n : ℕ) → limit < 2 ^ 24 → n ≤ limit → number_of limit (decimal n) ≡ Some n
spelled_read limit n few le = let s = decimal_by_steps Spelled one more n (omega arith) in rw s.begun (s.goes limit le)
  where
    one : (n : ℕ) → n < 10 → Spelled n ((48 + n) ∷ [])
    one n lt = record {
      goes = λ limit le. let s : 10 * 0 + (48 + n - 48) ≡ n = omega arith in goes_push limit 0 0 (48 + n) [] refl (passes_from limit 0 (48 + n) (omega arith) (omega arith) (omega arith)) ∙ ap Some s;
      begun = and_false (48 + n == 48);
      head = λ pos. (omega arith, λ e. omega arith);
    }

    more : (n : ℕ) (ds : List ℕ) → 10 ≤ n → Spelled (n / 10) ds → Spelled n (ds ++ (48 + n % 10) ∷ [])
    more n ds big s =
        let h = s.head (omega arith) in
        let p = ill_push ds (48 + n % 10) h.0 h.1 in
        record {
          goes = λ limit le. let r : 10 * (n / 10) + (48 + n % 10 - 48) ≡ n = omega arith in goes_push limit 0 (n / 10) (48 + n % 10) ds (s.goes limit (omega arith)) (passes_from limit (n / 10) (48 + n % 10) (omega arith) (omega arith) (omega arith)) ∙ ap Some r;
          begun = p.0;
          head = λ pos. (p.2, λ e. h.1 (sym p.1 ∙ e));
        }
