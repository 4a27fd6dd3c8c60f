-- A cargo text is read exactly where it spells bytes.
use Rattle.std.proofs.Common.{◌≡◌, ℕ, suc, ◌+◌, ◌-◌, ◌*◌, ◌≤◌, ◌<◌, true, false, ◌&&◌, List, [], ◌∷◌, ◌++◌, length, drop, get_or, refl, sym, ap, subst, ◌∙◌, ◌⊎◌, drop-cons, eqb-true, arith, inl, inr, append_assoc, append-nil, Option, Some, None, not, take, cond, ne_eqb, eq-eqb}
use Rattle.std.specs.Prelude.{if◌then◌else◌, nat_le, ◌==◌, fold, option_and_then, option_map, replicate, slice_index}
use Rattle.std.specs.List.{list_all}
use Rattle.std.specs.Option.{option_to_list}
use Rattle.std.proofs.lemmas.List.{drop_all}
use Rattle.std.proofs.lemmas.List.Elements.{filter_more}
use Rattle.std.proofs.lemmas.Bool.{cases_Bool, and_parts, and_from, leb-true, le-leb}
use Rattle.sw_load.specs.Cargo.{without_spaces, IsRepeated, CargoIsRead, cargo_of, bytes_of, is_repetition, repeated_of, hex_pair, ArePairs, is_digit, is_well_begun, IsCount, IsPairs, count_after, count_of, bytes_after, if_some_and_few, pairs_of}
use Rattle.sw_config.proofs.Lists.{and_false, none_some}

-- a character more that is kept, or left out as a space
pub bare_kept : (text bare : List ℕ) (i : ℕ) → bare ≡ without_spaces (take i text) → i < length text → (get_or text i 0 ≡ 32 → ⊥) → bare ++ get_or text i 0 ∷ [] ≡ without_spaces (take (i + 1) text)
bare_kept text bare i is lt other =
    let c = get_or text i 0 in
    ap (λ l. l ++ c ∷ []) is ∙ sym (filter_more (λ k. not (k == 32)) text i 0 lt ∙ ap (λ b. without_spaces (take i text) ++ cond (not b) (c ∷ []) []) (ne_eqb c 32 other))

pub bare_left : (text bare : List ℕ) (i : ℕ) → bare ≡ without_spaces (take i text) → i < length text → get_or text i 0 ≡ 32 → bare ≡ without_spaces (take (i + 1) text)
bare_left text bare i is lt space =
    let c = get_or text i 0 in
    is ∙ sym (filter_more (λ k. not (k == 32)) text i 0 lt ∙ ap (λ b. without_spaces (take i text) ++ cond (not b) (c ∷ []) []) (eq-eqb c 32 space) ∙ append-nil (without_spaces (take i text)))

-- pairs that are read are pairs
pub pairs_read : (done text all : List ℕ) → bytes_after done text ≡ Some all → (bytes : List ℕ) × (all ≡ done ++ bytes) × ArePairs text bytes
pairs_read done [] all e = ([], (let s : done ≡ all = cc in sym s ∙ sym (append-nil done)), tt)
pairs_read done (h ∷ []) all e = absurd (none_some all e)
pairs_read done (h ∷ l ∷ text) all e = by_pair (λ b. pairs_read (done ++ b ∷ []) text all) (hex_pair h l) refl e
  where
    by_pair : ((b : ℕ) → bytes_after (done ++ b ∷ []) text ≡ Some all → (bytes : List ℕ) × (all ≡ (done ++ b ∷ []) ++ bytes) × ArePairs text bytes)
        → (o : Option ℕ) → hex_pair h l ≡ o → option_and_then (λ b. bytes_after (done ++ b ∷ []) text) o ≡ Some all → (bytes : List ℕ) × (all ≡ done ++ bytes) × ArePairs (h ∷ l ∷ text) bytes
    by_pair later None is e = absurd (none_some all e)
    by_pair later (Some b) is e = let r = later b e in (b ∷ r.0, r.1 ∙ append_assoc done (b ∷ []) r.0, (is, r.2))

-- and pairs are read
pub pairs_are_read : (done text bytes : List ℕ) → ArePairs text bytes → bytes_after done text ≡ Some (done ++ bytes)
pairs_are_read done [] [] p = ap Some (sym (append-nil done))
pairs_are_read done [] (b ∷ bytes) p = absurd p
pairs_are_read done (h ∷ []) bytes p = absurd p
pairs_are_read done (h ∷ l ∷ text) [] p = absurd p
pairs_are_read done (h ∷ l ∷ text) (b ∷ bytes) p =
    ap (λ o. option_and_then (λ c. bytes_after (done ++ c ∷ []) text) o) p.0
    ∙ pairs_are_read (done ++ b ∷ []) text bytes p.1 ∙ ap Some (append_assoc done (b ∷ []) bytes)

-- a pair more that is read
pub pair_step : (done text : List ℕ) (begun : Option ℕ) (h b i : ℕ) {out : Option (List ℕ)} → bytes_after done (option_to_list begun ++ drop i text) ≡ out → begun ≡ Some h → i < length text → hex_pair h (get_or text i 0) ≡ Some b
    → bytes_after (done ++ b ∷ []) (drop (i + 1) text) ≡ out
pair_step done text begun h b i {out} so is lt pair =
    let one : i + 1 ≡ suc i = omega arith in
    let cut : drop i text ≡ get_or text i 0 ∷ drop (suc i) text = drop-cons text i 0 lt in
    let now : bytes_after done (h ∷ get_or text i 0 ∷ drop (suc i) text) ≡ out = rw (is, cut) at so in
    let next : option_and_then (λ c. bytes_after (done ++ c ∷ []) (drop (suc i) text)) (hex_pair h (get_or text i 0)) ≡ out = now in
    rw one (rw pair at next)

-- the first digit of a pair
pub pair_begun : (done text : List ℕ) (begun : Option ℕ) (i : ℕ) {out : Option (List ℕ)} → bytes_after done (option_to_list begun ++ drop i text) ≡ out → begun ≡ None → i < length text
    → bytes_after done (get_or text i 0 ∷ drop (i + 1) text) ≡ out
pair_begun done text begun i {out} so is lt =
    let one : i + 1 ≡ suc i = omega arith in
    let now : bytes_after done (drop i text) ≡ out = rw is at so in
    rw one (subst (λ l. bytes_after done l ≡ out) (drop-cons text i 0 lt) now)

-- two characters that are no pair
pub pair_wrong : (done text : List ℕ) (begun : Option ℕ) (h i : ℕ) {out : Option (List ℕ)} → bytes_after done (option_to_list begun ++ drop i text) ≡ out → begun ≡ Some h → i < length text → hex_pair h (get_or text i 0) ≡ None
    → None ≡ out
pair_wrong done text begun h i {out} so is lt wrong =
    let cut : drop i text ≡ get_or text i 0 ∷ drop (suc i) text = drop-cons text i 0 lt in
    let now : bytes_after done (h ∷ get_or text i 0 ∷ drop (suc i) text) ≡ out = rw (is, cut) at so in
    let next : option_and_then (λ c. bytes_after (done ++ c ∷ []) (drop (suc i) text)) (hex_pair h (get_or text i 0)) ≡ out = now in
    rw wrong at next

-- the end of the text, behind a pair and within one
pub pairs_end : (done text : List ℕ) (begun : Option ℕ) (i : ℕ) {out : Option (List ℕ)} → bytes_after done (option_to_list begun ++ drop i text) ≡ out → length text ≤ i → begun ≡ None → Some done ≡ out
pairs_end done text begun i {out} so over is = rw (is, drop_all i text over) at so

pub pairs_half : (done text : List ℕ) (begun : Option ℕ) (h i : ℕ) {out : Option (List ℕ)} → bytes_after done (option_to_list begun ++ drop i text) ≡ out → length text ≤ i → begun ≡ Some h → None ≡ out
pairs_half done text begun h i {out} so over is = rw (is, drop_all i text over) at so

abbrev add_digit : ℕ → ℕ → ℕ
add_digit n c = 10 * n + (c - 48)

-- digits only add
value_grows : (n : ℕ) (cs : List ℕ) → n ≤ fold add_digit n cs
value_grows n [] = omega arith
value_grows n (c ∷ cs) = let more = value_grows (add_digit n c) cs in omega (arith, more)

-- a digit more that is read
pub digit_step : (n i : ℕ) (digits : List ℕ) {out : Option ℕ} → count_after n (drop i digits) ≡ out → i < length digits → 48 ≤ get_or digits i 0 → get_or digits i 0 ≤ 57 → add_digit n (get_or digits i 0) ≤ 4096
    → count_after (add_digit n (get_or digits i 0)) (drop (i + 1) digits) ≡ out
digit_step n i digits {out} so lt low high few =
    let one : i + 1 ≡ suc i = omega arith in
    let c = get_or digits i 0 in
    let next = add_digit n c in
    let passes : (is_digit c && nat_le next 4096) ≡ true =
    and_from (is_digit c) (nat_le next 4096) (and_from (nat_le 48 c) (nat_le c 57) (le-leb 48 c low) (le-leb c 57 high)) (le-leb next 4096 few) in
    let now : (if is_digit c && nat_le next 4096 then count_after next (drop (suc i) digits) else None) ≡ out = rw (drop-cons digits i 0 lt) at so in
    rw one (rw passes at now)

count_read : (n m : ℕ) (cs : List ℕ) → n ≤ 4096 → count_after n cs ≡ Some m → (list_all is_digit cs ≡ true) × (fold add_digit n cs ≡ m) × (m ≤ 4096)
count_read n m [] few e = let s : n ≡ m = cc in (refl, s, omega (arith, s))
count_read n m (c ∷ cs) few e = elim (cases_Bool (is_digit c && nat_le (add_digit n c) 4096)) [
  | inl t ↦
      let parts = and_parts (is_digit c) (nat_le (add_digit n c) 4096) t in
      let next : count_after (add_digit n c) cs ≡ Some m = rw t at e in
      let r = count_read (add_digit n c) m cs (leb-true (add_digit n c) 4096 parts.1) next in
      (and_from (is_digit c) (list_all is_digit cs) parts.0 r.0, r.1, r.2)
  | inr f ↦ let bad : None ≡ Some m = rw f at e in absurd (none_some m bad)
]

count_is_read : (n m : ℕ) (cs : List ℕ) → list_all is_digit cs ≡ true → fold add_digit n cs ≡ m → m ≤ 4096 → count_after n cs ≡ Some m
count_is_read n m [] ds is few = ap Some is
count_is_read n m (c ∷ cs) ds is few =
    let parts = and_parts (is_digit c) (list_all is_digit cs) ds in
    let grows = value_grows (add_digit n c) cs in
    let fits : add_digit n c ≤ 4096 = omega (arith, grows, is) in
    let passes : (is_digit c && nat_le (add_digit n c) 4096) ≡ true = and_from (is_digit c) (nat_le (add_digit n c) 4096) parts.0 (le-leb (add_digit n c) 4096 fits) in
    rw passes (count_is_read (add_digit n c) m cs parts.1 is few)

count_of_read : (digits : List ℕ) (n : ℕ) → count_of digits ≡ Some n → IsCount digits n
count_of_read digits n e = elim (cases_Bool (is_well_begun digits)) [
  | inl t ↦
      let start : count_after 0 digits ≡ Some n = rw t at e in
      let r = count_read 0 n digits (omega arith) start in
      record { begins = t; decimal = r.0; value = r.1; few = r.2 }
  | inr f ↦ let bad : None ≡ Some n = rw f at e in absurd (none_some n bad)
]

count_of_is_read : (digits : List ℕ) (n : ℕ) → IsCount digits n → count_of digits ≡ Some n
count_of_is_read digits n k = rw k.begins (count_is_read 0 n digits k.decimal k.value k.few)

-- one pair and a count
repeated_read : (h l : ℕ) (digits bytes : List ℕ) → repeated_of h l digits ≡ Some bytes → IsRepeated (h ∷ l ∷ 42 ∷ digits) bytes
repeated_read h l digits bytes e = by_parts (hex_pair h l) (count_of digits) refl refl e
  where
    by_parts : (p n : Option ℕ) → hex_pair h l ≡ p → count_of digits ≡ n → option_and_then (λ b. option_map (λ k. replicate k b) n) p ≡ Some bytes → IsRepeated (h ∷ l ∷ 42 ∷ digits) bytes
    by_parts None n is counted e = absurd (none_some bytes e)
    by_parts (Some b) None is counted e = absurd (none_some bytes e)
    by_parts (Some b) (Some k) is counted e =
        let s : replicate k b ≡ bytes = cc in
        record { high = h; low = l; byte = b; digits = digits; count = k; spelled = refl; pair = is; counted = count_of_read digits k counted; repeated = sym s }

pairs_of_read : (text bytes : List ℕ) → pairs_of text ≡ Some bytes → IsPairs text bytes
pairs_of_read text bytes e = by_all (bytes_after [] text) refl e
  where
    by_all : (o : Option (List ℕ)) → bytes_after [] text ≡ o → option_and_then if_some_and_few o ≡ Some bytes → IsPairs text bytes
    by_all None is e = absurd (none_some bytes e)
    by_all (Some all) is e = elim (cases_Bool (nat_le 1 (length all) && nat_le (length all) 4096)) [
      | inl t ↦
          let parts = and_parts (nat_le 1 (length all)) (nat_le (length all) 4096) t in
          let s : Some all ≡ Some bytes = rw t at e in
          let same : all ≡ bytes = cc in
          let r = pairs_read [] text all is in
          record { pairs = rw (← r.1, same) at r.2; some = rw same at (leb-true 1 (length all) parts.0); few = rw same at (leb-true (length all) 4096 parts.1) }
      | inr f ↦ let bad : None ≡ Some bytes = rw f at e in absurd (none_some bytes bad)
    ]

pairs_of_is_read : (text bytes : List ℕ) → IsPairs text bytes → pairs_of text ≡ Some bytes
pairs_of_is_read text bytes p =
    let fits : (nat_le 1 (length bytes) && nat_le (length bytes) 4096) ≡ true = and_from (nat_le 1 (length bytes)) (nat_le (length bytes) 4096) (le-leb 1 (length bytes) p.some) (le-leb (length bytes) 4096 p.few) in
    let few : if_some_and_few bytes ≡ Some bytes = rw fits refl in
    ap (λ o. option_and_then if_some_and_few o) (pairs_are_read [] text bytes p.pairs) ∙ few

-- pairs have no `*`
pairs_no_star : (t bytes : List ℕ) → ArePairs t bytes → is_repetition t ≡ false
pairs_no_star [] bytes p = refl
pairs_no_star (h ∷ []) bytes p = refl
pairs_no_star (h ∷ l ∷ []) bytes p = refl
pairs_no_star (h ∷ l ∷ c ∷ rest) [] p = absurd p
pairs_no_star (h ∷ l ∷ c ∷ []) (b ∷ bytes) p = absurd p.1
pairs_no_star (h ∷ l ∷ c ∷ m ∷ rest) (b ∷ []) p = absurd p.1
pairs_no_star (h ∷ l ∷ c ∷ m ∷ rest) (b ∷ d ∷ bytes) p = elim (cases_Bool (c == 42)) [
  | inl t ↦
      let star : c ≡ 42 = eqb-true c 42 t in
      let bad : hex_pair 42 m ≡ Some d = rw star at p.1.0 in
      absurd (none_some d bad)
  | inr f ↦ and_false (nat_le 3 (length (h ∷ l ∷ c ∷ m ∷ rest))) (c == 42) f
]

starred : (t : List ℕ) → is_repetition t ≡ true → t ≡ slice_index t 0 ∷ slice_index t 1 ∷ 42 ∷ drop 3 t
starred [] e = absurd cc
starred (h ∷ []) e = absurd cc
starred (h ∷ l ∷ []) e = absurd cc
starred (h ∷ l ∷ c ∷ rest) e =
    let parts = and_parts (nat_le 3 (length (h ∷ l ∷ c ∷ rest))) (c == 42) e in
    ap (λ k. h ∷ l ∷ k ∷ rest) (eqb-true c 42 parts.1)

read_shape : (t bytes : List ℕ) → bytes_of t ≡ Some bytes → IsPairs t bytes ⊎ IsRepeated t bytes
read_shape t bytes e = elim (cases_Bool (is_repetition t)) [
  | inl star ↦
      let start : repeated_of (slice_index t 0) (slice_index t 1) (drop 3 t) ≡ Some bytes = rw star at e in
      let P : List ℕ → Type 0 = λ u. IsRepeated u bytes in
      inr (subst P (sym (starred t star)) (repeated_read (slice_index t 0) (slice_index t 1) (drop 3 t) bytes start))
  | inr none ↦ let start : pairs_of t ≡ Some bytes = rw none at e in inl (pairs_of_read t bytes start)
]

shape_is_read : (t bytes : List ℕ) → IsPairs t bytes ⊎ IsRepeated t bytes → bytes_of t ≡ Some bytes
shape_is_read t bytes (inl p) = rw (pairs_no_star t bytes p.pairs) (pairs_of_is_read t bytes p)
shape_is_read t bytes (inr r) =
    let P : List ℕ → Type 0 = λ u. bytes_of u ≡ Some bytes in
    let whole : List ℕ = r.high ∷ r.low ∷ 42 ∷ r.digits in
    let long : is_repetition whole ≡ true = and_from (nat_le 3 (length whole)) true (le-leb 3 (length whole) (omega arith)) refl in
    let counted = count_of_is_read r.digits r.count r.counted in
    let read : repeated_of r.high r.low r.digits ≡ Some bytes = rw (r.pair, counted, r.repeated) refl in
    let so : bytes_of whole ≡ Some bytes = rw long read in
    subst P (sym r.spelled) so

pub cargo_is_read : CargoIsRead
unfolding cargo_of
cargo_is_read text bytes = (read_shape (without_spaces text) bytes, shape_is_read (without_spaces text) bytes)
