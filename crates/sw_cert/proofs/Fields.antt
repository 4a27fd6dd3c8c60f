-- What the parts of a line are read from.
use Rattle.std.proofs.Common.{◌≡◌, ℕ, ◌+◌, ◌<◌, ◌≤◌, ◌^◌, true, List, [], ◌∷◌, ◌++◌, length, drop, refl, sym, ap, ap₂, ◌∙◌, arith, inl, inr, Option, Some, None}
use Rattle.std.specs.Prelude.{◌==◌, nat_eq, option_and_then, position}
use Rattle.std.specs.List.{join_with_byte, slice_split, starts_with}
use Rattle.std.proofs.lemmas.List.Splits.{join_with_byte-slice_split, length-slice_split}
use Rattle.sw_flow.specs.declared.place.Place.{Place}
use Rattle.std.specs.Fmt.{decimal}
use Rattle.std.proofs.lemmas.Bool.{cases_Bool, and_parts, eqb-true, eq-eqb, false≢true}
use Rattle.sw_text.specs.Number.{number_of}
use Rattle.sw_cert.specs.Grammar.{after_word, field, place_at, place_of}
use Rattle.sw_text.proofs.Cuts.{split_found, split_whole}
use Rattle.sw_text.proofs.Numbers.{read_spelled, spelled_read}
use Rattle.sw_topo.proofs.Lists.{none_some}

pub begins : (word line : List ℕ) → starts_with nat_eq line word ≡ true → line ≡ word ++ drop (length word) line
begins [] line e = refl
begins (w ∷ word) [] e = absurd (false≢true e)
begins (w ∷ word) (c ∷ line) e = let h = and_parts (nat_eq w c) (starts_with nat_eq line word) e in let s : w ≡ c = eqb-true w c h.0 in ap (λ k. k ∷ line) (sym s) ∙ ap (λ l. w ∷ l) (begins word line h.1)

pub begun : (word rest : List ℕ) → (starts_with nat_eq (word ++ rest) word ≡ true) × (drop (length word) (word ++ rest) ≡ rest)
begun [] rest = (refl, refl)
begun (w ∷ word) rest = let r = begun word rest in (rw (eq-eqb w w refl) r.0, r.1)

pub after_spelled : (word line rest : List ℕ) → after_word word line ≡ Some rest → line ≡ word ++ rest
after_spelled word line rest e = elim (cases_Bool (starts_with nat_eq line word)) [
  | inl t ↦ let s : Some (drop (length word) line) ≡ Some rest = rw t at e in let k : drop (length word) line ≡ rest = cc in begins word line t ∙ ap (λ l. word ++ l) k
  | inr f ↦ let bad : None ≡ Some rest = rw f at e in absurd (none_some rest bad)
]

pub after_read : (word rest : List ℕ) → after_word word (word ++ rest) ≡ Some rest
after_read word rest = let b = begun word rest in rw b.0 (ap Some b.1)

-- a line with a number is read exactly from its spelling
pub field_spelled : (word line : List ℕ) (limit n : ℕ) → limit < 2 ^ 24 → field word limit line ≡ Some n → (line ≡ word ++ decimal n) × (n ≤ limit)
field_spelled word line limit n few e = go (after_word word line) refl e
  where
    go : (o : Option (List ℕ)) → after_word word line ≡ o → option_and_then (number_of limit) o ≡ Some n → (line ≡ word ++ decimal n) × (n ≤ limit)
    go None h e = absurd (none_some n e)
    go (Some rest) h e = let r = read_spelled limit n rest few e in (after_spelled word line rest h ∙ ap (λ l. word ++ l) r.0, r.1)

pub field_read : (word : List ℕ) (limit n : ℕ) → limit < 2 ^ 24 → n ≤ limit → field word limit (word ++ decimal n) ≡ Some n
field_read word limit n few le = ap (option_and_then (number_of limit)) (after_read word (decimal n)) ∙ spelled_read limit n few le

-- what two parts with a space between them say
abbrev pub place_said : List ℕ → List ℕ → Option Place
place_said channel deleted = option_and_then (λ c. option_and_then (λ k. Some (record { channel = c; deleted = k })) (number_of 32 deleted)) (number_of 65535 channel)

same_parts : (x y : List ℕ) (xs ys : List (List ℕ)) → ◌≡◌ {A = List (List ℕ)} (x ∷ xs) (y ∷ ys) → (x ≡ y) × (xs ≡ ys)
same_parts x y xs ys e = (cc, cc)

-- the place of a line that is cut at its first space
pub place_cut : (bytes channel deleted : List ℕ) → slice_split (λ b. b == 32) bytes ≡ channel ∷ slice_split (λ b. b == 32) deleted → place_of bytes ≡ place_said channel deleted
place_cut bytes channel deleted e = go (position (λ b. b == 32) bytes) refl
  where
    go : (o : Option ℕ) → position (λ b. b == 32) bytes ≡ o → option_and_then (place_at bytes) o ≡ place_said channel deleted
    go None none =
        let one = same_parts _ _ _ _ (sym e ∙ split_whole 32 bytes none) in
        let some = length-slice_split (λ b. b == 32) deleted in
        let long : length (slice_split (λ b. b == 32) deleted) ≡ 0 = ap length one.1 in
        absurd (omega (arith, some, long))
    go (Some at) found =
        let parts = same_parts _ _ _ _ (sym e ∙ split_found 32 bytes at found) in
        let rest : deleted ≡ drop (at + 1) bytes = sym (join_with_byte-slice_split 32 deleted) ∙ ap (join_with_byte 32) parts.1 ∙ join_with_byte-slice_split 32 (drop (at + 1) bytes) in
        ap₂ place_said (sym parts.0) (sym rest)

pub no_place : (bytes : List ℕ) → slice_split (λ b. b == 32) bytes ≡ bytes ∷ [] → place_of bytes ≡ None
no_place bytes e = go (position (λ b. b == 32) bytes) refl
  where
    go : (o : Option ℕ) → position (λ b. b == 32) bytes ≡ o → option_and_then (place_at bytes) o ≡ None
    go None none = refl
    go (Some at) found =
        let parts = same_parts _ _ _ _ (sym e ∙ split_found 32 bytes at found) in
        let some = length-slice_split (λ b. b == 32) (drop (at + 1) bytes) in
        let long : 0 ≡ length (slice_split (λ b. b == 32) (drop (at + 1) bytes)) = ap length parts.1 in
        absurd (omega (arith, some, long))
