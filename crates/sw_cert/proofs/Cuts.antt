-- A text is cut at its LFs.
use Rattle.std.proofs.Common.{◌≡◌, ℕ, ◌+◌, ◌%◌, ◌<◌, ◌≤◌, ◌^◌, Bool, true, false, List, [], ◌∷◌, ◌++◌, length, refl, sym, ap, ◌∙◌, arith, append_assoc, append-nil, ne_eqb, not}
use Rattle.std.specs.Prelude.{◌==◌, codes, map, All}
use Rattle.std.specs.List.{list_all, AllByRecursion, flat_map, slice_split, join_with_byte}
use Rattle.std.proofs.lemmas.Bool.{and_parts, false≢true}
use Rattle.std.specs.Fmt.{decimal}
use Rattle.std.proofs.lemmas.List.Splits.{slice_split_at}
use Rattle.std.proofs.lemmas.List.Elements.{All-nil, All-cons, All-append}
use Rattle.std.proofs.lemmas.Fmt.{decimal_by_steps}
use Rattle.sw_flow.specs.declared.place.Place.{Place}
use Rattle.sw_cert.specs.Grammar.{head_lines, flow_lines, lines_of, block, place_line, with_lf, HasText, Fits, IsBlock}
use Rattle.sw_machine.proofs.Load.{all_append}

abbrev pub IsBreak : ℕ → Bool
IsBreak b = b == 10

-- no LF stands in the line
abbrev pub IsOneLine : List ℕ → Type 0
IsOneLine line = All (λ b. IsBreak b ≡ false) line

pub join_lines : (lines : List (List ℕ)) → join_with_byte 10 (lines ++ [] ∷ []) ≡ flat_map with_lf lines
join_lines [] = refl
join_lines (l ∷ []) = sym (append-nil (l ++ 10 ∷ []))
join_lines (l ∷ m ∷ ls) = ap (λ x. l ++ (10 ∷ x)) (join_lines (m ∷ ls)) ∙ sym (append_assoc l (10 ∷ []) (flat_map with_lf (m ∷ ls)))

pub split_lines : (lines : List (List ℕ)) → AllByRecursion IsOneLine lines → slice_split (λ b. b == 10) (flat_map with_lf lines) ≡ lines ++ [] ∷ []
split_lines [] h = refl
split_lines (l ∷ ls) h =
    ap (slice_split (λ b. b == 10)) (append_assoc l (10 ∷ []) (flat_map with_lf ls))
    ∙ slice_split_at (λ b. b == 10) l 10 (flat_map with_lf ls) h.0 refl
    ∙ ap (λ x. l ∷ x) (split_lines ls h.1)

digit_line : (d : ℕ) → d < 10 → IsOneLine ((48 + d) ∷ [])
digit_line d lt = All-cons (λ b. IsBreak b ≡ false) (48 + d) [] (ne_eqb (48 + d) 10 (λ e. omega arith)) (All-nil (λ b. IsBreak b ≡ false))

pub decimal_line : (n : ℕ) → n < 2 ^ 30 → IsOneLine (decimal n)
decimal_line n lt = decimal_by_steps (λ n ds. IsOneLine ds) (λ n low. digit_line n low) (λ n ds big h. All-append (λ b. IsBreak b ≡ false) ds ((48 + n % 10) ∷ []) h (digit_line (n % 10) (omega arith))) n (omega arith)

-- a word without a LF
word_line : (w : List ℕ) → list_all (λ b. not (IsBreak b)) w ≡ true → IsOneLine w
word_line [] e = All-nil (λ b. IsBreak b ≡ false)
word_line (b ∷ w) e =
    let h = and_parts (not (IsBreak b)) (list_all (λ b. not (IsBreak b)) w) e in
    All-cons (λ b. IsBreak b ≡ false) b w (not_true (IsBreak b) h.0) (word_line w h.1)
  where
    not_true : (x : Bool) → not x ≡ true → x ≡ false
    not_true true k = absurd (false≢true k)
    not_true false k = refl

number_after : (w : List ℕ) (n : ℕ) → list_all (λ b. not (IsBreak b)) w ≡ true → n < 2 ^ 30 → IsOneLine (w ++ decimal n)
number_after w n e lt = All-append (λ b. IsBreak b ≡ false) w (decimal n) (word_line w e) (decimal_line n lt)

numbers_are_lines : (ns : List ℕ) → AllByRecursion (λ v. v ≤ 65535) ns → AllByRecursion IsOneLine (map (λ v. codes "number " ++ decimal v) ns)
numbers_are_lines [] h = tt
numbers_are_lines (v ∷ ns) h = (number_after (codes "number ") v refl (omega (arith, h.0)), numbers_are_lines ns h.1)

place_is_line : (p : Place) → Fits p → IsOneLine (place_line p)
place_is_line p h =
    All-append (λ b. IsBreak b ≡ false) (codes "place ") (decimal p.channel ++ (32 ∷ decimal p.deleted)) (word_line (codes "place ") refl)
    (All-append (λ b. IsBreak b ≡ false) (decimal p.channel) (32 ∷ decimal p.deleted) (decimal_line p.channel (omega (arith, h.0)))
    (All-cons (λ b. IsBreak b ≡ false) 32 (decimal p.deleted) refl (decimal_line p.deleted (omega (arith, h.1)))))

places_are_lines : (ps : List Place) → AllByRecursion Fits ps → AllByRecursion IsOneLine (map place_line ps)
places_are_lines [] h = tt
places_are_lines (p ∷ ps) h = (place_is_line p h.0, places_are_lines ps h.1)

pub blocks_are_lines : (fs : List (List Place)) → AllByRecursion IsBlock fs → AllByRecursion IsOneLine (flat_map block fs)
blocks_are_lines [] h = tt
blocks_are_lines (f ∷ fs) h =
    let b = h.0 in
    all_append IsOneLine (block f) (flat_map block fs) (number_after (codes "flow ") (length f) refl (omega (arith, b.0)), places_are_lines f b.1) (blocks_are_lines fs h.1)

-- each line of a certificate is one line
pub are_lines : (ns : List ℕ) (fs : List (List Place)) → HasText ns fs → AllByRecursion IsOneLine (lines_of ns fs)
are_lines ns fs h =
    let few = h.channels in
    let flows = h.few in
    all_append IsOneLine (head_lines (length ns) ns) (flow_lines (length fs) fs ++ codes "end" ∷ [])
    (word_line (codes "swcert 1") refl, (number_after (codes "channels ") (length ns) refl (omega arith), numbers_are_lines ns h.numbers_fit))
    (all_append IsOneLine (flow_lines (length fs) fs) (codes "end" ∷ [])
    (number_after (codes "flows ") (length fs) refl (omega arith), blocks_are_lines fs h.blocks)
    (word_line (codes "end") refl, tt))
