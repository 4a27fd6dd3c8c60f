-- Bytes that stand in no word, and words with spaces between them.
use Rattle.std.proofs.Common.{◌≡◌, ℕ, ◌+◌, ◌%◌, ◌^◌, ◌<◌, Bool, true, false, not, List, [], ◌∷◌, ◌++◌, refl, ap, ◌∙◌, arith, ne_eqb, append_assoc}
use Rattle.std.specs.Prelude.{◌==◌, All}
use Rattle.std.specs.Fmt.{decimal}
use Rattle.std.specs.List.{list_all}
use Rattle.std.proofs.lemmas.Bool.{and_parts, false≢true}
use Rattle.std.proofs.lemmas.Fmt.{decimal_by_steps}
use Rattle.std.proofs.lemmas.List.Elements.{All-nil, All-cons, All-append}
use Rattle.std.proofs.lemmas.List.Splits.{slice_split_at, slice_split_none}
use Rattle.sw_output.specs.Lines.{spaced}
use Rattle.sw_schedule.specs.Lines.{is_skipped, words_of}
use Rattle.sw_schedule.specs.Spelling.{IsWord}

abbrev pub Free : ℕ → List ℕ → Type 0
Free byte w = All (λ b. (b == byte) ≡ false) w

digit_free : (byte d : ℕ) → byte < 48 → Free byte ((48 + d) ∷ [])
digit_free byte d low = All-cons (λ b. (b == byte) ≡ false) (48 + d) [] (ne_eqb (48 + d) byte (λ e. omega arith)) (All-nil (λ b. (b == byte) ≡ false))

pub decimal_free : (byte n : ℕ) → byte < 48 → n < 2 ^ 30 → Free byte (decimal n)
decimal_free byte n low lt =
    decimal_by_steps (λ n ds. Free byte ds) (λ n small. digit_free byte n low)
    (λ n ds big h. All-append (λ b. (b == byte) ≡ false) ds ((48 + n % 10) ∷ []) h (digit_free byte (n % 10) low)) n (omega arith)

-- a line that begins with a number is not skipped
pub number_shown : (n : ℕ) (rest : List ℕ) → n < 2 ^ 30 → is_skipped (decimal n ++ rest) ≡ false
number_shown n rest lt =
    decimal_by_steps (λ n ds. (more : List ℕ) → is_skipped (ds ++ more) ≡ false) (λ n small more. ne_eqb (48 + n) 35 (λ e. omega arith))
    (λ n ds big h more. ap is_skipped (append_assoc ds ((48 + n % 10) ∷ []) more) ∙ h ((48 + n % 10) ∷ more)) n (omega arith) rest

not_true : (x : Bool) → not x ≡ true → x ≡ false
not_true true k = absurd (false≢true k)
not_true false k = refl

pub word_free : (byte : ℕ) (w : List ℕ) → list_all (λ b. not (b == byte)) w ≡ true → Free byte w
word_free byte [] e = All-nil (λ b. (b == byte) ≡ false)
word_free byte (b ∷ w) e =
    let h = and_parts (not (b == byte)) (list_all (λ b. not (b == byte)) w) e in
    All-cons (λ b. (b == byte) ≡ false) b w (not_true (b == byte) h.0) (word_free byte w h.1)

pub both_free : (byte : ℕ) (xs ys : List ℕ) → Free byte xs → Free byte ys → Free byte (xs ++ ys)
both_free byte xs ys h k = All-append (λ b. (b == byte) ≡ false) xs ys h k

pub decimal_plain : (n : ℕ) → n < 2 ^ 30 → IsWord (decimal n)
decimal_plain n lt = record { no_space = decimal_free 32 n (omega arith) lt; no_lf = decimal_free 10 n (omega arith) lt }

pub literal_plain : (w : List ℕ) → list_all (λ b. not (b == 32)) w ≡ true → list_all (λ b. not (b == 10)) w ≡ true → IsWord w
literal_plain w s l = record { no_space = word_free 32 w s; no_lf = word_free 10 w l }

abbrev pub ArePlain : List (List ℕ) → Type 0
ArePlain [] = Unit {0}
ArePlain (w ∷ ws) = IsWord w × ArePlain ws

pub word_and : (w rest : List ℕ) → Free 32 w → words_of (w ++ (32 ∷ rest)) ≡ w ∷ words_of rest
word_and w rest h = slice_split_at (λ b. b == 32) w 32 rest h refl

-- words with a space between each two are read as these words
pub words_read : (w : List ℕ) (ws : List (List ℕ)) → ArePlain (w ∷ ws) → words_of (spaced (w ∷ ws)) ≡ w ∷ ws
words_read w [] h = slice_split_none (λ b. b == 32) w h.0.no_space
words_read w (v ∷ ws) h = word_and w (spaced (v ∷ ws)) h.0.no_space ∙ ap (λ us. w ∷ us) (words_read v ws h.1)

-- no LF stands between them
pub spaced_free : (w : List ℕ) (ws : List (List ℕ)) → ArePlain (w ∷ ws) → Free 10 (spaced (w ∷ ws))
spaced_free w [] h = h.0.no_lf
spaced_free w (v ∷ ws) h =
    both_free 10 w (32 ∷ spaced (v ∷ ws)) h.0.no_lf (All-cons (λ b. (b == 10) ≡ false) 32 (spaced (v ∷ ws)) refl (spaced_free v ws h.1))
