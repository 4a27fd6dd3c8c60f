-- The lines of a schedule, one after another.
use Rattle.std.proofs.Common.{◌≡◌, ℕ, ◌+◌, ◌<◌, ◌≤◌, true, append-nil, List, [], ◌∷◌, length, refl, ap, ◌∙◌, arith, None}
use Rattle.std.specs.Prelude.{Ok, Err, ◌==◌, nat_le}
use Rattle.std.proofs.lemmas.Bool.{le-leb}
use Rattle.std.proofs.lemmas.List.Splits.{length-slice_split}
use Rattle.sw_machine.specs.Steps.{Step}
use Rattle.sw_config.specs.Entries.{Declaration}
use Rattle.sw_schedule.specs.Lines.{is_skipped, step_of, steps_of_line, words_of}
use Rattle.sw_schedule.specs.Schedule.{with_line, with_lines, and_then}

-- more words than a step has
too_many : (d : Declaration) (a b c e : List ℕ) (words : List (List ℕ)) → 0 < length words → step_of d (a ∷ b ∷ c ∷ e ∷ words) ≡ None
too_many d a b c e [] some = absurd (omega arith)
too_many d a b c e (w ∷ words) some = refl

some_word : (xs : List ℕ) → 0 < length (words_of xs)
some_word xs = omega (arith, length-slice_split (λ b. b == 32) xs)

pub long_line : (d : Declaration) (text one two three four a b c e : List ℕ) → words_of text ≡ a ∷ words_of one → words_of one ≡ b ∷ words_of two → words_of two ≡ c ∷ words_of three → words_of three ≡ e ∷ words_of four → step_of d (words_of text) ≡ None
long_line d text one two three four a b c e i j k l =
    ap (step_of d) (i ∙ ap (λ w. a ∷ w) (j ∙ ap (λ w. b ∷ w) (k ∙ ap (λ w. c ∷ w) l)))
    ∙ too_many d a b c e (words_of four) (some_word four)

-- a line that says nothing
pub skipped_line : (d : Declaration) (n : ℕ) (before : List Step) (line : List ℕ) → length before ≤ 1000000 → is_skipped line ≡ true → with_line d n before line ≡ Ok before
unfolding steps_of_line
skipped_line d n before line few t =
    let fits : nat_le (length before + 0) 1000000 ≡ true = le-leb (length before + 0) 1000000 (omega (arith, few)) in
    rw t (rw fits (ap Ok (append-nil before)))

module _ (d : Declaration) (n : ℕ) (before : List Step) (line : List ℕ) (lines : List (List ℕ)) where
  -- a line that is right
  pub right_line : (after : List Step) → with_line d n before line ≡ Ok after → with_lines d n before (line ∷ lines) ≡ with_lines d (n + 1) after lines
  right_line after e = ap (and_then (λ steps. with_lines d (n + 1) steps lines)) e

  -- a line that is wrong
  pub wrong_line : (m : ℕ) → with_line d n before line ≡ Err m → with_lines d n before (line ∷ lines) ≡ Err m
  wrong_line m e = ap (and_then (λ steps. with_lines d (n + 1) steps lines)) e
