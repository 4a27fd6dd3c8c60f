-- Lines that write steps are read as these steps.
use Rattle.std.proofs.Common.{◌≡◌, ℕ, ◌+◌, ◌*◌, ◌<◌, ◌≤◌, true, false, not, List, [], ◌∷◌, ◌++◌, length, refl, sym, ap, subst, ◌∙◌, arith, append_assoc, append-nil, length-append, Option, Some, None}
use Rattle.std.specs.Prelude.{◌==◌, nat_le, codes, Ok, option_and_then}
use Rattle.std.specs.Fmt.{decimal}
use Rattle.std.specs.List.{flat_map, list_all, slice_split}
use Rattle.std.proofs.lemmas.Bool.{le-leb, lt-ltb}
use Rattle.std.proofs.lemmas.List.Splits.{slice_split_at}
use Rattle.sw_char.specs.declared.nchar.End.{End}
use Rattle.sw_char.specs.declared.nchar.End.TheVariants.{Eop, Eep}
use Rattle.sw_machine.specs.Steps.{Step, Fct, FctIn, Arrive, Grant, Drop, Forward, Spill, Begin, Emit, Accept, Reply}
use Rattle.sw_config.specs.Entries.{Declaration}
use Rattle.sw_output.specs.Lines.{spaced}
use Rattle.sw_text.proofs.Numbers.{spelled_read}
use Rattle.sw_schedule.specs.Lines.{at_channel, at_node, channel_of, count_of, end_of, is_skipped, repeated_of, step_of, steps_of_line, words_of}
use Rattle.sw_schedule.specs.Schedule.{steps_of_text, with_line, with_lines}
use Rattle.sw_schedule.specs.Spelling.{AllWritten, IsAtChannel, IsAtNode, IsBegin, IsGrant, IsWord, Writes}
use Rattle.sw_schedule.proofs.Reading.{right_line, skipped_line}
use Rattle.sw_schedule.proofs.Words.{ArePlain, Free, decimal_plain, literal_plain, spaced_free, words_read}
use Rattle.sw_output.specs.PacketTexts.{end_text}

-- a line that is read as this step
pub record Reads (d : Declaration) (step : Step) (line : List ℕ) : Type 0 where
  pub no_lf : Free 10 line
  pub shown : is_skipped line ≡ false
  pub once : repeated_of d (words_of line) ≡ Some (record { count = 1; step = step })
  pub said : step_of d (words_of line) ≡ Some step

pub read_once : (d : Declaration) (step : Step) (line : List ℕ) → Reads d step line → steps_of_line d line ≡ Some (step ∷ [])
unfolding steps_of_line
read_once d step line reads = rw (reads.shown, reads.once) refl

-- words that begin with a verb, which is no count
words_said : (d : Declaration) (step : Step) (verb : List ℕ) (words : List (List ℕ)) → ArePlain (verb ∷ words) → is_skipped (spaced (verb ∷ words)) ≡ false → count_of verb ≡ None
    → step_of d (verb ∷ words) ≡ Some step → Reads d step (spaced (verb ∷ words))
words_said d step verb words plain shown count said =
    let same = words_read verb words plain in
    record {
      no_lf = spaced_free verb words plain;
      shown = shown;
      once = rw (same, count, said) refl;
      said = rw same said;
    }

-- a word that begins no skipped line, and that is no count
record IsVerb (verb : List ℕ) : Type 0 where
  plain : IsWord verb
  shown : (rest : List ℕ) → is_skipped (verb ++ (32 ∷ rest)) ≡ false
  count : count_of verb ≡ None

literal_verb : (verb : List ℕ) → list_all (λ b. not (b == 32)) verb ≡ true → list_all (λ b. not (b == 10)) verb ≡ true → ((rest : List ℕ) → is_skipped (verb ++ (32 ∷ rest)) ≡ false)
    → count_of verb ≡ None → IsVerb verb
literal_verb verb no_space no_lf shown count = record { plain = literal_plain verb no_space no_lf; shown = shown; count = count }

channel_read : (d : Declaration) (c : ℕ) → c < 2 * length d.links → c ≤ 65535 → channel_of d (decimal c) ≡ Some c
channel_read d c lt few = rw (spelled_read 65535 c (omega arith) few, lt-ltb c (2 * length d.links) lt) refl

never : (o : Option ℕ) (f : ℕ → Option Step) → ((c : ℕ) → f c ≡ None) → option_and_then f o ≡ None
never None f h = refl
never (Some c) f h = h c

module _ (d : Declaration) (verb before : List ℕ) (is : IsVerb verb) (same : (rest : List ℕ) → before ++ rest ≡ verb ++ (32 ∷ rest)) where
  channel_line : (c : ℕ) (s : Step) (line : List ℕ) → IsAtChannel d before c line → at_channel verb c ≡ Some s → Reads d s line
  channel_line c s line w at =
      let few = w.few in
      let said : step_of d (verb ∷ decimal c ∷ []) ≡ Some s = rw (channel_read d c w.in_net few, at) refl in
      subst (Reads d s) (sym (w.written ∙ same (decimal c))) (words_said d s verb (decimal c ∷ []) (is.plain, (decimal_plain c (omega (arith, few)), tt)) (is.shown (decimal c)) is.count said)

  node_line : (n : ℕ) (s : Step) (line : List ℕ) → IsAtNode d before n line → ((c : ℕ) → at_channel verb c ≡ None) → at_node verb n ≡ Some s → Reads d s line
  node_line n s line w never_at at =
      let said : step_of d (verb ∷ w.name ∷ []) ≡ Some s = rw (never (channel_of d w.name) (at_channel verb) never_at, w.node, at) refl in
      subst (Reads d s) (sym (w.written ∙ same w.name)) (words_said d s verb (w.name ∷ []) (is.plain, (w.word, tt)) (is.shown w.name) is.count said)

grant_line : (d : Declaration) (o i : ℕ) (line : List ℕ) → IsGrant d o i line → Reads d (Grant o i) line
grant_line d o i line w =
    let output = w.few.0 in
    let input = w.few.1 in
    subst (Reads d (Grant o i)) (sym w.written)
    (words_said d (Grant o i) (codes "grant") (decimal o ∷ decimal i ∷ []) (literal_plain (codes "grant") refl refl, (decimal_plain o (omega (arith, output)), (decimal_plain i (omega (arith, input)), tt))) refl refl
    (rw (channel_read d o w.output_in_net output, channel_read d i w.input_in_net input) refl))

end_plain : (e : End) → IsWord (end_text e)
end_plain Eop = literal_plain (codes "EOP") refl refl
end_plain Eep = literal_plain (codes "EEP") refl refl

end_read : (e : End) → end_of (end_text e) ≡ Some e
end_read Eop = refl
end_read Eep = refl

begin_line : (d : Declaration) (f : ℕ) (cargo : List ℕ) (e : End) (line : List ℕ) → IsBegin d f cargo e line → Reads d (Begin f cargo e) line
begin_line d f cargo e line w =
    subst (Reads d (Begin f cargo e)) (sym w.written)
    (words_said d (Begin f cargo e) (codes "begin") (w.name ∷ end_text e ∷ w.text ∷ []) (literal_plain (codes "begin") refl refl, (w.words.0, (end_plain e, (w.words.1, tt)))) refl refl
    (rw (w.named, end_read e, w.spelled) refl))

pub writes_read : (d : Declaration) (s : Step) (line : List ℕ) → Writes d s line → Reads d s line
writes_read d (Fct c) line w = channel_line d (codes "fct") (codes "fct ") (literal_verb (codes "fct") refl refl (λ rest. refl) refl) (λ rest. refl) c (Fct c) line w refl
writes_read d (FctIn c) line w = channel_line d (codes "fctin") (codes "fctin ") (literal_verb (codes "fctin") refl refl (λ rest. refl) refl) (λ rest. refl) c (FctIn c) line w refl
writes_read d (Arrive c) line w = channel_line d (codes "arrive") (codes "arrive ") (literal_verb (codes "arrive") refl refl (λ rest. refl) refl) (λ rest. refl) c (Arrive c) line w refl
writes_read d (Grant o i) line w = grant_line d o i line w
writes_read d (Drop c) line w = channel_line d (codes "drop") (codes "drop ") (literal_verb (codes "drop") refl refl (λ rest. refl) refl) (λ rest. refl) c (Drop c) line w refl
writes_read d (Forward c) line w = channel_line d (codes "forward") (codes "forward ") (literal_verb (codes "forward") refl refl (λ rest. refl) refl) (λ rest. refl) c (Forward c) line w refl
writes_read d (Spill c) line w = channel_line d (codes "spill") (codes "spill ") (literal_verb (codes "spill") refl refl (λ rest. refl) refl) (λ rest. refl) c (Spill c) line w refl
writes_read d (Begin f cargo e) line w = begin_line d f cargo e line w
writes_read d (Emit n) line w = node_line d (codes "emit") (codes "emit ") (literal_verb (codes "emit") refl refl (λ rest. refl) refl) (λ rest. refl) n (Emit n) line w (λ c. refl) refl
writes_read d (Accept n) line w = node_line d (codes "accept") (codes "accept ") (literal_verb (codes "accept") refl refl (λ rest. refl) refl) (λ rest. refl) n (Accept n) line w (λ c. refl) refl
writes_read d (Reply n) line w = node_line d (codes "reply") (codes "reply ") (literal_verb (codes "reply") refl refl (λ rest. refl) refl) (λ rest. refl) n (Reply n) line w (λ c. refl) refl

abbrev with_lf : List ℕ → List ℕ
with_lf line = line ++ 10 ∷ []

cut_lines : (d : Declaration) (steps : List Step) (lines : List (List ℕ)) → AllWritten d steps lines → slice_split (λ b. b == 10) (flat_map with_lf lines) ≡ lines ++ [] ∷ []
cut_lines d [] [] h = refl
cut_lines d [] (l ∷ ls) h = absurd h
cut_lines d (s ∷ ss) [] h = absurd h
cut_lines d (s ∷ ss) (l ∷ ls) h =
    ap (slice_split (λ b. b == 10)) (append_assoc l (10 ∷ []) (flat_map with_lf ls))
    ∙ slice_split_at (λ b. b == 10) l 10 (flat_map with_lf ls) (writes_read d s l h.0).no_lf refl
    ∙ ap (λ x. l ∷ x) (cut_lines d ss ls h.1)

adds_one : (d : Declaration) (n : ℕ) (before : List Step) (s : Step) (line : List ℕ) → Writes d s line → length before + 1 ≤ 1000000 → with_line d n before line ≡ Ok (before ++ s ∷ [])
adds_one d n before s line w few = let fits : nat_le (length before + 1) 1000000 ≡ true = le-leb (length before + 1) 1000000 few in rw (read_once d s line (writes_read d s line w), fits) refl

reads_all : (d : Declaration) (n : ℕ) (before steps : List Step) (lines : List (List ℕ)) → AllWritten d steps lines → length before + length steps ≤ 1000000 → with_lines d n before (lines ++ [] ∷ []) ≡ Ok (before ++ steps)
reads_all d n before [] [] h few = right_line d n before [] [] before (skipped_line d n before [] (omega (arith, few)) refl) ∙ ap Ok (sym (append-nil before))
reads_all d n before [] (l ∷ ls) h few = absurd h
reads_all d n before (s ∷ ss) [] h few = absurd h
reads_all d n before (s ∷ ss) (l ∷ ls) h few =
    right_line d n before l (ls ++ [] ∷ []) (before ++ s ∷ []) (adds_one d n before s l h.0 (omega (arith, few)))
    ∙ reads_all d (n + 1) (before ++ s ∷ []) ss ls h.1 (omega (arith, few, length-append before (s ∷ [])))
    ∙ ap Ok (append_assoc before (s ∷ []) ss)

pub written_read : (d : Declaration) (steps : List Step) (lines : List (List ℕ)) → AllWritten d steps lines → length steps ≤ 1000000 → steps_of_text d (flat_map with_lf lines) ≡ Ok steps
unfolding steps_of_text
written_read d steps lines h few = ap (with_lines d 1 []) (cut_lines d steps lines h) ∙ reads_all d 1 [] steps lines h (omega (arith, few))
