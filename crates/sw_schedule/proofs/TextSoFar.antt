-- The text of the steps so far, and what is still to be written.
use Rattle.std.proofs.Common.{◌≡◌, ℕ, ◌+◌, ◌<◌, ◌≤◌, ◌&&◌, true, false, List, ◌∷◌, ◌++◌, None, Some, append-nil, append_assoc, drop, get_or, length, length-append, map, refl, subst, ap, sym, ◌∙◌, arith, ltb-true}
use Rattle.std.proofs.lemmas.Bool.{and_parts, le-leb, lt-leb}
use Rattle.std.proofs.lemmas.List.{at_drop_more, drop_all, length-map}
use Rattle.std.specs.List.{flat_map}
use Rattle.std.specs.Prelude.{nat_lt}
use Rattle.sw_config.specs.Entries.{Declaration}
use Rattle.sw_machine.specs.StepValues.{machine_step}
use Rattle.sw_machine.specs.declared.step.Step.{Step}
use Rattle.sw_schedule.specs.Runs.{entries_from, entry_line, is_same, readable_text, schedule_text, short_text}

-- what was written and what is still to be written are the whole text; the last step was made so often
pub record IsBegun (before after whole : List ℕ) (count : ℕ) : Type 0 where
  pub goes : before ++ after ≡ whole
  pub few : count ≤ 100000

-- the entries of steps, behind a step that was made so often
abbrev pub text_from : Declaration → Step → ℕ → List Step → List ℕ
text_from d last count steps = flat_map (entry_line d) (entries_from (machine_step last) count (map machine_step steps))

module _ (d : Declaration) (rest : List Step) (whole text : List ℕ) (last : Step) (count i : ℕ) (so_far : IsBegun text (text_from d last count (drop i rest)) whole count) where
  next : (step : Step) → i < length rest → step ≡ get_or rest i step → text ++ text_from d last count (step ∷ drop (i + 1) rest) ≡ whole
  next step lt at =
      ap (λ (s : Step). text ++ text_from d last count (s ∷ drop (i + 1) rest)) at ∙ ap (λ (t : List ℕ). text ++ t) (sym (at_drop_more (text_from d last count) rest i step lt)) ∙ so_far.goes

  -- the same step once more
  pub once_again : (step : Step) → i < length rest → step ≡ get_or rest i step → (nat_lt count 100000 && is_same (machine_step step) (machine_step last)) ≡ true
      → IsBegun text (text_from d last (count + 1) (drop (i + 1) rest)) whole (count + 1)
  once_again step lt at same =
      let less = ltb-true count 100000 (and_parts (nat_lt count 100000) (is_same (machine_step step) (machine_step last)) same).0 in
      let goes = next step lt at in
      record { goes = rw same at goes; few = omega (arith, less) }

  -- another step, behind the entry of the last one
  pub entry_ends : (step : Step) (after : List ℕ) → i < length rest → step ≡ get_or rest i step → (nat_lt count 100000 && is_same (machine_step step) (machine_step last)) ≡ false
      → after ≡ text ++ entry_line d (record { count = count; step = machine_step last }) → IsBegun after (text_from d step 1 (drop (i + 1) rest)) whole 1
  entry_ends step after lt at other added =
      let goes = next step lt at in
      let behind : text ++ (entry_line d (record { count = count; step = machine_step last }) ++ text_from d step 1 (drop (i + 1) rest)) ≡ whole = rw other at goes in
      record {
        goes =
            ap (λ (t : List ℕ). t ++ text_from d step 1 (drop (i + 1) rest)) added
            ∙ append_assoc text (entry_line d (record { count = count; step = machine_step last })) (text_from d step 1 (drop (i + 1) rest)) ∙ behind;
        few = omega arith;
      }

  -- the last entry
  pub all_written : (after : List ℕ) → length rest ≤ i → after ≡ text ++ entry_line d (record { count = count; step = machine_step last }) → after ≡ whole
  all_written after ended added =
      added ∙ ap (λ (t : List ℕ). text ++ t) (sym (append-nil (entry_line d (record { count = count; step = machine_step last }))))
      ∙ ap (λ (steps : List Step). text ++ text_from d last count steps) (sym (drop_all i rest ended)) ∙ so_far.goes

-- a text whose beginning is too long is too long
pub too_long : (before after whole : List ℕ) → before ++ after ≡ whole → 67108864 < length before → short_text whole ≡ None
too_long before after whole goes long =
    let size = ap length goes in
    rw (lt-leb (length whole) 67108864 (omega (arith, long, size, length-append before after))) refl

-- one that is short enough
pub short_enough : (text whole : List ℕ) → text ≡ whole → length text ≤ 67108864 → Some text ≡ short_text whole
short_enough text whole is few = subst (λ (t : List ℕ). Some text ≡ short_text t) is (rw (le-leb (length text) 67108864 few) refl)

-- of no more steps than a schedule may have
pub readable : (d : Declaration) (steps : List Step) → length steps ≤ 1000000 → short_text (schedule_text d (map machine_step steps)) ≡ readable_text d (map machine_step steps)
readable d steps few =
    let count : length (map machine_step steps) ≡ length steps = rw length-map refl in
    sym (rw (le-leb (length (map machine_step steps)) 1000000 (omega (arith, count, few))) refl)
