-- Lines that are read, as the parts that they say.
use Rattle.std.proofs.Common.{◌≡◌, ℕ, ◌+◌, ◌≤◌, true, List, [], ◌∷◌, ◌++◌, length, map, refl, sym, ap, subst, ◌∙◌, inl, inr, arith, append_assoc, append-nil, length-append, Option, Some, None}
use Rattle.std.specs.Prelude.{nat_le, Result, Ok, Err}
use Rattle.std.specs.Option.{option_map_or}
use Rattle.std.specs.List.{flat_map}
use Rattle.std.proofs.lemmas.Bool.{cases_Bool, leb-true, le-leb}
use Rattle.sw_machine.specs.Steps.{Step}
use Rattle.sw_config.specs.Entries.{Declaration}
use Rattle.sw_schedule.specs.Lines.{is_skipped, steps_of_line}
use Rattle.sw_schedule.specs.Schedule.{and_then, with_lines, with_steps}
use Rattle.sw_schedule.specs.Laws.{AreRead, AreStepsOf}

abbrev joined : List (List Step) → List Step
joined parts = flat_map (λ part. part) parts

abbrev said : Declaration → List (List ℕ) → List (Option (List Step))
said d lines = map (λ line. steps_of_line d line) lines

-- the lines say these parts, which come after what was read before
record Go (d : Declaration) (before : List Step) (lines : List (List ℕ)) (steps : List Step) : Type 0 where
  parts : List (List Step)
  each : said d lines ≡ map Some parts
  all : steps ≡ before ++ joined parts
  few : length steps ≤ 1000000

err_ok : (n : ℕ) (steps : List Step) → ◌≡◌ {A = Result (List Step) ℕ} (Err n) (Ok steps) → ⊥
err_ok n steps e = cc

goes : (d : Declaration) (n : ℕ) (before : List Step) (lines : List (List ℕ)) (steps : List Step) → length before ≤ 1000000 → with_lines d n before lines ≡ Ok steps → Go d before lines steps
goes d n before [] steps few e = let same : before ≡ steps = cc in record { parts = []; each = refl; all = sym same ∙ sym (append-nil before); few = subst (λ s. length s ≤ 1000000) same few }
goes d n before (line ∷ lines) steps few e = by_line (λ more le. goes d (n + 1) (before ++ more) lines steps le) (steps_of_line d line) refl e
  where
    by_line : ((more : List Step) → length (before ++ more) ≤ 1000000 → with_lines d (n + 1) (before ++ more) lines ≡ Ok steps → Go d (before ++ more) lines steps)
        → (o : Option (List Step)) → steps_of_line d line ≡ o → and_then (λ s. with_lines d (n + 1) s lines) (option_map_or (with_steps n before) o (Err n)) ≡ Ok steps → Go d before (line ∷ lines) steps
    by_line later None is h = absurd (err_ok n steps h)
    by_line later (Some more) is h = elim (cases_Bool (nat_le (length before + length more) 1000000)) [
      | inl t ↦
          let next : with_lines d (n + 1) (before ++ more) lines ≡ Ok steps = rw t at h in
          let low = leb-true (length before + length more) 1000000 t in
          let r = later more (omega (arith, low, length-append before more)) next in
          record { parts = more ∷ r.parts; each = ap (λ o. o ∷ said d lines) is ∙ ap (λ os. Some more ∷ os) r.each; all = r.all ∙ append_assoc before more (joined r.parts); few = r.few }
      | inr f ↦ let bad : ◌≡◌ {A = Result (List Step) ℕ} (Err n) (Ok steps) = rw f at h in absurd (err_ok n steps bad)
    ]

none_left : (o : Option (List Step)) (os : List (Option (List Step))) → [] ≡ o ∷ os → ⊥
none_left o os e = cc

some_left : (o : Option (List Step)) (os : List (Option (List Step))) → o ∷ os ≡ [] → ⊥
some_left o os e = cc

head_same : (o p : Option (List Step)) (os ps : List (Option (List Step))) → o ∷ os ≡ p ∷ ps → o ≡ p
head_same o p os ps e = cc

tail_same : (o p : Option (List Step)) (os ps : List (Option (List Step))) → o ∷ os ≡ p ∷ ps → os ≡ ps
tail_same o p os ps e = cc

comes : (d : Declaration) (n : ℕ) (before : List Step) (lines : List (List ℕ)) (parts : List (List Step)) → said d lines ≡ map Some parts → length (before ++ joined parts) ≤ 1000000 → with_lines d n before lines ≡ Ok (before ++ joined parts)
comes d n before [] [] e few = ap Ok (sym (append-nil before))
comes d n before [] (p ∷ ps) e few = absurd (none_left (Some p) (map Some ps) e)
comes d n before (line ∷ lines) [] e few = absurd (some_left (steps_of_line d line) (said d lines) e)
comes d n before (line ∷ lines) (p ∷ ps) e few =
    let first = head_same (steps_of_line d line) (Some p) (said d lines) (map Some ps) e in
    let same = append_assoc before p (joined ps) in
    let few2 : length ((before ++ p) ++ joined ps) ≤ 1000000 = subst (λ s. length s ≤ 1000000) (sym same) few in
    let fits : nat_le (length before + length p) 1000000 ≡ true = le-leb (length before + length p) 1000000 (omega (arith, few2, length-append (before ++ p) (joined ps), length-append before p)) in
    rw first (rw fits (comes d (n + 1) (before ++ p) lines ps (tail_same (steps_of_line d line) (Some p) (said d lines) (map Some ps) e) few2 ∙ ap Ok same))

pub parts_said : (d : Declaration) (lines : List (List ℕ)) (steps : List Step) → AreRead d lines steps → AreStepsOf d lines steps
parts_said d lines steps e = let g = goes d 1 [] lines steps (omega arith) e in record { parts = g.parts; each = g.each; all = g.all; few = g.few }

pub parts_read : (d : Declaration) (lines : List (List ℕ)) (steps : List Step) → AreStepsOf d lines steps → AreRead d lines steps
parts_read d lines steps s = comes d 1 [] lines s.parts s.each (subst (λ t. length t ≤ 1000000) s.all s.few) ∙ ap Ok (sym s.all)

says_nothing : (d : Declaration) (line : List ℕ) → is_skipped line ≡ true → steps_of_line d line ≡ Some []
unfolding steps_of_line
says_nothing d line t = rw t refl

nothing_same : (p : List Step) → Some [] ≡ Some p → [] ≡ p
nothing_same p e = cc

module _ (d : Declaration) (line : List ℕ) (ys : List (List ℕ)) (nothing : steps_of_line d line ≡ Some []) where
  without : (xs : List (List ℕ)) (ps : List (List Step)) → said d (xs ++ line ∷ ys) ≡ map Some ps → (qs : List (List Step)) × (said d (xs ++ ys) ≡ map Some qs) × (joined ps ≡ joined qs)
  without [] [] e = absurd (some_left (steps_of_line d line) (said d ys) e)
  without [] (p ∷ ps) e =
      let empty : [] ≡ p = nothing_same p (sym nothing ∙ head_same (steps_of_line d line) (Some p) (said d ys) (map Some ps) e) in
      (ps, tail_same (steps_of_line d line) (Some p) (said d ys) (map Some ps) e, ap (λ x. x ++ joined ps) (sym empty))
  without (x ∷ xs) [] e = absurd (some_left (steps_of_line d x) (said d (xs ++ line ∷ ys)) e)
  without (x ∷ xs) (p ∷ ps) e =
      let first = head_same (steps_of_line d x) (Some p) (said d (xs ++ line ∷ ys)) (map Some ps) e in
      let r = without xs ps (tail_same (steps_of_line d x) (Some p) (said d (xs ++ line ∷ ys)) (map Some ps) e) in
      (p ∷ r.0, ap (λ o. o ∷ said d (xs ++ ys)) first ∙ ap (λ os. Some p ∷ os) r.1, ap (λ s. p ++ s) r.2)

  with_it : (xs : List (List ℕ)) (qs : List (List Step)) → said d (xs ++ ys) ≡ map Some qs → (ps : List (List Step)) × (said d (xs ++ line ∷ ys) ≡ map Some ps) × (joined qs ≡ joined ps)
  with_it [] qs e = ([] ∷ qs, ap (λ o. o ∷ said d ys) nothing ∙ ap (λ os. Some [] ∷ os) e, refl)
  with_it (x ∷ xs) [] e = absurd (some_left (steps_of_line d x) (said d (xs ++ ys)) e)
  with_it (x ∷ xs) (q ∷ qs) e =
      let first = head_same (steps_of_line d x) (Some q) (said d (xs ++ ys)) (map Some qs) e in
      let r = with_it xs qs (tail_same (steps_of_line d x) (Some q) (said d (xs ++ ys)) (map Some qs) e) in
      (q ∷ r.0, ap (λ o. o ∷ said d (xs ++ line ∷ ys)) first ∙ ap (λ os. Some q ∷ os) r.1, ap (λ s. q ++ s) r.2)

pub skips : (d : Declaration) (xs ys : List (List ℕ)) (line : List ℕ) (steps : List Step) → is_skipped line ≡ true → AreRead d (xs ++ line ∷ ys) steps → AreRead d (xs ++ ys) steps
skips d xs ys line steps t e =
    let s = parts_said d (xs ++ line ∷ ys) steps e in
    let r = without d line ys (says_nothing d line t) xs s.parts s.each in
    parts_read d (xs ++ ys) steps (record { parts = r.0; each = r.1; all = s.all ∙ r.2; few = s.few })

pub puts_in : (d : Declaration) (xs ys : List (List ℕ)) (line : List ℕ) (steps : List Step) → is_skipped line ≡ true → AreRead d (xs ++ ys) steps → AreRead d (xs ++ line ∷ ys) steps
puts_in d xs ys line steps t e =
    let s = parts_said d (xs ++ ys) steps e in
    let r = with_it d line ys (says_nothing d line t) xs s.parts s.each in
    parts_read d (xs ++ line ∷ ys) steps (record { parts = r.0; each = r.1; all = s.all ∙ r.2; few = s.few })
