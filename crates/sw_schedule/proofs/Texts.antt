-- A text of entries is read as their steps.
use Rattle.std.proofs.Common.{◌≡◌, ℕ, ◌≤◌, List, [], ◌∷◌, ◌++◌, length, map, replicate, Option, Some, None, refl, sym, ap, subst, ◌∙◌, inl, inr, arith, append_assoc}
use Rattle.std.specs.Prelude.{◌==◌, Ok, flat_map, nat_le}
use Rattle.std.specs.Fmt.{decimal}
use Rattle.std.specs.List.{slice_split}
use Rattle.std.proofs.lemmas.Bool.{cases_Bool, leb-true}
use Rattle.std.proofs.lemmas.List.Splits.{slice_split_at}
use Rattle.sw_config.specs.Entries.{Declaration, wiring_of}
use Rattle.sw_config.specs.Valid.{IsValid}
use Rattle.sw_config.proofs.Steps.{length-link_ends}
use Rattle.sw_load.specs.Cargo.{CargoIsRead}
use Rattle.sw_machine.specs.Steps.{Step}
use Rattle.sw_machine.specs.ModelLaws.{DeclaredNetworksAreNetworks}
use Rattle.sw_schedule.specs.Laws.{LinesAreRead}
use Rattle.sw_schedule.specs.Lines.{Repeated, steps_of_line}
use Rattle.sw_schedule.specs.Schedule.{steps_of, steps_of_text}
use Rattle.sw_schedule.specs.TextLaws.{SchedulesAreRead}
use Rattle.sw_schedule.specs.WrittenLines.{step_line}
use Rattle.sw_schedule.specs.Runs.{entries_of, entry_line, readable_text, schedule_text, short_text}
use Rattle.sw_schedule.proofs.Entries.{Each, IsRight, entries_right, entries_steps}
use Rattle.sw_schedule.proofs.Histories.{history_writable}
use Rattle.sw_schedule.proofs.Written.{Reads}
use Rattle.sw_schedule.proofs.WrittenLines.{IsWritable, Says, entry_says, entry_text, step_read}
use Rattle.sw_topo.proofs.Converse.{no_fault}

abbrev SaysSteps : Declaration → Repeated → Type 0
SaysSteps d r = Says d (replicate r.count r.step) (entry_text d r)

entry_is_line : (d : Declaration) (r : Repeated) → entry_line d r ≡ entry_text d r ++ (10 ∷ [])
entry_is_line d r = elim (cases_Bool (r.count == 1)) [
  | inl t ↦ rw t refl
  | inr f ↦ rw f (sym (append_assoc (decimal r.count) (32 ∷ step_line d r.step) (10 ∷ [])))
]

abbrev texts_of : Declaration → List Repeated → List (List ℕ)
texts_of d entries = map (entry_text d) entries ++ ([] ∷ [])

abbrev parts_of : List Repeated → List (List Step)
parts_of entries = map (λ (r : Repeated). replicate r.count r.step) entries ++ ([] ∷ [])

lines_cut : (d : Declaration) (entries : List Repeated) → Each (SaysSteps d) entries → slice_split (λ b. b == 10) (flat_map (entry_line d) entries) ≡ texts_of d entries
lines_cut d [] h = refl
lines_cut d (r ∷ entries) h =
    ap (λ l. slice_split (λ b. b == 10) (l ++ flat_map (entry_line d) entries)) (entry_is_line d r)
    ∙ ap (slice_split (λ b. b == 10)) (append_assoc (entry_text d r) (10 ∷ []) (flat_map (entry_line d) entries))
    ∙ slice_split_at (λ b. b == 10) (entry_text d r) 10 (flat_map (entry_line d) entries) h.0.no_lf refl
    ∙ ap (λ ls. entry_text d r ∷ ls) (lines_cut d entries h.1)

empty_says : (d : Declaration) → steps_of_line d [] ≡ Some []
unfolding steps_of_line
empty_says d = refl

lines_say : (d : Declaration) (entries : List Repeated) → Each (SaysSteps d) entries → map (λ line. steps_of_line d line) (texts_of d entries) ≡ map Some (parts_of entries)
lines_say d [] h = ap (λ o. o ∷ []) (empty_says d)
lines_say d (r ∷ entries) h =
    ap (λ o. o ∷ map (λ line. steps_of_line d line) (texts_of d entries)) h.0.says ∙ ap (λ os. Some (replicate r.count r.step) ∷ os) (lines_say d entries h.1)

parts_are : (entries : List Repeated) → steps_of entries ≡ flat_map (λ part. part) (parts_of entries)
parts_are [] = refl
parts_are (r ∷ entries) = ap (λ more. replicate r.count r.step ++ more) (parts_are entries)

text_read : LinesAreRead → (d : Declaration) (entries : List Repeated) → Each (SaysSteps d) entries → length (steps_of entries) ≤ 1000000 → steps_of_text d (flat_map (entry_line d) entries) ≡ Ok (steps_of entries)
unfolding steps_of_text
text_read lines_are_read d entries h few =
    rw (lines_cut d entries h)
    ((lines_are_read d (texts_of d entries) (steps_of entries)).1 (record { parts = parts_of entries; each = lines_say d entries h; all = parts_are entries; few = few }))

each_says : (d : Declaration) → ((s : Step) → IsWritable d s → Reads d s (step_line d s)) → (entries : List Repeated) → Each (IsRight (IsWritable d)) entries → Each (SaysSteps d) entries
each_says d reads [] h = tt
each_says d reads (r ∷ entries) h = (entry_says d r h.0.some h.0.few (reads r.step h.0.step), each_says d reads entries h.1)

-- ---- the text of a history

few_links : (d : Declaration) → IsValid d → length d.links ≤ 1024
few_links d valid =
    let kept = (no_fault (wiring_of d) valid.sound.wiring).0 valid.sound.faultless in
    let few = kept.few_links in
    let same = length-link_ends d.links in
    omega (arith, few, same)

record IsReadable (d : Declaration) (steps : List Step) (text : List ℕ) : Type 0 where
  few : length steps ≤ 1000000
  is : text ≡ schedule_text d steps

none_some : (text : List ℕ) → ◌≡◌ {A = Option (List ℕ)} None (Some text) → ⊥
none_some text e = cc

short : (whole text : List ℕ) → short_text whole ≡ Some text → text ≡ whole
short whole text e = elim (cases_Bool (nat_le (length whole) 67108864)) [
  | inl t ↦ let same : Some whole ≡ Some text = rw t at e in some_same whole text same
  | inr f ↦ let none : ◌≡◌ {A = Option (List ℕ)} None (Some text) = rw f at e in absurd (none_some text none)
]
  where
    some_same : (a b : List ℕ) → Some a ≡ Some b → b ≡ a
    some_same a b e = cc

readable : (d : Declaration) (steps : List Step) (text : List ℕ) → readable_text d steps ≡ Some text → IsReadable d steps text
readable d steps text e = elim (cases_Bool (nat_le (length steps) 1000000)) [
  | inl t ↦ let is : short_text (schedule_text d steps) ≡ Some text = rw t at e in record { few = leb-true (length steps) 1000000 t; is = short (schedule_text d steps) text is }
  | inr f ↦ let none : ◌≡◌ {A = Option (List ℕ)} None (Some text) = rw f at e in absurd (none_some text none)
]

pub schedules_are_read : CargoIsRead → LinesAreRead → DeclaredNetworksAreNetworks → SchedulesAreRead
schedules_are_read cargo_is_read lines_are_read are_networks d load steps s text valid names short history e =
    let is = readable d steps text e in
    let writable = history_writable d (are_networks d valid) load steps s short history in
    let right = entries_right (IsWritable d) steps writable in
    let says = each_says d (step_read cargo_is_read d valid names (few_links d valid)) (entries_of steps) right in
    let same = entries_steps steps in
    let few : length (steps_of (entries_of steps)) ≤ 1000000 = subst (λ (ss : List Step). length ss ≤ 1000000) (sym same) is.few in
    ap (steps_of_text d) is.is ∙ text_read lines_are_read d (entries_of steps) says few ∙ ap Ok same
