-- Runs of which neither a schedule nor a summary is wanted, and the statuses of their answers.
use Rattle.std.proofs.Common.{◌≡◌, ℕ, List, [], ◌∷◌, inl, inr, refl, subst, sym}
use Rattle.std.specs.Prelude.{Err, None, Ok, Option, Result, Some, codes}
use Rattle.sw_config.specs.Entries.{Declaration}
use Rattle.sw_engine.proofs.AnsweredTwo.{ends_by_files}
use Rattle.sw_engine.specs.Engines.{AnswersToTwoInForm, EndsByTwo}
use Rattle.sw_engine.specs.Files.{AreFilesRead, network_of, second_given}
use Rattle.sw_engine.specs.Tellings.{AnswersToFile, Findings, HoldsOfFound, IsFileTold, TellsOr}
use Rattle.sw_engine.specs.declared.network_file.NetworkFile.{NetworkFile}
use Rattle.sw_engine.specs.declared.network_file.NetworkFile.TheVariants.{Network, Faulty, TooLong, Unread, NoMemory}
use Rattle.sw_json.proofs.OneObject.{lines_of_object}
use Rattle.sw_json.specs.Answering.{read_value}
use Rattle.sw_load.specs.Load.{LoadEntry, load_text}
use Rattle.sw_text.specs.Ends.{Answers}
use Rattle.sw_text.specs.declared.fault.TextFault.{TextFault}
use Rattle.sw_text.specs.declared.read_texts.InputText.{InputText}
use Rattle.sw_text.specs.declared.write_answer.Ended.{Ended}
use Rattle.sw_runs.specs.Laws.{RunHasStatusesOfTexts}
use Rattle.sw_runs.specs.Recordings.{IsRunTold, IsScheduleTold, TellsRun, schedule_found}
use Rattle.sw_runs.specs.RunAnswers.{IsFoundOfLoad, IsRunFinding, nothing_wanted, run_lines, run_results, run_results_have_status, run_status}
use Rattle.sw_runs.specs.declared.run_finding.RunFinding.{RunFinding}
use Rattle.sw_runs.specs.declared.run_finding.RunFinding.TheVariants as finding
use Rattle.sw_runs.specs.declared.run_finding.RunSchedule.{RunSchedule}

-- ---- no schedule is found

of_load : (limit : ℕ) (d : Declaration) (r : Result (List LoadEntry) TextFault) (f : RunFinding) → IsFoundOfLoad limit nothing_wanted d r f
    → schedule_found (Some (Ok f)) ≡ None
of_load limit d (Ok load) (finding.Ran report) (o, is, told) = told.besides.0
of_load limit d (Ok load) (finding.Faulty fault) (o, is, told) = absurd told
of_load limit d (Ok load) finding.TooLong (o, is, told) = absurd told
of_load limit d (Err fault) f is = subst (λ (g : RunFinding). schedule_found (Some (Ok g)) ≡ None) (sym is) refl

of_second : (limit : ℕ) (second : Option (List ℕ)) (d : Declaration) (f : RunFinding) → IsRunFinding limit nothing_wanted second d f
    → schedule_found (Some (Ok f)) ≡ None
of_second limit (Some bytes) d f is = of_load limit d (load_text d bytes) f is
of_second limit None d f is = subst (λ (g : RunFinding). schedule_found (Some (Ok g)) ≡ None) (sym is) refl

-- where a network was read
no_schedule : (limit : ℕ) (second : Option (List ℕ)) (d : Declaration) (found : Findings RunFinding)
    → HoldsOfFound (IsRunFinding limit nothing_wanted second) (Some d) found → schedule_found found ≡ None
no_schedule limit second d (Some (Ok f)) holds = of_second limit second d f holds
no_schedule limit second d (Some (Err none)) holds = refl
no_schedule limit second d None holds = refl

-- ---- what is told then

alone : (memory : List ℕ) (P : Answers) (steps : Option RunSchedule) (old new kept written : Option (List ℕ)) (ended : Ended) → steps ≡ None
    → TellsRun memory P steps old new kept written ended → TellsOr memory P old new ended
alone memory P steps old new kept written ended none (inl (text, status, is, told)) =
    (text, status, inl is, (subst (λ (s : Option RunSchedule). IsScheduleTold s text status old new kept written ended) none told).0)
alone memory P steps old new kept written ended none (inr told) = (memory, 5, inr (refl, refl), told.0)

module _ (limit : ℕ) (Tells : Option (List ℕ) → List ℕ → Declaration → RunFinding → Answers) (Faults : Option (List ℕ) → List ℕ → TextFault → Answers)
    (Long : Option (List ℕ) → Answers) (memory : List ℕ) (first first_after second second_after old new kept written : Option (List ℕ))
    (input : Option InputText) where
  abbrev to_read : NetworkFile → Findings RunFinding → Answers
  to_read = AnswersToFile (Tells (second_given input)) (Faults (second_given input)) (Long (second_given input))

  told_alone : (file : NetworkFile) (found : Findings RunFinding) (ended : Ended)
      → HoldsOfFound (IsRunFinding limit nothing_wanted (second_given input)) (network_of file) found
      → (network_of file ≡ None → found ≡ None) → IsRunTold memory (to_read file found) (schedule_found found) file old new kept written ended
      → IsFileTold memory (to_read file found) file old new ended
  told_alone (Network bytes d) found ended holds there told =
      alone memory (to_read (Network bytes d) found) (schedule_found found) old new kept written ended (no_schedule limit (second_given input) d found holds) told
  told_alone (Faulty bytes fault) found ended holds there told =
      alone memory (to_read (Faulty bytes fault) found) (schedule_found found) old new kept written ended
      (subst (λ (f : Findings RunFinding). schedule_found f ≡ None) (sym (there refl)) refl) told
  told_alone TooLong found ended holds there told =
      alone memory (to_read TooLong found) (schedule_found found) old new kept written ended
      (subst (λ (f : Findings RunFinding). schedule_found f ≡ None) (sym (there refl)) refl) told
  told_alone Unread found ended holds there told = (told.0, told.1)
  told_alone NoMemory found ended holds there told =
      alone memory (to_read NoMemory found) (schedule_found found) old new kept written ended
      (subst (λ (f : Findings RunFinding). schedule_found f ≡ None) (sym (there refl)) refl) told

  pub runs_alone : (file : NetworkFile) (found : Findings RunFinding) (ended : Ended) → AreFilesRead first first_after second second_after file input
      → HoldsOfFound (IsRunFinding limit nothing_wanted (second_given input)) (network_of file) found → (network_of file ≡ None → found ≡ None)
      → IsRunTold memory (to_read file found) (schedule_found found) file old new kept written ended
      → EndsByTwo memory (AnswersToTwoInForm (IsRunFinding limit nothing_wanted) Tells Faults Long) first first_after second second_after old new ended
  runs_alone file found ended read holds there told =
      ends_by_files (IsRunFinding limit nothing_wanted) Tells Faults Long first first_after second second_after input memory old new file found ended read holds
      (told_alone file found ended holds there told)

-- ---- statuses

pub run_has_statuses_of_texts : RunHasStatusesOfTexts
run_has_statuses_of_texts limit path other release first second text status is =
    lines_of_object (IsRunFinding limit nothing_wanted second) (run_results other second) (codes "run") path
    (λ read. read_value path read ∷ read_value other second ∷ []) release run_status
    (λ d x value number told. run_results_have_status other second d x value number told) run_lines first text status is
