-- What an engine has done that told what was found of a network file and a second file.
use Rattle.std.proofs.Common.{◌≡◌, ◌⊎◌, ℕ, List, inl, inr, subst, sym}
use Rattle.std.specs.Prelude.{Option}
use Rattle.sw_config.specs.Entries.{Declaration}
use Rattle.sw_text.specs.declared.fault.TextFault.{TextFault}
use Rattle.sw_text.specs.declared.read_texts.InputText.{InputText}
use Rattle.sw_text.specs.declared.write_answer.Ended.{Ended}
use Rattle.sw_text.specs.declared.write_answer.Ended.TheVariants as ended
use Rattle.sw_text.specs.Ends.{Answers, AnswersByTwo, AnswersToTwo, IsTold, Says}
use Rattle.sw_engine.specs.Engines.{AnswersToTwoInForm, EndsByTwo}
use Rattle.sw_engine.specs.Files.{AreFilesRead, network_of, second_given}
use Rattle.sw_engine.specs.Tellings.{AnswersToFile, Findings, HoldsOfFound, IsFileTold, TellsOr}
use Rattle.sw_engine.specs.declared.network_file.NetworkFile.{NetworkFile}
use Rattle.sw_engine.specs.declared.network_file.NetworkFile.TheVariants.{Network, Faulty, TooLong, Unread, NoMemory}
use Rattle.sw_engine.proofs.Answered.{by_given}

module _ {X : Type 0} (Finds : Option (List ℕ) → Declaration → X → Type 0) (Tells : Option (List ℕ) → List ℕ → Declaration → X → Answers)
    (Faults : Option (List ℕ) → List ℕ → TextFault → Answers) (Long : Option (List ℕ) → Answers)
    (first first_after second second_after : Option (List ℕ)) (input : Option InputText) where
  -- the answers to the two files
  abbrev to_two : AnswersToTwo
  to_two = AnswersToTwoInForm Finds Tells Faults Long

  -- the answers to what was read of them
  abbrev to_read : NetworkFile → Findings X → Answers
  to_read = AnswersToFile (Tells (second_given input)) (Faults (second_given input)) (Long (second_given input))

  -- an answer to what was read is one to what the readers gave
  pub by_files : (file : NetworkFile) (findings : Findings X) (text : List ℕ) (status : ℕ) → AreFilesRead first first_after second second_after file input
      → HoldsOfFound (Finds (second_given input)) (network_of file) findings → to_read file findings text status
      → AnswersByTwo to_two first first_after second second_after text status
  by_files (Network bytes d) findings text status ((given, gives, is), other) holds answer = (
    given,
    second_given input,
    gives,
    other,
    by_given (Finds (second_given input)) (Tells (second_given input)) (Faults (second_given input))
        (Long (second_given input)) given (Network bytes d) findings text status is holds answer,
  )
  by_files (Faulty bytes fault) findings text status ((given, gives, is), other) holds answer = (
    given,
    second_given input,
    gives,
    other,
    by_given (Finds (second_given input)) (Tells (second_given input)) (Faults (second_given input))
        (Long (second_given input)) given (Faulty bytes fault) findings text status is holds answer,
  )
  by_files TooLong findings text status ((given, gives, is), other) holds answer = (
    given,
    second_given input,
    gives,
    other,
    by_given (Finds (second_given input)) (Tells (second_given input)) (Faults (second_given input))
        (Long (second_given input)) given TooLong findings text status is holds answer,
  )
  by_files Unread findings text status read holds answer = absurd answer
  by_files NoMemory findings text status read holds answer = absurd answer

  module _ (memory : List ℕ) (old new : Option (List ℕ)) where
    ended_so : (end : Ended) (text : List ℕ) (status : ℕ)
        → AnswersByTwo to_two first first_after second second_after text status ⊎ Says memory 5 text status → IsTold old new text status end
        → EndsByTwo memory to_two first first_after second second_after old new end
    ended_so (ended.Status n) text status may is = (text, status, may, is)
    ended_so ended.WriteFailed text status may is = (text, status, may, is)
    ended_so ended.ReadFailed text status may is = absurd is

    pub told_two : (file : NetworkFile) (findings : Findings X) (end : Ended) → AreFilesRead first first_after second second_after file input
        → HoldsOfFound (Finds (second_given input)) (network_of file) findings → TellsOr memory (to_read file findings) old new end
        → EndsByTwo memory to_two first first_after second second_after old new end
    told_two file findings end read holds (text, status, inl answer, is) =
        ended_so end text status (inl (by_files file findings text status read holds answer)) is
    told_two file findings end read holds (text, status, inr wanted, is) = ended_so end text status (inr wanted) is

    -- the engine that read the files and told of them
    pub ends_by_files : (file : NetworkFile) (findings : Findings X) (end : Ended) → AreFilesRead first first_after second second_after file input
        → HoldsOfFound (Finds (second_given input)) (network_of file) findings → IsFileTold memory (to_read file findings) file old new end
        → EndsByTwo memory to_two first first_after second second_after old new end
    ends_by_files (Network bytes d) findings end read holds is = told_two (Network bytes d) findings end read holds is
    ends_by_files (Faulty bytes fault) findings end read holds is = told_two (Faulty bytes fault) findings end read holds is
    ends_by_files TooLong findings end read holds is = told_two TooLong findings end read holds is
    ends_by_files Unread findings end read holds is =
        subst (λ (e : Ended). EndsByTwo memory to_two first first_after second second_after old new e) (sym is.0) is.1
    ends_by_files NoMemory findings end read holds is = told_two NoMemory findings end read holds is

    -- the same, where what was found is told of the second text by another name
    pub ends_by_text : (text : Option (List ℕ)) (file : NetworkFile) (findings : Findings X) (end : Ended) → text ≡ second_given input
        → AreFilesRead first first_after second second_after file input → HoldsOfFound (Finds text) (network_of file) findings
        → IsFileTold memory (to_read file findings) file old new end
        → EndsByTwo memory to_two first first_after second second_after old new end
    ends_by_text text file findings end same read holds told =
        ends_by_files file findings end read (subst (λ (t : Option (List ℕ)). HoldsOfFound (Finds t) (network_of file) findings) same holds)
        told
