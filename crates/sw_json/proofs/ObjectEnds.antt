-- What an engine has done that told what was found of a network file, alone or with a second file, as one object of JSON.
use Rattle.std.proofs.Common.{◌⊎◌, ℕ, List, [], ◌∷◌, inl, inr}
use Rattle.std.specs.Prelude.{Err, None, Ok, Option, Result, Some}
use Rattle.serde_json.specs.Data.{Data}
use Rattle.sw_config.specs.Entries.{Declaration}
use Rattle.sw_engine.specs.Engines.{AnswersByFinding, AnswersByOne, AnswersInForm, AnswersToOne, AnswersToRead, AnswersToTwoInForm, EndsByOne, EndsByTwo}
use Rattle.sw_file.specs.Network.{network_text}
use Rattle.sw_json.specs.Answering.{IsAnswer, IsFaultyFile, IsLongFile, OfNetwork, Results, memory_text, read_value}
use Rattle.sw_json.specs.ObjectAnswers.{FilesAsObject, FindingAsResult, TwoFilesAsObject}
use Rattle.sw_json.specs.declared.files.Release.{Release}
use Rattle.sw_text.specs.Ends.{Answers, AnswersByTwo, AnswersToTwo, Says}
use Rattle.sw_text.specs.declared.fault.TextFault.{TextFault}
use Rattle.sw_text.specs.declared.write_answer.Ended.{Ended}
use Rattle.sw_text.specs.declared.write_answer.Ended.TheVariants.{Status, ReadFailed, WriteFailed}

-- ---- an answer of a kind is one of each wider kind

may_tell : (P Q : AnswersToOne) → ((given : Option (List ℕ)) (text : List ℕ) (status : ℕ) → P given text status → Q given text status)
    → (before after : Option (List ℕ)) (text : List ℕ) (status : ℕ) → AnswersByOne P before after text status ⊎ Says memory_text 5 text status
    → AnswersByOne Q before after text status ⊎ Says memory_text 5 text status
may_tell P Q more before after text status (inl (given, gives, answer)) = inl (given, gives, more given text status answer)
may_tell P Q more before after text status (inr memory) = inr memory

wider : (P Q : AnswersToOne) → ((given : Option (List ℕ)) (text : List ℕ) (status : ℕ) → P given text status → Q given text status)
    → (before after old new : Option (List ℕ)) (ended : Ended) → EndsByOne memory_text P before after old new ended → EndsByOne memory_text Q before after old new ended
wider P Q more before after old new (Status n) (text, status, may, told) = (text, status, may_tell P Q more before after text status may, told)
wider P Q more before after old new WriteFailed (text, status, may, told) = (text, status, may_tell P Q more before after text status may, told)
wider P Q more before after old new ReadFailed keeps = keeps

module _ (P Q : AnswersToTwo)
    (more : (one other : Option (List ℕ)) (text : List ℕ) (status : ℕ) → P one other text status → Q one other text status)
    (first first_after second second_after old new : Option (List ℕ)) where
  may_tell_of_two : (text : List ℕ) (status : ℕ) → AnswersByTwo P first first_after second second_after text status ⊎ Says memory_text 5 text status
      → AnswersByTwo Q first first_after second second_after text status ⊎ Says memory_text 5 text status
  may_tell_of_two text status (inl (one, other, gives, gives_also, answer)) = inl (one, other, gives, gives_also, more one other text status answer)
  may_tell_of_two text status (inr memory) = inr memory

  wider_of_two : (ended : Ended) → EndsByTwo memory_text P first first_after second second_after old new ended
      → EndsByTwo memory_text Q first first_after second second_after old new ended
  wider_of_two (Status n) (text, status, may, told) = (text, status, may_tell_of_two text status may, told)
  wider_of_two WriteFailed (text, status, may, told) = (text, status, may_tell_of_two text status may, told)
  wider_of_two ReadFailed keeps = keeps

-- ---- the object of a network file

module _ {X : Type 0} (Finds : Declaration → X → Type 0) (results : Declaration → X → Results) (command path : List ℕ) (files : Option (List ℕ) → List Data)
    (release : Release) where
  -- what is told of a finding, of a fault and of a text that is too long
  abbrev pub finding_told : List ℕ → Declaration → X → Answers
  finding_told bytes d found = IsAnswer command (files (Some bytes)) release (results d found)

  abbrev pub fault_told : List ℕ → TextFault → Answers
  fault_told bytes fault = IsAnswer command (files (Some bytes)) release (IsFaultyFile path bytes fault)

  abbrev pub long_told : Answers
  long_told = IsAnswer command (files None) release (IsLongFile path)

  of_read : (bytes : List ℕ) (r : Result Declaration TextFault) (text : List ℕ) (status : ℕ)
      → AnswersToRead (AnswersByFinding Finds (finding_told bytes)) (fault_told bytes) r text status
      → IsAnswer command (files (Some bytes)) release (OfNetwork path bytes (FindingAsResult Finds results) r) text status
  of_read bytes (Ok d) text status (found, finds, (result, is, spells)) = (result, (found, finds, is), spells)
  of_read bytes (Err fault) text status answer = answer

  of_given : (given : Option (List ℕ)) (text : List ℕ) (status : ℕ) → AnswersInForm Finds finding_told fault_told long_told given text status
      → FilesAsObject command Finds results path files release given text status
  of_given (Some bytes) text status answer = of_read bytes (network_text bytes) text status answer
  of_given None text status answer = answer

  -- an engine that answers so
  pub network_file_as_object : (before after old new : Option (List ℕ)) (ended : Ended)
      → EndsByOne memory_text (AnswersInForm Finds finding_told fault_told long_told) before after old new ended
      → EndsByOne memory_text (FilesAsObject command Finds results path files release) before after old new ended
  network_file_as_object before after old new ended is =
      wider (AnswersInForm Finds finding_told fault_told long_told) (FilesAsObject command Finds results path files release) of_given
      before after old new ended is

-- ---- the object of a network file and a second file

module _ {X : Type 0} (Finds : Option (List ℕ) → Declaration → X → Type 0) (results : List ℕ → Option (List ℕ) → Declaration → X → Results)
    (command path other : List ℕ) (release : Release) where
  -- the values of the files
  abbrev pub both : Option (List ℕ) → Option (List ℕ) → List Data
  both second given = read_value path given ∷ read_value other second ∷ []

  -- what is told of a finding, of a fault and of a first text that is too long
  abbrev pub finding_of_two_told : Option (List ℕ) → List ℕ → Declaration → X → Answers
  finding_of_two_told second bytes d found = IsAnswer command (both second (Some bytes)) release (results other second d found)

  abbrev pub fault_of_two_told : Option (List ℕ) → List ℕ → TextFault → Answers
  fault_of_two_told second bytes fault = IsAnswer command (both second (Some bytes)) release (IsFaultyFile path bytes fault)

  abbrev pub long_of_two_told : Option (List ℕ) → Answers
  long_of_two_told second = IsAnswer command (both second None) release (IsLongFile path)

  -- an engine that answers so
  pub two_files_as_object : (first first_after second second_after old new : Option (List ℕ)) (ended : Ended)
      → EndsByTwo memory_text (AnswersToTwoInForm Finds finding_of_two_told fault_of_two_told long_of_two_told) first first_after second second_after old new ended
      → EndsByTwo memory_text (TwoFilesAsObject command Finds results path other release) first first_after second second_after old new ended
  two_files_as_object first first_after second second_after old new ended is =
      wider_of_two (AnswersToTwoInForm Finds finding_of_two_told fault_of_two_told long_of_two_told) (TwoFilesAsObject command Finds results path other release)
      (λ one also text status answer. of_given (Finds also) (results other also) command path (both also) release one text status answer)
      first first_after second second_after old new ended is
