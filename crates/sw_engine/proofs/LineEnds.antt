-- The clauses of engines that write lines.
use Rattle.std.proofs.Common.{◌≡◌, ◌∙◌, ◌⊎◌, ℕ, List, inl, inr, subst, sym}
use Rattle.std.specs.Prelude.{[], ◌∷◌, Bool, true, false, Option, Some, None, Result, Ok, Err, MatchBool, codes, if◌then◌else◌, length, nat_le}
use Rattle.sw_text.specs.declared.write_answer.Ended.{Ended}
use Rattle.sw_text.specs.declared.write_answer.Ended.TheVariants.{Status, ReadFailed, WriteFailed}
use Rattle.sw_text.specs.Ends.{Answers, AnswersBy, AnswersByTwo, AnswersToTwo, EndsBy, IfLimited, IfShort, OrMemory, Says, limited, most_bytes}
use Rattle.sw_text.specs.Lines.{line}
use Rattle.sw_config.specs.Entries.{Declaration}
use Rattle.sw_file.specs.Network.{network_text}
use Rattle.sw_text.specs.declared.fault.TextFault.{TextFault}
use Rattle.sw_engine.specs.Engines.{AnswersByOne, AnswersToNetworkFile, AnswersToOne, AnswersToRead, AnswersToTwoInForm, EndsByOne, EndsByTwo}
use Rattle.sw_engine.specs.Files.{IsFileRead, network_of}
use Rattle.sw_engine.specs.Paths.{AnswersByPaths, EndsByPaths, PathTexts}
use Rattle.sw_engine.specs.Tellings.{Findings, HoldsOfFound}
use Rattle.sw_engine.specs.declared.network_file.NetworkFile.{NetworkFile}
use Rattle.sw_engine.proofs.Answered.{ends_by_file}
use Rattle.sw_engine.specs.LineAnswers.{FaultInLine, FindingInLines, IsFileToldInLines, NetworkFileInLines, TwoFilesInLines, memory_line}

at_length : (P : List ℕ → Answers) (bytes text : List ℕ) (status : ℕ) (is_short : Bool)
    → IfLimited (if is_short then Some bytes else None) P text status
    → MatchBool is_short (P bytes text status) (Says (line (codes "fault A1 TooLong" ∷ [])) 3 text status)
at_length P bytes text status true answer = answer
at_length P bytes text status false answer = answer

-- what answers a text, if it is not too long
if_short : (P : List ℕ → Answers) (bytes text : List ℕ) (status : ℕ) → IfLimited (limited bytes) P text status → IfShort bytes (P bytes) text status
if_short P bytes text status answer = at_length P bytes text status (nat_le (length bytes) most_bytes) answer

-- the same of what a reader gave
by_bytes : (Q : AnswersToOne) (P : List ℕ → Answers)
    → ((given : Option (List ℕ)) (text : List ℕ) (status : ℕ) → Q given text status → IfLimited given P text status)
    → (before after : Option (List ℕ)) (text : List ℕ) (status : ℕ) → AnswersByOne Q before after text status ⊎ Says memory_line 5 text status
    → OrMemory (AnswersBy P before after) text status
by_bytes Q P each before after text status (inl (given, (bytes, gives, is), answer)) =
    inl (bytes, gives, if_short P bytes text status (subst (λ (it : Option (List ℕ)). IfLimited it P text status) is (each given text status answer)))
by_bytes Q P each before after text status (inr memory) = inr memory

-- an engine whose answers are these lines, by what each text is answered
pub as_lines : (Q : AnswersToOne) (P : List ℕ → Answers)
    → ((given : Option (List ℕ)) (text : List ℕ) (status : ℕ) → Q given text status → IfLimited given P text status)
    → (before after old new : Option (List ℕ)) (ended : Ended) → EndsByOne memory_line Q before after old new ended → EndsBy P before after old new ended
as_lines Q P each before after old new (Status n) (text, status, may, told) = (text, status, by_bytes Q P each before after text status may, told)
as_lines Q P each before after old new WriteFailed (text, status, may, told) = (text, status, by_bytes Q P each before after text status may, told)
as_lines Q P each before after old new ReadFailed kept = kept

-- what answers each text of a network file in lines
abbrev pub in_lines : {X : Type 0} → (Declaration → X → Type 0) → (Declaration → X → List ℕ) → (X → ℕ) → AnswersToOne
in_lines Finds lines status =
    AnswersToNetworkFile (λ _. FindingInLines Finds lines status) (λ _ fault. FaultInLine fault) (Says (line (codes "fault A1 TooLong" ∷ [])) 3)

each_in_lines : {X : Type 0} (Finds : Declaration → X → Type 0) (lines : Declaration → X → List ℕ) (number : X → ℕ) (given : Option (List ℕ)) (text : List ℕ)
    (status : ℕ) → in_lines Finds lines number given text status → IfLimited given (NetworkFileInLines Finds lines number) text status
each_in_lines Finds lines number None text status answer = answer
each_in_lines Finds lines number (Some bytes) text status answer = answer

-- an engine that answers so
pub network_file_in_lines : {X : Type 0} (Finds : Declaration → X → Type 0) (lines : Declaration → X → List ℕ) (status : X → ℕ)
    → (before after old new : Option (List ℕ)) (ended : Ended) → EndsByOne memory_line (in_lines Finds lines status) before after old new ended
    → EndsBy (NetworkFileInLines Finds lines status) before after old new ended
network_file_in_lines Finds lines status before after old new ended is =
    as_lines (in_lines Finds lines status) (NetworkFileInLines Finds lines status) (each_in_lines Finds lines status) before after old new ended is

-- ---- two files

-- what answers each two texts in lines
abbrev pub two_in_lines : {X : Type 0} → (Option (List ℕ) → Declaration → X → Type 0) → (Declaration → X → List ℕ) → (X → ℕ) → AnswersToTwo
two_in_lines Finds lines status =
    AnswersToTwoInForm Finds (λ _ _ d found. Says (lines d found) (status found)) (λ _ _ fault. FaultInLine fault)
    (λ _. Says (line (codes "fault A1 TooLong" ∷ [])) 3)

module _ {X : Type 0} (Finds : Option (List ℕ) → Declaration → X → Type 0) (lines : Declaration → X → List ℕ) (number : X → ℕ)
    (first first_after second second_after : Option (List ℕ)) where
  by_two : (text : List ℕ) (status : ℕ)
      → AnswersByTwo (two_in_lines Finds lines number) first first_after second second_after text status ⊎ Says memory_line 5 text status
      → AnswersByTwo (TwoFilesInLines Finds lines number) first first_after second second_after text status ⊎ Says memory_line 5 text status
  by_two text status (inl (one, other, gives, gives_also, answer)) =
      inl (one, other, gives, gives_also, each_in_lines (Finds other) lines number one text status answer)
  by_two text status (inr memory) = inr memory

  -- an engine that answers two files so
  pub two_files_in_lines : (old new : Option (List ℕ)) (ended : Ended)
      → EndsByTwo memory_line (two_in_lines Finds lines number) first first_after second second_after old new ended
      → EndsByTwo memory_line (TwoFilesInLines Finds lines number) first first_after second second_after old new ended
  two_files_in_lines old new (Status n) (text, status, may, told) = (text, status, by_two text status may, told)
  two_files_in_lines old new WriteFailed (text, status, may, told) = (text, status, by_two text status may, told)
  two_files_in_lines old new ReadFailed kept = kept

-- ---- two paths

module _ {X : Type 0} (Finds : Option (List ℕ) → Declaration → X → Type 0) (lines : Declaration → X → List ℕ) (number : X → ℕ) (gives others : PathTexts) where
  by_two_paths : (text : List ℕ) (status : ℕ) → AnswersByPaths gives others (two_in_lines Finds lines number) text status ⊎ Says memory_line 5 text status
      → AnswersByPaths gives others (TwoFilesInLines Finds lines number) text status ⊎ Says memory_line 5 text status
  by_two_paths text status (inl (one, other, gave, gave_also, answer)) =
      inl (one, other, gave, gave_also, each_in_lines (Finds other) lines number one text status answer)
  by_two_paths text status (inr memory) = inr memory

  -- an engine that answers two paths so
  pub two_paths_in_lines : (old new : Option (List ℕ)) (ended : Ended) → EndsByPaths gives others memory_line (two_in_lines Finds lines number) old new ended
      → EndsByPaths gives others memory_line (TwoFilesInLines Finds lines number) old new ended
  two_paths_in_lines old new (Status n) (text, status, may, told) = (text, status, by_two_paths text status may, told)
  two_paths_in_lines old new WriteFailed (text, status, may, told) = (text, status, by_two_paths text status may, told)
  two_paths_in_lines old new ReadFailed kept = kept

-- ---- one answer

module _ {X : Type 0} (Finds : Declaration → X → Type 0) (lines : Declaration → X → List ℕ) (number : X → ℕ)
    (same : (d : Declaration) (x y : X) → Finds d x → Finds d y → (lines d x ≡ lines d y) × (number x ≡ number y)) where
  read_once : (r : Result Declaration TextFault) (text other : List ℕ) (status second : ℕ)
      → AnswersToRead (FindingInLines Finds lines number) FaultInLine r text status → AnswersToRead (FindingInLines Finds lines number) FaultInLine r other second
      → (text ≡ other) × (status ≡ second)
  read_once (Ok d) text other status second (x, h, says) (y, k, tells) =
      let one = same d x y h k in
      (says.0 ∙ (one.0 ∙ sym tells.0), says.1 ∙ (one.1 ∙ sym tells.1))
  read_once (Err fault) text other status second says tells = (says.0 ∙ sym tells.0, says.1 ∙ sym tells.1)

  -- a file has one answer, where what is found of a network has one text and one status
  pub one_in_lines : (bytes text other : List ℕ) (status second : ℕ) → NetworkFileInLines Finds lines number bytes text status
      → NetworkFileInLines Finds lines number bytes other second → (text ≡ other) × (status ≡ second)
  one_in_lines bytes text other status second says tells = read_once (network_text bytes) text other status second says tells

-- ---- an engine that read a network file, and told of it in lines

pub ends_in_lines : {X : Type 0} (Finds : Declaration → X → Type 0) (lines : Declaration → X → List ℕ) (number : X → ℕ)
    (before after old new : Option (List ℕ)) (file : NetworkFile) (findings : Findings X) (ended : Ended) → IsFileRead before after file
    → HoldsOfFound Finds (network_of file) findings
    → IsFileToldInLines lines number file findings old new ended → EndsBy (NetworkFileInLines Finds lines number) before after old new ended
ends_in_lines Finds lines number before after old new file findings ended read holds told =
    network_file_in_lines Finds lines number before after old new ended
    (ends_by_file Finds (λ _ d found. Says (lines d found) (number found)) (λ _ fault. FaultInLine fault) (Says (line (codes "fault A1 TooLong" ∷ [])) 3) memory_line
    before after old new file findings ended read holds told)
