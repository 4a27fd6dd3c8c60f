-- What a command that reads a network file answers in lines (this project's choice).
use Rattle.std.specs.Prelude.{ℕ, List, [], ◌∷◌, Option, codes}
use Rattle.sw_config.specs.Entries.{Declaration}
use Rattle.sw_file.specs.Network.{network_text}
use Rattle.sw_text.specs.Ends.{Answers, AnswersToTwo, IfLimited, Says}
use Rattle.sw_text.specs.FaultTexts.{fault_text}
use Rattle.sw_text.specs.Lines.{line}
use Rattle.sw_text.specs.declared.fault.TextFault.{TextFault}
use Rattle.sw_text.specs.declared.write_answer.Ended.{Ended}
use Rattle.sw_engine.specs.Engines.{AnswersByFinding, AnswersToRead}
use Rattle.sw_engine.specs.Tellings.{AnswersToFile, Findings, IsFileTold}
use Rattle.sw_engine.specs.declared.network_file.NetworkFile.{NetworkFile}

-- the line for want of memory
abbrev pub memory_line : List ℕ
memory_line = line (codes "fault memory" ∷ [])

-- the lines of what is found of a network, with its status
abbrev pub FindingInLines : {X : Type 0} → (Declaration → X → Type 0) → (Declaration → X → List ℕ) → (X → ℕ) → Declaration → Answers
FindingInLines Finds lines status = AnswersByFinding Finds (λ d found. Says (lines d found) (status found))

-- the line of a fault
abbrev pub FaultInLine : TextFault → Answers
FaultInLine fault = Says (line (fault_text fault ∷ [])) 3

-- of the bytes of a network file: its first fault, or what is found of its network
abbrev pub NetworkFileInLines : {X : Type 0} → (Declaration → X → Type 0) → (Declaration → X → List ℕ) → (X → ℕ) → List ℕ → Answers
NetworkFileInLines Finds lines status bytes = AnswersToRead (FindingInLines Finds lines status) FaultInLine (network_text bytes)

-- of the texts of a network file and of a second file, None where one is too long: all that is wrong with the first comes before what is with the second
abbrev pub TwoFilesInLines : {X : Type 0} → (Option (List ℕ) → Declaration → X → Type 0) → (Declaration → X → List ℕ) → (X → ℕ) → AnswersToTwo
TwoFilesInLines Finds lines status first second = IfLimited first (NetworkFileInLines (Finds second) lines status)

-- the answers to a file that was read, by what was found of its network
abbrev pub FileInLines : {X : Type 0} → (Declaration → X → List ℕ) → (X → ℕ) → NetworkFile → Findings X → Answers
FileInLines lines status =
    AnswersToFile (λ _ d found. Says (lines d found) (status found)) (λ _ fault. FaultInLine fault) (Says (line (codes "fault A1 TooLong" ∷ [])) 3)

-- one of them was told, or that memory was wanted, and of a read that failed nothing
abbrev pub IsFileToldInLines : {X : Type 0} → (Declaration → X → List ℕ) → (X → ℕ) → NetworkFile → Findings X → Option (List ℕ) → Option (List ℕ) → Ended → Type 0
IsFileToldInLines lines status file findings = IsFileTold memory_line (FileInLines lines status file findings) file
