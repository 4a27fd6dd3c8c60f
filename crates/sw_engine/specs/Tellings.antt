-- What is told of a network file and of what was found of its network (this project's choice).
use Rattle.std.specs.Prelude.{◌≡◌, ◌⊎◌, ℕ, List, Option, Some, None, Result, Ok, Err, IfOk, IfSome}
use Rattle.std.specs.Io.KnownBytes.{Keeps}
use Rattle.std.specs.declared.alloc.AllocError.{AllocError}
use Rattle.sw_config.specs.Entries.{Declaration}
use Rattle.sw_text.specs.Ends.{Answers, IsTold, Says}
use Rattle.sw_text.specs.declared.answer.ByteAnswer.{ByteAnswer}
use Rattle.sw_text.specs.declared.fault.TextFault.{TextFault}
use Rattle.sw_text.specs.declared.write_answer.Ended.{Ended}
use Rattle.sw_text.specs.declared.write_answer.Ended.TheVariants.{ReadFailed}
use Rattle.sw_engine.specs.declared.network_file.NetworkFile.{NetworkFile}
use Rattle.sw_engine.specs.declared.network_file.NetworkFile.TheVariants.{Network, Faulty, TooLong, Unread, NoMemory}

-- what was found of a network, if there is one, and if there was memory for it
abbrev pub Findings : Type 0 → Type 0
Findings X = Option (Result X AllocError)

-- this holds of what was found, if it was
abbrev pub IfFound : {X : Type 0} → (X → Type 0) → Findings X → Type 0
IfFound {X = X} Holds findings = IfSome findings (λ (result : Result X AllocError). IfOk result Holds)

-- this holds of the network of the file and of what was found of it
abbrev pub HoldsOfFound : {X : Type 0} → (Declaration → X → Type 0) → Option Declaration → Findings X → Type 0
HoldsOfFound Holds (Some d) findings = IfFound (Holds d) findings
HoldsOfFound Holds None findings = Unit {0}

-- the answers by what was found of a network: none where there was no memory for it
abbrev pub AnswersByFindings : {X : Type 0} → (X → Answers) → Findings X → Answers
AnswersByFindings Tells (Some (Ok found)) text status = Tells found text status
AnswersByFindings Tells (Some (Err none)) text status = ⊥
AnswersByFindings Tells None text status = ⊥

-- The answers to a file: what was found of its network; its first fault; that it is too long. Where memory was wanted there is none.
abbrev pub AnswersToFile : {X : Type 0} → (List ℕ → Declaration → X → Answers) → (List ℕ → TextFault → Answers) → Answers → NetworkFile → Findings X → Answers
AnswersToFile Tells Faults Long (Network bytes network) findings text status = AnswersByFindings (Tells bytes.items network) findings text status
AnswersToFile Tells Faults Long (Faulty bytes fault) findings text status = Faults bytes.items fault text status
AnswersToFile Tells Faults Long TooLong findings text status = Long text status
AnswersToFile Tells Faults Long Unread findings text status = ⊥
AnswersToFile Tells Faults Long NoMemory findings text status = ⊥

-- one of the answers was told, or that memory was wanted, in this line, and nothing else
abbrev pub TellsOr : List ℕ → Answers → Option (List ℕ) → Option (List ℕ) → Ended → Type 0
TellsOr memory P old new ended =
    (text : List ℕ) × (status : ℕ) × (P text status ⊎ Says memory 5 text status) × IsTold old new text status ended

-- one of these answers was told of the file, and of a read that failed nothing
abbrev pub IsFileTold : List ℕ → Answers → NetworkFile → Option (List ℕ) → Option (List ℕ) → Ended → Type 0
IsFileTold memory P Unread old new ended = (ended ≡ ReadFailed) × Keeps old new
IsFileTold memory P file old new ended = TellsOr memory P old new ended

-- the answer was told, or the line for want of memory
abbrev pub IsAnswerTold : List ℕ → Result ByteAnswer AllocError → Option (List ℕ) → Option (List ℕ) → Ended → Type 0
IsAnswerTold memory (Ok answer) old new ended = IsTold old new answer.text.items answer.status ended
IsAnswerTold memory (Err none) old new ended = IsTold old new memory 5 ended
