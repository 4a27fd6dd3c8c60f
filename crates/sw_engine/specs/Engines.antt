-- How the engine of a command ends, whatever the form of its answer (this project's choice).
use Rattle.std.specs.Prelude.{ℕ, List, Option, Some, None, Result, Ok, Err}
use Rattle.std.specs.Io.KnownBytes.{Keeps}
use Rattle.sw_config.specs.Entries.{Declaration}
use Rattle.sw_file.specs.Network.{network_text}
use Rattle.sw_text.specs.Ends.{Answers, AnswersByTwo, AnswersToTwo, GivesText}
use Rattle.sw_text.specs.declared.fault.TextFault.{TextFault}
use Rattle.sw_text.specs.declared.write_answer.Ended.{Ended}
use Rattle.sw_text.specs.declared.write_answer.Ended.TheVariants.{Status, ReadFailed, WriteFailed}
use Rattle.sw_engine.specs.Tellings.{TellsOr}

-- which texts, each with a status, may answer to a text that was read, None where it is too long
abbrev pub AnswersToOne : Type 1
AnswersToOne = Option (List ℕ) → Answers

-- what is told of a network: of one of the things that may be found of it
abbrev pub AnswersByFinding : {X : Type 0} → (Declaration → X → Type 0) → (Declaration → X → Answers) → Declaration → Answers
AnswersByFinding {X = X} Finds Tells d text status = (found : X) × Finds d found × Tells d found text status

-- of a text that is a network, or of its first fault
abbrev pub AnswersToRead : (Declaration → Answers) → (TextFault → Answers) → Result Declaration TextFault → Answers
AnswersToRead Tells Faulty (Ok d) text status = Tells d text status
AnswersToRead Tells Faulty (Err fault) text status = Faulty fault text status

-- Of the text of a network file: that it is too long; its first fault; or what is found of its network.
abbrev pub AnswersToNetworkFile : (List ℕ → Declaration → Answers) → (List ℕ → TextFault → Answers) → Answers → AnswersToOne
AnswersToNetworkFile Tells Faulty Long None text status = Long text status
AnswersToNetworkFile Tells Faulty Long (Some bytes) text status = AnswersToRead (Tells bytes) (Faulty bytes) (network_text bytes) text status

-- Of the text of a network file, by what a command finds of its network, and in which form that is told.
abbrev pub AnswersInForm : {X : Type 0} → (Declaration → X → Type 0) → (List ℕ → Declaration → X → Answers) → (List ℕ → TextFault → Answers) → Answers → AnswersToOne
AnswersInForm Finds Tells Faulty Long = AnswersToNetworkFile (λ bytes. AnswersByFinding Finds (Tells bytes)) Faulty Long

-- the answers to the text that a reader gave
abbrev pub AnswersByOne : AnswersToOne → Option (List ℕ) → Option (List ℕ) → Answers
AnswersByOne P before after text status = (given : Option (List ℕ)) × GivesText before after given × P given text status

-- An engine that reads one text: what it tells is an answer to the text that the reader gave, or the line for want of memory; where a read failed
-- nothing is written.
abbrev pub EndsByOne : List ℕ → AnswersToOne → Option (List ℕ) → Option (List ℕ) → Option (List ℕ) → Option (List ℕ) → Ended → Type 0
EndsByOne memory P before after old new (Status n) = TellsOr memory (AnswersByOne P before after) old new (Status n)
EndsByOne memory P before after old new WriteFailed = TellsOr memory (AnswersByOne P before after) old new WriteFailed
EndsByOne memory P before after old new ReadFailed = Keeps old new

-- Of the texts of a network file and of a second file, None where one is too long, by what a command finds of the network and of the second text, and in
-- which form that is told: all that is wrong with the first file comes before what is with the second.
abbrev pub AnswersToTwoInForm : {X : Type 0} → (Option (List ℕ) → Declaration → X → Type 0) → (Option (List ℕ) → List ℕ → Declaration → X → Answers)
    → (Option (List ℕ) → List ℕ → TextFault → Answers) → (Option (List ℕ) → Answers) → AnswersToTwo
AnswersToTwoInForm Finds Tells Faulty Long first second = AnswersInForm (Finds second) (Tells second) (Faulty second) (Long second) first

-- An engine that reads two texts, both before it looks at either: what it tells is an answer to the two, or the line for want of memory; where a read
-- failed nothing is written.
abbrev pub EndsByTwo : List ℕ → AnswersToTwo → Option (List ℕ) → Option (List ℕ) → Option (List ℕ) → Option (List ℕ) → Option (List ℕ) → Option (List ℕ)
    → Ended → Type 0
EndsByTwo memory P first first_after second second_after old new (Status n) =
    TellsOr memory (AnswersByTwo P first first_after second second_after) old new (Status n)
EndsByTwo memory P first first_after second second_after old new WriteFailed =
    TellsOr memory (AnswersByTwo P first first_after second second_after) old new WriteFailed
EndsByTwo memory P first first_after second second_after old new ReadFailed = Keeps old new
