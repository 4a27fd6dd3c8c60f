-- What the files of paths give, and what is put into them (this project's choice).
use Rattle.std.specs.Prelude.{ℕ, ◌<◌, List, Option, Some, None, length}
use Rattle.std.specs.Io.KnownBytes.{Appends, Consumes, Keeps}
use Rattle.sw_text.specs.Ends.{Answers, AnswersToTwo, GivesAll, IfLimited, Tells, most_bytes}
use Rattle.sw_text.specs.declared.read_texts.InputText.{InputText}
use Rattle.sw_text.specs.declared.write_answer.Ended.{Ended}
use Rattle.sw_text.specs.declared.write_answer.Ended.TheVariants.{Status, ReadFailed, WriteFailed}
use Rattle.sw_engine.specs.Files.{IsFileOf, second_given}
use Rattle.sw_engine.specs.Tellings.{TellsOr}
use Rattle.sw_engine.specs.declared.network_file.NetworkFile.{NetworkFile}
use Rattle.sw_engine.specs.declared.network_file.NetworkFile.TheVariants.{Unread, NoMemory}

-- what a path may give: all the bytes of its file, or None where they are more than a text may have
abbrev pub PathTexts : Type 1
PathTexts = Option (List ℕ) → Type 0

-- What a reader gives that has this left is what the path gives: the bytes, where it was read to its end; and where it gave more than a text may have,
-- that they are more.
pub record ReadsTo (before : Option (List ℕ)) (gives : PathTexts) : Type 0 where
  pub whole : (after : Option (List ℕ)) (bytes : List ℕ) → GivesAll before after bytes → gives (Some bytes)
  pub long : (after : Option (List ℕ)) (bytes : List ℕ) → Consumes before after bytes → most_bytes < length bytes → gives None

-- each text that a writer gets which holds this, from now on and in all, was put into the file of the path
abbrev pub WritesTo : Option (List ℕ) → (List ℕ → Type 0) → Type 0
WritesTo old keeps = (new : Option (List ℕ)) (text : List ℕ) → Appends old new text → keeps text

-- ---- how an engine ends on what paths give

-- the answers to what the path gives
abbrev pub AnswersByPath : PathTexts → (List ℕ → Answers) → Answers
AnswersByPath gives P text status = (given : Option (List ℕ)) × gives given × IfLimited given P text status

-- what is told is an answer to what the path gives, or that memory was wanted; where a read failed nothing is written
abbrev pub EndsByPath : PathTexts → (List ℕ → Answers) → Option (List ℕ) → Option (List ℕ) → Ended → Type 0
EndsByPath gives P old new (Status n) = Tells old new (AnswersByPath gives P) (Status n)
EndsByPath gives P old new WriteFailed = Tells old new (AnswersByPath gives P) WriteFailed
EndsByPath gives P old new ReadFailed = Keeps old new

-- the answers to what two paths give
abbrev pub AnswersByPaths : PathTexts → PathTexts → AnswersToTwo → Answers
AnswersByPaths gives others P text status =
    (one : Option (List ℕ)) × (other : Option (List ℕ)) × gives one × others other × P one other text status

-- the same of two, with this line for want of memory
abbrev pub EndsByPaths : PathTexts → PathTexts → List ℕ → AnswersToTwo → Option (List ℕ) → Option (List ℕ) → Ended → Type 0
EndsByPaths gives others memory P old new (Status n) = TellsOr memory (AnswersByPaths gives others P) old new (Status n)
EndsByPaths gives others memory P old new WriteFailed = TellsOr memory (AnswersByPaths gives others P) old new WriteFailed
EndsByPaths gives others memory P old new ReadFailed = Keeps old new

-- what the path gives is so as a network file; a read that failed, or memory that was wanted, tells nothing of it
abbrev pub IsFileGiven : PathTexts → NetworkFile → Type 0
IsFileGiven gives Unread = Unit {0}
IsFileGiven gives NoMemory = Unit {0}
IsFileGiven gives file = (given : Option (List ℕ)) × gives given × IsFileOf given file

-- the same of a network file and a second one
abbrev pub AreFilesGiven : PathTexts → PathTexts → NetworkFile → Option InputText → Type 0
AreFilesGiven gives others Unread input = Unit {0}
AreFilesGiven gives others NoMemory input = Unit {0}
AreFilesGiven gives others file input = IsFileGiven gives file × others (second_given input)
