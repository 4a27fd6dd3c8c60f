-- How an engine ends (this project's choice).
use Rattle.std.specs.Prelude.{◌≡◌, ◌⊎◌, ℕ, ◌+◌, ◌<◌, List, [], ◌∷◌, Option, Some, None, MatchBool, codes, if◌then◌else◌, length, nat_le, take}
use Rattle.std.specs.Io.KnownBytes.{Appends, Consumes, IsAtEnd, Keeps}
use Rattle.sw_text.specs.Reading.{Takes}
use Rattle.sw_text.specs.declared.read_stream.ReadError.{ReadError}
use Rattle.sw_text.specs.declared.read_stream.ReadError.TheVariants.{TooLong, Failed, Memory}
use Rattle.sw_text.specs.declared.write_answer.Ended.{Ended}
use Rattle.sw_text.specs.declared.write_answer.Ended.TheVariants.{Status, ReadFailed, WriteFailed}
use Rattle.sw_text.specs.Lines.{line}

-- the status that the program exits with: 6 where a read or a write failed
abbrev pub exit_status : Ended → ℕ
exit_status (Status n) = n
exit_status ReadFailed = 6
exit_status WriteFailed = 6

-- which texts, each with a status, may answer
abbrev pub Answers : Type 1
Answers = List ℕ → ℕ → Type 0

-- this text with this status, and no other
abbrev pub Says : List ℕ → ℕ → Answers
Says said number text status = (text ≡ said) × (status ≡ number)

-- one of the answers, or that memory was wanted
abbrev pub OrMemory : Answers → Answers
OrMemory P text status = P text status ⊎ Says (line (codes "fault memory" ∷ [])) 5 text status

-- the most bytes that a text may have: 64 MiB (this project's choice)
abbrev pub most_bytes : ℕ
most_bytes = 67108864

-- of a text that is longer only that is told
abbrev pub IfShort : List ℕ → Answers → Answers
IfShort input P text status =
    MatchBool (nat_le (length input) most_bytes) (P text status) (Says (line (codes "fault A1 TooLong" ∷ [])) 3 text status)

-- the text, if it is not longer
abbrev pub limited : List ℕ → Option (List ℕ)
limited bytes = if nat_le (length bytes) most_bytes then Some bytes else None

-- of a text that is longer, None, only that is told
abbrev pub IfLimited : Option (List ℕ) → (List ℕ → Answers) → Answers
IfLimited (Some bytes) P text status = P bytes text status
IfLimited None P text status = Says (line (codes "fault A1 TooLong" ∷ [])) 3 text status

-- The writer got the text, and the status is its status; or a write failed, and the writer got a beginning of the text that lacks
-- something.
abbrev pub IsTold : Option (List ℕ) → Option (List ℕ) → List ℕ → ℕ → Ended → Type 0
IsTold old new text status (Status n) = (n ≡ status) × Appends old new text
IsTold old new text status ReadFailed = ⊥
IsTold old new text status WriteFailed = (count : ℕ) × (count < length text) × Appends old new (take count text)

-- that memory was wanted was told
abbrev pub IsMemoryTold : Option (List ℕ) → Option (List ℕ) → Ended → Type 0
IsMemoryTold old new ended = IsTold old new (line (codes "fault memory" ∷ [])) 5 ended

-- why a text was not read was told, and of a read that failed nothing
abbrev pub IsUnreadTold : ReadError → Option (List ℕ) → Option (List ℕ) → Ended → Type 0
IsUnreadTold TooLong old new ended = IsTold old new (line (codes "fault A1 TooLong" ∷ [])) 3 ended
IsUnreadTold Memory old new ended = IsMemoryTold old new ended
IsUnreadTold Failed old new ended = (ended ≡ ReadFailed) × Keeps old new

-- one of the answers was told, and nothing else
abbrev pub Tells : Option (List ℕ) → Option (List ℕ) → Answers → Ended → Type 0
Tells old new P ended = (text : List ℕ) × (status : ℕ) × OrMemory P text status × IsTold old new text status ended

-- A reader was read to its end, or to one byte past the most that a text may have, and gave these bytes. Of a reader whose bytes
-- are not known, as that of a file, any bytes may be these.
abbrev pub Gives : Option (List ℕ) → Option (List ℕ) → List ℕ → Type 0
Gives before after bytes = Consumes before after bytes × (IsAtEnd after ⊎ (length bytes ≡ most_bytes + 1))

-- a reader was read to its end, and gave these bytes
abbrev pub GivesAll : Option (List ℕ) → Option (List ℕ) → List ℕ → Type 0
GivesAll before after bytes = Consumes before after bytes × IsAtEnd after

-- the text that a reader gave, None where it is too long
abbrev pub GivesText : Option (List ℕ) → Option (List ℕ) → Option (List ℕ) → Type 0
GivesText before after text = (bytes : List ℕ) × Gives before after bytes × (text ≡ limited bytes)

-- the answers to the bytes that the reader gave
abbrev pub AnswersBy : (List ℕ → Answers) → Option (List ℕ) → Option (List ℕ) → Answers
AnswersBy P before after text status = (bytes : List ℕ) × Gives before after bytes × IfShort bytes (P bytes) text status

-- An engine that reads one text: what it tells is an answer to the bytes that the reader gave, or that memory was wanted; where a
-- read failed nothing is written.
abbrev pub EndsBy : (List ℕ → Answers) → Option (List ℕ) → Option (List ℕ) → Option (List ℕ) → Option (List ℕ) → Ended → Type 0
EndsBy P before after old new (Status n) = Tells old new (AnswersBy P before after) (Status n)
EndsBy P before after old new WriteFailed = Tells old new (AnswersBy P before after) WriteFailed
EndsBy P before after old new ReadFailed = Keeps old new

-- which of two texts, None where one is too long, each with a status, may answer
abbrev pub AnswersToTwo : Type 1
AnswersToTwo = Option (List ℕ) → Option (List ℕ) → Answers

-- the answers to the two texts that the readers gave
abbrev pub AnswersByTwo : AnswersToTwo → Option (List ℕ) → Option (List ℕ) → Option (List ℕ) → Option (List ℕ) → Answers
AnswersByTwo P first first_after second second_after text status =
    (one : Option (List ℕ)) × (other : Option (List ℕ)) × GivesText first first_after one × GivesText second second_after other × P one other text status

-- a reader was read to its end, or to one byte past the most that a text may have
abbrev pub IsReadWhole : Option (List ℕ) → Option (List ℕ) → Type 0
IsReadWhole old new = IsAtEnd new ⊎ Takes old new (most_bytes + 1)

-- the first reader was read whole before anything was taken from the second
abbrev pub AreReadInOrder : Option (List ℕ) → Option (List ℕ) → Option (List ℕ) → Option (List ℕ) → Type 0
AreReadInOrder first first_after second second_after = IsReadWhole first first_after ⊎ (second_after ≡ second)
