-- What a call gives its caller (this project's choice).
use Rattle.std.specs.Prelude.{◌≡◌, ◌⊎◌, ℕ, List, [], ◌∷◌, ◌++◌, codes, drop, length, min, take}
use Rattle.sw_text.specs.Ends.{Answers, OrMemory, Says}
use Rattle.sw_text.specs.declared.write_answer.Ended.{Ended}
use Rattle.sw_text.specs.declared.write_answer.Ended.TheVariants.{Status, ReadFailed, WriteFailed}
use Rattle.sw_json_verdicts.specs.Answering.{memory_text}
use Rattle.sw_output.specs.Lines.{line}

-- the beginning of the text, as much as there is room for, and behind it what was there
abbrev pub filled : List ℕ → List ℕ → List ℕ
filled text room = take (min (length text) (length room)) text ++ drop (min (length text) (length room)) room

-- the text was given, with its whole length
abbrev pub IsText : List ℕ → List ℕ → List ℕ → ℕ → Type 0
IsText text old new count = (new ≡ filled text old) × (count ≡ length text)

-- one of the answers was given, or that memory was wanted, and its status
abbrev pub IsGiven : Answers → List ℕ → List ℕ → ℕ → ℕ → Type 0
IsGiven P old new count status = (text : List ℕ) × OrMemory P text status × IsText text old new count

-- a text of which this holds was given
abbrev pub IsGivenSuch : (List ℕ → Type 0) → List ℕ → List ℕ → ℕ → Type 0
IsGivenSuch P old new count = (text : List ℕ) × P text × IsText text old new count

-- what was written was given with its status, and else that memory was wanted
abbrev pub IsEnded : Ended → List ℕ → List ℕ → List ℕ → ℕ → ℕ → Type 0
IsEnded (Status n) text old new count status = (status ≡ n) × IsText text old new count
IsEnded ReadFailed text old new count status = (status ≡ 5) × IsText (line (codes "fault memory" ∷ [])) old new count
IsEnded WriteFailed text old new count status = (status ≡ 5) × IsText (line (codes "fault memory" ∷ [])) old new count

-- one of the answers as JSON was given, or that memory was wanted, and its status
abbrev pub IsObjectGiven : Answers → List ℕ → List ℕ → ℕ → ℕ → Type 0
IsObjectGiven P old new count status = (text : List ℕ) × (P text status ⊎ Says memory_text 5 text status) × IsText text old new count

-- what was written was given with its status, and else that memory was wanted, as JSON
abbrev pub IsObjectEnded : Ended → List ℕ → List ℕ → List ℕ → ℕ → ℕ → Type 0
IsObjectEnded (Status n) text old new count status = (status ≡ n) × IsText text old new count
IsObjectEnded ReadFailed text old new count status = (status ≡ 5) × IsText memory_text old new count
IsObjectEnded WriteFailed text old new count status = (status ≡ 5) × IsText memory_text old new count
