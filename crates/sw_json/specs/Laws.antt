-- Laws of answers as JSON.
use Rattle.std.specs.Prelude.{◌≡◌, ◌≢◌, ℕ, List}
use Rattle.sw_text.specs.Ends.{Answers}
use Rattle.sw_json.specs.Texts.{ReadsBack, text_of}
use Rattle.sw_json.specs.Answering.{memory_text, memory_value}

-- Any two of the answers have one status, and one text unless that is 3: of a fault any place that it has may be told.
abbrev pub AreOneButForFaults : Answers → Type 0
AreOneButForFaults P =
    (text other : List ℕ) (status number : ℕ) → P text status → P other number → (status ≡ number) × (status ≢ 3 → text ≡ other)

-- an answer has the status of each answer of the others
abbrev pub HaveOneStatus : Answers → Answers → Type 0
HaveOneStatus P Q = (text other : List ℕ) (status number : ℕ) → P text status → Q other number → status ≡ number

-- what is written for want of memory is the text of a value, and reads back as it
abbrev pub MemoryReadsBack : Type 0
MemoryReadsBack = (memory_text ≡ text_of memory_value) × ReadsBack memory_value
