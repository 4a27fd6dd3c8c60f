-- What an engine that answers with an object of JSON tells (this project's choice; RFC 8259: JSON).
use Rattle.std.specs.Prelude.{◌≡◌, ℕ, List, codes, Option, Some, None, Result, Ok, Err}
use Rattle.serde_json.specs.Data.{Data, object, member, no_members}
use Rattle.sw_text.specs.Ends.{Answers}
use Rattle.sw_config.specs.Entries.{Declaration}
use Rattle.sw_file.specs.Network.{network_text}
use Rattle.sw_json.specs.AnswerValues.{answer_value, file_fault_value, input_value, long_input}
use Rattle.sw_json.specs.FaultValues.{IsFaultValue, long_value}
use Rattle.sw_json.specs.FileValues.{kind_value}
use Rattle.sw_json.specs.Simple.{count_value}
use Rattle.sw_json.specs.Texts.{ReadsBack, text_of}
use Rattle.sw_json.specs.declared.files.Release.{Release}
use Rattle.sw_text.specs.declared.fault.TextFault.{TextFault}

-- ---- results

-- which values, each with a status, may be the result of a command
abbrev pub Results : Type 1
Results = Data → ℕ → Type 0

-- this value with this status, and no other
abbrev pub IsCommandOutcome : Data → ℕ → Results
IsCommandOutcome result number value status = (value ≡ result) × (status ≡ number)

-- of a file whose text is too long
abbrev pub IsLongFile : List ℕ → Results
IsLongFile path value status = IsCommandOutcome (file_fault_value path long_value) 3 value status

-- of a file whose text has a fault, which is told of any place that it has
abbrev pub IsFaultyFile : List ℕ → List ℕ → TextFault → Results
IsFaultyFile path text fault value status =
    (told : Data) × IsFaultValue text fault told × IsCommandOutcome (file_fault_value path told) 3 value status

-- of a file by its text, None where that is too long
abbrev pub OfFile : List ℕ → (List ℕ → Results) → Option (List ℕ) → Results
OfFile path R (Some text) value status = R text value status
OfFile path R None value status = IsLongFile path value status

-- of a text that is a network, or of its first fault
abbrev pub OfNetwork : List ℕ → List ℕ → (Declaration → Results) → Result Declaration TextFault → Results
OfNetwork path text R (Ok d) value status = R d value status
OfNetwork path text R (Err fault) value status = IsFaultyFile path text fault value status

-- of a network file
abbrev pub OfNetworkFile : List ℕ → (Declaration → Results) → Option (List ℕ) → Results
OfNetworkFile path R = OfFile path (λ text. OfNetwork path text R (network_text text))

-- ---- answers

-- a file that was read, by its path and its text, None where that is too long
abbrev pub read_value : List ℕ → Option (List ℕ) → Data
read_value path (Some text) = input_value path text
read_value path None = long_input path

-- the text is that of the value, and reads back as the value
abbrev pub Spells : Data → List ℕ → Type 0
Spells value text = (text ≡ text_of value) × ReadsBack value

-- of a command, the files that it was given, and one of these results: the text spells the whole answer
abbrev pub IsAnswer : List ℕ → List Data → Release → Results → Answers
IsAnswer command files release R text status =
    (result : Data) × R result status × Spells (answer_value command files result status release.toolchain.now release.version.now) text

-- ---- ends

-- that memory was wanted, as an answer that has no files, and as its text
abbrev pub memory_value : Data
memory_value =
    object (member (codes "result") (kind_value (codes "memory"))
    (member (codes "status") (count_value 5) no_members))

abbrev pub memory_text : List ℕ
memory_text = codes "{\"result\":{\"kind\":\"memory\"},\"status\":5}\n"
