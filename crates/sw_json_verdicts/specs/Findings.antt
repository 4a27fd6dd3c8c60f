-- What is found of a file (this project's choice): its status, its verdict in a word, the object that stands for both, where objects
-- are told, and whether it is a network without flows.
use Rattle.std.specs.Prelude.{◌≡◌, ◌⊎◌, ℕ, Bool, false, true, List, [], ◌==◌, codes, length, Result, Ok, Err, None, Some}
use Rattle.serde_json.specs.Data.{Data}
use Rattle.sw_json_verdicts.specs.Names.{certificate_name}
use Rattle.sw_json_verdicts.specs.Stores.{Given, whole, too_long, unread, no_memory, Giving, Keeping}
use Rattle.sw_json_verdicts.specs.declared.audit_options.AuditOptions.{AuditOptions}
use Rattle.sw_app.specs.declared.decide_finding.DecideFinding.{DecideFinding}
use Rattle.sw_config.specs.Entries.{Declaration}
use Rattle.sw_engine.specs.Files.{IsFileOf}
use Rattle.sw_engine.specs.Tellings.{Findings}
use Rattle.sw_engine.specs.declared.network_file.NetworkFile.{NetworkFile}
use Rattle.sw_engine.specs.declared.network_file.NetworkFile.TheVariants as file
use Rattle.sw_file.specs.Network.{network_text}
use Rattle.sw_json.specs.FaultValues.{IsFaultValue, long_value}
use Rattle.sw_json.specs.FileValues.{bare_entry, kind_value, read_entry}
use Rattle.sw_json.specs.VerdictValues.{certificate_bytes, verdict_value}
use Rattle.sw_linter.specs.LintTexts.{AreLintTexts}
use Rattle.sw_search.specs.Verdicts.{IsVerdict}
use Rattle.sw_search.specs.declared.verdict.Verdict.{Verdict}
use Rattle.sw_search.specs.declared.verdict.Verdict.TheVariants.{Misrouted, Cyclic, Free}
use Rattle.sw_text.specs.declared.fault.TextFault.{TextFault}

-- a file's status, word and object, and whether it is a network without flows
pub record Finding : Type 0 where
  pub status : ℕ
  pub word : List ℕ
  pub object : Data
  pub flowless : Bool

abbrev pub has_no_flows : Declaration → Bool
has_no_flows d = length d.flows == 0

-- the verdict in a word
abbrev pub verdict_word : Verdict → List ℕ
verdict_word (Misrouted i p fault) = codes "misrouted"
verdict_word (Cyclic cycle) = codes "cyclic"
verdict_word (Free contents) = codes "free"

-- of a free network that was to be kept: 6 where its certificate was not
abbrev pub kept_status : Bool → ℕ
kept_status true = 0
kept_status false = 6

-- 0 where the network never locks up, and 1 where it is cyclic or misrouted; where its certificate is to be kept, by whether it was
abbrev pub IsStatus : Bool → Keeping → List ℕ → Verdict → ℕ → Type 0
IsStatus keeping keeps name (Misrouted i p fault) status = status ≡ 1
IsStatus keeping keeps name (Cyclic cycle) status = status ≡ 1
IsStatus false keeps name (Free contents) status = status ≡ 0
IsStatus true keeps name (Free contents) status = (kept : Bool) × keeps name (certificate_bytes (Free contents)) kept × (status ≡ kept_status kept)

-- the object of a text that is a network: the verdict on it, and what there is to note of it
abbrev pub IsVerdictEntry : List ℕ → List ℕ → Declaration → Verdict → ℕ → Data → Type 0
IsVerdictEntry path text d v status value =
    (lint : List (List ℕ)) × AreLintTexts d lint × (value ≡ read_entry path text lint status (verdict_value d v))

-- of a text that is a network: the verdict on it
pub record IsVerdictFinding (options : AuditOptions) (keeps : Keeping) (number : ℕ) (path text : List ℕ) (d : Declaration) (f : Finding) : Type 0 where
  pub verdict : Verdict
  pub found : IsVerdict d verdict
  pub status : IsStatus options.certificates keeps (certificate_name number path) verdict f.status
  pub word : f.word ≡ verdict_word verdict
  pub object : options.json ≡ true → IsVerdictEntry path text d verdict f.status f.object
  pub flowless : f.flowless ≡ has_no_flows d

-- the object of a text that is no network: its first fault
abbrev pub IsFaultEntry : List ℕ → List ℕ → TextFault → Data → Type 0
IsFaultEntry path text fault value = (told : Data) × IsFaultValue text fault told × (value ≡ read_entry path text [] 3 told)

-- of a text that is no network
pub record IsFaultFinding (options : AuditOptions) (path text : List ℕ) (fault : TextFault) (f : Finding) : Type 0 where
  pub status : f.status ≡ 3
  pub word : f.word ≡ codes "fault"
  pub object : options.json ≡ true → IsFaultEntry path text fault f.object
  pub flowless : f.flowless ≡ false

-- of a text that is a network, or of its first fault
abbrev pub IsTextFinding : AuditOptions → Keeping → ℕ → List ℕ → List ℕ → Result Declaration TextFault → Finding → Type 0
IsTextFinding options keeps number path text (Ok d) f = IsVerdictFinding options keeps number path text d f
IsTextFinding options keeps number path text (Err fault) f = IsFaultFinding options path text fault f

-- of a file whose text was not read, or not whole: its status, a word, and what stands for the verdict
pub record IsBareFinding (options : AuditOptions) (path : List ℕ) (status : ℕ) (word : List ℕ) (verdict : Data) (f : Finding) : Type 0 where
  pub told_status : f.status ≡ status
  pub told_word : f.word ≡ word
  pub object : options.json ≡ true → f.object ≡ bare_entry path status verdict
  pub flowless : f.flowless ≡ false

-- memory was wanted
abbrev pub IsMemoryFinding : AuditOptions → List ℕ → Finding → Type 0
IsMemoryFinding options path = IsBareFinding options path 5 (codes "memory") (kind_value (codes "memory"))

-- of what a path gave
abbrev pub IsGivenFinding : AuditOptions → Keeping → ℕ → List ℕ → Given → Finding → Type 0
IsGivenFinding options keeps number path (whole text) = IsTextFinding options keeps number path text (network_text text)
IsGivenFinding options keeps number path too_long = IsBareFinding options path 3 (codes "fault") long_value
IsGivenFinding options keeps number path unread = IsBareFinding options path 6 (codes "unread") (kind_value (codes "unread"))
IsGivenFinding options keeps number path no_memory = IsMemoryFinding options path

-- of a text that is a network, where this is the verdict on it
abbrev pub IsOfVerdict : AuditOptions → Keeping → ℕ → List ℕ → List ℕ → Declaration → Verdict → Finding → Type 0
IsOfVerdict options keeps number path text d verdict f = (is : IsVerdictFinding options keeps number path text d f) × (is.verdict ≡ verdict)

-- of a text that is a network, where this was found of it; of want of memory nothing
abbrev pub IsOfNetwork : AuditOptions → Keeping → ℕ → List ℕ → List ℕ → Declaration → Findings DecideFinding → Finding → Type 0
IsOfNetwork options keeps number path text d (Some (Ok found)) f = IsOfVerdict options keeps number path text d found.verdict f
IsOfNetwork options keeps number path text d (Some (Err none)) f = ⊥
IsOfNetwork options keeps number path text d None f = ⊥

-- of a file as far as it could be read, where this was found of its network; of want of memory nothing
abbrev pub IsFileFinding : AuditOptions → Keeping → ℕ → List ℕ → NetworkFile → Findings DecideFinding → Finding → Type 0
IsFileFinding options keeps number path (file.Network text network) findings f = IsOfNetwork options keeps number path text.items network findings f
IsFileFinding options keeps number path (file.Faulty text fault) findings f = IsFaultFinding options path text.items fault f
IsFileFinding options keeps number path file.TooLong findings f = IsBareFinding options path 3 (codes "fault") long_value f
IsFileFinding options keeps number path file.Unread findings f = IsBareFinding options path 6 (codes "unread") (kind_value (codes "unread")) f
IsFileFinding options keeps number path file.NoMemory findings f = ⊥

-- the same, or that memory was wanted for it
abbrev pub IsFoundOfFile : AuditOptions → Keeping → ℕ → List ℕ → NetworkFile → Findings DecideFinding → Finding → Type 0
IsFoundOfFile options keeps number path known findings f = IsFileFinding options keeps number path known findings f ⊎ IsMemoryFinding options path f

-- what the path gave is as a network file, unless memory was wanted
abbrev pub IsFileOfGiven : Given → NetworkFile → Type 0
IsFileOfGiven (whole text) known = IsFileOf (Some text) known
IsFileOfGiven too_long known = known ≡ file.TooLong
IsFileOfGiven unread known = known ≡ file.Unread
IsFileOfGiven no_memory known = known ≡ file.NoMemory

abbrev pub IsFileGiven : (Given → Type 0) → NetworkFile → Type 0
IsFileGiven gives known = (given : Given) × gives given × IsFileOfGiven given known

-- of the file of that number and path, or that memory was wanted for it
abbrev pub IsFinding : AuditOptions → Giving → Keeping → ℕ → List ℕ → Finding → Type 0
IsFinding options gives keeps number path f =
    ((given : Given) × gives path given × IsGivenFinding options keeps number path given f) ⊎ IsMemoryFinding options path f
