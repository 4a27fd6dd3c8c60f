-- What `audit` answers (this project's choice).
use Rattle.std.specs.Prelude.{◌≡◌, ℕ, ◌+◌, ◌∷◌, [], Bool, false, true, List, Option, Result, Ok, Err, filter, length, map, slice_get, string_bytes, Some}
use Rattle.std.specs.List.{enumerate_from, zip}
use Rattle.sw_json_verdicts.specs.AuditTexts.{json_text, lines_text, objects, worst}
use Rattle.sw_json_verdicts.specs.Findings.{Finding, IsFinding, IsFoundOfFile}
use Rattle.sw_json_verdicts.specs.Stores.{Giving, Keeping}
use Rattle.sw_json_verdicts.specs.declared.audit_options.AuditOptions.{AuditOptions}
use Rattle.std.specs.declared.alloc.AllocError.{AllocError}
use Rattle.sw_text.specs.Ends.{Answers, IsTold}
use Rattle.sw_engine.specs.LineAnswers.{memory_line}
use Rattle.sw_app.specs.declared.decide_finding.DecideFinding.{DecideFinding}
use Rattle.sw_engine.specs.Tellings.{Findings, TellsOr}
use Rattle.sw_engine.specs.declared.network_file.NetworkFile.{NetworkFile}
use Rattle.sw_text.specs.declared.answer.Answer.{Answer}
use Rattle.sw_text.specs.declared.write_answer.Ended.{Ended}
use Rattle.sw_json.specs.FileValues.{audit_value}
use Rattle.sw_json.specs.Texts.{ReadsBack}
use Rattle.sw_json.specs.Answering.{memory_text}

-- for each path one finding, in their order; files are numbered from 1
pub record AreFindings (options : AuditOptions) (gives : Giving) (keeps : Keeping) (paths : List (List ℕ)) (findings : List Finding) : Type 0 where
  pub as_many : length findings ≡ length paths
  pub found : (i : ℕ) (path : List ℕ) (f : Finding)
      → slice_get paths i ≡ Some path → slice_get findings i ≡ Some f → IsFinding options gives keeps (i + 1) path f

-- one value for all that are told, which the text reads back as
abbrev pub IsJson : AuditOptions → List (List ℕ × Finding) → List ℕ → Type 0
IsJson options files text =
    (text ≡ json_text options.quiet options.release.toolchain.now options.release.version.now files)
    × ReadsBack (audit_value (objects options.quiet files) options.release.toolchain.now options.release.version.now)

-- a line for each, or one value
abbrev pub IsTextBy : Bool → AuditOptions → List (List ℕ × Finding) → List ℕ → Type 0
IsTextBy false options files text = text ≡ lines_text options.quiet files
IsTextBy true options files text = IsJson options files text

-- by what is asked for
abbrev pub IsText : AuditOptions → List (List ℕ × Finding) → List ℕ → Type 0
IsText options = IsTextBy options.json options

-- all findings decide the status, those that are told the text
abbrev pub SaysFindings : AuditOptions → List (List ℕ) → List Finding → Answers
SaysFindings options paths findings text status = IsText options (zip paths findings) text × (status ≡ worst findings)

-- of files
abbrev pub IsAuditAnswer : AuditOptions → Giving → Keeping → List (List ℕ) → Answers
IsAuditAnswer options gives keeps paths text status =
    (findings : List Finding) × AreFindings options gives keeps paths findings × SaysFindings options paths findings text status

-- the numbers of those that are true, from 1
abbrev pub numbers_of : List Bool → List ℕ
numbers_of marks = map (λ e. e.0) (filter (λ e. e.1) (enumerate_from 1 marks))

-- those of the files that are networks without flows
abbrev pub numbers_without_flows : List Finding → List ℕ
numbers_without_flows findings = numbers_of (map (λ f. f.flowless) findings)

-- of files, of which those of these numbers are networks without flows
abbrev pub IsNotedAnswer : AuditOptions → Giving → Keeping → List (List ℕ) → List ℕ → Answers
IsNotedAnswer options gives keeps paths without_flows text status =
    (findings : List Finding) × AreFindings options gives keeps paths findings × SaysFindings options paths findings text status
    × (without_flows ≡ numbers_without_flows findings)

-- of one file, of which this was read and found
abbrev pub IsAnswerOfFile : AuditOptions → Keeping → List ℕ → NetworkFile → Findings DecideFinding → Answers
IsAnswerOfFile options keeps path file findings text status =
    (f : Finding) × IsFoundOfFile options keeps 1 path file findings f × SaysFindings options (path ∷ []) (f ∷ []) text status

-- how it is told that memory was wanted: in a line, or as an object
abbrev pub memory_told : Bool → List ℕ
memory_told false = memory_line
memory_told true = memory_text

-- one of the answers was told, or that memory was wanted
abbrev pub TellsAudit : Bool → Option (List ℕ) → Option (List ℕ) → Answers → Ended → Type 0
TellsAudit json old new P ended = TellsOr (memory_told json) P old new ended

-- the answer was told, or that memory was wanted
abbrev pub IsAuditTold : Bool → Result Answer AllocError → Option (List ℕ) → Option (List ℕ) → Ended → Type 0
IsAuditTold json (Ok answer) old new ended = IsTold old new (string_bytes answer.text) answer.status ended
IsAuditTold json (Err none) old new ended = IsTold old new (memory_told json) 5 ended
