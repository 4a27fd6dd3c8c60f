-- What `check` answers with an object of JSON (this project's choice).
use Rattle.std.specs.Prelude.{◌≡◌, ℕ, List, codes, Option, Some, None}
use Rattle.serde_json.specs.Data.{Data, object, string, member, no_members}
use Rattle.sw_app.specs.CheckAnswers.{IsCheckFinding, check_status}
use Rattle.sw_app.specs.CheckTexts.{grammar_words, refusal_words}
use Rattle.sw_app.specs.declared.check_finding.CheckFinding.{CheckFinding}
use Rattle.sw_app.specs.declared.check_finding.CheckFinding.TheVariants.{TooLong, WrongLine, Refused, Accepted}
use Rattle.sw_cert.specs.declared.refusal.Refusal.{Refusal}
use Rattle.sw_cert.specs.declared.refusal.Refusal.TheVariants.{WrongCount, NoStart, Faulty, NotClosed, NotRising}
use Rattle.sw_text.specs.Ends.{AnswersToTwo}
use Rattle.sw_config.specs.Entries.{Declaration}
use Rattle.sw_flow.specs.declared.place.Place.{Place}
use Rattle.sw_json.specs.FileValues.{kind_value}
use Rattle.sw_json.specs.PlaceValues.{route_fault_code}
use Rattle.sw_json.specs.Simple.{count_or_null, text_or_null}
use Rattle.sw_json.specs.declared.files.Release.{Release}
use Rattle.sw_output.specs.FlowTexts.{flow_name}
use Rattle.sw_json.specs.Answering.{IsCommandOutcome, IsLongFile, Results}
use Rattle.sw_json.specs.ObjectAnswers.{TwoFilesAsObject}

-- A reason to refuse a certificate, in its parts: its code, the wrong line, the flow, a channel of it and how many address bytes are
-- deleted there, the channel that depends on that one, and the code of the place's fault. A part that a reason lacks is None.
pub record Reason : Type 0 where
  pub channel : Option ℕ
  pub code : List ℕ
  pub deleted : Option ℕ
  pub fault : Option (List ℕ)
  pub flow : Option (List ℕ)
  pub line : Option ℕ
  pub next : Option ℕ

-- a reason with its code alone
abbrev pub bare_reason : List ℕ → Reason
bare_reason code = record { channel = None; code = code; deleted = None; fault = None; flow = None; line = None; next = None }

-- a text that is no certificate, by its first wrong line
abbrev pub grammar_reason : ℕ → Reason
grammar_reason number = record (bare_reason (codes "C1")) { line = Some number }

-- a place of a flow
abbrev pub placed_reason : Declaration → List ℕ → ℕ → Place → Option (List ℕ) → Reason
placed_reason d code i p fault =
    record (bare_reason code) { flow = Some (flow_name d i); channel = Some p.channel; deleted = Some p.deleted; fault = fault }

-- a dependency along which the numbers do not rise: the channels' numbers
abbrev pub not_rising_reason : ℕ → ℕ → Reason
not_rising_reason c e = record (bare_reason (codes "C5")) { channel = Some c; next = Some e }

abbrev pub reason_of : Declaration → Refusal → Reason
reason_of d WrongCount = bare_reason (codes "C2")
reason_of d (NoStart i) = record (bare_reason (codes "C3")) { flow = Some (flow_name d i) }
reason_of d (NotClosed i p) = placed_reason d (codes "C4") i p None
reason_of d (NotRising c e) = not_rising_reason c e
reason_of d (Faulty i p fault) = placed_reason d (codes "C6") i p (Some (route_fault_code fault))

-- a certificate that is refused: the reason's parts, and the line of the text answer
abbrev pub refused_value : Reason → List ℕ → Data
refused_value r text =
    object (member (codes "channel") (count_or_null r.channel)
    (member (codes "code") (string r.code)
    (member (codes "deleted") (count_or_null r.deleted)
    (member (codes "fault") (text_or_null r.fault)
    (member (codes "flow") (text_or_null r.flow)
    (member (codes "kind") (string (codes "refused"))
    (member (codes "line") (count_or_null r.line)
    (member (codes "next") (count_or_null r.next)
    (member (codes "text") (string text) no_members)))))))))

-- what is told of a finding, and of a second file of that path
abbrev pub check_results : List ℕ → Declaration → CheckFinding → Results
check_results other d TooLong = IsLongFile other
check_results other d (WrongLine number) = IsCommandOutcome (refused_value (grammar_reason number) (grammar_words number)) 1
check_results other d (Refused contents refusal) = IsCommandOutcome (refused_value (reason_of d refusal) (refusal_words d refusal)) 1
check_results other d Accepted = IsCommandOutcome (kind_value (codes "accepted")) 0

-- with the finding's status
pub check_has_status : (other : List ℕ) (d : Declaration) (found : CheckFinding) (value : Data) (status : ℕ) → check_results other d found value status
    → status ≡ check_status found
check_has_status other d TooLong value status is = is.1
check_has_status other d (WrongLine number) value status is = is.1
check_has_status other d (Refused contents refusal) value status is = is.1
check_has_status other d Accepted value status is = is.1

-- of the network file and the certificate file of those paths: all that is wrong with the first comes before what is with the second
abbrev pub IsCheckJson : List ℕ → List ℕ → Release → AnswersToTwo
IsCheckJson = TwoFilesAsObject (codes "check") IsCheckFinding (λ other second d found. check_results other d found)
