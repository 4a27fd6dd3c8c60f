-- From what was told to the answers that it may be.
use Rattle.std.proofs.Common.{◌∷◌, [], Bool, List, ℕ, Option, Result, Ok, Err, IfOk, inl, inr, refl, string_bytes}
use Rattle.std.specs.declared.alloc.AllocError.{AllocError}
use Rattle.sw_text.specs.Ends.{Answers}
use Rattle.sw_text.specs.declared.answer.Answer.{Answer}
use Rattle.sw_text.specs.declared.write_answer.Ended.{Ended}
use Rattle.sw_app.specs.declared.decide_finding.DecideFinding.{DecideFinding}
use Rattle.sw_engine.specs.Tellings.{Findings}
use Rattle.sw_engine.specs.declared.network_file.NetworkFile.{NetworkFile}
use Rattle.sw_json_verdicts.specs.AuditAnswers.{IsAnswerOfFile, IsAuditAnswer, IsAuditTold, IsNotedAnswer, SaysFindings, TellsAudit}
use Rattle.sw_json_verdicts.specs.Findings.{Finding, IsFoundOfFile}
use Rattle.sw_json_verdicts.specs.Stores.{Giving, Keeping}
use Rattle.sw_json_verdicts.specs.declared.audit_options.AuditOptions.{AuditOptions}

pub told : (json : Bool) (P : Answers) (answer : Result Answer AllocError) (old new : Option (List ℕ)) (ended : Ended)
    → IfOk answer (λ a. P (string_bytes a.text) a.status) → IsAuditTold json answer old new ended → TellsAudit json old new P ended
told json P (Ok a) old new ended right is = (string_bytes a.text, a.status, inl right, is)
told json P (Err e) old new ended right is = (_, _, inr (refl, refl), is)

-- what is told of one file tells of what was read and found
pub of_file : (options : AuditOptions) (keeps : Keeping) (path : List ℕ) (file : NetworkFile) (findings : Findings DecideFinding) (f : Finding)
    (answer : Result Answer AllocError) → IsFoundOfFile options keeps 1 path file findings f
    → IfOk answer (λ a. SaysFindings options (path ∷ []) (f ∷ []) (string_bytes a.text) a.status)
    → IfOk answer (λ a. IsAnswerOfFile options keeps path file findings (string_bytes a.text) a.status)
of_file options keeps path file findings f (Ok a) found says = (f, found, says)
of_file options keeps path file findings f (Err none) found says = tt

-- what is told with the numbers of some files is told
pub of_noted : (options : AuditOptions) (gives : Giving) (keeps : Keeping) (paths : List (List ℕ)) (numbers text : List ℕ) (status : ℕ)
    → IsNotedAnswer options gives keeps paths numbers text status → IsAuditAnswer options gives keeps paths text status
of_noted options gives keeps paths numbers text status (findings, are, says, noted) = (findings, are, says)
