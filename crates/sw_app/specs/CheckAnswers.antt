-- What `check` finds and answers (this project's choice).
use Rattle.std.specs.Prelude.{◌≡◌, ℕ, List, [], ◌∷◌, codes, Option, Some, None, Result, Ok, Err}
use Rattle.sw_config.specs.Entries.{Declaration}
use Rattle.sw_engine.specs.LineAnswers.{TwoFilesInLines}
use Rattle.sw_cert.specs.Reading.{State}
use Rattle.sw_cert.specs.Text.{Contents, contents_of, read_text}
use Rattle.sw_cert.specs.declared.refusal.Refusal.{Refusal}
use Rattle.sw_cert.specs.Refusals.{refusal_of}
use Rattle.sw_text.specs.Ends.{AnswersToTwo}
use Rattle.sw_output.specs.Lines.{line}
use Rattle.sw_app.specs.CheckTexts.{accepted_line, grammar_line, refusal_line}
use Rattle.sw_app.specs.declared.check_finding.CheckFinding.{CheckFinding}
use Rattle.sw_app.specs.declared.check_finding.CheckFinding.TheVariants.{TooLong, WrongLine, Refused, Accepted}

-- by the first reason to refuse a certificate for the network, if there is one
abbrev pub IsJudged : Contents → Option Refusal → CheckFinding → Type 0
IsJudged contents None found = found ≡ Accepted
IsJudged contents (Some refusal) found = found ≡ Refused contents refusal

-- of what a certificate's text says, or of its first wrong line
abbrev pub IsCertificateFinding : Declaration → Result State ℕ → CheckFinding → Type 0
IsCertificateFinding d (Ok said) found = IsJudged (contents_of said) (refusal_of d (contents_of said)) found
IsCertificateFinding d (Err number) found = found ≡ WrongLine number

-- what is found of the text of a certificate file, None where it is too long, and of a network
abbrev pub IsCheckFinding : Option (List ℕ) → Declaration → CheckFinding → Type 0
IsCheckFinding (Some bytes) d found = IsCertificateFinding d (read_text bytes) found
IsCheckFinding None d found = found ≡ TooLong

-- what is told of it in lines
abbrev pub check_lines : Declaration → CheckFinding → List ℕ
check_lines d TooLong = line (codes "fault A1 TooLong" ∷ [])
check_lines d (WrongLine number) = grammar_line number
check_lines d (Refused contents refusal) = refusal_line d refusal
check_lines d Accepted = accepted_line

-- 0 where the network never locks up
abbrev pub check_status : CheckFinding → ℕ
check_status TooLong = 3
check_status (WrongLine number) = 1
check_status (Refused contents refusal) = 1
check_status Accepted = 0

-- of the bytes of a network file and of a certificate file: all that is wrong with the first comes before what is with the second
abbrev pub IsCheckAnswer : AnswersToTwo
IsCheckAnswer = TwoFilesInLines IsCheckFinding check_lines check_status
