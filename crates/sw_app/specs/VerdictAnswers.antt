-- What `decide` and `report` answer (this project's choice).
use Rattle.std.specs.Prelude.{◌≡◌, ℕ, List, [], ◌∷◌, Option, length}
use Rattle.std.specs.Io.KnownBytes.{Appends}
use Rattle.sw_config.specs.Entries.{Declaration}
use Rattle.sw_cert.specs.Grammar.{spelling}
use Rattle.sw_cert.specs.Text as certificate
use Rattle.sw_engine.specs.LineAnswers.{NetworkFileInLines}
use Rattle.sw_search.specs.declared.verdict.Verdict.{Verdict}
use Rattle.sw_search.specs.declared.verdict.Verdict.TheVariants.{Misrouted, Cyclic, Free}
use Rattle.sw_search.specs.Findings.{AreFindings}
use Rattle.sw_search.specs.Verdicts.{IsVerdict}
use Rattle.sw_output.specs.Lines.{line}
use Rattle.sw_output.specs.ReportTexts.{report_text}
use Rattle.sw_output.specs.VerdictTexts.{cycle_text, cyclic_words, free_words, misrouted_words}
use Rattle.sw_app.specs.ShownDeadlockFree.{AreShownDeadlockFree, IsShownDeadlockFree}
use Rattle.sw_app.specs.declared.decide_finding.DecideFinding.{DecideFinding}
use Rattle.sw_app.specs.declared.report_finding.ReportFinding.{ReportFinding}
use Rattle.sw_text.specs.Ends.{Answers, GivesAll}

-- the flow that is not well routed, or the cycle, or the certificate in its one spelling
abbrev pub verdict_text : Declaration → Verdict → List ℕ
verdict_text d (Misrouted i p fault) = line (misrouted_words d i p fault ∷ [])
verdict_text d (Cyclic cycle) = cycle_text d cycle
verdict_text d (Free contents) = spelling contents.numbers contents.places

-- the text of a certificate says just that certificate
abbrev pub SaysCertificate : List ℕ → Verdict → Type 0
SaysCertificate text (Misrouted i p fault) = Unit {0}
SaysCertificate text (Cyclic cycle) = Unit {0}
SaysCertificate text (Free contents) = certificate.Says text contents

-- 0 where the network never locks up
abbrev pub verdict_status : Verdict → ℕ
verdict_status (Misrouted i p fault) = 1
verdict_status (Cyclic cycle) = 1
verdict_status (Free contents) = 0

-- a verdict in one line
abbrev pub verdict_words : Declaration → Verdict → List ℕ
verdict_words d (Misrouted i p fault) = misrouted_words d i p fault
verdict_words d (Cyclic cycle) = cyclic_words (length cycle.channels)
verdict_words d (Free contents) = free_words contents.numbers

-- what `decide` finds of a network: the verdict on it
abbrev pub IsDecideFinding : Declaration → DecideFinding → Type 0
IsDecideFinding d found = IsVerdict d found.verdict

abbrev pub decide_lines : Declaration → DecideFinding → List ℕ
decide_lines d found = verdict_text d found.verdict

abbrev pub decide_status : DecideFinding → ℕ
decide_status found = verdict_status found.verdict

-- of the bytes of a file
abbrev pub IsDecideAnswer : List ℕ → Answers
IsDecideAnswer = NetworkFileInLines IsDecideFinding decide_lines decide_status

-- what `report` finds of a network
abbrev pub IsReportFinding : Declaration → ReportFinding → Type 0
IsReportFinding d found = AreFindings d found.findings

abbrev pub report_lines : Declaration → ReportFinding → List ℕ
report_lines d found = report_text d found.findings.places found.findings.dependencies (verdict_words d found.findings.verdict)

-- of the bytes of a file, with status 0 whatever the verdict
abbrev pub IsReportAnswer : List ℕ → Answers
IsReportAnswer = NetworkFileInLines IsReportFinding report_lines (λ _. 0)

-- with status 0 the lines are a certificate that is accepted for the network, and that network never locks up
abbrev pub ShowsDeadlockFree : Declaration → DecideFinding → Type 0
ShowsDeadlockFree d found = decide_status found ≡ 0 → IsShownDeadlockFree d (decide_lines d found)

-- what was written is a certificate that is accepted for the network that the bytes declare, and that network never locks up, over
-- every run that keeps the limits on unanswered commands
abbrev pub WritesAccepted : List ℕ → Option (List ℕ) → Option (List ℕ) → Type 0
WritesAccepted bytes old new = (text : List ℕ) × AreShownDeadlockFree bytes text × Appends old new text

-- the reader was read to its end, and what was written is a certificate that is accepted for the network that its bytes declare; that
-- network never locks up, over every run that keeps the limits on unanswered commands
abbrev pub DecidesDeadlockFree : Option (List ℕ) → Option (List ℕ) → Option (List ℕ) → Option (List ℕ) → Type 0
DecidesDeadlockFree before after old new = (bytes : List ℕ) × GivesAll before after bytes × WritesAccepted bytes old new
