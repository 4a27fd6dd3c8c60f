-- What the calls give that answer with an object (this project's choice).
use Rattle.std.specs.Borrow.{Bor}
use Rattle.std.specs.Prelude.{◌≡◌, ℕ, List, [], ◌∷◌, codes, false, true}
use Rattle.sw_json_verdicts.specs.AuditAnswers.{IsAuditAnswer}
use Rattle.sw_json_verdicts.specs.declared.audit_options.AuditOptions.{AuditOptions}
use Rattle.sw_args.specs.declared.release.TheConstants.{TOOLCHAIN, VERSION}
use Rattle.sw_text.specs.Ends.{limited}
use Rattle.sw_json_verdicts.specs.Release.{Release}
use Rattle.sw_json_verdicts.specs.CheckResults.{IsCheckJson}
use Rattle.sw_json_verdicts.specs.ReportResults.{IsReportJson}
use Rattle.sw_c.specs.AtHand.{gives_bytes, keeps_nothing}
use Rattle.sw_c.specs.Given.{IsObjectGiven}

-- a text, wherever it stands in memory: nothing that is said of it depends on that
abbrev text_of : List ℕ → Bor (List ℕ)
text_of text = record { ref_ptr = (0, 0); now = text }

-- this release, and the toolchain that makes it
abbrev pub this : Release
this = record { version = text_of VERSION.now; toolchain = text_of TOOLCHAIN.now }

-- an object is asked for, whatever the verdict, and no certificate is kept
abbrev pub IsAsked : AuditOptions → Type 0
IsAsked options =
    (options.json ≡ true) × (options.quiet ≡ false) × (options.certificates ≡ false)
    × (options.release.version.now ≡ VERSION.now) × (options.release.toolchain.now ≡ TOOLCHAIN.now)

-- the answer of such an audit of the bytes alone, whose path is `network`
abbrev pub IsDecideGiven : List ℕ → List ℕ → List ℕ → ℕ → ℕ → Type 0
IsDecideGiven network old new count status =
    (options : AuditOptions) × IsAsked options
    × IsObjectGiven (IsAuditAnswer options (gives_bytes network) keeps_nothing (codes "network" ∷ [])) old new count status

-- the answer of `check` to the bytes of two files whose paths are `network` and `certificate`
abbrev pub IsCheckGiven : List ℕ → List ℕ → List ℕ → List ℕ → ℕ → ℕ → Type 0
IsCheckGiven network certificate =
    IsObjectGiven (IsCheckJson (codes "network") (codes "certificate") this (limited network) (limited certificate))

-- the answer of `report` to the bytes of a file whose path is `network`
abbrev pub IsReportGiven : List ℕ → List ℕ → List ℕ → ℕ → ℕ → Type 0
IsReportGiven network = IsObjectGiven (IsReportJson (codes "network") this (limited network))
