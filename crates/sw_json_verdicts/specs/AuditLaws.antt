-- What it says that a network is told as free, and what status 0 of an audit says.
use Rattle.std.specs.Prelude.{◌≡◌, ℕ, ◌+◌, true, List, Ok, Some, codes, slice_get}
use Rattle.sw_app.specs.ShownDeadlockFree.{AreShownDeadlockFree, IsShownDeadlockFree}
use Rattle.sw_engine.specs.Paths.{PathTexts}
use Rattle.sw_json_verdicts.specs.AuditAnswers.{AreFindings}
use Rattle.sw_json_verdicts.specs.AuditTexts.{worst}
use Rattle.sw_json_verdicts.specs.Findings.{Finding, IsFinding, IsStatus, IsVerdictEntry}
use Rattle.sw_json_verdicts.specs.Names.{certificate_name}
use Rattle.sw_json_verdicts.specs.Stores.{Giving, Keeping, gives_of_paths, keeps_in, path_in, whole}
use Rattle.sw_json_verdicts.specs.declared.audit_options.AuditOptions.{AuditOptions}
use Rattle.sw_cert.specs.Text.{Contents}
use Rattle.sw_config.specs.Entries.{Declaration}
use Rattle.sw_file.specs.Network.{network_text}
use Rattle.sw_json.specs.VerdictValues.{certificate_bytes}
use Rattle.sw_search.specs.Verdicts.{IsFree}
use Rattle.sw_search.specs.declared.verdict.Verdict.TheVariants.{Free}

-- The file of that number and path declares a network that never locks up, over every run, since this certificate is accepted for it.
-- This is the certificate that is kept, where certificates are, and the one whose SHA-256 the file's object has, where objects are told.
pub record IsShownFree (options : AuditOptions) (gives : Giving) (keeps : Keeping) (number : ℕ) (path : List ℕ) (f : Finding) : Type 0 where
  pub text : List ℕ
  pub given : gives path (whole text)
  pub network : Declaration
  pub declared : network_text text ≡ Ok network
  pub contents : Contents
  pub free : IsFree network contents
  pub shown : IsShownDeadlockFree network (certificate_bytes (Free contents))
  pub status : IsStatus options.certificates keeps (certificate_name number path) (Free contents) f.status
  pub object : options.json ≡ true → IsVerdictEntry path text network (Free contents) f.status f.object

-- so does each file whose verdict is told as `free`
abbrev pub FreeIsShown : Giving → Keeping → Type 0
FreeIsShown gives keeps =
    (options : AuditOptions) (number : ℕ) (path : List ℕ) (f : Finding)
    → IsFinding options gives keeps number path f → f.word ≡ codes "free" → IsShownFree options gives keeps number path f

-- and where certificates are kept, this one stands under its name
pub record IsKeptFree (options : AuditOptions) (gives : Giving) (keeps : Keeping) (number : ℕ) (path : List ℕ) (f : Finding) : Type 0 where
  pub free : IsShownFree options gives keeps number path f
  pub kept : options.certificates ≡ true → keeps (certificate_name number path) (certificate_bytes (Free free.contents)) true

-- so it is of each file where the worst status is 0
abbrev pub ZeroIsFree : Giving → Keeping → Type 0
ZeroIsFree gives keeps =
    (options : AuditOptions) (paths : List (List ℕ)) (findings : List Finding) (i : ℕ) (path : List ℕ)
    → AreFindings options gives keeps paths findings → worst findings ≡ 0 → slice_get paths i ≡ Some path
    → (f : Finding) × (slice_get findings i ≡ Some f) × IsKeptFree options gives keeps (i + 1) path f

-- The bytes that the path gives declare a network that never locks up, over every run, since a certificate is accepted for it; where certificates are
-- kept in a folder, all of this one was put into the file of its name there.
abbrev pub IsPathFree : AuditOptions → PathTexts → (List ℕ → List ℕ → Type 0) → List ℕ → ℕ → List ℕ → Type 0
IsPathFree options gives keeps folder number path =
    (bytes : List ℕ) × gives (Some bytes)
    × ((certificate : List ℕ) × AreShownDeadlockFree bytes certificate
    × (options.certificates ≡ true → keeps (path_in folder (certificate_name number path)) certificate))

-- so it is of each path of an audit over a file system where the worst status is 0
abbrev pub ZeroIsFreeOfPaths : (List ℕ → PathTexts) → (List ℕ → List ℕ → Type 0) → List ℕ → Type 0
ZeroIsFreeOfPaths gives keeps folder =
    (options : AuditOptions) (paths : List (List ℕ)) (findings : List Finding) (i : ℕ) (path : List ℕ)
    → AreFindings options (gives_of_paths gives) (keeps_in keeps folder) paths findings → worst findings ≡ 0 → slice_get paths i ≡ Some path
    → IsPathFree options (gives path) keeps folder (i + 1) path
