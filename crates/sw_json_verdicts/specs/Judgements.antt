-- For private clauses: what is kept of a finding while others are made.
use Rattle.std.specs.Prelude.{ℕ, ◌+◌, List, IfSome, Option, Some, None, codes, length, map, slice_get}
use Rattle.std.specs.List.{AllZip, range_with_len, zip}
use Rattle.serde_json.specs.Data.{Data}
use Rattle.serde_json.specs.View.{view}
use Rattle.serde_json.specs.declared.value.Value.{Value}
use Rattle.sw_json_verdicts.specs.Findings.{Finding, IsFinding}
use Rattle.sw_json_verdicts.specs.Stores.{Giving, Keeping}
use Rattle.sw_json_verdicts.specs.declared.judged.Judged.{Judged}
use Rattle.sw_json_verdicts.specs.declared.audit_options.AuditOptions.{AuditOptions}
use Rattle.sw_json.specs.FileValues.{bare_entry, kind_value}

-- the object that is told of a path; where none was kept, that of want of memory
abbrev pub object_of : List ℕ → Option Value → Data
object_of path (Some value) = view value
object_of path None = bare_entry path 5 (kind_value (codes "memory"))

-- what was judged of a path, as a finding
abbrev pub finding_of : List ℕ → Judged → Finding
finding_of path j = record { status = j.status; word = j.word.now; object = object_of path j.entry; flowless = j.flowless }

-- of each path
abbrev pub findings_of : List (List ℕ) → List Judged → List Finding
findings_of paths all = map (λ p. finding_of p.0 p.1) (zip paths all)

-- what was judged of the path of that place is found of it, and its file has the next number
abbrev pub IsJudgedAt : AuditOptions → Giving → Keeping → List (List ℕ) → ℕ → Judged → Type 0
IsJudgedAt options gives keeps paths place j =
    IfSome (slice_get paths place) (λ path. IsFinding options gives keeps (place + 1) path (finding_of path j))

-- each of them, in the order of the paths
abbrev pub AreJudged : AuditOptions → Giving → Keeping → List (List ℕ) → List Judged → Type 0
AreJudged options gives keeps paths all = AllZip (IsJudgedAt options gives keeps paths) (range_with_len 0 (length paths)) all
