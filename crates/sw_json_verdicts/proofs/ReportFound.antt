-- What `report` finds of a network.
use Rattle.std.proofs.Common.{◌≡◌, ◌∙◌, List, ℕ, ap}
use Rattle.serde_json.specs.Data.{Data}
use Rattle.sw_config.specs.Entries.{Declaration}
use Rattle.sw_json.specs.Simple.{texts_value}
use Rattle.sw_json.specs.VerdictValues.{verdict_value}
use Rattle.sw_search.specs.declared.verdict.Findings.{Findings}
use Rattle.sw_json_verdicts.specs.ReportResults.{found_value, report_value}

-- the object round the notes and the verdict
pub found : (d : Declaration) (lint : List (List ℕ)) (f : Findings) (notes verdict value : Data) → notes ≡ texts_value lint → verdict ≡ verdict_value d f.verdict
    → value ≡ report_value d notes f.places f.dependencies verdict → value ≡ found_value d lint f
found d lint f notes verdict value noted said is =
    is ∙ ap (report_value d notes f.places f.dependencies) said ∙ ap (λ them. report_value d them f.places f.dependencies (verdict_value d f.verdict)) noted
