-- What `report` answers with an object of JSON (this project's choice).
use Rattle.std.specs.Prelude.{ℕ, ◌-◌, List, [], ◌∷◌, codes, length}
use Rattle.serde_json.specs.Data.{Data, object, string, member, no_members}
use Rattle.sw_app.specs.VerdictAnswers.{IsReportFinding}
use Rattle.sw_config.specs.Entries.{Declaration, all_flows, wiring_of}
use Rattle.sw_engine.specs.Engines.{AnswersToOne}
use Rattle.sw_json.specs.Answering.{IsCommandOutcome, Results, read_value}
use Rattle.sw_json.specs.ObjectAnswers.{FilesAsObject}
use Rattle.sw_json.specs.Simple.{count_value, texts_value}
use Rattle.sw_json.specs.VerdictValues.{verdict_value}
use Rattle.sw_json.specs.declared.files.Release.{Release}
use Rattle.sw_linter.specs.LintTexts.{AreLintTexts}
use Rattle.sw_search.specs.declared.verdict.Findings.{Findings}

-- How many parts of each kind the network has, what there is to note of it, how many places and dependencies, and the verdict; `flows` are
-- the declared ones, `replies` those of replies.
abbrev pub report_value : Declaration → Data → ℕ → ℕ → Data → Data
report_value d lint places dependencies verdict =
    object (member (codes "channels") (count_value (length (wiring_of d).ends))
    (member (codes "dependencies") (count_value dependencies)
    (member (codes "flows") (count_value (length d.flows))
    (member (codes "kind") (string (codes "report"))
    (member (codes "links") (count_value (length d.links))
    (member (codes "lint") lint
    (member (codes "nodes") (count_value (length d.nodes))
    (member (codes "places") (count_value places)
    (member (codes "replies") (count_value (length (all_flows d) - length d.flows))
    (member (codes "switches") (count_value (length d.switches))
    (member (codes "verdict") verdict no_members)))))))))))

abbrev pub found_value : Declaration → List (List ℕ) → Findings → Data
found_value d lint f = report_value d (texts_value lint) f.places f.dependencies (verdict_value d f.verdict)

-- what was found of a network, with all that there is to note of it, and status 0 whatever the verdict
abbrev pub report_results : Declaration → Findings → Results
report_results d f value status = (lint : List (List ℕ)) × AreLintTexts d lint × IsCommandOutcome (found_value d lint f) 0 value status

-- of the file of that path
abbrev pub IsReportJson : List ℕ → Release → AnswersToOne
IsReportJson path = FilesAsObject (codes "report") IsReportFinding (λ d found. report_results d found.findings) path (λ given. read_value path given ∷ [])
