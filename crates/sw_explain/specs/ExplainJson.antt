-- What `explain --json` answers (this project's choice).
use Rattle.std.specs.Prelude.{Bool, ℕ, List, [], ◌∷◌, codes}
use Rattle.sw_explain.specs.ExplainAnswers.{IsExplainFinding}
use Rattle.sw_explain.specs.ExplainValues.{explain_results}
use Rattle.sw_engine.specs.Engines.{AnswersToOne}
use Rattle.sw_json.specs.Answering.{read_value}
use Rattle.sw_json.specs.ObjectAnswers.{FilesAsObject}
use Rattle.sw_json.specs.declared.files.Release.{Release}

-- of a network file, by its path
abbrev pub IsExplainJson : Bool → List ℕ → Release → AnswersToOne
IsExplainJson all path = FilesAsObject (codes "explain") (IsExplainFinding all) (λ d found. explain_results d found.explanation) path (λ given. read_value path given ∷ [])
