-- What `margin --json` answers (this project's choice).
use Rattle.std.specs.Prelude.{ℕ, List, codes}
use Rattle.sw_changes.specs.MarginAnswers.{IsMarginFinding, margin_value}
use Rattle.sw_engine.specs.Engines.{AnswersToOne}
use Rattle.sw_json.specs.ObjectAnswers.{NetworkFileAsObject}
use Rattle.sw_json.specs.declared.files.Release.{Release}

-- of a network file, by its path
abbrev pub IsMarginJson : List ℕ → Release → AnswersToOne
IsMarginJson = NetworkFileAsObject (codes "margin") IsMarginFinding margin_value (λ _. 0)
