-- What `explain` answers (this project's choice).
use Rattle.std.specs.Prelude.{◌≡◌, Bool, List, ℕ}
use Rattle.sw_config.specs.Entries.{Declaration}
use Rattle.sw_engine.specs.LineAnswers.{NetworkFileInLines}
use Rattle.sw_search.specs.Explanations.{IsExplanation}
use Rattle.sw_text.specs.Ends.{Answers}
use Rattle.sw_explain.specs.declared.explain_finding.ExplainFinding.{ExplainFinding}
use Rattle.sw_explain.specs.ExplainTexts.{explain_status, explain_text}

-- what is found of a network; whether all flows of a step are to be named, or six and how many more there are
abbrev pub IsExplainFinding : Bool → Declaration → ExplainFinding → Type 0
IsExplainFinding all d found = (found.all ≡ all) × IsExplanation d found.explanation

-- of the bytes of a file: the text and the status of what is found of its network
abbrev pub IsExplainAnswer : Bool → List ℕ → Answers
IsExplainAnswer all = NetworkFileInLines (IsExplainFinding all) (λ d found. explain_text d found.all found.explanation) (λ found. explain_status found.explanation)
