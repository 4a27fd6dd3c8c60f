-- What `margin` answers (this project's choice).
use Rattle.std.specs.Prelude.{ℕ, List, [], ◌∷◌}
use Rattle.serde_json.specs.Data.{Data}
use Rattle.sw_config.specs.Entries.{Declaration}
use Rattle.sw_engine.specs.LineAnswers.{NetworkFileInLines}
use Rattle.sw_margin.specs.Bends.{AreAnswers, AreStalls}
use Rattle.sw_margin.specs.FlowLimits.{AreFlowLimits}
use Rattle.sw_margin.specs.Losses.{AreLosses}
use Rattle.sw_margin.specs.declared.bend.Margins.{Margins}
use Rattle.sw_output.specs.Lines.{line}
use Rattle.sw_output.specs.VerdictTexts.{misrouted_words}
use Rattle.sw_search.specs.Verdicts.{IsVerdict}
use Rattle.sw_search.specs.declared.verdict.Verdict.{Verdict}
use Rattle.sw_search.specs.declared.verdict.Verdict.TheVariants as verdict
use Rattle.sw_text.specs.Ends.{Answers}
use Rattle.sw_changes.specs.declared.margin_finding.MarginFinding.{MarginFinding}
use Rattle.sw_changes.specs.declared.margin_finding.MarginFinding.TheVariants.{NotFree, Free}
use Rattle.sw_changes.specs.Mendings.{SaysFree}
use Rattle.sw_changes.specs.MarginValues.{margins_value}
use Rattle.sw_json.specs.VerdictValues.{verdict_value}
use Rattle.sw_changes.specs.MarginTexts.{margin_text, not_free_line}

-- a verdict that some flow is not well routed, or that channels can wait for one another
abbrev pub IsNotFree : Verdict → Type 0
IsNotFree (verdict.Misrouted flow place fault) = Unit {0}
IsNotFree (verdict.Cyclic cycle) = Unit {0}
IsNotFree (verdict.Free contents) = ⊥

-- how far the premises bend
abbrev pub AreMargins : Declaration → Margins → Type 0
AreMargins d told = AreStalls d told.stalls.items × AreAnswers d told.answers.items × AreFlowLimits d told.limits.items × AreLosses d told.losses.items

-- what is found of a network: the verdict, where it is not free, or how far the premises bend
abbrev pub IsMarginFinding : Declaration → MarginFinding → Type 0
IsMarginFinding d (NotFree v) = IsVerdict d v × IsNotFree v
IsMarginFinding d (Free told) = SaysFree d × AreMargins d told

-- the flow that is not well routed; else that the network is not free
abbrev pub not_free_lines : Declaration → Verdict → List ℕ
not_free_lines d (verdict.Misrouted flow place fault) = line (misrouted_words d flow place fault ∷ [])
not_free_lines d (verdict.Cyclic cycle) = not_free_line
not_free_lines d (verdict.Free contents) = not_free_line

-- what is told of that
abbrev pub margin_lines : Declaration → MarginFinding → List ℕ
margin_lines d (NotFree v) = not_free_lines d v
margin_lines d (Free told) = margin_text d told

-- the object that stands for it: the verdict, or what the free network stands
abbrev pub margin_value : Declaration → MarginFinding → Data
margin_value d (NotFree v) = verdict_value d v
margin_value d (Free told) = margins_value d told

-- of the bytes of a file
abbrev pub IsMarginAnswer : List ℕ → Answers
IsMarginAnswer = NetworkFileInLines IsMarginFinding margin_lines (λ _. 0)
