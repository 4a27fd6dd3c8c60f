-- The line of how many commands of a flow may be unanswered, by its pieces.
use Rattle.std.proofs.Common.{◌≡◌, ◌∙◌, ℕ, List, ◌++◌, ap, codes, sym}
use Rattle.std.specs.Prelude.{Option, Some, None}
use Rattle.std.specs.Fmt.{decimal}
use Rattle.sw_config.specs.Entries.{Declaration}
use Rattle.sw_margin.specs.declared.bend.FlowLimit.{FlowLimit}
use Rattle.sw_output.specs.FlowTexts.{flow_name}
use Rattle.sw_explain.specs.ExplainTexts.{ending}
use Rattle.sw_changes.specs.MarginTexts.{allowed_line, limit_line}

pub most_told : (d : Declaration) (l : FlowLimit) (n : ℕ) (end name old after : List ℕ) → l.most ≡ Some n → end ≡ ending n → name ≡ flow_name d l.flow
    → after ≡ old ++ (codes "free with up to " ++ (decimal n ++ (codes " unanswered command" ++ (end ++ (codes " of " ++ (name ++ codes "\n"))))))
    → after ≡ old ++ limit_line d l
most_told d l n end name old after most_is end_is name_is is =
    is ∙ ap (λ (e : List ℕ). old ++ (codes "free with up to " ++ (decimal n ++ (codes " unanswered command" ++ (e ++ (codes " of " ++ (name ++ codes "\n"))))))) end_is
    ∙ ap (λ (m : List ℕ). old ++ allowed_line (Some n) m) name_is ∙ ap (λ (o : Option ℕ). old ++ allowed_line o (flow_name d l.flow)) (sym most_is)

pub any_told : (d : Declaration) (l : FlowLimit) (name old after : List ℕ) → l.most ≡ None → name ≡ flow_name d l.flow
    → after ≡ old ++ (codes "free with any number of unanswered commands of " ++ (name ++ codes "\n")) → after ≡ old ++ limit_line d l
any_told d l name old after most_is name_is is =
    is ∙ ap (λ (m : List ℕ). old ++ allowed_line None m) name_is ∙ ap (λ (o : Option ℕ). old ++ allowed_line o (flow_name d l.flow)) (sym most_is)
