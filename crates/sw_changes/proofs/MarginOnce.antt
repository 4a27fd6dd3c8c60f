-- `margin` has one answer, with the status of the text answer.
use Rattle.std.proofs.Common.{◌≡◌, ◌∙◌, ℕ, List, Vec, Global, ap, codes, map, refl, [], ◌∷◌}
use Rattle.serde_json.specs.Data.{Data, array, object, string, member, no_members}
use Rattle.serde_json.specs.View.{items_of}
use Rattle.sw_changes.proofs.OneMarginAnswer.{not_both}
use Rattle.sw_changes.specs.MarginAnswers.{AreMargins, IsMarginFinding, margin_lines, margin_value}
use Rattle.sw_changes.specs.MarginValueLaws.{MarginHasOneAnswer, MarginHasStatusOfText}
use Rattle.sw_changes.specs.MarginValues.{answered_value, flow_limit_value, loss_values, margins_value, stall_value}
use Rattle.sw_changes.specs.declared.margin_finding.MarginFinding.{MarginFinding}
use Rattle.sw_changes.specs.declared.margin_finding.MarginFinding.TheVariants.{NotFree, Free}
use Rattle.sw_config.specs.Entries.{Declaration}
use Rattle.sw_json.proofs.OneObject.{one_object, status_of_lines, value_once}
use Rattle.sw_json.specs.Answering.{read_value}
use Rattle.sw_json.specs.ObjectAnswers.{by_value}
use Rattle.sw_json.proofs.OneVerdict.{one_verdict_value}
use Rattle.sw_margin.specs.Laws.{AnswersAreDetermined, FlowLimitsAreDetermined, LossesAreDetermined, StallsAreDetermined}
use Rattle.sw_margin.specs.declared.bend.Bend.{Bend}
use Rattle.sw_margin.specs.declared.bend.FlowLimit.{FlowLimit}
use Rattle.sw_margin.specs.declared.bend.Margins.{Margins}
use Rattle.sw_search.specs.Laws.{VerdictsAreDetermined}
use Rattle.sw_search.specs.declared.verdict.Verdict.TheVariants as verdict

abbrev items : Vec ℕ Global → List ℕ
items flows = flows.items

-- the object of four lists
abbrev of_lists : Declaration → List Bend → List Bend → List FlowLimit → List (List ℕ) → Data
of_lists d stalls answers limits losses =
    object (member (codes "answers") (array (items_of (map (answered_value d) answers)))
    (member (codes "kind") (string (codes "margins"))
    (member (codes "limits") (array (items_of (map (flow_limit_value d) limits)))
    (member (codes "losses") (array (items_of (loss_values d 0 losses)))
    (member (codes "stalls") (array (items_of (map (stall_value d) stalls))) no_members)))))

module _ (one_stalls : StallsAreDetermined) (one_answers : AnswersAreDetermined) (one_limits : FlowLimitsAreDetermined) (one_losses : LossesAreDetermined) (one_verdict : VerdictsAreDetermined) where
  one_margins : (d : Declaration) (told listed : Margins) → AreMargins d told → AreMargins d listed → margins_value d told ≡ margins_value d listed
  one_margins d told listed (stalls, answers, limits, losses) (stalled, answered, limited, lost) =
      let same_stalls = one_stalls d told.stalls.items listed.stalls.items stalls stalled in
      let same_answers = one_answers d told.answers.items listed.answers.items answers answered in
      let same_limits = one_limits d told.limits.items listed.limits.items limits limited in
      let same_losses = one_losses d told.losses.items listed.losses.items losses lost in
      ap (λ s. of_lists d s told.answers.items told.limits.items (map items told.losses.items)) same_stalls
      ∙ ap (λ a. of_lists d listed.stalls.items a told.limits.items (map items told.losses.items)) same_answers
      ∙ ap (λ m. of_lists d listed.stalls.items listed.answers.items m (map items told.losses.items)) same_limits
      ∙ ap (λ l. of_lists d listed.stalls.items listed.answers.items listed.limits.items l) same_losses

  one_value : (d : Declaration) (f g : MarginFinding) → IsMarginFinding d f → IsMarginFinding d g → margin_value d f ≡ margin_value d g
  one_value d (NotFree v) (NotFree w) h k = one_verdict_value d v w h.0 k.0
  one_value d (NotFree v) (Free listed) h k = absurd (not_both v h.1 k.0.0 (one_verdict d v (verdict.Free k.0.0) h.0 k.0.1))
  one_value d (Free told) (NotFree w) h k = absurd (not_both w k.1 h.0.0 (one_verdict d w (verdict.Free h.0.0) k.0 h.0.1))
  one_value d (Free told) (Free listed) h k = one_margins d told listed h.1 k.1

  pub margin_has_one_answer : MarginHasOneAnswer
  margin_has_one_answer path release given =
      one_object IsMarginFinding (by_value margin_value (λ _. 0)) (codes "margin") path (λ read. read_value path read ∷ []) release
      (λ d. value_once IsMarginFinding margin_value (λ _. 0) (λ d f g h k. refl) d (one_value d)) given

pub margin_has_status_of_text : MarginHasStatusOfText
margin_has_status_of_text path release given =
    status_of_lines IsMarginFinding (by_value margin_value (λ _. 0)) (codes "margin") path (λ read. read_value path read ∷ []) release (λ _. 0)
    (λ d f value status is. is.1) IsMarginFinding margin_lines (λ _. 0) (λ d f g h k. refl) given
