-- `margin` has one answer.
use Rattle.std.proofs.Common.{◌≡◌, ◌∙◌, ℕ, List, Vec, Global, [], ◌∷◌, ◌++◌, ap, map, refl}
use Rattle.std.specs.Prelude.{flat_map}
use Rattle.sw_config.specs.Entries.{Declaration}
use Rattle.sw_engine.proofs.LineEnds.{one_in_lines}
use Rattle.sw_margin.specs.Laws.{AnswersAreDetermined, FlowLimitsAreDetermined, LossesAreDetermined, StallsAreDetermined}
use Rattle.sw_margin.specs.declared.bend.Bend.{Bend}
use Rattle.sw_margin.specs.declared.bend.FlowLimit.{FlowLimit}
use Rattle.sw_margin.specs.declared.bend.Margins.{Margins}
use Rattle.sw_output.specs.Lines.{line}
use Rattle.sw_output.specs.VerdictTexts.{misrouted_words}
use Rattle.sw_search.specs.Laws.{SaysTheSame, VerdictsAreDetermined}
use Rattle.sw_search.specs.declared.verdict.Verdict.{Verdict}
use Rattle.sw_search.specs.declared.verdict.Verdict.TheVariants as verdict
use Rattle.sw_changes.specs.declared.margin_finding.MarginFinding.{MarginFinding}
use Rattle.sw_changes.specs.declared.margin_finding.MarginFinding.TheVariants.{NotFree, Free}
use Rattle.sw_changes.specs.MarginLaws.{MarginHasOneAnswer}
use Rattle.sw_changes.specs.MarginAnswers.{AreMargins, IsMarginFinding, IsNotFree, margin_lines, not_free_lines}
use Rattle.sw_changes.specs.MarginTexts.{answer_line, limit_line, loss_lines, margin_text, stall_line}

abbrev items_of : Vec ℕ Global → List ℕ
items_of flows = flows.items

-- the text of four lists
abbrev text_of : Declaration → List Bend → List Bend → List FlowLimit → List (List ℕ) → List ℕ
text_of d stalls answers limits losses = flat_map (stall_line d) stalls ++ (flat_map (answer_line d) answers ++ (flat_map (limit_line d) limits ++ loss_lines d 0 losses))

-- verdicts that say the same, of networks that are not free
one_not_free : (d : Declaration) (v w : Verdict) → SaysTheSame v w → not_free_lines d v ≡ not_free_lines d w
one_not_free d (verdict.Misrouted i p fault) (verdict.Misrouted j q another) same = λ t. line (misrouted_words d (same.0 t) (same.1 t) (same.2 t) ∷ [])
one_not_free d (verdict.Cyclic cycle) (verdict.Cyclic round) same = refl
one_not_free d (verdict.Free contents) (verdict.Free others) same = refl
one_not_free d v w same = absurd same

-- one of them is free, and the other is not
pub not_both : (v : Verdict) → IsNotFree v → (contents : _) → SaysTheSame v (verdict.Free contents) → ⊥
not_both (verdict.Misrouted i p fault) is contents same = same
not_both (verdict.Cyclic cycle) is contents same = same
not_both (verdict.Free others) is contents same = is

module _ (one_stalls : StallsAreDetermined) (one_answers : AnswersAreDetermined) (one_limits : FlowLimitsAreDetermined) (one_losses : LossesAreDetermined) (one_verdict : VerdictsAreDetermined) where
  one_text : (d : Declaration) (told listed : Margins) → AreMargins d told → AreMargins d listed → margin_text d told ≡ margin_text d listed
  one_text d told listed (stalls, answers, limits, losses) (stalled, answered, limited, lost) =
      let same_stalls = one_stalls d told.stalls.items listed.stalls.items stalls stalled in
      let same_answers = one_answers d told.answers.items listed.answers.items answers answered in
      let same_limits = one_limits d told.limits.items listed.limits.items limits limited in
      let same_losses = one_losses d told.losses.items listed.losses.items losses lost in
      ap (λ s. text_of d s told.answers.items told.limits.items (map items_of told.losses.items)) same_stalls
      ∙ ap (λ a. text_of d listed.stalls.items a told.limits.items (map items_of told.losses.items)) same_answers
      ∙ ap (λ m. text_of d listed.stalls.items listed.answers.items m (map items_of told.losses.items)) same_limits
      ∙ ap (λ l. text_of d listed.stalls.items listed.answers.items listed.limits.items l) same_losses

  one_finding : (d : Declaration) (f g : MarginFinding) → IsMarginFinding d f → IsMarginFinding d g → margin_lines d f ≡ margin_lines d g
  one_finding d (NotFree v) (NotFree w) h k = one_not_free d v w (one_verdict d v w h.0 k.0)
  one_finding d (NotFree v) (Free listed) h k = absurd (not_both v h.1 k.0.0 (one_verdict d v (verdict.Free k.0.0) h.0 k.0.1))
  one_finding d (Free told) (NotFree w) h k = absurd (not_both w k.1 h.0.0 (one_verdict d w (verdict.Free h.0.0) k.0 h.0.1))
  one_finding d (Free told) (Free listed) h k = one_text d told listed h.1 k.1

pub one_answer : StallsAreDetermined → AnswersAreDetermined → FlowLimitsAreDetermined → LossesAreDetermined → VerdictsAreDetermined → MarginHasOneAnswer
one_answer one_stalls one_answers one_limits one_losses one_verdict =
    one_in_lines IsMarginFinding margin_lines (λ _. 0)
    (λ d f g h k. (one_finding one_stalls one_answers one_limits one_losses one_verdict d f g h k, refl))
