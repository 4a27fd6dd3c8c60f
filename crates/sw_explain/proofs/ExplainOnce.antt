-- `explain` has one status, that of the text answer; and where a target makes a step no flow does.
use Rattle.std.proofs.Common.{◌≡◌, ◌∙◌, ℕ, ◌+◌, ◌<◌, Bool, List, [], ◌∷◌, All, ap, arith, codes, length, map, refl, subst, sym}
use Rattle.std.specs.List.{AllZip}
use Rattle.std.specs.Prelude.{Result, Some}
use Rattle.std.proofs.lemmas.List.Elements.{All-cons, All-nil}
use Rattle.std.proofs.lemmas.Option.{slice_get_within}
use Rattle.serde_json.specs.Data.{Data}
use Rattle.sw_explain.specs.ExplainAnswers.{IsExplainFinding}
use Rattle.sw_explain.specs.declared.explain_finding.ExplainFinding.{ExplainFinding}
use Rattle.sw_explain.specs.ExplainTexts.{explain_status, explain_text}
use Rattle.sw_config.specs.Entries.{Declaration}
use Rattle.sw_cycle.specs.Causes.{GoesOn, IsChosenCause}
use Rattle.sw_cycle.specs.Cycles.{ByTarget, round}
use Rattle.sw_search.specs.Explanations.{IsExplanation}
use Rattle.sw_search.specs.ExplanationLaws.{ExplanationsAreOfTheVerdict, TanglesAreWhereCyclesAre}
use Rattle.sw_search.specs.Tangles.{IsTangle}
use Rattle.sw_search.specs.declared.explanation.Explanation.{Explanation}
use Rattle.sw_search.specs.declared.explanation.Explanation.TheVariants.{Misrouted, Cyclic, Free}
use Rattle.sw_search.specs.declared.tangle.Tangle.{Tangle}
use Rattle.sw_graph.specs.Reached.{IsListing}
use Rattle.sw_graph.specs.Rows.{row}
use Rattle.sw_graph.specs.declared.component.Component.{Component}
use Rattle.sw_search.specs.Verdicts.{AllWellRouted}
use Rattle.sw_search.specs.declared.verdict.Verdict.TheVariants as verdict
use Rattle.sw_text.specs.declared.fault.TextFault.{TextFault}
use Rattle.sw_json.proofs.OneResult.{AreOne, one_answer}
use Rattle.sw_explain.proofs.TanglesOnce.{one_tangles_value}
use Rattle.sw_json.proofs.OneObject.{one_status, status_of_lines}
use Rattle.sw_json.specs.Answering.{OfNetwork, Results, read_value}
use Rattle.sw_json.specs.ObjectAnswers.{FindingAsResult}
use Rattle.sw_explain.specs.ExplainValues.{explain_has_status, explain_results}
use Rattle.sw_circles.proofs.Lawful.{circlings_are_determined}
use Rattle.sw_linter.specs.CirclingTexts.{AreCirclingTexts, circling_text}
use Rattle.sw_explain.specs.ExplainLaws.{ExplainHasOneAnswer, ExplainHasOneStatus, ExplainHasStatusOfText, HasNoFlowsAtTargets, TargetsHaveNoFlows}
use Rattle.sw_topo.proofs.Lists.{none_listed}
use Rattle.sw_search.proofs.Determined.{not_routed}

-- the results and the status of what is found
abbrev results_of : Declaration → ExplainFinding → Results
results_of d found = explain_results d found.explanation

abbrev status_of : ExplainFinding → ℕ
status_of found = explain_status found.explanation

-- ---- the status

module _ (of_verdict : ExplanationsAreOfTheVerdict) (where_cycles : TanglesAreWhereCyclesAre) where
  status_once : (d : Declaration) (e f : Explanation) → IsExplanation d e → IsExplanation d f → explain_status e ≡ explain_status f
  status_once d (Misrouted i p fault way) (Misrouted j q other round) h k = refl
  status_once d (Misrouted i p fault way) (Cyclic tangles) h k = refl
  status_once d (Misrouted i p fault way) Free h k = absurd (of_verdict d (verdict.Misrouted i p fault) Free h.misrouted k)
  status_once d (Cyclic tangles) (Misrouted j q other round) h k = refl
  status_once d (Cyclic tangles) (Cyclic others) h k = refl
  status_once d (Cyclic tangles) Free h k = absurd (h.some ((where_cycles d tangles.items h.are).1 k.no_cycle))
  status_once d Free (Misrouted j q other round) h k = absurd (of_verdict d (verdict.Misrouted j q other) Free k.misrouted h)
  status_once d Free (Cyclic others) h k = absurd (k.some ((where_cycles d others.items k.are).1 h.no_cycle))
  status_once d Free Free h k = refl

  statuses : (asked all : Bool) (d : Declaration) (x y : ExplainFinding) → IsExplainFinding asked d x → IsExplainFinding all d y
      → explain_status x.explanation ≡ explain_status y.explanation
  statuses asked all d x y h k = status_once d x.explanation y.explanation h.1 k.1

  pub explain_has_one_status : ExplainHasOneStatus
  explain_has_one_status all path release given =
      one_status (IsExplainFinding all) results_of (codes "explain") path (λ read. read_value path read ∷ []) release status_of
      (λ d x value status is. explain_has_status d x.explanation value status is) (statuses all all) given

  pub explain_has_status_of_text : ExplainHasStatusOfText
  explain_has_status_of_text asked all path release given =
      status_of_lines (IsExplainFinding asked) results_of (codes "explain") path (λ read. read_value path read ∷ []) release status_of
      (λ d x value status is. explain_has_status d x.explanation value status is) (IsExplainFinding all) (λ d found. explain_text d found.all found.explanation) status_of (statuses asked all) given

-- ---- one answer where each flow is well routed

same_notes : (d : Declaration) (lint told : List (List ℕ)) → AreCirclingTexts d lint → AreCirclingTexts d told → lint ≡ told
same_notes d lint told (c, are, texts) (e, also, words) = texts ∙ ap (map (circling_text d)) (circlings_are_determined d c e are also) ∙ sym words

found_once : TanglesAreWhereCyclesAre → (d : Declaration) → AllWellRouted d → (e f : Explanation) → IsExplanation d e → IsExplanation d f
    → (value said : Data) (status number : ℕ) → explain_results d e value status → explain_results d f said number → value ≡ said
found_once where_cycles d all (Misrouted i p fault way) f h k value said status number is tells = absurd (not_routed d i p fault h.misrouted all)
found_once where_cycles d all (Cyclic tangles) (Misrouted j q other round) h k value said status number is tells = absurd (not_routed d j q other k.misrouted all)
found_once where_cycles d all (Cyclic tangles) (Cyclic others) h k value said status number (lint, noted, is) (told, also, tells) =
    is.0 ∙ one_tangles_value d lint told tangles.items others.items (same_notes d lint told noted also) h.are k.are ∙ sym tells.0
found_once where_cycles d all (Cyclic tangles) Free h k value said status number is tells = absurd (h.some ((where_cycles d tangles.items h.are).1 k.no_cycle))
found_once where_cycles d all Free (Misrouted j q other round) h k value said status number is tells = absurd (not_routed d j q other k.misrouted all)
found_once where_cycles d all Free (Cyclic others) h k value said status number is tells = absurd (k.some ((where_cycles d others.items k.are).1 h.no_cycle))
found_once where_cycles d all Free Free h k value said status number is tells = is.0 ∙ sym tells.0

pub explain_has_one_answer : ExplanationsAreOfTheVerdict → TanglesAreWhereCyclesAre → ExplainHasOneAnswer
explain_has_one_answer of_verdict where_cycles all path release bytes d is routed =
    one_answer (codes "explain") (read_value path (Some bytes) ∷ []) release _
    (subst (λ (r : Result Declaration TextFault). AreOne (OfNetwork path bytes (FindingAsResult (IsExplainFinding all) results_of) r)) (sym is)
    (λ value said status number (x, h, tells) (y, k, says). (
      explain_has_status d x.explanation value status tells ∙ statuses of_verdict where_cycles all all d x y h k
          ∙ sym (explain_has_status d y.explanation said number says),
      λ good. found_once where_cycles d routed x.explanation y.explanation h.1 k.1 value said status number tells says,
    )))

-- ---- steps that targets make

no_flows : (d : Declaration) (component : Component) (t : Tangle) → IsTangle d component t → HasNoFlowsAtTargets t
no_flows d component t is i node at =
    let chosen : IsChosenCause d (ByTarget node) (round t.cycle.channels i) (round t.cycle.channels (i + 1)) = is.chosen.chosen i (ByTarget node) at in
    let within : i < length t.cycle.channels = omega (arith, slice_get_within t.cycle.causes i (ByTarget node) at, is.chosen.one_each) in
    let listing : IsListing (λ n. GoesOn d n (round t.cycle.channels i) (round t.cycle.channels (i + 1))) (row t.flows.items i) = is.flows.each i within in
    none_listed (row t.flows.items i) (λ n there. chosen.first n ((listing.member n).0 there))

each_without : (d : Declaration) (components : List Component) (tangles : List Tangle) → AllZip (IsTangle d) components tangles → All HasNoFlowsAtTargets tangles
each_without d [] [] h = All-nil HasNoFlowsAtTargets
each_without d [] (t ∷ ts) h = absurd h
each_without d (p ∷ ps) [] h = absurd h
each_without d (p ∷ ps) (t ∷ ts) h = All-cons HasNoFlowsAtTargets t ts (no_flows d p t h.0) (each_without d ps ts h.1)

pub targets_have_no_flows : TargetsHaveNoFlows
targets_have_no_flows d tangles are = each_without d are.components tangles are.told
