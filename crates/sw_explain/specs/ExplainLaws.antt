-- Laws of what `explain` answers with an object of JSON.
use Rattle.std.specs.Prelude.{◌≡◌, All, Bool, ℕ, List, [], Ok, Option, Some, slice_get}
use Rattle.sw_explain.specs.ExplainAnswers.{IsExplainAnswer}
use Rattle.sw_text.specs.Ends.{IfLimited}
use Rattle.sw_config.specs.Entries.{Declaration}
use Rattle.sw_cycle.specs.Cycles.{ByTarget}
use Rattle.sw_search.specs.Tangles.{AreTangles}
use Rattle.sw_search.specs.declared.tangle.Tangle.{Tangle}
use Rattle.sw_file.specs.Network.{network_text}
use Rattle.sw_graph.specs.Rows.{row}
use Rattle.sw_search.specs.Verdicts.{AllWellRouted}
use Rattle.sw_json.specs.declared.files.Release.{Release}
use Rattle.sw_explain.specs.ExplainJson.{IsExplainJson}
use Rattle.sw_json.specs.Laws.{AreOneButForFaults, HaveOneStatus}
use Rattle.sw_explain.specs.ExplainValues.{tangles_value, wrong_value}
use Rattle.sw_flow.specs.declared.fault.RouteFault.{RouteFault}
use Rattle.sw_flow.specs.declared.place.Place.{Place}
use Rattle.sw_json.specs.Plain.{IsPlain}

-- of a file whose network has no flow that is not well routed, `explain` has one answer; of a flow that is not, any way may be told
abbrev pub ExplainHasOneAnswer : Type 0
ExplainHasOneAnswer =
    (all : Bool) (path : List ℕ) (release : Release) (bytes : List ℕ) (d : Declaration) → network_text bytes ≡ Ok d → AllWellRouted d
    → AreOneButForFaults (IsExplainJson all path release (Some bytes))

-- any two answers to a file have one status
abbrev pub ExplainHasOneStatus : Type 0
ExplainHasOneStatus =
    (all : Bool) (path : List ℕ) (release : Release) (given : Option (List ℕ))
    → HaveOneStatus (IsExplainJson all path release given) (IsExplainJson all path release given)

-- it is that of the text answer to the same file, with all flows of each step or not
abbrev pub ExplainHasStatusOfText : Type 0
ExplainHasStatusOfText =
    (asked all : Bool) (path : List ℕ) (release : Release) (given : Option (List ℕ))
    → HaveOneStatus (IsExplainJson asked path release given) (IfLimited given (IsExplainAnswer all))

-- where a target makes a step of the tangle's cycle, no flow makes it
abbrev pub HasNoFlowsAtTargets : Tangle → Type 0
HasNoFlowsAtTargets t = (i node : ℕ) → slice_get t.cycle.causes i ≡ Some (ByTarget node) → row t.flows.items i ≡ []

-- of the tangles of a network that is so
abbrev pub TargetsHaveNoFlows : Type 0
TargetsHaveNoFlows = (d : Declaration) (tangles : List Tangle) → AreTangles d tangles → All HasNoFlowsAtTargets tangles

-- The values of what is told have a text that reads back: an object with a list of places; or with a list of tangles, in each a list of steps,
-- in each a list of names.
pub record ExplanationsArePlain : Type 0 where
  pub wrong : (d : Declaration) (lint : List (List ℕ)) (flow : ℕ) (place : Place) (fault : RouteFault) (way : List Place)
      → IsPlain 6 (wrong_value d lint flow place fault way)
  pub tangled : (d : Declaration) (lint : List (List ℕ)) (tangles : List Tangle) → IsPlain 6 (tangles_value d lint tangles)
