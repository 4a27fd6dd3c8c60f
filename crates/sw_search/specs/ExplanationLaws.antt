-- What tangles and explanations of a network show.
use Rattle.std.specs.Prelude.{◌≡◌, ◌↔◌, All, List, []}
use Rattle.sw_config.specs.Entries.{Declaration}
use Rattle.sw_cycle.specs.Cycles.{IsShown}
use Rattle.sw_graph.specs.Levels.{HasCycle}
use Rattle.sw_search.specs.declared.verdict.Verdict.{Verdict}
use Rattle.sw_search.specs.declared.verdict.Verdict.TheVariants.{Misrouted, Cyclic, Free}
use Rattle.sw_search.specs.Verdicts.{IsVerdict, depends}
use Rattle.sw_search.specs.declared.explanation.Explanation.{Explanation}
use Rattle.sw_search.specs.declared.explanation.Explanation.TheVariants as told
use Rattle.sw_search.specs.declared.tangle.Tangle.{Tangle}
use Rattle.sw_search.specs.Explanations.{IsExplanation}
use Rattle.sw_search.specs.Tangles.{AreTangles}

-- there are no tangles exactly where the dependencies have no cycle
abbrev pub TanglesAreWhereCyclesAre : Type 0
TanglesAreWhereCyclesAre = (d : Declaration) (tangles : List Tangle) → AreTangles d tangles → ((tangles ≡ []) ↔ (HasCycle (depends d) → ⊥))

-- the cycle of each tangle is shown by its causes
abbrev pub TanglesAreShown : Type 0
TanglesAreShown = (d : Declaration) (tangles : List Tangle) → AreTangles d tangles → All (λ t. IsShown d t.cycle) tangles

-- an explanation is of the kind of a verdict, and tells of the same flow, place and fault
abbrev pub IsOfKind : Verdict → Explanation → Type 0
IsOfKind (Misrouted i p fault) (told.Misrouted j q other way) = (i ≡ j) × (p ≡ q) × (fault ≡ other)
IsOfKind (Misrouted i p fault) (told.Cyclic tangles) = ⊥
IsOfKind (Misrouted i p fault) told.Free = ⊥
IsOfKind (Cyclic cycle) (told.Misrouted j q other way) = ⊥
IsOfKind (Cyclic cycle) (told.Cyclic tangles) = Unit {0}
IsOfKind (Cyclic cycle) told.Free = ⊥
IsOfKind (Free contents) (told.Misrouted j q other way) = ⊥
IsOfKind (Free contents) (told.Cyclic tangles) = ⊥
IsOfKind (Free contents) told.Free = Unit {0}

-- an explanation of a network is of the kind of each verdict on it
abbrev pub ExplanationsAreOfTheVerdict : Type 0
ExplanationsAreOfTheVerdict = (d : Declaration) (v : Verdict) (e : Explanation) → IsVerdict d v → IsExplanation d e → IsOfKind v e
