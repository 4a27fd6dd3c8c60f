-- What is told of a network: where a flow goes wrong, else where packets can wait for one another in circles, else that they never can.
use Rattle.std.specs.Prelude.{◌≢◌, ℕ, List, []}
use Rattle.sw_config.specs.Entries.{Declaration}
use Rattle.sw_flow.specs.declared.fault.RouteFault.{RouteFault}
use Rattle.sw_flow.specs.declared.place.Place.{Place}
use Rattle.sw_flow.specs.Ways.{IsWayTo}
use Rattle.sw_graph.specs.Levels.{HasCycle}
use Rattle.sw_search.specs.Verdicts.{AllWellRouted, IsMisrouted, depends}
use Rattle.sw_search.specs.declared.explanation.Explanation.{Explanation}
use Rattle.sw_search.specs.declared.explanation.Explanation.TheVariants.{Misrouted, Cyclic, Free}
use Rattle.sw_search.specs.declared.tangle.Tangle.{Tangle}
use Rattle.sw_search.specs.Tangles.{AreTangles}

-- Flow i is the first that is not well routed, and this is the first of its places that has a fault. The flow goes over these places from
-- its start to there.
pub record GoesWrong (d : Declaration) (i : ℕ) (place : Place) (fault : RouteFault) (places : List Place) : Type 0 where
  pub misrouted : IsMisrouted d i place fault
  pub way : IsWayTo d misrouted.flow place places

-- each flow is well routed, and these are the tangles, one at least
pub record IsTangled (d : Declaration) (tangles : List Tangle) : Type 0 where
  pub routed : AllWellRouted d
  pub are : AreTangles d tangles
  pub some : tangles ≢ []

-- each flow is well routed, and no channels can wait for one another in a circle
pub record NeverWaits (d : Declaration) : Type 0 where
  pub routed : AllWellRouted d
  pub no_cycle : HasCycle (depends d) → ⊥

abbrev pub IsExplanation : Declaration → Explanation → Type 0
IsExplanation d (Misrouted i place fault way) = GoesWrong d i place fault way.items
IsExplanation d (Cyclic tangles) = IsTangled d tangles.items
IsExplanation d Free = NeverWaits d
