-- The tangles of a network's channels: where packets can wait for one another in circles, and how.
use Rattle.std.specs.Prelude.{◌≡◌, List, length}
use Rattle.std.specs.List.{AllZip}
use Rattle.sw_config.specs.Entries.{Declaration}
use Rattle.sw_cycle.specs.Causes.{AreChosen}
use Rattle.sw_cycle.specs.Goers.{AreFlows}
use Rattle.sw_graph.specs.declared.component.Component.{Component}
use Rattle.sw_graph.specs.Components.{AreComponents}
use Rattle.sw_search.specs.Verdicts.{depends}
use Rattle.sw_search.specs.declared.tangle.Tangle.{Tangle}

-- the tangle tells of the component how many channels it has, and its shortest cycle, with the chosen causes and all flows
pub record IsTangle (d : Declaration) (component : Component) (tangle : Tangle) : Type 0 where
  pub count : tangle.channels ≡ length component.members.items
  pub cycle : tangle.cycle.channels ≡ component.cycle.items
  pub chosen : AreChosen d tangle.cycle.channels tangle.cycle.causes
  pub flows : AreFlows d tangle.cycle.channels tangle.flows.items

-- the tangles tell of the components of the relation between channels that may wait for one another
pub record AreTangles (d : Declaration) (tangles : List Tangle) : Type 0 where
  pub components : List Component
  pub are : AreComponents (depends d) components
  pub told : AllZip (IsTangle d) components tangles
