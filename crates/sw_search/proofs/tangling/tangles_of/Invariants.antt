use Rattle.std.proofs.Common.{take}
use Rattle.std.specs.List.{AllZip}
use Rattle.sw_search.specs.Tangles.{IsTangle}
use Rattle.sw_search.proofs.tangling.tangles_of.Given as goal

abbrev pub invariant-loop-component : goal.invariant-loop-component
invariant-loop-component l = AllZip (IsTangle l.network) (take l.component-index l.components) l.tangles.items
