use Rattle.sw_route.specs.Looks.{covers}
use Rattle.sw_route.proofs.Entries.{NonePasses}
use Rattle.sw_route.proofs.table.entry_look.Given as goal

abbrev pub invariant-loop-route : goal.invariant-loop-route
invariant-loop-route l = NonePasses (covers l.address) l.routes l.route-index
