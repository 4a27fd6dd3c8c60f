use Rattle.std.proofs.Common.{arith, subst, sym}
use Rattle.sw_search.proofs.Lawful.{never_waits}
use Rattle.sw_search.proofs.explaining.explain.Goals as goal
use Rattle.sw_search.specs.Lists.{AreListed}

pub first_misrouted-requires : goal.first_misrouted-requires
first_misrouted-requires g c = subst (AreListed c.args.network.now) (sym c.deref.ensures.value) c.in_ok-places.ensures

pub returns-then-count-eq0 : goal.returns-then-count-eq0
returns-then-count-eq0 g c = never_waits c.args.network.now c.in_ok-found-in-None.found.items c.in-None.ensures c.in_ok-found-in-None.ensures (omega arith)
