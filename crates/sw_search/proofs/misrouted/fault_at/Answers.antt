use Rattle.std.proofs.Common.{arith}
use Rattle.sw_search.proofs.Faulty.{faults_at, faults_long}
use Rattle.sw_search.proofs.misrouted.fault_at.Goals as goal

pub bounds-faults-from : goal.bounds-faults-from
bounds-faults-from c =
    let long = faults_long c.args.network.now c.args.faults.now c.requires.faults in
    omega (arith, long, c.from.ensures, c.requires.inside)

pub returns : goal.returns
returns c =
    faults_at c.args.network.now c.args.faults.now c.args.flow c.from.result c.index-faults-from.result c.requires.faults c.from.ensures c.requires.inside c.index-faults-from.is
