use Rattle.std.proofs.Common.{rules, ◌<◌, ◌^◌, sym}
use Rattle.sw_topo.proofs.PortWalk.{ports_counted}
use Rattle.sw_topo.proofs.port.PortSet.len.Goals as goal

pub returns-clause-listed : goal.returns-clause-listed
returns-clause-listed c =
    let small : c.self.inside.bits < 2 ^ 32 = search rules in
    rw (← c.self.view_is) (sym (ports_counted c.self.inside.bits small))
