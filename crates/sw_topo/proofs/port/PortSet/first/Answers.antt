use Rattle.std.proofs.lemmas.Option.{IfSome_then}
use Rattle.std.proofs.Common.{rules, ◌<◌, ◌^◌}
use Rattle.sw_topo.proofs.PortBits.{first_least}
use Rattle.sw_topo.proofs.port.PortSet.first.Goals as goal

pub returns-clause-least : goal.returns-clause-least
returns-clause-least c =
    let small : c.self.inside.bits < 2 ^ 32 = search rules in
    rw (← c.self.view_is) (IfSome_then c.new.result c.new.ensures.value (λ p e. rw e (first_least c.self.inside.bits c.if-self-eq0.false small)))
