use Rattle.std.proofs.lemmas.Option.{IfSome_then}
use Rattle.std.proofs.Common.{rules, ◌<◌, ◌^◌, arith, refl}
use Rattle.sw_topo.proofs.PortBits.{none_past, rest_none, rest_least}
use Rattle.sw_topo.proofs.port.PortSet.next_from.Goals as goal

pub returns-then-number-gt31-clause-none : goal.returns-then-number-gt31-clause-none
returns-then-number-gt31-clause-none c =
    let small : c.self.inside.bits < 2 ^ 32 = search rules in
    rw (← c.self.view_is) (λ none. none_past c.self.inside.bits c.args.number small (omega arith), λ none. refl)

pub returns-clause-none : goal.returns-clause-none
returns-clause-none c =
    let small : c.self.inside.bits < 2 ^ 32 = search rules in
    let rest = rest_none c.self.inside.bits c.args.number small (omega arith) in
    rw (← c.self.view_is) (λ gone. rest.0 (c.first.ensures.none.0 gone), λ none. c.first.ensures.none.1 (rest.1 none))

pub returns-clause-least : goal.returns-clause-least
returns-clause-least c =
    let small : c.self.inside.bits < 2 ^ 32 = search rules in
    rw (← c.self.view_is) (IfSome_then c.first.result c.first.ensures.least (λ p. rest_least c.self.inside.bits c.args.number p small (omega arith)))
