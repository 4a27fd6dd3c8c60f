use Rattle.std.proofs.Common.{◌≡◌, [], ◌∷◌, suc, rules, arith, length, ap, refl}
use Rattle.sw_topo.specs.Ports.{ports_of}
use Rattle.sw_topo.proofs.PortBits.{zero_none}
use Rattle.sw_topo.proofs.PortWalk.{ports_none, ports_first}
use Rattle.sw_topo.proofs.ports.PortsIterator.next.Goals as goal

pub returns-in_err-port-clause-steps : goal.returns-in_err-port-clause-steps
returns-in_err-port-clause-steps c =
    let none : ports_of c.self.inside.rest ≡ [] = ports_none c.self.inside.rest (zero_none c.self.inside.rest (c.first.ensures.none.0 (rw c.in_err-port.was refl))) in
    rw (c.from_residual.ensures, ← c.self.view_is) (none, none)

first_and_rest : goal.returns-clause-steps
first_and_rest c = rw (← c.self.view_is) (ports_first c.self.inside.rest c.without-self-inside.result c.in_ok-port.port c.in_ok-port.ensures.least c.without-self-inside.ensures.removed c.without-self-inside.ensures.others)

pub returns-clause-steps : goal.returns-clause-steps
returns-clause-steps = first_and_rest

pub returns-clause-goes : goal.returns-clause-goes
returns-clause-goes c =
    let first : ports_of c.args.self.now ≡ c.in_ok-port.port ∷ ports_of c.without-self-inside.result = first_and_rest c in
    let one_more : length (ports_of c.args.self.now) ≡ suc (length (ports_of c.without-self-inside.result)) = ap length first in
    record {
      on = λ finite. (search rules, search rules, omega arith);
      keeps = search rules;
      rests = λ finite. search rules;
    }
