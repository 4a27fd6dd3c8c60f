use Rattle.std.proofs.Common.{sym, ◌∙◌, arith}
use Rattle.sw_route.specs.Looks.{entry, IsRoute}
use Rattle.sw_route.proofs.Entries.{with_route}
use Rattle.sw_route.proofs.table.TableRoutes.add_range.Goals as goal

pub invariant_of-self : goal.invariant_of-self
invariant_of-self c = rw c.in_err-push.ensures.items c.self.invariant

pub invariant_of-self-2 : goal.invariant_of-self-2
invariant_of-self-2 c =
    let none = sym (rw c.deref.ensures.value at c.has_overlap.ensures) ∙ c.if-has_overlap.false in
    let new = entry c.args.first c.args.last c.args.ports c.args.delete in
    let is : IsRoute new = record { first = c.requires.low; rising = c.requires.rising; last = c.requires.high } in
    rw c.in_ok-push.ensures.items (with_route c.self.inside.routes.items c.self.inside.highest _ new c.self.invariant is none (omega arith) (omega arith))
