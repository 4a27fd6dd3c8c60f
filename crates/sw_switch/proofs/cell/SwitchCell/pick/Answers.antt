use Rattle.std.proofs.Common.{◌≡◌, refl}
use Rattle.sw_switch.proofs.Entries.{entry_read, is_cell_with_arbiter}
use Rattle.sw_switch.proofs.cell.SwitchCell.pick.Goals as goal

pub pick-requires-clause-within : goal.pick-requires-clause-within
pick-requires-clause-within g c =
    let is = entry_read g.A.Arbiter.ports _ c.args.self.now c.number.result c.args.out c.index_mut.result.now c.self.invariant.0 c.self.view_is c.requires.linked
    c.number.ensures.value c.number.ensures.within c.index_mut.ensures.value in
    let same : g.A.Arbiter.ports c.in-Some.arbiter ≡ c.self.inside.linked = rw c.in-Some.is at is.has in
    rw same (rw (← c.self.view_is) at c.requires.within)

pub unreachable-requires : goal.unreachable-requires
unreachable-requires g c =
    let is = entry_read g.A.Arbiter.ports _ c.args.self.now c.number.result c.args.out c.index_mut.result.now c.self.invariant.0 c.self.view_is c.requires.linked
    c.number.ensures.value c.number.ensures.within c.index_mut.ensures.value in
    rw c.in-None.is at is.has

pub invariant_of-self : goal.invariant_of-self
invariant_of-self g c =
    let is = entry_read g.A.Arbiter.ports _ c.args.self.now c.number.result c.args.out c.index_mut.result.now c.self.invariant.0 c.self.view_is c.requires.linked
    c.number.ensures.value c.number.ensures.within c.index_mut.ensures.value in
    (is_cell_with_arbiter g.A.Arbiter.ports _ c.number.result c.in-Some.arbiter c.pick.new.self c.self.invariant.0 (rw c.in-Some.is at is.at) c.pick.ensures.ports, c.self.invariant.1)

pub returns-clause-after : goal.returns-clause-after
returns-clause-after g c =
    let is = entry_read g.A.Arbiter.ports _ c.args.self.now c.number.result c.args.out c.index_mut.result.now c.self.invariant.0 c.self.view_is c.requires.linked
    c.number.ensures.value c.number.ensures.within c.index_mut.ensures.value in
    let found = rw c.in-Some.is at is.at in
    (c.in-Some.arbiter, c.pick.new.self, rw (← c.self.view_is, ← c.number.ensures.value) found, c.pick.ensures.policy, rw (← c.self.view_is, ← c.number.ensures.value) refl)
