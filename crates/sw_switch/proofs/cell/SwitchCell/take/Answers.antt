use Rattle.std.specs.Prelude.{drop}
use Rattle.std.proofs.Common.{◌<◌, length, sym, ap, subst, ◌∙◌}
use Rattle.sw_link.specs.Ends.{Received}
use Rattle.sw_switch.specs.Cell.{end_at}
use Rattle.sw_switch.proofs.Entries.{end_read, keeps_with_end, taken_after, taken_front, with_end_is}
use Rattle.sw_switch.proofs.cell.SwitchCell.take.Goals as goal

pub take-requires : goal.take-requires
take-requires g c =
    let is = end_read g.A.Arbiter.ports _ c.args.self.now c.number.result c.args.input c.index_mut.result.now c.self.invariant.0 c.self.view_is c.number.ensures.value c.number.ensures.within c.index_mut.ensures.value in
    subst (λ (r : Received). 0 < length r.buffer) (sym is) c.requires

pub invariant_of-self : goal.invariant_of-self
invariant_of-self g c =
    keeps_with_end g.A.Arbiter.ports _ c.args.self.now c.self.inside.waiting c.number.result c.args.input c.take.new.self c.self.invariant c.self.view_is c.number.ensures.value (λ _. c.requires)

pub returns-clause-front : goal.returns-clause-front
returns-clause-front g c =
    let is = end_read g.A.Arbiter.ports _ c.args.self.now c.number.result c.args.input c.index_mut.result.now c.self.invariant.0 c.self.view_is c.number.ensures.value c.number.ensures.within c.index_mut.ensures.value in
    taken_front c.args.self.now c.args.input c.index_mut.result.now c.take.new.self c.take.result is c.take.ensures

pub returns-clause-after : goal.returns-clause-after
returns-clause-after g c =
    let is = end_read g.A.Arbiter.ports _ c.args.self.now c.number.result c.args.input c.index_mut.result.now c.self.invariant.0 c.self.view_is c.number.ensures.value c.number.ensures.within c.index_mut.ensures.value in
    with_end_is _ c.args.self.now c.number.result c.args.input c.take.new.self (record (end_at c.args.self.now c.args.input) { buffer = drop 1 (end_at c.args.self.now c.args.input).buffer }) c.self.view_is c.number.ensures.value
    (taken_after c.index_mut.result.now c.take.new.self c.take.result c.take.ensures ∙ ap (λ (r : Received). record r { buffer = drop 1 r.buffer }) is)
