use Rattle.std.specs.Prelude.{IsTrue}
use Rattle.std.proofs.Common.{◌<◌, length, sym, ap, subst, ◌∙◌}
use Rattle.sw_link.specs.Ends.{Received, asked, may_issue}
use Rattle.sw_switch.specs.Cell.{end_at}
use Rattle.sw_switch.proofs.Entries.{end_read, keeps_with_end, with_end_is}
use Rattle.sw_switch.proofs.cell.SwitchCell.issue.Goals as goal

pub issue-requires : goal.issue-requires
issue-requires g c =
    let is = end_read g.A.Arbiter.ports _ c.args.self.now c.number.result c.args.input c.index_mut.result.now c.self.invariant.0 c.self.view_is c.number.ensures.value c.number.ensures.within c.index_mut.ensures.value in
    subst (λ (r : Received). IsTrue (may_issue r)) (sym is) c.requires.room

pub invariant_of-self : goal.invariant_of-self
invariant_of-self g c =
    let is = end_read g.A.Arbiter.ports _ c.args.self.now c.number.result c.args.input c.index_mut.result.now c.self.invariant.0 c.self.view_is c.number.ensures.value c.number.ensures.within c.index_mut.ensures.value in
    keeps_with_end g.A.Arbiter.ports _ c.args.self.now c.self.inside.waiting c.number.result c.args.input c.issue.new.self c.self.invariant c.self.view_is c.number.ensures.value
    (λ some. subst (λ (r : Received). 0 < length r.buffer) (c.issue.ensures ∙ ap asked is) some)

pub returns : goal.returns
returns g c =
    let is = end_read g.A.Arbiter.ports _ c.args.self.now c.number.result c.args.input c.index_mut.result.now c.self.invariant.0 c.self.view_is c.number.ensures.value c.number.ensures.within c.index_mut.ensures.value in
    with_end_is _ c.args.self.now c.number.result c.args.input c.issue.new.self (asked (end_at c.args.self.now c.args.input)) c.self.view_is c.number.ensures.value (c.issue.ensures ∙ ap asked is)
