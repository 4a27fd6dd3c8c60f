use Rattle.std.proofs.Common.{◌∙◌}
use Rattle.std.proofs.lemmas.Bool.{both_ways}
use Rattle.sw_switch.proofs.Entries.{keeps_with_input, with_input_is}
use Rattle.sw_switch.proofs.cell.SwitchCell.set_input.Goals as goal
use Rattle.sw_switch.proofs.cell.SwitchCell.set_input.Goals.{in-Idle, in_default, then-matches, else-matches}

pub invariant_of-self : goal.invariant_of-self
invariant_of-self g c =
    keeps_with_input g.A.Arbiter.ports _ c.args.self.now c.self-2.inside.waiting c.with_or_without-self-inside.result c.number.result c.args.port c.args.input c.self-2.invariant c.self-2.view_is c.number.ensures.value c.number.ensures.within
    (λ idle full. c.with_or_without-self-inside.ensures.own (elim c.if-matches.branch [
      | then-matches w ↦ w.waits-is ∙ w.has_front-waits.ensures.1 full
      | else-matches w ↦ absurd (elim c.match-matches.branch [
        | in-Idle v ↦ both_ways c.match-matches.matches w.if-matches.false v.matches-is
        | in_default v ↦ v.in_default.not-Idle idle
      ])
    ]))
    c.with_or_without-self-inside.ensures.others

pub returns : goal.returns
returns g c = with_input_is _ c.args.self.now c.number.result c.args.port c.args.input c.self-2.view_is c.number.ensures.value
