use Rattle.std.proofs.Common.{◌≢◌}
use Rattle.sw_switch.specs.declared.input.Input.TheVariants.{Idle}
use Rattle.sw_switch.proofs.Entries.{has_waiting_with_end, is_cell_with_end}
use Rattle.sw_switch.proofs.cell.SwitchCell.arrive.Goals as goal
use Rattle.sw_switch.proofs.cell.SwitchCell.arrive.Goals.{in-Idle, in_default}

pub invariant_of-self : goal.invariant_of-self
invariant_of-self g c = (
  is_cell_with_end g.A.Arbiter.ports _ c.number.result c.arrive.new.self c.self.invariant.0,
  rw c.number.ensures.value (
      has_waiting_with_end c.self.inside.waiting _ c.self.inside.inputs.items c.self.inside.received.items c.args.input c.arrive.new.self c.self.invariant.1
      (λ _. c.with-self-inside.ensures.added) (λ p apart. (c.with-self-inside.ensures.others p apart).1)
      ),
)

pub invariant_of-self-else-waits : goal.invariant_of-self-else-waits
invariant_of-self-else-waits g c =
    let not_idle : c.input.result ≢ Idle = elim c.match-matches.branch [
      | in-Idle w ↦ let is = w.matches-is in let not = c.if-waits.false in cc
      | in_default w ↦ w.in_default.not-Idle
    ] in (
      is_cell_with_end g.A.Arbiter.ports _ c.number.result c.arrive.new.self c.self.invariant.0,
      rw c.number.ensures.value (
          has_waiting_with_end c.self.inside.waiting c.self.inside.waiting c.self.inside.inputs.items c.self.inside.received.items c.args.input c.arrive.new.self c.self.invariant.1
          (λ idle. absurd (not_idle (rw (c.input.ensures, ← c.self.view_is) idle))) (λ p apart is_in. is_in)
          ),
    )
