use Rattle.std.proofs.Common.{false, refl}
use Rattle.sw_journal.proofs.Commit.{possible_of}
use Rattle.sw_journal.proofs.journal.make_room.Goals as goal
use Rattle.sw_journal.specs.Adding.{IsAtCell}
use Rattle.sw_load.specs.History.{packets_of}
use Rattle.sw_machine.specs.Model.{network_of}
use Rattle.sw_machine.specs.StepValues.{machine_step}

pub returns-then-not-is_at : goal.returns-then-not-is_at
returns-then-not-is_at c =
    let h = c.args.history.now in
    let none : IsAtCell h.declared c.args.at (machine_step c.args.step.now) false = rw (c.network.ensures.network) at c.if-not-is_at.ensures in (
      (λ next. let some = possible_of (network_of h.declared) (packets_of h.load) h.steps (machine_step c.args.step.now) next.1 in none next.0 some.0 some.1),
      record { declared = refl; load = refl; steps = refl },
    )
