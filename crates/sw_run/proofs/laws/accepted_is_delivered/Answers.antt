use Rattle.std.proofs.Common.{subst, sym, ◌∙◌}
use Rattle.sw_run.proofs.Delivered.{delivered}
use Rattle.sw_run.specs.Outcomes.{AreOut, came_out_of}
use Rattle.sw_run.proofs.laws.accepted_is_delivered.Goals as goal
use Rattle.sw_machine.proofs.Steps.{same_nodes}

pub returns : goal.returns
returns c = λ d cert valid acc load limit o is drained.
    let e = is.drained drained in
    let out = subst (λ n. AreOut n is.state (came_out_of o)) (same_nodes d) is.came_out in
    delivered _ cert (c.declared_networks_are_networks.ensures d valid) acc _ _ is.state _ is.history.run e.0 (sym is.undelivered ∙ e.1) out
