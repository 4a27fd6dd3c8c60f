use Rattle.std.proofs.Common.{◌∙◌}
use Rattle.sw_load.specs.History.{packets_of}
use Rattle.sw_machine.specs.Model.{network_of}
use Rattle.sw_run.proofs.OneCount.{one_count}
use Rattle.sw_run.proofs.laws.accepted_counts_are_one.Goals as goal
use Rattle.sw_run.specs.Outcomes.{came_out_of}
use Rattle.sw_machine.proofs.Steps.{same_nodes}

pub returns : goal.returns
returns c = λ d cert valid acc load limit o is drained other_limit other also ends.
    let one = c.accepted_is_delivered.ensures d cert valid acc load limit o is drained in
    let two = c.accepted_is_delivered.ensures d cert valid acc load other_limit other also ends in
    one_count (network_of d) cert (c.declared_networks_are_networks.ensures d valid) acc (packets_of load) (came_out_of o) (came_out_of other) one two (is.came_out.all_nodes ∙ same_nodes d) (also.came_out.all_nodes ∙ same_nodes d)
