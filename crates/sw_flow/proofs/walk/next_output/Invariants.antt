use Rattle.std.proofs.Common.{◌≡◌, ◌≤◌, length}
use Rattle.sw_config.specs.Ports.{ports_of}
use Rattle.sw_flow.specs.Followers.{outputs_of}
use Rattle.sw_flow.proofs.walk.next_output.Given as goal

abbrev pub invariant-loop-port : goal.invariant-loop-port
invariant-loop-port l =
    (outputs_of l.topology.ends l.switch l.ports ≡ outputs_of l.topology.ends l.switch l.initial.ports) × (length (ports_of l.ports) ≤ length (ports_of l.initial.ports))

abbrev pub decreases-loop-port : goal.decreases-loop-port
decreases-loop-port l = length (ports_of l.ports)
