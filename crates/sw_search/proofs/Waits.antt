-- A channel that waits for another one is the network's.
use Rattle.std.proofs.Common.{ℕ, ◌<◌, length}
use Rattle.sw_config.specs.Entries.{Declaration, all_flows, wiring_of}
use Rattle.sw_config.specs.Valid.{IsValid}
use Rattle.sw_flow.specs.Places.{ends_of}
use Rattle.sw_flow.proofs.Stepping.{places_are_in}
use Rattle.sw_machine.specs.Places.{IsDependency}
use Rattle.sw_machine.specs.Places.IsDependency.{ByFlow, ByTarget}
use Rattle.sw_cycle.specs.Model.{network_of}
use Rattle.sw_cycle.proofs.Flows.{flow_at, flow_ends, some_at}
use Rattle.sw_cycle.proofs.Steps.{steps_agree}
use Rattle.sw_cycle.proofs.Topology.{into_ends}

pub waits_within : (d : Declaration) → IsValid d → (c e : ℕ) → IsDependency (network_of d) c e → c < length (ends_of d)
unfolding network_of
waits_within d valid x y (ByFlow i c k e m lt place follows) =
    let f = some_at (all_flows d) i lt in
    let p = ((steps_agree d valid i f.0 f.1).place c k).0 place in
    (places_are_in d f.0 c k p).0
waits_within d valid x y (ByTarget i j lt reply waits) = (into_ends (wiring_of d) valid.sound (flow_at d i).to (flow_ends d valid i lt).1).0
