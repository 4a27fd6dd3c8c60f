-- The object that stands for a replay (this project's choice).
use Rattle.std.specs.Prelude.{ℕ, List, codes, Option, Some, None}
use Rattle.serde_json.specs.Data.{Data, array, boolean, object, string, member, no_members}
use Rattle.serde_json.specs.View.{items_of}
use Rattle.sw_config.specs.Entries.{Declaration}
use Rattle.sw_json.specs.Simple.{count_value, text_or_null}
use Rattle.sw_schedule.specs.Reports.{Report}
use Rattle.sw_schedule.specs.declared.replayed.ReplayEnd.{ReplayEnd}
use Rattle.sw_schedule.specs.declared.replayed.ReplayEnd.TheVariants.{Made, Refused}
use Rattle.sw_schedule.specs.declared.replayed.StepRefusal.{StepRefusal}
use Rattle.sw_schedule.specs.declared.replayed.StepRefusal.TheVariants.{NotEnabled, NotInFlow, OverLimit}
use Rattle.sw_runs.specs.PacketValues.{by_node, node_value}

abbrev pub refusal_code : StepRefusal → List ℕ
refusal_code NotEnabled = codes "N1"
refusal_code NotInFlow = codes "N2"
refusal_code OverLimit = codes "N4"

-- whether all steps were made
abbrev pub replay_kind : ReplayEnd → List ℕ
replay_kind (Made count) = codes "replayed"
replay_kind (Refused number refusal) = codes "refused"

-- why a step was refused, if one was
abbrev pub replay_code : ReplayEnd → Option (List ℕ)
replay_code (Made count) = None
replay_code (Refused number refusal) = Some (refusal_code refusal)

-- how many steps were made, or the number of the one that was refused
abbrev pub replay_step : ReplayEnd → ℕ
replay_step (Made count) = count
replay_step (Refused number refusal) = number

-- how far the steps were made, what is true of the state then, and the packets that came out at each node
abbrev pub replay_value : Declaration → Report → Data
replay_value d r =
    object (member (codes "code") (text_or_null (replay_code r.outcome))
    (member (codes "kind") (string (replay_kind r.outcome))
    (member (codes "nodes") (array (items_of (by_node node_value d r.came_out)))
    (member (codes "step") (count_value (replay_step r.outcome))
    (member (codes "stuck") (boolean r.stuck)
    (member (codes "undelivered") (count_value r.remaining) no_members))))))
