-- The object of a run has no floats, and is not deep.
use Rattle.std.proofs.Common.{List, ℕ}
use Rattle.sw_char.specs.PacketView.{PacketView}
use Rattle.sw_config.specs.Entries.{Declaration}
use Rattle.sw_json.proofs.Plain.{count_plain, made_plain, no_more, object_plain, text_plain, with_member}
use Rattle.sw_json.specs.Plain.{IsPlain}
use Rattle.sw_output.specs.Tallies.{TallyView, tallies}
use Rattle.sw_runs.proofs.ReplayPlain.{nodes_plain}
use Rattle.sw_runs.specs.PacketValues.{counted_node_value, tally_value}
use Rattle.sw_runs.specs.RunTexts.{packets_of}
use Rattle.sw_runs.specs.RunValues.{run_value}
use Rattle.sw_runs.specs.declared.run_finding.RunReport.{RunReport}

tally_plain : (t : TallyView) → IsPlain 1 (tally_value t)
tally_plain t = object_plain 0 (with_member text_plain (with_member count_plain (with_member text_plain no_more)))

counted_node_plain : (name : List ℕ) (packets : List PacketView) → IsPlain 3 (counted_node_value name packets)
counted_node_plain name packets =
    object_plain 2 (with_member count_plain (with_member text_plain (with_member (made_plain 1 tally_value tally_plain (tallies packets)) no_more)))

pub run_plain : (d : Declaration) (r : RunReport) → IsPlain 5 (run_value d r)
run_plain d r =
    object_plain 4
    (with_member text_plain (with_member (nodes_plain 3 counted_node_value counted_node_plain d (packets_of r)) (with_member count_plain no_more)))
