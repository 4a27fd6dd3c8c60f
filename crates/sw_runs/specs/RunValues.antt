-- The object that stands for a run (this project's choice).
use Rattle.std.specs.Prelude.{codes}
use Rattle.serde_json.specs.Data.{Data, array, object, string, member, no_members}
use Rattle.serde_json.specs.View.{items_of}
use Rattle.sw_runs.specs.RunTexts.{packets_of, stop_word}
use Rattle.sw_runs.specs.declared.run_finding.RunReport.{RunReport}
use Rattle.sw_config.specs.Entries.{Declaration}
use Rattle.sw_json.specs.Simple.{count_value}
use Rattle.sw_runs.specs.PacketValues.{by_node, counted_node_value}

-- why the run stopped, then how many characters were undelivered, and which packets had come out at each node
abbrev pub run_value : Declaration → RunReport → Data
run_value d r =
    object (member (codes "kind") (string (stop_word r.stop))
    (member (codes "nodes") (array (items_of (by_node counted_node_value d (packets_of r))))
    (member (codes "undelivered") (count_value r.undelivered) no_members)))
