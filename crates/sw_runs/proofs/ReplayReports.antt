-- A replay that was told.
use Rattle.std.proofs.Common.{List, length, sym, ◌∙◌, ◌≡◌}
use Rattle.std.proofs.lemmas.List.{length-map}
use Rattle.sw_machine.specs.Steps.{Step}
use Rattle.sw_machine.specs.Model.{network_of}
use Rattle.sw_config.specs.Entries.{Declaration}
use Rattle.sw_schedule.specs.declared.replayed.Replayed.{Replayed}
use Rattle.sw_schedule.specs.Replays.{IsReplayed}
use Rattle.sw_schedule.specs.Reports.{report_of}

-- it tells of each node
pub of_each_node : (d : Declaration) (steps : List Step) (r : Replayed) → IsReplayed d steps (report_of r) → length r.came_out.items ≡ length d.nodes
unfolding network_of
of_each_node d steps r is = sym (length-map r.came_out.items (λ packets. packets.items)) ∙ is.report.outputs.each_node
