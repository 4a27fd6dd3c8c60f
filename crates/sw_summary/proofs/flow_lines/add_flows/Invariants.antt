use Rattle.std.proofs.Common.{map, string_bytes}
use Rattle.sw_summary.proofs.FlowSteps.{IsSoFar}
use Rattle.sw_summary.proofs.flow_lines.add_flows.Given as goal

abbrev pub invariant-loop-i : goal.invariant-loop-i
invariant-loop-i l =
    IsSoFar l.network l.load l.begun (map (λ packets. packets.items) l.out) l.i (string_bytes l.initial.text) (string_bytes l.text) l.packets.items l.replies.items
