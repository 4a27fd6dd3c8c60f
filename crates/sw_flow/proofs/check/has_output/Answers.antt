use Rattle.std.proofs.Common.{◌∙◌}
use Rattle.sw_flow.specs.Followers.{outputs_of}
use Rattle.sw_flow.proofs.Walked.{has_output-by_first}
use Rattle.sw_flow.proofs.check.has_output.Goals as goal

pub returns : goal.returns
returns c =
    let ends = c.args.topology.now.ends in
    let first = rw c.ports-ports.ensures.all at c.next_output.ensures.first in
    c.is_some.ensures ∙ has_output-by_first ends c.args.switch c.args.look.now c.next_output.result (outputs_of ends c.args.switch c.next_output.new.ports) first
