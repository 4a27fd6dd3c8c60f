use Rattle.std.proofs.Common.{sym, ◌∙◌}
use Rattle.sw_net.proofs.net.Net.owed.Goals as goal

pub returns : goal.returns
returns g c s is = c.owed.ensures.value ∙ sym (is.nodes c.args.node c.node.result.now c.node.ensures).owed
