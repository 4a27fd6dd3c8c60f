use Rattle.sw_changes.proofs.MendAnswered.{free, misrouted}
use Rattle.sw_changes.proofs.mending.by_verdict.Goals as goal

pub returns-in-Misrouted : goal.returns-in-Misrouted
returns-in-Misrouted g c = misrouted c.args.pairs c.args.network.now c.args.verdict.now c.requires c.in-Misrouted.flow c.in-Misrouted.place c.in-Misrouted.fault c.in-Misrouted.is

pub returns-in-Free : goal.returns-in-Free
returns-in-Free g c = free c.args.pairs c.args.network.now c.args.verdict.now c.requires c.in-Free.field-0 c.in-Free.is
