use Rattle.sw_switch.proofs.Entries.{credit_more}
use Rattle.sw_switch.proofs.make.no_credits.Goals as goal

pub loop-preserved : goal.loop-preserved
loop-preserved c = credit_more c.loop.counter c.loop.ends.items c.push.new.self.items c.new.result c.loop.invariant c.new.ensures c.in_ok-push.ensures.items
