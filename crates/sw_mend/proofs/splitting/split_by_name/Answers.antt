use Rattle.sw_mend.proofs.Rewired.{taken}
use Rattle.sw_mend.proofs.splitting.split_by_name.Goals as goal

pub returns-then-is_taken : goal.returns-then-is_taken
returns-then-is_taken c =
    taken c.args.network.now c.args.link.now c.args.name.now c.is_taken.result c.requires.link.node c.requires.name c.is_taken.ensures c.if-is_taken.true
