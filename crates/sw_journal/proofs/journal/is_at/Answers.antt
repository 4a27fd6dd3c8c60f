use Rattle.sw_journal.proofs.Commit.{at_none}
use Rattle.sw_journal.proofs.journal.is_at.Goals as goal

pub returns-in-Err : goal.returns-in-Err
returns-in-Err c = at_none c.args.network.now _ c.args.at c.in-Err.field-0 c.in-Err.ensures
