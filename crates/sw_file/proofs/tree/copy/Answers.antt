use Rattle.std.proofs.Common.{rules}
use Rattle.sw_file.proofs.Puts.{cloned}
use Rattle.sw_file.proofs.tree.copy.Goals as goal

pub returns : goal.returns
returns c = search (rules, cloned, c.clone.ensures.cases)
