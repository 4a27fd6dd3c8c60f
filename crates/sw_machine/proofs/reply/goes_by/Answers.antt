use Rattle.std.proofs.Common.{rules}
use Rattle.sw_rmap.specs.Replies.{path_of}
use Rattle.sw_machine.proofs.Ends.{same_parts}
use Rattle.sw_machine.proofs.reply.goes_by.Goals as goal

pub returns-then-eq : goal.returns-then-eq
returns-then-eq c = (search rules, λ e. let p = same_parts (path_of c.args.command.now) c.args.reply.now.path c.args.command.now.initiator c.args.reply.now.initiator e in let q = p.1 in search rules)

pub returns-else-eq : goal.returns-else-eq
returns-else-eq c = (search rules, λ e. let p = same_parts (path_of c.args.command.now) c.args.reply.now.path c.args.command.now.initiator c.args.reply.now.initiator e in let q = p.0 in search rules)
