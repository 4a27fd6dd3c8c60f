use Rattle.std.proofs.Common.{◌≡◌, ◌++◌, take}
use Rattle.sw_node.proofs.reply.push_replies.Given as goal

abbrev pub invariant-loop-reply : goal.invariant-loop-reply
invariant-loop-reply l = l.replies.items ≡ l.initial.replies.items ++ take l.reply-index l.waiting
