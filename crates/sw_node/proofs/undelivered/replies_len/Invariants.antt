use Rattle.std.proofs.Common.{◌≡◌, take}
use Rattle.sw_rmap.specs.Owing.{length_pending}
use Rattle.sw_node.proofs.undelivered.replies_len.Given as goal

abbrev pub invariant-loop-reply : goal.invariant-loop-reply
invariant-loop-reply l = l.count ≡ length_pending (take l.reply-index l.replies)
