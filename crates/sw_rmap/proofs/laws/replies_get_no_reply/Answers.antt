use Rattle.sw_rmap.proofs.Answering.{replies_get_no_reply}
use Rattle.sw_rmap.proofs.laws.replies_get_no_reply.Goals as goal

pub returns : goal.returns
returns c = replies_get_no_reply
