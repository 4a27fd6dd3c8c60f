use Rattle.sw_machine.proofs.laws.one_slot_is_one_reply.Goals as goal
use Rattle.std.proofs.Common.{refl}
use Rattle.sw_machine.proofs.OneSlot.{is_one_reply}

pub returns : goal.returns
returns c = λ net ok one. (refl, λ s r step. is_one_reply net one s r step)
