use Rattle.sw_link.proofs.Accounts.{accounts}
use Rattle.sw_link.proofs.laws.outstanding_has_room.Goals as goal

pub returns : goal.returns
returns c capacity events s h = let a = accounts capacity events s h in (a.room, a.same)
