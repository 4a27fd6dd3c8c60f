use Rattle.std.proofs.Common.{subst, sym}
use Rattle.sw_switch.proofs.cell.SwitchCell.grant.Goals as goal
use Rattle.sw_switch.specs.Conditions.{CanGrant}

pub grant_to-requires : goal.grant_to-requires
grant_to-requires g c =
    let can = (c.asks-asking.ensures c.pick-picked.result).0 c.pick-picked.ensures.member in
    subst (λ k. CanGrant g.R.Routing.answer k c.args.out c.pick-picked.result) (sym c.pick-picked.ensures.after.4)
    (record { linked = can.linked; free = can.free; asks = record { linked = can.asks.linked; idle = can.asks.idle; names = can.asks.names } })
