use Rattle.std.proofs.Common.{Some, arith, subst, ◌-◌, ◌∙◌, ◌≡◌}
use Rattle.std.specs.Prelude.{slice_get}
use Rattle.sw_config.specs.Entries.{Declaration, capacities}
use Rattle.sw_summary.proofs.Held.{held_is}
use Rattle.sw_summary.proofs.fills.fill_of.Goals as goal

pub returns : goal.returns
returns c =
    let n = c.numbers-numbers.result in
    let used = c.saturating_sub-used.ensures in
    let left = c.saturating_sub.ensures in
    let outstanding = c.from.ensures in
    let count : c.saturating_sub.result ≡ c.capacity-capacity.result - n.room - n.outstanding = omega (arith, used, left, outstanding) in
    let room = subst (λ (d : Declaration). slice_get (capacities d.links) c.args.channel ≡ Some c.capacity-capacity.result) c.network-network.ensures.network c.capacity-capacity.ensures.capacity in
    held_is c.args.net.now c.args.channel c.new.result c.capacity-capacity.result c.saturating_sub.result n c.network-network.ensures.sound.valid c.requires
    (c.new.ensures ∙ c.number.ensures ∙ c.partner.ensures) room c.numbers-numbers.ensures count
