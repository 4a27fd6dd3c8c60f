use Rattle.std.proofs.Common.{◌≡◌, ◌/◌, ◌<◌, Some, length, refl, arith}
use Rattle.std.specs.Prelude.{slice_get}
use Rattle.std.proofs.lemmas.Option.{slice_get_read}
use Rattle.sw_config.proofs.Flows.{capacity_even, capacity_odd}
use Rattle.sw_config.proofs.network.Network.capacity.Goals as goal

pub returns-then-number-eq0-clause-capacity : goal.returns-then-number-eq0-clause-capacity
returns-then-number-eq0-clause-capacity c =
    let links = c.self.inside.links.items in
    let i = c.number.result / 2 in
    let room = rw (← c.self.view_is) at c.requires in
    let lt : i < length links = omega arith in
    let at : slice_get links i ≡ Some c.index-link.result.now = slice_get_read links (length links) i c.index-link.result.now refl lt c.index-link.ensures in
    rw (← c.self.view_is) (capacity_even links i c.args.channel _ (omega arith) (rw (← c.link.view_is) at at))

pub returns-else-number-eq0-clause-capacity : goal.returns-else-number-eq0-clause-capacity
returns-else-number-eq0-clause-capacity c =
    let links = c.self.inside.links.items in
    let i = c.number.result / 2 in
    let room = rw (← c.self.view_is) at c.requires in
    let lt : i < length links = omega arith in
    let at : slice_get links i ≡ Some c.index-link.result.now = slice_get_read links (length links) i c.index-link.result.now refl lt c.index-link.ensures in
    rw (← c.self.view_is) (capacity_odd links i c.args.channel _ (omega arith) (rw (← c.link.view_is) at at))
