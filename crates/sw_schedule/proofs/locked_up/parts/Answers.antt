use Rattle.std.proofs.Common.{◌≤◌, ◌∙◌, List, ap, arith, length, subst, sym}
use Rattle.std.specs.List.{All, AllZip}
use Rattle.sw_net.specs.Places.{IsIn}
use Rattle.sw_net.specs.CellId.{CellId}
use Rattle.sw_config.specs.Entries.{Declaration}
use Rattle.sw_net.specs.Parts.{IsPartOf}
use Rattle.sw_schedule.proofs.PartLists.{all_parts, next_part}
use Rattle.sw_schedule.proofs.locked_up.parts.Goals as goal
use Rattle.sw_schedule.specs.Locked.{cells_of}

pub part-requires : goal.part-requires
part-requires c =
    let cells = c.deref-cell-items.result.now in
    let inside = subst (λ (l : List CellId). All (IsIn c.network.result.now) l) (sym c.deref-cell-items.ensures.value) c.in_ok-cells.ensures.inside in
    subst (λ (d : Declaration). All (IsIn d) cells) c.network.ensures.network inside c.loop-cell.cell-index _ c.loop-cell-test.true

pub loop-cell-init : goal.loop-cell-init
loop-cell-init c = λ s at. rw c.new-all.ensures.items tt

pub loop-cell-preserved : goal.loop-cell-preserved
loop-cell-preserved c = λ s at.
    next_part (IsPartOf c.args.net.now.declared s) c.deref-cell-items.result.now c.loop-cell.cell-index _ c.loop-cell.all.items c.push.new.self.items
    c.in_ok-part.field-0 c.loop-cell-test.true c.in_ok-push.ensures.items (c.loop-cell.invariant s at) (c.in_ok-part.ensures s at)

pub returns : goal.returns
returns c = λ s at.
    let cells = c.deref-cell-items.result.now in
    let all = c.loop-cell.all.items in
    let ended : length cells ≤ c.loop-cell.cell-index = omega (arith, c.loop-cell-test.false) in
    let same = c.deref-cell-items.ensures.value ∙ c.in_ok-cells.ensures.cells ∙ ap cells_of c.network.ensures.network in
    subst (λ (l : List CellId). AllZip (IsPartOf c.args.net.now.declared s) l all) same
    (all_parts (IsPartOf c.args.net.now.declared s) cells c.loop-cell.cell-index all ended (c.loop-cell.invariant s at))
