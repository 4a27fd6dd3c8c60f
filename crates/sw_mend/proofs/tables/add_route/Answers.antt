use Rattle.std.proofs.Common.{◌≤◌, ◌∙◌, ap, arith, false, length, refl, sym}
use Rattle.std.specs.Prelude.{fold}
use Rattle.std.proofs.lemmas.List.{take_all}
use Rattle.sw_mend.specs.Changes.{loses_entry, ports_after}
use Rattle.sw_mend.proofs.AfterAll.{entry_told_gone, route_added, route_gone}
use Rattle.sw_config.proofs.Passes.{all_passed, one_read}
use Rattle.sw_mend.proofs.tables.add_route.Goals as goal

pub returns-in_default : goal.returns-in_default
returns-in_default c =
    let gone = entry_told_gone c.change-item.result c.args.switch c.args.entry c.loop-change.ports c.ports_left.result c.ports_left.ensures c.in_default.is in
    route_gone c.args.changes.now c.args.switch c.args.entry c.args.route.now c.args.table.now
    (one_read (λ change. loses_entry change c.args.switch c.args.entry) c.args.changes.now c.loop-change.change-index c.change-item.result _ c.loop-change-test.true c.change-item.is refl gone)

pub returns-in-Ok : goal.returns-in-Ok
returns-in-Ok c =
    let changes = c.args.changes.now in
    let past : length changes ≤ c.loop-change.change-index = omega (arith, c.loop-change-test.false) in
    let stays = all_passed (λ change. loses_entry change c.args.switch c.args.entry) changes c.loop-change.change-index false past (sym c.loop-change.invariant.0) in
    let left = c.loop-change.invariant.1 ∙ ap (fold (λ ports change. ports_after change c.args.switch c.args.entry ports) c.args.route.now.ports) (take_all c.loop-change.change-index changes past) in
    c.in-Ok.ensures.ok ∙ route_added changes c.args.switch c.args.entry c.args.route.now c.loop-change.ports c.args.table.now stays left
