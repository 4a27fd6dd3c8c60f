use Rattle.std.proofs.Common.{◌∙◌, ap, flat_map}
use Rattle.std.proofs.lemmas.List.{take_all}
use Rattle.sw_linter.specs.Marks.{nodes_of, slip_lints}
use Rattle.sw_linter.proofs.KindsOfSlips.{all_slips, kinds, slip_more}
use Rattle.sw_linter.proofs.finding.found_by.Goals as goal

pub loop-slip-preserved : goal.loop-slip-preserved
loop-slip-preserved c =
    let d = c.args.network.now in
    slip_more d (nodes_of d) _ c.args.marks.now kinds c.loop-slip.slip-index _ c.loop-slip.lints.items c.add_slips.new.lints.items c.in_ok-nodes.ensures c.loop-slip-test.true c.loop-slip.invariant
    c.in_ok-add_slips.ensures

pub returns : goal.returns
returns c =
    let d = c.args.network.now in
    c.loop-slip.invariant ∙ ap (flat_map (slip_lints d (nodes_of d) c.args.marks.now)) (take_all c.loop-slip.slip-index kinds c.loop-slip-test.false) ∙ all_slips d (nodes_of d) c.args.marks.now
