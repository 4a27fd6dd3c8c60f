use Rattle.std.proofs.Common.{ap, sym, ◌∙◌, arith}
use Rattle.std.specs.Prelude.{fold}
use Rattle.std.proofs.lemmas.List.{take_all}
use Rattle.sw_config.specs.Entries.{reply_flows}
use Rattle.sw_linter.specs.Marks.{with_flow}
use Rattle.sw_linter.proofs.Ranges.{fold_more}
use Rattle.sw_linter.proofs.node_marks.NodeMarks.note_all.Goals as goal
use Rattle.sw_topo.proofs.Lists.{in_front}

pub loop-number-preserved : goal.loop-number-preserved
loop-number-preserved c =
    let d = c.args.network.now in
    let n = c.loop-number.number in
    let here = in_front d.flows (reply_flows d.flows) n c.flow.result.now (omega (arith, c.loop-number-test.true, c.declared_flows-number-end.ensures.count)) c.flow.ensures.flow in
    c.note.ensures ∙ ap (λ m. with_flow m c.flow.result.now) c.loop-number.invariant ∙ sym (fold_more with_flow c.args.self.now d.flows n c.flow.result.now here)

pub returns : goal.returns
returns c =
    let d = c.args.network.now in
    c.loop-number.invariant ∙ ap (fold with_flow c.args.self.now) (take_all c.loop-number.number d.flows (omega (arith, c.loop-number-test.false, c.declared_flows-number-end.ensures.count)))
