use Rattle.std.proofs.Common.{◌∙◌, ◌-◌, refl}
use Rattle.std.proofs.lemmas.Result.{IfOk-weaker}
use Rattle.sw_output.proofs.ReportLines.{report_is}
use Rattle.sw_output.proofs.report_texts.report_text.Goals as goal

pub returns : goal.returns
returns c =
    IfOk-weaker c.format.result _ _
    (λ s is. is ∙ report_is c.args.network.now _ _ _ _ _ (c.flows.result - c.declared_flows-declared.result) c.args.places c.args.dependencies c.args.verdict.now c.nodes-nodes.ensures.count
    c.switches-switches.ensures.count c.links-links.ensures.count c.channels-channels.ensures.ends c.declared_flows-declared.ensures.count
    (rw (c.declared_flows-declared.ensures.count, c.flows.ensures.count) refl)) c.format.ensures.ok
