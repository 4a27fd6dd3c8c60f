use Rattle.std.proofs.Common.{ap, codes, sym, ◌++◌, ◌∙◌}
use Rattle.sw_cycle.specs.Cycles.{cause_of}
use Rattle.sw_output.specs.ChannelTexts.{channel_text}
use Rattle.sw_explain.specs.ExplainTexts.{awaited, owed_text, step_words}
use Rattle.sw_explain.proofs.step_texts.step_parts.Goals as goal

pub returns-in-Flow : goal.returns-in-Flow
returns-in-Flow c = λ all from to.
    let d = c.args.network.now in
    ap (λ x. codes "a packet of " ++ (c.flow_name.result.now ++ (codes " holds " ++ (channel_text d from ++ (codes " and waits for " ++ awaited d all to (cause_of x)))))) c.in-Flow.is
    ∙ ap (λ l. codes "a packet of " ++ (l ++ (codes " holds " ++ (channel_text d from ++ (codes " and waits for " ++ channel_text d to))))) c.flow_name.ensures
    ∙ ap (λ x. step_words d all from to (cause_of x)) (sym c.in-Flow.is)

pub returns-in-Target : goal.returns-in-Target
returns-in-Target c = λ all from to.
    let d = c.args.network.now in
    ap (λ x. c.node_name.result.now ++ (codes " takes nothing from " ++ (channel_text d from ++ (codes " while it owes " ++ awaited d all to (cause_of x))))) c.in-Target.is
    ∙ ap (λ l. l ++ (codes " takes nothing from " ++ (channel_text d from ++ (codes " while it owes " ++ owed_text d all c.in-Target.node)))) c.node_name.ensures
    ∙ ap (λ x. step_words d all from to (cause_of x)) (sym c.in-Target.is)
