use Rattle.std.proofs.Common.{◌∙◌, ◌++◌, ap, string_bytes}
use Rattle.std.proofs.lemmas.Result.{IfOk-weaker}
use Rattle.sw_cycle.specs.Cycles.{cause_of}
use Rattle.sw_output.proofs.PairedLines.{line_is}
use Rattle.sw_output.proofs.verdict_texts.add_cycle_line.Goals as goal

pub returns : goal.returns
returns c =
    IfOk-weaker c.write.result _ _
    (λ _ is. is ∙ ap (λ l. string_bytes c.args.text.now ++ l) (line_is c.args.network.now c.args.channel (cause_of c.args.cause.now) _ _ _ _ c.number-channel.ensures c.in_ok-ends.ensures c.cause_parts.ensures)) c.write.ensures.bytes
