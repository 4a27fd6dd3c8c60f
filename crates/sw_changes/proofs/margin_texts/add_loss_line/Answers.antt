use Rattle.std.proofs.Common.{◌∙◌, ap, rules, string_bytes, ◌*◌, ◌≡◌}
use Rattle.std.proofs.lemmas.Result.{on_ok_weaker}
use Rattle.sw_output.specs.ChannelTexts.{channel_text}
use Rattle.sw_changes.proofs.LossLines.{loss_ended}
use Rattle.sw_changes.proofs.margin_texts.add_loss_line.Goals as goal

pub returns : goal.returns
returns c =
    let d = c.args.network.now in
    let at : c.new.result ≡ 2 * c.args.link = search rules in
    let told =
    loss_ended d c.args.link c.args.flows.now (string_bytes c.in_ok-name.name) (string_bytes c.args.text.now) (string_bytes c.write.new.self) (c.in_ok-name.ensures ∙ ap (channel_text d) at)
    c.in_ok-write.ensures.bytes in
    on_ok_weaker c.add_flows.result (λ is. is ∙ told) c.add_flows.ensures
