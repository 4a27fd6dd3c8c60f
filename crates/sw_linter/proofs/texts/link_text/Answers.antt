use Rattle.std.proofs.Common.{◌∙◌, sym, arith}
use Rattle.std.proofs.lemmas.Result.{IfOk-weaker}
use Rattle.sw_config.proofs.Steps.{length-link_ends}
use Rattle.sw_linter.proofs.Words.{past_link}
use Rattle.sw_linter.proofs.texts.link_text.Goals as goal

pub returns-then-link-links : goal.returns-then-link-links
returns-then-link-links c =
    IfOk-weaker c.from_str.result _ _ (λ _ e. e ∙ sym (past_link c.args.network.now c.args.link (omega (arith, c.if-link-links.true, c.links.ensures.count)))) c.from_str.ensures.ok

pub channel_text-requires : goal.channel_text-requires
channel_text-requires c = omega (arith, c.new.ensures, c.if-link-links.false, c.links.ensures.count, length-link_ends c.args.network.now.links)
