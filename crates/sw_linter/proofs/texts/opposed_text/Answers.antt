use Rattle.std.proofs.Common.{List, rules, string_bytes, subst, ◌++◌, ◌*◌, ◌≡◌, ℕ}
use Rattle.std.specs.Prelude.{IfOk, codes}
use Rattle.sw_output.specs.ChannelTexts.{channel_text}
use Rattle.sw_output.specs.FlowTexts.{flow_name}
use Rattle.sw_linter.specs.EndNames.{end_name}
use Rattle.sw_linter.proofs.Words.{opposed_is}
use Rattle.sw_linter.proofs.texts.opposed_text.Goals as goal

pub returns : goal.returns
returns c =
    let d = c.args.network.now in
    let onward = c.args.onward in
    let back = c.args.back in
    let f : List ℕ = c.flow_name-one.result.now in
    let e : List ℕ = c.end_name-one_end.result.now in
    let g : List ℕ = c.flow_name-other.result.now in
    let h : List ℕ = c.end_name-other_end.result.now in
    let k : List ℕ = string_bytes c.in_ok-channel.channel in
    let written : IfOk c.format.result (λ s. string_bytes s ≡ codes "commands of " ++ (f ++ (codes " to " ++ (e ++ (codes " go over " ++ (k ++ (codes " and of " ++ (g ++ (codes " to " ++ (h ++ codes " the other way: while both targets answer, each can wait for the other")))))))))) = search rules in
    subst (λ (l : List ℕ). IfOk c.format.result (λ s. string_bytes s ≡ l))
    (opposed_is f e k g h (flow_name d onward) (end_name d onward) (channel_text d (2 * c.args.link)) (flow_name d back) (end_name d back) c.flow_name-one.ensures c.end_name-one_end.ensures
    c.in_ok-channel.ensures c.flow_name-other.ensures c.end_name-other_end.ensures)
    written
