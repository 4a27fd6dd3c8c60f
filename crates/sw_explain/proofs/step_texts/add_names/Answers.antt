use Rattle.std.proofs.Common.{◌-◌, List, ap, drop, get_or, length, refl, string_bytes, take, ◌++◌, ◌∙◌, ℕ}
use Rattle.sw_output.specs.FlowTexts.{flow_name}
use Rattle.sw_output.proofs.EachLine.{all_added}
use Rattle.sw_explain.specs.ExplainTexts.{joined_names}
use Rattle.sw_explain.proofs.ExplainedTexts.{first_added}
use Rattle.sw_explain.proofs.step_texts.add_names.Goals as goal
use Rattle.sw_topo.proofs.Lists.{line_at}

pub loop-flow-preserved : goal.loop-flow-preserved
loop-flow-preserved c =
    let d = c.args.network.now in
    let between : List ℕ = c.args.between.now in
    let flows : List ℕ = c.args.flows.now in
    let before : List ℕ = string_bytes c.loop-flow.text in
    line_at (λ f. between ++ flow_name d f) (take (length flows - 1) (drop 1 flows)) c.loop-flow.flow-index 0 (string_bytes c.push_str.new.self) before (string_bytes c.write.new.self)
    c.loop-flow-test.true c.loop-flow.invariant (c.in_ok-write-in-len1-up.ensures.bytes ∙ ap (λ l. before ++ (between ++ l)) c.flow_name-name.ensures)

pub returns-after-loop-flow : goal.returns-after-loop-flow
returns-after-loop-flow c =
    let d = c.args.network.now in
    let between : List ℕ = c.args.between.now in
    let flows : List ℕ = c.args.flows.now in
    let first = string_bytes c.push_str.new.self in
    let text = string_bytes c.loop-flow.text in
    first_added (flow_name d) (λ f. between ++ flow_name d f) (joined_names d between) (λ f fs. refl) flows (get_or flows 0 0) 0 (string_bytes c.args.text.now) first text c.in-len1-up.len_at_least refl
    (c.in_ok-push_str-in-len1-up.ensures.bytes ∙ ap (λ l. string_bytes c.args.text.now ++ l) c.flow_name.ensures)
    (all_added (λ f. between ++ flow_name d f) (take (length flows - 1) (drop 1 flows)) c.loop-flow.flow-index first text c.loop-flow-test.false c.loop-flow.invariant)
