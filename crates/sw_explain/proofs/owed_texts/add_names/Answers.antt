use Rattle.std.proofs.Common.{◌-◌, List, codes, drop, get_or, length, refl, string_bytes, take, ◌++◌, ℕ}
use Rattle.sw_output.proofs.EachLine.{all_added}
use Rattle.sw_explain.specs.ExplainTexts.{joined, name_and_limit}
use Rattle.sw_explain.proofs.ExplainedTexts.{first_added}
use Rattle.sw_explain.proofs.owed_texts.add_names.Goals as goal
use Rattle.sw_topo.proofs.Lists.{line_at}

pub loop-flow-preserved : goal.loop-flow-preserved
loop-flow-preserved c =
    let d = c.args.network.now in
    let flows : List ℕ = c.args.flows.now in
    line_at (λ f. codes ", " ++ name_and_limit d f) (take (length flows - 1) (drop 1 flows)) c.loop-flow.flow-index 0 (string_bytes c.add_name.new.text) (string_bytes c.loop-flow.text)
    (string_bytes c.add_name-in-loop-flow.new.text) c.loop-flow-test.true c.loop-flow.invariant c.in_ok-add_name-in-len1-up-2.ensures

pub returns-after-loop-flow : goal.returns-after-loop-flow
returns-after-loop-flow c =
    let d = c.args.network.now in
    let flows : List ℕ = c.args.flows.now in
    let first = string_bytes c.add_name.new.text in
    let text = string_bytes c.loop-flow.text in
    let more : ℕ → List ℕ = λ f. codes ", " ++ name_and_limit d f in
    first_added (name_and_limit d) more (joined (name_and_limit d) (codes ", ")) (λ f fs. refl) flows (get_or flows 0 0) 0 (string_bytes c.args.text.now) first text c.in-len1-up.len_at_least refl
    c.in_ok-add_name-in-len1-up.ensures
    (all_added more (take (length flows - 1) (drop 1 flows)) c.loop-flow.flow-index first text c.loop-flow-test.false c.loop-flow.invariant)
