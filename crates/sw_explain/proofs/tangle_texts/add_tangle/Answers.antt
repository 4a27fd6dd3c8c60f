use Rattle.std.proofs.Common.{List, Vec, Global, ap, length, rules, string_bytes, ℕ, ◌≡◌, ◌++◌, ◌∙◌}
use Rattle.sw_search.specs.declared.tangle.Tangle.{Tangle}
use Rattle.sw_explain.specs.ExplainTexts.{step_line}
use Rattle.sw_explain.proofs.ExplainedTexts.{all_numbered, tangle_added}
use Rattle.sw_output.proofs.EachLine.{number_added}
use Rattle.sw_explain.proofs.tangle_texts.add_tangle.Goals as goal

pub loop-i-preserved : goal.loop-i-preserved
loop-i-preserved c =
    let tangle = c.args.tangle.now in
    let line = step_line c.args.network.now c.args.all tangle.cycle tangle.flows.items in
    let told =
    c.in_ok-add_step_line.ensures
    ∙ ap (λ (rows : List (Vec ℕ Global)). string_bytes c.loop-i.text ++ step_line c.args.network.now c.args.all tangle.cycle rows c.loop-i.i) c.deref.ensures.value
    ∙ ap (λ (t : Tangle). string_bytes c.loop-i.text ++ step_line c.args.network.now c.args.all tangle.cycle t.flows.items c.loop-i.i) c.tangle.view_is in
    number_added line c.loop-i.i (string_bytes c.write.new.self) (string_bytes c.loop-i.text) (string_bytes c.add_step_line.new.text) c.loop-i.invariant told

pub returns : goal.returns
returns c =
    let d = c.args.network.now in
    let all = c.args.all in
    let tangle = c.args.tangle.now in
    let first = string_bytes c.write.new.self in
    let size : c.len-count.result ≡ length tangle.cycle.channels = search rules in
    let lines =
    all_numbered (step_line d all tangle.cycle tangle.flows.items) first c.loop-i.i c.len-count.result (length tangle.cycle.channels) (string_bytes c.loop-i.text) c.loop-i-test.false
    c.loop-i.auto.i-end size c.loop-i.invariant in
    tangle_added d all tangle c.len-count.result c.ending-ending.result.now (string_bytes c.args.text.now) first (string_bytes c.loop-i.text) size c.ending-ending.ensures
    c.in_ok-write.ensures.bytes lines
