use Rattle.std.proofs.Common.{◌∙◌, ◌≡◌, ◌++◌, ℕ, List, ap, codes, string_bytes}
use Rattle.sw_output.proofs.EachLine.{all_added}
use Rattle.sw_changes.proofs.LossLines.{all_losses, four_lists, loss_lines_more, words_told}
use Rattle.sw_changes.proofs.margin_texts.margin_text.Goals as goal
use Rattle.sw_changes.specs.MarginTexts.{answer_line, limit_line, loss_line, stall_line}
use Rattle.sw_topo.proofs.Lists.{line_at}

pub loop-stall-preserved : goal.loop-stall-preserved
loop-stall-preserved c =
    let told =
    words_told c.stays_words-words.result.now c.node_name-name.result.now (codes " stops taking while it wants to send\n") _ _ c.stays_words-words.ensures c.node_name-name.ensures in
    line_at (stall_line c.args.network.now) c.deref-stall-items.result.now c.loop-stall.stall-index _ (string_bytes c.new-text.result) (string_bytes c.loop-stall.text) (string_bytes c.write.new.self)
    c.loop-stall-test.true c.loop-stall.invariant (c.in_ok-write.ensures.bytes ∙ ap (λ (l : List ℕ). string_bytes c.loop-stall.text ++ l) told)

pub loop-answer-preserved : goal.loop-answer-preserved
loop-answer-preserved c =
    let told =
    words_told c.stays_words-words-in-loop-answer.result.now c.flow_name-name.result.now (codes " is answered along its own way\n") _ _ c.stays_words-words-in-loop-answer.ensures c.flow_name-name.ensures in
    line_at (answer_line c.args.network.now) c.deref-answer-items.result.now c.loop-answer.answer-index _ (string_bytes c.loop-stall.text) (string_bytes c.loop-answer.text)
    (string_bytes c.write-in-loop-answer.new.self) c.loop-answer-test.true c.loop-answer.invariant (c.in_ok-write-2.ensures.bytes ∙ ap (λ (l : List ℕ). string_bytes c.loop-answer.text ++ l) told)

pub loop-limit-preserved : goal.loop-limit-preserved
loop-limit-preserved c =
    line_at (limit_line c.args.network.now) c.deref-limit-items.result.now c.loop-limit.limit-index _ (string_bytes c.loop-answer.text) (string_bytes c.loop-limit.text)
    (string_bytes c.add_limit_line.new.text) c.loop-limit-test.true c.loop-limit.invariant c.in_ok-add_limit_line.ensures

pub loop-link-preserved : goal.loop-link-preserved
loop-link-preserved c =
    let d = c.args.network.now in
    let link = c.loop-link.link in
    let rows = c.deref-flows-items.result.now in
    let line : loss_line d link c.deref.result.now ≡ loss_line d link c.flows-item.result.items = ap (loss_line d link) c.deref.ensures.value in
    loss_lines_more d link rows c.flows-item.result (string_bytes c.loop-limit.text) (string_bytes c.loop-link.text)
    (loss_line d link c.deref.result.now) (string_bytes c.add_loss_line.new.text) c.loop-link-test.true c.flows-item.is c.loop-link.invariant line c.in_ok-add_loss_line.ensures

pub returns : goal.returns
returns c =
    let d = c.args.network.now in
    let start = string_bytes c.new-text.result in
    let first = string_bytes c.loop-stall.text in
    let second = string_bytes c.loop-answer.text in
    let third = string_bytes c.loop-limit.text in
    let stalls = c.deref-stall-items.result.now in
    let answers = c.deref-answer-items.result.now in
    let limits = c.deref-limit-items.result.now in
    let losses = c.deref-flows-items.result.now in
    four_lists d stalls answers limits losses c.args.told.now start first second third (string_bytes c.loop-link.text) c.new-text.ensures.bytes
    c.deref-stall-items.ensures.value c.deref-answer-items.ensures.value c.deref-limit-items.ensures.value c.deref-flows-items.ensures.value
    (all_added (stall_line d) stalls c.loop-stall.stall-index start first c.loop-stall-test.false c.loop-stall.invariant)
    (all_added (answer_line d) answers c.loop-answer.answer-index first second c.loop-answer-test.false c.loop-answer.invariant)
    (all_added (limit_line d) limits c.loop-limit.limit-index second third c.loop-limit-test.false c.loop-limit.invariant)
    (all_losses d losses c.loop-link.link third (string_bytes c.loop-link.text) c.loop-link-test.false c.loop-link.invariant)
