use Rattle.std.proofs.Common.{List, ap, string_bytes, ◌++◌, ◌∙◌, ℕ}
use Rattle.sw_output.proofs.EachLine.{all_added, line_added}
use Rattle.sw_changes.specs.MendTexts.{mend_line}
use Rattle.sw_changes.proofs.MendLines.{mend_told}
use Rattle.sw_changes.proofs.mend_texts.add_mends.Goals as goal

pub loop-change-preserved : goal.loop-change-preserved
loop-change-preserved c =
    let told = mend_told c.args.network.now c.change-item.result (string_bytes c.in_ok-words.words) c.in_ok-words.ensures in
    line_added (mend_line c.args.network.now) c.args.changes.now c.loop-change.change-index c.change-item.result (string_bytes c.args.text.now) (string_bytes c.loop-change.text)
    (string_bytes c.write.new.self) c.loop-change-test.true c.change-item.is c.loop-change.invariant
    (c.in_ok-write.ensures.bytes ∙ ap (λ (l : List ℕ). string_bytes c.loop-change.text ++ l) told)

pub returns : goal.returns
returns c =
    all_added (mend_line c.args.network.now) c.args.changes.now c.loop-change.change-index (string_bytes c.args.text.now) (string_bytes c.loop-change.text) c.loop-change-test.false
    c.loop-change.invariant
