use Rattle.std.proofs.Common.{List, ap, string_bytes, ◌++◌, ◌∙◌, ℕ}
use Rattle.sw_output.proofs.EachLine.{all_added, line_added}
use Rattle.sw_changes.specs.MendTexts.{pair_line}
use Rattle.sw_changes.proofs.MendLines.{pair_told}
use Rattle.sw_changes.proofs.mend_texts.add_pairs.Goals as goal

pub loop-pair-preserved : goal.loop-pair-preserved
loop-pair-preserved c =
    let told = pair_told c.args.network.now c.pair-item.result (string_bytes c.in_ok-first.first) (string_bytes c.in_ok-second.second) c.in_ok-first.ensures c.in_ok-second.ensures in
    line_added (pair_line c.args.network.now) c.args.pairs.now c.loop-pair.pair-index c.pair-item.result (string_bytes c.args.text.now) (string_bytes c.loop-pair.text)
    (string_bytes c.write.new.self) c.loop-pair-test.true c.pair-item.is c.loop-pair.invariant
    (c.in_ok-write.ensures.bytes ∙ ap (λ (l : List ℕ). string_bytes c.loop-pair.text ++ l) told)

pub returns : goal.returns
returns c =
    all_added (pair_line c.args.network.now) c.args.pairs.now c.loop-pair.pair-index (string_bytes c.args.text.now) (string_bytes c.loop-pair.text) c.loop-pair-test.false
    c.loop-pair.invariant
