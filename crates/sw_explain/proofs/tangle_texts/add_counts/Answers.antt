use Rattle.std.proofs.Common.{◌-◌, List, codes, drop, length, refl, string_bytes, take, ◌++◌}
use Rattle.std.specs.Fmt.{decimal}
use Rattle.sw_output.proofs.EachLine.{all_added, line_added}
use Rattle.sw_search.specs.declared.tangle.Tangle.{Tangle}
use Rattle.sw_explain.specs.ExplainTexts.{counts_text}
use Rattle.sw_explain.proofs.ExplainedTexts.{first_added}
use Rattle.sw_explain.proofs.tangle_texts.add_counts.Goals as goal

pub loop-tangle-preserved : goal.loop-tangle-preserved
loop-tangle-preserved c =
    let tangles : List Tangle = c.args.tangles.now in
    line_added (λ (t : Tangle). codes ", " ++ decimal t.channels) (take (length tangles - 1) (drop 1 tangles)) c.loop-tangle.tangle-index c.tangle-item.result
    (string_bytes c.write.new.self) (string_bytes c.loop-tangle.text) (string_bytes c.write-in-loop-tangle.new.self) c.loop-tangle-test.true c.tangle-item.is c.loop-tangle.invariant
    c.in_ok-write-in-len1-up-2.ensures.bytes

pub returns-after-loop-tangle : goal.returns-after-loop-tangle
returns-after-loop-tangle c =
    let tangles : List Tangle = c.args.tangles.now in
    let first = string_bytes c.write.new.self in
    let text = string_bytes c.loop-tangle.text in
    let more = λ (t : Tangle). codes ", " ++ decimal t.channels in
    first_added (λ (t : Tangle). decimal t.channels) more counts_text (λ t ts. refl) tangles c.first-item.result c.first-item.result (string_bytes c.args.text.now) first text
    c.in-len1-up.len_at_least c.first-item.is c.in_ok-write-in-len1-up.ensures.bytes
    (all_added more (take (length tangles - 1) (drop 1 tangles)) c.loop-tangle.tangle-index first text c.loop-tangle-test.false c.loop-tangle.invariant)
