use Rattle.std.proofs.Common.{◌≡◌, ◌∙◌, ap, false, get_or, rules, sym, tests, true}
use Rattle.std.proofs.lemmas.List.{take_all}
use Rattle.std.proofs.lemmas.List.Folds.{list_all_at, list_all_more}
use Rattle.std.specs.List.{list_all}
use Rattle.std.specs.Prelude.{◌==◌, ◌&&◌}
use Rattle.sw_schedule.proofs.written_line.are_all.Goals as goal

pub returns-then-other-byte : goal.returns-then-other-byte
returns-then-other-byte c =
    let differs : (get_or c.args.bytes.now c.loop-other.other-index 0 == c.args.byte) ≡ false = search (rules, tests) in
    sym (list_all_at (λ b. b == c.args.byte) c.args.bytes.now c.loop-other.other-index 0 c.loop-other-test.true differs)

pub loop-other-preserved : goal.loop-other-preserved
loop-other-preserved c =
    let same : (get_or c.args.bytes.now c.loop-other.other-index 0 == c.args.byte) ≡ true = search (rules, tests) in
    list_all_more (λ b. b == c.args.byte) c.args.bytes.now c.loop-other.other-index 0 c.loop-other-test.true ∙ (λ j. c.loop-other.invariant j && same j)

pub returns : goal.returns
returns c = sym c.loop-other.invariant ∙ ap (list_all (λ b. b == c.args.byte)) (take_all c.loop-other.other-index c.args.bytes.now c.loop-other-test.false)
