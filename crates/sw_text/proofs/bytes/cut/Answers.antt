use Rattle.std.proofs.Common.{◌∙◌, ap, sym, ◌∷◌, take, ◌+◌}
use Rattle.std.specs.Prelude.{◌==◌}
use Rattle.std.specs.List.{slice_split}
use Rattle.std.proofs.lemmas.List.{take_rest}
use Rattle.sw_text.proofs.FirstByte.{found_at, none_more, not_found}
use Rattle.sw_text.proofs.bytes.cut.Goals as goal

pub loop-end-preserved : goal.loop-end-preserved
loop-end-preserved c = none_more c.args.byte c.args.text.now c.loop-end.end c.if-text-end.false c.loop-end.invariant

pub returns-then-text-end-clause-cut : goal.returns-then-text-end-clause-cut
returns-then-text-end-clause-cut c =
    found_at c.args.byte c.args.text.now c.loop-end.end c.loop-end-test.true c.loop-end.invariant c.if-text-end.true
    ∙ ap (λ xs. take c.loop-end.end c.args.text.now ∷ slice_split (λ b. b == c.args.byte) xs) (sym (take_rest c.args.text.now (c.loop-end.end + 1)))

pub returns-clause-whole : goal.returns-clause-whole
returns-clause-whole c = not_found c.args.byte c.args.text.now c.loop-end.end c.loop-end-test.false c.loop-end.invariant
