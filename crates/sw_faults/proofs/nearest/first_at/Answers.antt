use Rattle.std.proofs.Common.{◌∙◌, [], sym}
use Rattle.sw_faults.specs.Nearest.{is_near}
use Rattle.sw_faults.proofs.Firsts.{first_here, none_still, none_there}
use Rattle.sw_faults.proofs.nearest.first_at.Goals as goal

pub returns-then-branch : goal.returns-then-branch
returns-then-branch c =
    sym
    (first_here (is_near c.args.name.now c.args.count) (λ t. t.now) c.args.texts.now c.loop-text.text-index record { ref_ptr = (0, 0); now = [] } c.loop-text-test.true
    c.loop-text.invariant (sym c.in_ok-is_near.ensures ∙ c.if-branch.true))

pub loop-text-preserved : goal.loop-text-preserved
loop-text-preserved c =
    none_still (is_near c.args.name.now c.args.count) (λ t. t.now) c.args.texts.now c.loop-text.text-index record { ref_ptr = (0, 0); now = [] } c.loop-text-test.true
    c.loop-text.invariant (sym c.in_ok-is_near.ensures ∙ c.if-branch.false)

pub returns : goal.returns
returns c = sym (none_there (is_near c.args.name.now c.args.count) (λ t. t.now) c.args.texts.now c.loop-text.text-index c.loop-text-test.false c.loop-text.invariant)
