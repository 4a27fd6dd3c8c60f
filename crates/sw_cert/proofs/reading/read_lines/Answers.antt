use Rattle.sw_cert.specs.Reading.{state_of}
use Rattle.sw_cert.proofs.Runs.{read_more, read_wrong}
use Rattle.sw_cert.proofs.reading.read_lines.Goals as goal

pub returns-then-not-branch-clause-wrong : goal.returns-then-not-branch-clause-wrong
returns-then-not-branch-clause-wrong c =
    read_wrong c.args.first c.loop-line.number (state_of c.args.draft.now) (state_of c.loop-line.draft) (state_of c.read_line.new.self) c.args.text.now c.loop-line.rest.now c.in-Some.line.now c.in-Some.more.now c.in_ok-read_line.field-0
    c.loop-line.invariant c.in-Some.ensures.cut c.if-not-branch.true c.in_ok-read_line.ensures

pub loop-line-preserved : goal.loop-line-preserved
loop-line-preserved c =
    read_more c.args.first c.loop-line.number (state_of c.args.draft.now) (state_of c.loop-line.draft) (state_of c.read_line.new.self) c.args.text.now c.loop-line.rest.now c.in-Some.line.now c.in-Some.more.now c.in_ok-read_line.field-0
    c.loop-line.invariant c.in-Some.ensures.cut c.in-Some.ensures.shorter c.if-not-branch.false c.in_ok-read_line.ensures
