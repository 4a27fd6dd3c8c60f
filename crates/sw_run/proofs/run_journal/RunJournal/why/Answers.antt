use Rattle.std.proofs.Common.{arith, length, ◌≡◌}
use Rattle.sw_run.proofs.Grants.{fails}
use Rattle.sw_run.proofs.Noted.{noted_open}
use Rattle.sw_run.proofs.run_journal.RunJournal.why.Goals as goal
use Rattle.sw_run.specs.Ends.{IsOpen}

pub returns-else-len-self-clause-memory : goal.returns-else-len-self-clause-memory
returns-else-len-self-clause-memory g c = λ memory.
    let self = c.args.self.now in
    let j = self.journal in
    let goes_on : IsOpen j = (
      fails c.is_drained.result c.if-is_drained.false c.is_drained.ensures,
      fails c.is_stuck.result c.if-is_stuck.false c.is_stuck.ensures,
      fails c.is_waiting.result c.if-is_waiting.false c.is_waiting.ensures.waiting,
    ) in
    let short : length j.history ≡ j.limit → ⊥ = λ full. (let no : ⊥ = omega (arith, c.if-len-self.false, c.len.ensures.len, full, self.identity_is.3, self.limit_is) in no) in
    noted_open j self.notes c.len.ensures.true_view self.notes_are goes_on short
