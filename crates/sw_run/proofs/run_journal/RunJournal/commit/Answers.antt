use Rattle.sw_run.proofs.Grants.{keeps_arbiters, same_id, same_name, same_run, takes}
use Rattle.sw_run.proofs.Noted.{committed}
use Rattle.sw_run.proofs.run_journal.RunJournal.commit.Goals as goal
use Rattle.std.proofs.Common.{◌∙◌}
use Rattle.sw_machine.specs.StepValues.{machine_step}

pub returns-clause-takes : goal.returns-clause-takes
returns-clause-takes g c =
    takes c.args.self.now.journal c.commit-made.new.self c.args.locked.now.cell c.commit-made.new.cell (machine_step c.args.step) c.commit-made.result c.sent_over-sent.result c.after.result
    c.after.ensures.turn c.commit-made.ensures.commits

pub returns-clause-cell : goal.returns-clause-cell
returns-clause-cell g c = same_id c.args.self.now.journal c.commit-made.new.self c.args.locked.now.cell c.commit-made.new.cell (machine_step c.args.step) c.commit-made.result c.commit-made.ensures.commits

pub invariant_of-self-clause-identity_is : goal.invariant_of-self-clause-identity_is
invariant_of-self-clause-identity_is g c =
    let W = g.W.RunIdentity in
    same_run c.args.self.now.journal c.commit-made.new.self c.args.locked.now.cell c.commit-made.new.cell (machine_step c.args.step) c.commit-made.result W.name W.declared W.load W.limit
    c.commit-made.ensures.commits c.args.self.now.identity_is

pub invariant_of-self-clause-notes_are : goal.invariant_of-self-clause-notes_are
invariant_of-self-clause-notes_are g c =
    committed c.args.self.now.journal c.commit-made.new.self c.args.self.now.notes c.sent_over-sent.new.self c.settles.new.self c.after.new.self _ c.args.locked.now.cell c.commit-made.new.cell (machine_step c.args.step)
    c.commit-made.result c.len-count.ensures.true_view c.args.self.now.notes_are c.sent_over-sent.ensures c.settles.ensures c.after.ensures.noted c.commit-made.ensures.commits

pub invariant_of-locked-clause-name_is : goal.invariant_of-locked-clause-name_is
invariant_of-locked-clause-name_is g c =
    same_name c.args.self.now.journal c.commit-made.new.self c.args.locked.now.cell c.commit-made.new.cell (machine_step c.args.step) c.commit-made.result c.commit-made.ensures.commits
    ∙ c.args.locked.now.name_is

pub invariant_of-locked-clause-has_arbiters : goal.invariant_of-locked-clause-has_arbiters
invariant_of-locked-clause-has_arbiters g c =
    keeps_arbiters c.args.self.now.journal c.commit-made.new.self c.args.locked.now.cell c.commit-made.new.cell (machine_step c.args.step) c.commit-made.result g.W.RunIdentity.declared
    c.args.locked.now.arbiters.items c.commit-made.ensures.commits c.args.locked.now.has_arbiters
