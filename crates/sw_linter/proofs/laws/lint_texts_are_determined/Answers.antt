use Rattle.sw_linter.proofs.Lawful.{notes_determined, texts_determined}
use Rattle.sw_linter.proofs.laws.lint_texts_are_determined.Goals as goal

pub returns-clause-texts : goal.returns-clause-texts
returns-clause-texts c = texts_determined

pub returns-clause-notes : goal.returns-clause-notes
returns-clause-notes c = notes_determined
