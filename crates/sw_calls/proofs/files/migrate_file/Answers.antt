use Rattle.std.proofs.KnownBytes.{Keeps-refl}
use Rattle.sw_app.specs.MigrateAnswers.{IsMigrateAnswer}
use Rattle.sw_engine.proofs.Paths.{ends_by_path}
use Rattle.sw_calls.proofs.files.migrate_file.Goals as goal

pub returns-in_default-clause-read : goal.returns-in_default-clause-read
returns-in_default-clause-read g c = rw c.from_ended.ensures.ended (Keeps-refl _)

pub returns-clause-read : goal.returns-clause-read
returns-clause-read g c = ends_by_path _ _ _ c.in-Some.ensures IsMigrateAnswer _ _ _ c.migrate.ensures.ended
