use Rattle.toml.specs.View.{table_view}
use Rattle.sw_file.proofs.WholeMigration.{version_refused}
use Rattle.sw_file.proofs.migration.admit.Goals as goal

pub returns-in-Err-declared_version : goal.returns-in-Err-declared_version
returns-in-Err-declared_version c =
    rw c.refusal-in-Err-declared_version.ensures (version_refused (table_view c.args.table.now) c.in-Err-declared_version.fault c.in-Err-declared_version.ensures)
