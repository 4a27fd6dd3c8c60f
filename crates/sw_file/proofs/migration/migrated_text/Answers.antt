use Rattle.toml.specs.View.{table_view}
use Rattle.sw_file.proofs.WholeMigration.{shallow, valid, never_fails, whole}
use Rattle.sw_file.proofs.migration.migrated_text.Goals as goal

pub returns-in-Err : goal.returns-in-Err
returns-in-Err c = λ bytes is. rw c.refusal.ensures (never_fails (table_view c.args.table.now) bytes c.in_ok-admit.ensures c.in-Err.fault c.in-Err.ensures)

pub text_of-requires-clause-shallow : goal.text_of-requires-clause-shallow
text_of-requires-clause-shallow c = shallow (table_view c.args.table.now) (table_view c.migrate_table.new.document) c.in_ok-admit.ensures c.table_ascends.ensures c.in-Ok.ensures

pub text_of-requires-clause-valid : goal.text_of-requires-clause-valid
text_of-requires-clause-valid c = valid (table_view c.args.table.now) (table_view c.migrate_table.new.document) c.in_ok-admit.ensures c.table_ascends.ensures c.in-Ok.ensures

pub returns-in_ok-text_of-in-Ok : goal.returns-in_ok-text_of-in-Ok
returns-in_ok-text_of-in-Ok c = λ bytes is.
    whole bytes c.in_ok-text_of-in-Ok.field-0.items (table_view c.args.table.now) (table_view c.migrate_table.new.document) c.in_ok-admit.ensures is c.table_ascends.ensures c.in-Ok.ensures c.in_ok-text_of-in-Ok.ensures.text c.in_ok-text_of-in-Ok.ensures.reads_back
