use Rattle.std.proofs.Common.{◌≤◌, subst, ◌∙◌}
use Rattle.toml.specs.View.{table_view}
use Rattle.sw_file.proofs.Listed.{entries_read, entries_over}
use Rattle.sw_file.proofs.document.entries.Goals as goal

pub returns-then-len-most-clause-gives : goal.returns-then-len-most-clause-gives
returns-then-len-most-clause-gives c =
    entries_over (λ t. table_view t.now) c.args.document.now.section c.args.key c.args.most c.args.over (table_view c.args.document.now.table.now) c.in_ok-tables.tables.items c.len.result c.requires c.in_ok-tables.ensures (c.len.ensures ∙ c.in_ok-tables.tables.ok.0) c.if-len-most.true

pub returns-clause-gives : goal.returns-clause-gives
returns-clause-gives c =
    entries_read (λ t. table_view t.now) c.args.document.now.section c.args.key c.args.most c.args.over (table_view c.args.document.now.table.now) c.in_ok-tables.tables.items c.len.result c.requires c.in_ok-tables.ensures (c.len.ensures ∙ c.in_ok-tables.tables.ok.0) c.if-len-most.false

pub returns-clause-few : goal.returns-clause-few
returns-clause-few c = subst (λ n. n ≤ c.args.most) c.len.ensures c.if-len-most.false
