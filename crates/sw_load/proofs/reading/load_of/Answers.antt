use Rattle.std.proofs.Common.{[], ◌∙◌}
use Rattle.std.proofs.lemmas.Result.{err_from_is_err_and}
use Rattle.toml.specs.View.{table_view}
use Rattle.sw_text.proofs.Walks.{walk_more}
use Rattle.sw_load.specs.Load.{next_packet}
use Rattle.sw_load.proofs.Tables.{load_fails, load_read}
use Rattle.sw_load.proofs.reading.load_of.Goals as goal

pub returns : goal.returns
returns c =
    load_read (λ t. table_view t.now) c.args.network.now _ _ _ c.deref-table-items.result.now c.len.result c.requires c.in_ok-tables.ensures (c.len.ensures ∙ c.in_ok-tables.tables.ok.0) c.if-len-gt-MAX_ENTRIES.false c.deref-table-items.ensures.value
    c.loop-i.i c.loop-i.load c.in_ok-only_known.ensures c.loop-i.invariant c.loop-i-test.false

pub returns-in_err-add_packet : goal.returns-in_err-add_packet
returns-in_err-add_packet c =
    let p = err_from_is_err_and c.from_residual-in_err-add_packet.result c.from_residual-in_err-add_packet.ensures.1 in
    rw (p.1, p.2) (load_fails (λ t. table_view t.now) c.args.network.now _ _ _ c.deref-table-items.result.now c.len.result c.requires c.in_ok-tables.ensures (c.len.ensures ∙ c.in_ok-tables.tables.ok.0) c.if-len-gt-MAX_ENTRIES.false c.deref-table-items.ensures.value
    c.loop-i.i c.loop-i.load c.table-item.result c.in_err-add_packet.field-0.0 c.in_ok-only_known.ensures c.loop-i.invariant c.loop-i-test.true c.table-item.is c.in_err-add_packet.ensures)

pub loop-i-preserved : goal.loop-i-preserved
loop-i-preserved c =
    walk_more (next_packet c.args.network.now) (λ t. table_view t.now) [] c.deref-table-items.result.now c.loop-i.i c.loop-i.load c.add_packet.new.load c.table-item.result c.loop-i.invariant c.loop-i-test.true c.table-item.is c.in_ok-add_packet.ensures
