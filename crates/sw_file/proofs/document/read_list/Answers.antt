use Rattle.toml.specs.View.{table_view}
use Rattle.sw_topo.specs.declared.fault.TopoFault.TheVariants.{TooMany}
use Rattle.sw_text.specs.declared.fault.TextFault.TheVariants as fault
use Rattle.sw_text.proofs.Walks.{walk_more}
use Rattle.sw_file.specs.Lists.{list_key, most_parts, next_part}
use Rattle.sw_file.specs.Network.{entries}
use Rattle.sw_file.proofs.Listed.{list_fails, list_done, read_so}
use Rattle.sw_file.proofs.document.read_list.Goals as goal

pub returns-in_err-add_part-clause-gives : goal.returns-in_err-add_part-clause-gives
returns-in_err-add_part-clause-gives c =
    list_fails (next_part c.args.limit c.args.version) (λ t. table_view t.now) (entries (list_key c.args.limit) (most_parts c.args.limit) (fault.Topology (TooMany c.args.limit)) (table_view c.args.document.now.table.now)) c.in_ok-tables.tables.items c.deref-table-items.result.now
    (read_so c.args.limit c.key_and_most-key.result.0 c.key_and_most-key.result.1 (table_view c.args.document.now.table.now) _ c.key_and_most-key.ensures.key c.key_and_most-key.ensures.most c.in_ok-tables.ensures.gives) c.deref-table-items.ensures.value
    (λ _. c.add_part.new.builder) c.args.builder.now c.loop-i.i c.loop-i.builder c.table-item.result c.in_err-add_part.field-0.0 c.from_residual-in_err-add_part.result c.from_residual-in_err-add_part.ensures.1 c.loop-i.invariant.so_far c.loop-i-test.true c.table-item.is c.in_err-add_part.ensures.gives

pub loop-i-preserved : goal.loop-i-preserved
loop-i-preserved c =
    record {
      so_far = walk_more (next_part c.args.limit c.args.version) (λ t. table_view t.now) c.args.builder.now c.deref-table-items.result.now c.loop-i.i c.loop-i.builder c.add_part.new.builder c.table-item.result c.loop-i.invariant.so_far c.loop-i-test.true c.table-item.is c.in_ok-add_part.ensures.gives;
      parts = c.in_ok-add_part.ensures.one_more;
    }

pub returns-clause-gives : goal.returns-clause-gives
returns-clause-gives c =
    list_done (next_part c.args.limit c.args.version) (λ t. table_view t.now) (entries (list_key c.args.limit) (most_parts c.args.limit) (fault.Topology (TooMany c.args.limit)) (table_view c.args.document.now.table.now)) c.in_ok-tables.tables.items c.deref-table-items.result.now
    (read_so c.args.limit c.key_and_most-key.result.0 c.key_and_most-key.result.1 (table_view c.args.document.now.table.now) _ c.key_and_most-key.ensures.key c.key_and_most-key.ensures.most c.in_ok-tables.ensures.gives) c.deref-table-items.ensures.value
    c.args.builder.now c.loop-i.i c.loop-i.builder c.loop-i.invariant.so_far c.loop-i-test.false

pub returns-clause-parts : goal.returns-clause-parts
returns-clause-parts c = (c.loop-i.i, c.loop-i.invariant.parts)
