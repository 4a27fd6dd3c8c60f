use Rattle.std.proofs.Common.{arith}
use Rattle.toml.specs.View.{table_view}
use Rattle.sw_topo.specs.declared.limits.TheConstants.{MAX_FLOWS}
use Rattle.sw_text.specs.declared.fault.KeyFault.TheVariants.{OutOfRange}
use Rattle.sw_text.specs.declared.keys.Section.TheVariants as section
use Rattle.sw_text.specs.declared.fault.TextFault.TheVariants as fault
use Rattle.sw_text.specs.declared.keys.Key.TheVariants.{Flow}
use Rattle.sw_text.proofs.Walks.{walk_more}
use Rattle.sw_file.specs.FlowTables.{next_flow}
use Rattle.sw_file.specs.Network.{entries, with_flows}
use Rattle.sw_file.proofs.Listed.{list_fails, list_done}
use Rattle.sw_file.proofs.document.read_flows.Goals as goal

pub returns-in_err-add_flow : goal.returns-in_err-add_flow
unfolding with_flows
returns-in_err-add_flow c =
    list_fails (next_flow c.args.version) (λ t. table_view t.now) (entries Flow MAX_FLOWS (fault.Key OutOfRange section.Document Flow) (table_view c.args.document.now.table.now)) c.in_ok-tables.tables.items c.deref-table-items.result.now c.in_ok-tables.ensures.gives c.deref-table-items.ensures.value
    (λ _. c.add_flow.new.network) c.args.network.now c.loop-i.i c.loop-i.network c.table-item.result c.in_err-add_flow.field-0.0 c.from_residual-in_err-add_flow.result c.from_residual-in_err-add_flow.ensures.1 c.loop-i.invariant.so_far c.loop-i-test.true c.table-item.is c.in_err-add_flow.ensures.gives

pub loop-i-preserved : goal.loop-i-preserved
loop-i-preserved c =
    record {
      so_far = walk_more (next_flow c.args.version) (λ t. table_view t.now) c.args.network.now c.deref-table-items.result.now c.loop-i.i c.loop-i.network c.add_flow.new.network c.table-item.result c.loop-i.invariant.so_far c.loop-i-test.true c.table-item.is c.in_ok-add_flow.ensures.gives;
      count = omega (arith, c.loop-i.invariant.count, c.in_ok-add_flow.ensures.one_more);
    }

pub returns : goal.returns
unfolding with_flows
returns c =
    list_done (next_flow c.args.version) (λ t. table_view t.now) (entries Flow MAX_FLOWS (fault.Key OutOfRange section.Document Flow) (table_view c.args.document.now.table.now)) c.in_ok-tables.tables.items c.deref-table-items.result.now c.in_ok-tables.ensures.gives c.deref-table-items.ensures.value
    c.args.network.now c.loop-i.i c.loop-i.network c.loop-i.invariant.so_far c.loop-i-test.false
