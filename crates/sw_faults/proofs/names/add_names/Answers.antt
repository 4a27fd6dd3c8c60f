use Rattle.std.proofs.Common.{◌∙◌, [], ◌∷◌, ap, map, option_to_list}
use Rattle.std.proofs.lemmas.List.{map_push}
use Rattle.toml.specs.View.{table_view}
use Rattle.sw_text.specs.declared.keys.Key.TheVariants.{Name}
use Rattle.sw_faults.specs.Entries.{tables_of, text_in}
use Rattle.sw_faults.proofs.Brought.{all_brought, brought_more, brought_none}
use Rattle.sw_faults.proofs.names.add_names.Goals as goal

pub loop-table-preserved : goal.loop-table-preserved
loop-table-preserved c =
    brought_more (λ t. table_view t.now) (λ t. option_to_list (text_in Name t)) c.deref-table-items.result.now c.loop-table.table-index c.table-item.result
    (map (λ t. t.now) c.args.names.now.items) (map (λ t. t.now) c.loop-table.names.items) _ (c.in-Some.name.now ∷ []) c.loop-table-test.true c.table-item.is
    (ap option_to_list c.in-Some.ensures) c.loop-table.invariant (ap (map (λ t. t.now)) c.in_ok-push.ensures.items ∙ map_push (λ t. t.now) c.loop-table.names.items c.in-Some.name)

pub loop-table-preserved-in_default : goal.loop-table-preserved-in_default
loop-table-preserved-in_default c =
    brought_none (λ t. table_view t.now) (λ t. option_to_list (text_in Name t)) c.deref-table-items.result.now c.loop-table.table-index c.table-item.result
    (map (λ t. t.now) c.args.names.now.items) (map (λ t. t.now) c.loop-table.names.items) c.loop-table-test.true c.table-item.is
    (ap option_to_list c.in_default.ensures) c.loop-table.invariant

pub returns : goal.returns
returns c =
    all_brought (λ t. table_view t.now) (λ t. option_to_list (text_in Name t)) c.deref-table-items.result.now (tables_of c.args.list (table_view c.args.document.now))
    c.loop-table.table-index (map (λ t. t.now) c.args.names.now.items) (map (λ t. t.now) c.loop-table.names.items) c.loop-table-test.false
    (ap (map (λ t. table_view t.now)) c.deref-table-items.ensures.value ∙ c.in_ok-tables.ensures) c.loop-table.invariant
