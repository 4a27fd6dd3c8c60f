use Rattle.std.proofs.Common.{refl}
use Rattle.std.proofs.lemmas.Bool.{leb-true}
use Rattle.toml.specs.View.{table_view}
use Rattle.sw_file.proofs.Whole.{fits_byte, fits_window, fits_size, size_is, config_is, config_refused, target_is, target_refused}
use Rattle.sw_file.proofs.Valid.{slots_within, fits_slots}
use Rattle.sw_file.proofs.nodes.target_or_none.Goals as goal

pub overflow_cast-logical : goal.overflow_cast-logical
overflow_cast-logical c = fits_byte c.in_ok-logical.field-0 254 c.in_ok-logical.ensures.within.1 (leb-true 254 255 refl)

pub overflow_cast-key : goal.overflow_cast-key
overflow_cast-key c = fits_byte c.in_ok-key.field-0 255 c.in_ok-key.ensures.within.1 (leb-true 255 255 refl)

pub overflow_cast-slots : goal.overflow_cast-slots
overflow_cast-slots c = fits_slots c.args.version c.most_slots.result c.in_ok-slots.field-0 c.most_slots.ensures c.in_ok-slots.ensures.within.1

pub returns-clause-gives : goal.returns-clause-gives
returns-clause-gives c =
    target_is c.args.version c.args.index c.args.node.now.section (table_view c.args.node.now.table.now) (table_view c.in-Some.table.now) _ c.requires (rw c.in-Some.is at c.in_ok-table.ensures)
    (config_is c.args.version c.args.index (table_view c.in-Some.table.now) c.target_keys.result.now c.in_ok-only_known.field-0 c.in_ok-logical.field-0 c.in_ok-key.field-0 c.in_ok-start.start c.in_ok-size.size c.most_slots.result c.in_ok-slots.field-0
    c.target_keys.ensures c.most_slots.ensures c.in_ok-only_known.ensures c.in_ok-logical.ensures.gives c.in_ok-key.ensures.gives c.in_ok-start.ensures.gives (size_is c.args.index c.in_ok-start.start c.in_ok-size.size (table_view c.in-Some.table.now) c.in_ok-size.ensures.gives c.if-start-size-gt-MEMORY_END.false) c.in_ok-slots.ensures.gives)

pub returns-clause-valid : goal.returns-clause-valid
returns-clause-valid c =
    let logical = c.in_ok-logical.ensures.within in
    let size = c.in_ok-size.ensures.within in
    let slots = c.in_ok-slots.ensures.within in
    record { low_logical = logical.0; high_logical = logical.1; low_size = size.0; high_size = size.1; window = c.if-start-size-gt-MEMORY_END.false; low_slots = slots.0; high_slots = slots_within c.args.version c.most_slots.result c.in_ok-slots.field-0 c.most_slots.ensures slots.1 }

pub overflow_add-start : goal.overflow_add-start
overflow_add-start c = fits_window c.in_ok-start.start c.in_ok-size.size c.in_ok-start.ensures.within.1 c.in_ok-size.ensures.within.1

pub overflow_cast-result : goal.overflow_cast-result
overflow_cast-result c = fits_size c.in_ok-size.size c.in_ok-size.ensures.within.1

pub returns-then-start-size-gt-MEMORY_END-clause-gives : goal.returns-then-start-size-gt-MEMORY_END-clause-gives
returns-then-start-size-gt-MEMORY_END-clause-gives c =
    rw c.fault.ensures (target_refused c.args.version c.args.index c.args.node.now.section (table_view c.args.node.now.table.now) (table_view c.in-Some.table.now) _ c.requires (rw c.in-Some.is at c.in_ok-table.ensures)
    (config_refused c.args.version c.args.index (table_view c.in-Some.table.now) c.target_keys.result.now c.in_ok-only_known.field-0 c.in_ok-logical.field-0 c.in_ok-key.field-0 c.in_ok-start.start c.in_ok-size.size
    c.target_keys.ensures c.in_ok-only_known.ensures c.in_ok-logical.ensures.gives c.in_ok-key.ensures.gives c.in_ok-start.ensures.gives c.in_ok-size.ensures.gives c.if-start-size-gt-MEMORY_END.true))
