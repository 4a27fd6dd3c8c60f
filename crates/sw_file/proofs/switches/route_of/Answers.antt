use Rattle.std.proofs.Common.{refl}
use Rattle.std.proofs.lemmas.Bool.{leb-true}
use Rattle.toml.specs.View.{table_view}
use Rattle.sw_file.proofs.Whole.{fits_byte, route_is}
use Rattle.sw_file.proofs.switches.route_of.Goals as goal

pub overflow_cast-result : goal.overflow_cast-result
overflow_cast-result c = fits_byte c.in_ok-first.first 254 c.in_ok-first.ensures.within.1 (leb-true 254 255 refl)

pub overflow_cast-result-2 : goal.overflow_cast-result-2
overflow_cast-result-2 c = fits_byte c.in_ok-last.last 254 c.in_ok-last.ensures.within.1 (leb-true 254 255 refl)

pub returns-clause-gives : goal.returns-clause-gives
returns-clause-gives c =
    route_is c.args.version c.args.route.now.section (table_view c.args.route.now.table.now) c.route_keys.result.now c.in_ok-only_known.field-0 c.in_ok-first.first c.in_ok-last.last c.in_ok-ports.ports c.in_ok-delete.delete
    c.route_keys.ensures c.in_ok-only_known.ensures c.in_ok-first.ensures.gives c.in_ok-last.ensures.gives c.in_ok-ports.ensures c.in_ok-delete.ensures

pub returns-clause-valid : goal.returns-clause-valid
returns-clause-valid c =
    let last = c.in_ok-last.ensures.within in
    record { first = c.in_ok-first.ensures.within.0; rising = last.0; last = last.1 }
