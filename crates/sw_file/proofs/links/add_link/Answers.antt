use Rattle.std.proofs.Common.{Ok, refl, sym, ap, ◌∙◌}
use Rattle.std.proofs.lemmas.Bool.{leb-true}
use Rattle.toml.specs.View.{table_view}
use Rattle.sw_file.proofs.Whole.{fits_two_bytes, link_is}
use Rattle.sw_file.proofs.links.add_link.Goals as goal

pub overflow_cast-buffer_a : goal.overflow_cast-buffer_a
overflow_cast-buffer_a c = fits_two_bytes c.in_ok-buffer_a.buffer_a 4096 c.in_ok-buffer_a.ensures.within.1 (leb-true 4096 65535 refl)

pub overflow_cast-buffer_b : goal.overflow_cast-buffer_b
overflow_cast-buffer_b c = fits_two_bytes c.in_ok-buffer_b.buffer_b 4096 c.in_ok-buffer_b.ensures.within.1 (leb-true 4096 65535 refl)

pub returns : goal.returns
returns c =
    link_is c.args.version c.args.index c.args.builder.now (table_view c.args.table.now) c.link_keys.result.now c.in_ok-only_known.field-0 c.in_ok-a.a c.in_ok-b.b c.in_ok-buffer.buffer c.in_ok-buffer_a.buffer_a c.in_ok-buffer_b.buffer_b
    c.link_keys.ensures c.in_ok-only_known.ensures c.in_ok-a.ensures.gives c.in_ok-b.ensures.gives c.in_ok-buffer.ensures.gives c.in_ok-buffer_a.ensures.gives c.in_ok-buffer_b.ensures.gives
    ∙ ap Ok (sym c.in_ok-add_link.ensures.ok)

pub number_or-requires-2-clause-low_default : goal.number_or-requires-2-clause-low_default
number_or-requires-2-clause-low_default c = c.in_ok-buffer.ensures.within.0

pub number_or-requires-2-clause-high_default : goal.number_or-requires-2-clause-high_default
number_or-requires-2-clause-high_default c = c.in_ok-buffer.ensures.within.1

pub number_or-requires-3-clause-low_default : goal.number_or-requires-3-clause-low_default
number_or-requires-3-clause-low_default c = c.in_ok-buffer.ensures.within.0

pub number_or-requires-3-clause-high_default : goal.number_or-requires-3-clause-high_default
number_or-requires-3-clause-high_default c = c.in_ok-buffer.ensures.within.1

pub add_link-requires-clause-a_inside : goal.add_link-requires-clause-a_inside
add_link-requires-clause-a_inside c = c.in_ok-a.ensures.inside

pub add_link-requires-clause-b_inside : goal.add_link-requires-clause-b_inside
add_link-requires-clause-b_inside c = c.in_ok-b.ensures.inside

pub add_link-requires-clause-low_a : goal.add_link-requires-clause-low_a
add_link-requires-clause-low_a c = c.in_ok-buffer_a.ensures.within.0

pub add_link-requires-clause-high_a : goal.add_link-requires-clause-high_a
add_link-requires-clause-high_a c = c.in_ok-buffer_a.ensures.within.1

pub add_link-requires-clause-low_b : goal.add_link-requires-clause-low_b
add_link-requires-clause-low_b c = c.in_ok-buffer_b.ensures.within.0

pub add_link-requires-clause-high_b : goal.add_link-requires-clause-high_b
add_link-requires-clause-high_b c = c.in_ok-buffer_b.ensures.within.1
