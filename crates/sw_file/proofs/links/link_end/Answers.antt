use Rattle.std.proofs.Common.{length, ◌<◌, refl, subst}
use Rattle.std.proofs.lemmas.Bool.{leb-true}
use Rattle.toml.specs.View.{table_view}
use Rattle.sw_config.specs.Entries.{part_names}
use Rattle.sw_file.proofs.Whole.{fits_byte, fits_sum, fits_below, fits_rest, none_past, below_next, place_is, node_end_is, switch_end_is, within_switches}
use Rattle.sw_file.proofs.links.link_end.Goals as goal

pub returns-then-part-nodes-clause-gives : goal.returns-then-part-nodes-clause-gives
returns-then-part-nodes-clause-gives c =
    let at_part = place_is c.args.link.now.section c.args.key (part_names c.args.builder.now) (table_view c.args.link.now.table.now) c.in_ok-name.name.now c.in-Some.part c.in_ok-name.ensures c.in-Some.ensures.part in
    node_end_is c.args.link.now.section c.args.key c.args.port_key (length c.args.builder.now.nodes) (part_names c.args.builder.now) (table_view c.args.link.now.table.now) c.in-Some.part c.in_ok-refuse_known.field-0
    at_part (subst (λ n. c.in-Some.part < n) c.node_count-nodes.ensures.count c.if-part-nodes.true) c.in_ok-refuse_known.ensures

pub overflow_cast-number : goal.overflow_cast-number
overflow_cast-number c = fits_byte c.in_ok-number.number 31 c.in_ok-number.ensures.within.1 (leb-true 31 255 refl)

pub returns-clause-gives : goal.returns-clause-gives
returns-clause-gives c =
    let at_part = place_is c.args.link.now.section c.args.key (part_names c.args.builder.now) (table_view c.args.link.now.table.now) c.in_ok-name.name.now c.in-Some.part c.in_ok-name.ensures c.in-Some.ensures.part in
    switch_end_is c.args.link.now.section c.args.key c.args.port_key (length c.args.builder.now.nodes) c.node_count-nodes.result (part_names c.args.builder.now) (table_view c.args.link.now.table.now) c.in-Some.part c.in_ok-number.number c.unwrap-port.result c.new.result
    c.node_count-nodes.ensures.count at_part c.if-part-nodes.false c.in_ok-number.ensures.gives c.unwrap-port.ensures c.new.ensures.value

pub returns-then-part-nodes-clause-inside : goal.returns-then-part-nodes-clause-inside
returns-then-part-nodes-clause-inside c = subst (λ n. c.in-Some.part < n) c.node_count-nodes.ensures.count c.if-part-nodes.true

pub returns-clause-inside : goal.returns-clause-inside
returns-clause-inside c =
    within_switches c.in-Some.part c.node_count-nodes.result (length c.args.builder.now.nodes) (length c.args.builder.now.switches) c.unwrap-port.result c.new.result
    c.node_count-nodes.ensures.count c.if-part-nodes.false c.in-Some.ensures.within c.unwrap-port.ensures c.new.ensures.within

pub overflow_add-nodes : goal.overflow_add-nodes
overflow_add-nodes c = fits_sum c.node_count-nodes.result c.switch_count.result c.node_count-nodes.type_inv c.switch_count.type_inv

pub overflow_cast-result : goal.overflow_cast-result
overflow_cast-result c = fits_below c.in-Some.part c.node_count-nodes.result c.if-part-nodes.true c.node_count-nodes.type_inv

pub overflow_cast-result-2 : goal.overflow_cast-result-2
overflow_cast-result-2 c =
    fits_rest c.in-Some.part c.node_count-nodes.result c.switch_count.result (length c.args.builder.now.nodes) (length c.args.builder.now.switches) c.node_count-nodes.ensures.count c.switch_count.ensures.count c.in-Some.ensures.within c.switch_count.type_inv

pub prove-unreachable-requires : goal.prove-unreachable-requires
prove-unreachable-requires c =
    none_past c.in-Some.part c.node_count-nodes.result c.switch_count.result (length c.args.builder.now.nodes) (length c.args.builder.now.switches) c.node_count-nodes.ensures.count c.switch_count.ensures.count c.in-Some.ensures.within c.if-prove.true

pub unwrap-port-requires : goal.unwrap-port-requires
unwrap-port-requires c κs = c.new.ensures.valid.1 (below_next c.in_ok-number.number 31 c.in_ok-number.ensures.within.1) κs
