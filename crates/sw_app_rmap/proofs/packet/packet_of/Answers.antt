use Rattle.std.proofs.Common.{◌∙◌, ap, false}
use Rattle.std.specs.Option.{option_map_or}
use Rattle.sw_config.specs.Limits.{is_limited}
use Rattle.sw_app_rmap.specs.Orders.{order_view}
use Rattle.sw_app_rmap.proofs.Bounds.{is_small}
use Rattle.sw_app_rmap.proofs.Parts.{cargo_refused, handed_on, is_packet, order_refused}
use Rattle.sw_app_rmap.proofs.packet.packet_of.Goals as goal

pub cargo_of-requires-clause-limited : goal.cargo_of-requires-clause-limited
cargo_of-requires-clause-limited c =
    c.is_limited.ensures ∙ ap (λ o. option_map_or (is_limited c.args.network.now.nodes) o false) c.flow-flow.ensures.flow

pub cargo_of-requires-clause-small : goal.cargo_of-requires-clause-small
cargo_of-requires-clause-small c = is_small c.args.request.now (order_view c.in_ok-order.order) c.in_ok-order.ensures

pub returns-in_err-order : goal.returns-in_err-order
returns-in_err-order c =
    handed_on c.from_residual.result c.in_err-order.field-0.0 _ c.from_residual.ensures
    (order_refused c.args.network.now c.args.request.now c.in-Some.number c.flow-flow.result.now c.in-Some.ensures.number c.in-Some.ensures.within c.flow-flow.ensures.flow c.in_err-order.field-0.0 c.in_err-order.ensures)

pub returns-in_err-cargo : goal.returns-in_err-cargo
returns-in_err-cargo c =
    handed_on c.from_residual-in_err-cargo.result c.in_err-cargo.field-0.0 _ c.from_residual-in_err-cargo.ensures
    (cargo_refused c.args.network.now c.args.request.now c.in-Some.number c.flow-flow.result.now c.in-Some.ensures.number c.in-Some.ensures.within c.flow-flow.ensures.flow c.in_err-cargo.field-0.0
    (order_view c.in_ok-order.order) c.in_ok-order.ensures c.in_err-cargo.ensures)

pub returns : goal.returns
returns c =
    is_packet c.args.network.now c.args.request.now c.in-Some.number c.flow-flow.result.now c.in-Some.ensures.number c.in-Some.ensures.within c.flow-flow.ensures.flow (order_view c.in_ok-order.order) c.in_ok-cargo.cargo.items
    c.in_ok-order.ensures c.in_ok-cargo.ensures
