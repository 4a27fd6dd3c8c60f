use Rattle.std.proofs.Common.{◌≡◌, ◌∙◌, option_map}
use Rattle.std.proofs.lemmas.Result.{IfOk-weaker}
use Rattle.sw_app_rmap.specs.FlowCommands.{bytes_to}
use Rattle.sw_app_rmap.specs.Orders.{order_view}
use Rattle.sw_app_rmap.proofs.Built.{bytes_are}
use Rattle.sw_app_rmap.proofs.flow_command.bytes_to.Goals as goal

pub returns : goal.returns
returns c =
    let reply = option_map (λ r. r.now) c.args.reply in
    let made = rw c.unwrap-command.ensures at c.new.ensures in
    IfOk-weaker c.write_command.result _ (λ v. v.items ≡ bytes_to c.args.target reply (order_view c.args.order.now))
    (λ v is.
    is
    ∙ bytes_are c.args.target reply (order_view c.args.order.now) c.is_write.result c.wants_reply.result c.units.result c.byte.result c.initiator_of.result c.length.result c.path_back-path.result.now c.deref.result.now
    c.data.result.now c.unwrap-command.result c.path_back-path.ensures (c.deref.ensures.value ∙ c.in_ok-reply_address.ensures) c.is_write.ensures c.wants_reply.ensures c.units.ensures.value (c.byte.ensures ∙ c.incrementing-instruction.ensures)
    c.initiator_of.ensures c.length.ensures made.1 c.data.ensures)
    c.write_command.ensures
