use Rattle.std.proofs.Common.{arith}
use Rattle.sw_machine.proofs.Headers.{length-path-le, length-reply_address-le}
use Rattle.sw_machine.proofs.reply.path_length.Goals as goal

pub overflow_cast-result : goal.overflow_cast-result
overflow_cast-result c =
    let bytes = length-path-le c.args.command.now.reply_address in
    let few = length-reply_address-le c.args.command.now c.instruction-instruction.ensures.command in
    rw c.path.ensures (omega arith)

pub returns-clause-few : goal.returns-clause-few
returns-clause-few c =
    let bytes = length-path-le c.args.command.now.reply_address in
    let few = length-reply_address-le c.args.command.now c.instruction-instruction.ensures.command in
    rw c.path.ensures (omega arith)
