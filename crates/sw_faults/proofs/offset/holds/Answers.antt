use Rattle.std.proofs.Common.{option_map, take}
use Rattle.std.proofs.lemmas.Result.{IfOk-weaker}
use Rattle.sw_faults.proofs.Pieces.{one_closes, reads_closed}
use Rattle.sw_faults.proofs.offset.holds.Goals as goal

pub loop-frame-preserved : goal.loop-frame-preserved
loop-frame-preserved c =
    one_closes (take c.args.offset c.args.text.now) c.loop-frame.closed.items c.push.new.self.items c.closing_byte.result c.loop-frame.invariant
    c.in_ok-push.ensures.items c.closing_byte.ensures

pub returns : goal.returns
returns c =
    IfOk-weaker c.reads.result _ _ (λ b told so. reads_closed c.args.held c.args.sought.now.section (option_map (λ s. s.now) c.args.sought.now.key)
    (take c.args.offset c.args.text.now) c.loop-frame.closed.items c.deref.result.now c.loop-frame.invariant c.deref.ensures.value (told so)) c.reads.ensures
