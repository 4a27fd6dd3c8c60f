use Rattle.std.proofs.Common.{arith, string_bytes}
use Rattle.sw_faults.specs.Shown.{shown_byte}
use Rattle.sw_faults.proofs.Brought.{added_more, all_added}
use Rattle.sw_faults.proofs.escaped.show.Goals as goal

pub loop-byte-preserved : goal.loop-byte-preserved
loop-byte-preserved c =
    added_more shown_byte c.args.bytes.now c.loop-byte.byte-index _ (string_bytes c.loop-byte.text) _ c.loop-byte-test.true c.loop-byte.invariant c.in_ok-add_shown.ensures

pub returns : goal.returns
returns c = all_added shown_byte c.args.bytes.now c.loop-byte.byte-index (string_bytes c.loop-byte.text) (omega (arith, c.loop-byte-test.false)) c.loop-byte.invariant
