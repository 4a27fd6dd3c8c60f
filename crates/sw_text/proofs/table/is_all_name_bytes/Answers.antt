use Rattle.sw_text.proofs.Tests.{byte_passes, byte_fails, bytes_pass}
use Rattle.sw_text.proofs.table.is_all_name_bytes.Goals as goal

pub returns-then-not-is_name_byte : goal.returns-then-not-is_name_byte
returns-then-not-is_name_byte c =
    byte_fails c.args.text.now c.as_bytes-byte-items.result.now c.as_bytes-byte-items.ensures.value c.loop-byte.byte-index _ c.is_name_byte.result c.loop-byte-test.true c.is_name_byte.ensures c.if-not-is_name_byte.true

pub loop-byte-preserved : goal.loop-byte-preserved
loop-byte-preserved c =
    byte_passes c.args.text.now c.as_bytes-byte-items.result.now c.as_bytes-byte-items.ensures.value c.loop-byte.byte-index _ c.is_name_byte.result c.loop-byte-test.true c.is_name_byte.ensures c.loop-byte.invariant c.if-not-is_name_byte.false

pub returns : goal.returns
returns c = bytes_pass c.args.text.now c.as_bytes-byte-items.result.now c.as_bytes-byte-items.ensures.value c.loop-byte.byte-index c.loop-byte-test.false c.loop-byte.invariant
