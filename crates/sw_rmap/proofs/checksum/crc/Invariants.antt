use Rattle.std.proofs.Common.{◌≡◌, take}
use Rattle.sw_rmap.specs.Crc.{crc_of}
use Rattle.sw_rmap.proofs.checksum.crc.Given as goal

abbrev pub invariant-loop-byte : goal.invariant-loop-byte
invariant-loop-byte l = l.crc ≡ crc_of (take l.byte-index l.bytes)
