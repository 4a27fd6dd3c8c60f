use Rattle.std.proofs.Common.{◌≡◌, ◌<◌, ◌^◌, take}
use Rattle.sw_rmap.specs.Commands.{number_of}
use Rattle.sw_rmap.proofs.command.number.Given as goal

abbrev pub invariant-loop-byte : goal.invariant-loop-byte
invariant-loop-byte l = record { value : l.number ≡ number_of (take l.byte-index l.bytes); fits : l.number < 256 ^ l.byte-index }
