use Rattle.std.proofs.Common.{◌≡◌, map, string_bytes, take}
use Rattle.sw_json_verdicts.specs.Names.{plain_byte}
use Rattle.sw_json_verdicts.proofs.names.plain_name.Given as goal

abbrev pub invariant-loop-byte : goal.invariant-loop-byte
invariant-loop-byte l = string_bytes l.text ≡ map plain_byte (take l.byte-index l.byte-items)
