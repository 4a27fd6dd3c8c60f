use Rattle.std.proofs.Common.{◌≡◌, ◌++◌, string_bytes, take}
use Rattle.std.specs.List.{flat_map}
use Rattle.sw_cert.proofs.Written.{block_text}
use Rattle.sw_cert.proofs.write.add_lists.Given as goal

abbrev pub invariant-loop-places : goal.invariant-loop-places
invariant-loop-places l = string_bytes l.text ≡ string_bytes l.fn.text ++ flat_map block_text (take l.places-index l.flows)
