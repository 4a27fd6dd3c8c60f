use Rattle.std.proofs.Common.{◌≡◌, ◌++◌, string_bytes, take, length}
use Rattle.std.specs.Prelude.{codes}
use Rattle.std.specs.List.{flat_map}
use Rattle.std.specs.Fmt.{decimal}
use Rattle.sw_cert.specs.Grammar.{with_lf, place_line}
use Rattle.sw_cert.proofs.write.add_block.Given as goal

abbrev pub invariant-loop-place : goal.invariant-loop-place
invariant-loop-place l = string_bytes l.text ≡ string_bytes l.fn.text ++ (with_lf (codes "flow " ++ decimal (length l.places)) ++ flat_map (λ p. with_lf (place_line p)) (take l.place-index l.places))
