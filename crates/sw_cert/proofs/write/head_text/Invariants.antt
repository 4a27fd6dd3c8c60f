use Rattle.std.proofs.Common.{◌≡◌, ◌++◌, string_bytes, take, length}
use Rattle.std.specs.Prelude.{codes}
use Rattle.std.specs.List.{flat_map}
use Rattle.std.specs.Fmt.{decimal}
use Rattle.sw_cert.specs.Grammar.{with_lf}
use Rattle.sw_cert.proofs.Written.{first_lines}
use Rattle.sw_cert.proofs.write.head_text.Given as goal

abbrev pub invariant-loop-number : goal.invariant-loop-number
invariant-loop-number l = string_bytes l.text ≡ first_lines (length l.numbers) ++ flat_map (λ v. with_lf (codes "number " ++ decimal v)) (take l.number-index l.numbers)
