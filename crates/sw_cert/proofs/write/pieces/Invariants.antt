use Rattle.std.proofs.Common.{◌≡◌, length}
use Rattle.sw_cert.specs.Pieces.{ArePieces}
use Rattle.sw_cert.proofs.write.pieces.Given as goal

abbrev pub invariant-loop-number : goal.invariant-loop-number
invariant-loop-number l = (length l.pieces.items ≡ l.number-counter) × ArePieces l.before l.after l.pieces.items
