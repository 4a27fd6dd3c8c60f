use Rattle.std.proofs.Common.{None, find, take, ◌≡◌}
use Rattle.std.specs.Prelude.{nat_eq}
use Rattle.sw_journal.proofs.cell.Cell.numbers.Given as goal

abbrev pub invariant-loop-own : goal.invariant-loop-own
invariant-loop-own l = find (λ p. nat_eq p.0 l.end) (take l.own-index l.self.ends) ≡ None
