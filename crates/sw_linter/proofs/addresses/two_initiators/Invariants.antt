use Rattle.std.proofs.Common.{◌≡◌, None}
use Rattle.std.specs.List.{range_with_len}
use Rattle.sw_linter.specs.Lints.{differing, first_made}
use Rattle.sw_linter.proofs.addresses.two_initiators.Given as goal

abbrev pub invariant-loop-earlier : goal.invariant-loop-earlier
invariant-loop-earlier l = first_made (differing l.network l.number l.flow l.initiator) (range_with_len 0 l.earlier) ≡ None
