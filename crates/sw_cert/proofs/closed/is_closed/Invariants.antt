use Rattle.std.proofs.Common.{◌≡◌}
use Rattle.std.specs.List.{list_all}
use Rattle.sw_cert.specs.Refusals.{is_listed}
use Rattle.sw_cert.proofs.closed.is_closed.Given as goal

abbrev pub invariant-loop-place : goal.invariant-loop-place
invariant-loop-place l = list_all (is_listed l.listed) l.place-iterator ≡ list_all (is_listed l.listed) l.initial.place-iterator
