use Rattle.std.proofs.Common.{◌≡◌, drop}
use Rattle.std.specs.List.{list_all}
use Rattle.sw_cert.specs.Refusals.{is_in_range}
use Rattle.sw_cert.proofs.counts.are_all_in_range.Given as goal

abbrev pub invariant-loop-place : goal.invariant-loop-place
invariant-loop-place l = list_all (is_in_range l.network l.flow) (drop l.place-index l.listed) ≡ list_all (is_in_range l.network l.flow) l.listed
