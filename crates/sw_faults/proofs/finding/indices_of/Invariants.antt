use Rattle.std.proofs.Common.{◌≡◌, map, take}
use Rattle.toml.specs.View.{table_view}
use Rattle.sw_faults.specs.Finding.{places_from}
use Rattle.sw_faults.specs.Passing.{passes}
use Rattle.sw_faults.proofs.finding.indices_of.Given as goal

abbrev pub invariant-loop-place : goal.invariant-loop-place
invariant-loop-place l = l.places.items ≡ places_from (passes l.test) 0 (map (λ t. table_view t.now) (take l.place l.table-items))
