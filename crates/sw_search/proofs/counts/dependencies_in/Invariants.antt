use Rattle.std.proofs.Common.{◌≡◌, ◌≤◌, ◌*◌, All, length, map, take}
use Rattle.std.specs.Prelude.{sum}
use Rattle.sw_search.proofs.counts.dependencies_in.Given as goal

abbrev pub invariant-loop-row : goal.invariant-loop-row
invariant-loop-row l = record {
  counted : l.count ≡ sum (map (λ v. length v.items) (take l.row-index l.rows));
  small : l.count ≤ 2048 * l.row-index;
  few : length l.rows ≤ 2048;
  short : All (λ v. length v.items ≤ 2048) l.rows;
}
