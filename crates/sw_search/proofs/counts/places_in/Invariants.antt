use Rattle.std.proofs.Common.{◌≡◌, ◌≤◌, ◌*◌, All, length, map, take}
use Rattle.std.specs.Prelude.{sum}
use Rattle.sw_search.proofs.counts.places_in.Given as goal

abbrev pub invariant-loop-list : goal.invariant-loop-list
invariant-loop-list l = record {
  counted : l.count ≡ sum (map (λ v. length v.items) (take l.list-index l.lists));
  small : l.count ≤ 67584 * l.list-index;
  few : length l.lists ≤ 8192;
  short : All (λ v. length v.items ≤ 67584) l.lists;
}
