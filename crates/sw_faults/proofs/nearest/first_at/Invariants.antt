use Rattle.std.proofs.Common.{◌≡◌, None, find, map, take}
use Rattle.sw_faults.specs.Nearest.{is_near}
use Rattle.sw_faults.proofs.nearest.first_at.Given as goal

abbrev pub invariant-loop-text : goal.invariant-loop-text
invariant-loop-text l = find (is_near l.name l.count) (map (λ t. t.now) (take l.text-index l.texts)) ≡ None
