use Rattle.std.proofs.Common.{◌≡◌, None, find, map, take}
use Rattle.std.specs.Str.{str_eq_ignore_ascii_case}
use Rattle.sw_faults.proofs.nearest.like.Given as goal

abbrev pub invariant-loop-text : goal.invariant-loop-text
invariant-loop-text l = find (λ t. str_eq_ignore_ascii_case t l.name) (map (λ t. t.now) (take l.text-index l.texts)) ≡ None
