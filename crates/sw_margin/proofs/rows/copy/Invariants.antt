use Rattle.std.proofs.Common.{◌≡◌, ℕ, map, take}
use Rattle.std.specs.Prelude.{Vec}
use Rattle.std.specs.declared.alloc.Global.{Global}
use Rattle.sw_margin.proofs.rows.copy.Given as goal

abbrev pub invariant-loop-row : goal.invariant-loop-row
invariant-loop-row l = map (λ (v : Vec ℕ Global). v.items) l.copy.items ≡ map (λ (v : Vec ℕ Global). v.items) (take l.row-index l.rows)
