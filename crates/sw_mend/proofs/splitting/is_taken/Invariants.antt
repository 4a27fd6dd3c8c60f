use Rattle.std.proofs.Common.{◌≡◌, false, map, take}
use Rattle.std.specs.List.{list_any}
use Rattle.std.specs.Str.{bytes_eq}
use Rattle.sw_mend.proofs.splitting.is_taken.Given as goal

abbrev pub invariant-loop-switch : goal.invariant-loop-switch
invariant-loop-switch l = list_any (bytes_eq l.name) (take l.switch (map (λ s. s.name) l.network.switches)) ≡ false
