use Rattle.std.proofs.Common.{◌≡◌, take}
use Rattle.sw_load.specs.Cargo.{without_spaces}
use Rattle.sw_load.proofs.reading.cargo_at.Given as goal

abbrev pub invariant-loop-c : goal.invariant-loop-c
invariant-loop-c l = l.bare.items ≡ without_spaces (take l.c-index l.spelled)
