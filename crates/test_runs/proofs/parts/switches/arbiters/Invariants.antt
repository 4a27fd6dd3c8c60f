use Rattle.std.proofs.Common.{◌≡◌, ℕ, ◌<◌, length, vec_len}
use Rattle.std.specs.Prelude.{slice_get}
use Rattle.sw_switch.specs.Cell.{HasArbiter}
use Rattle.test_runs.proofs.parts.switches.arbiters.Given as goal

abbrev pub invariant-loop : goal.invariant-loop
invariant-loop l = record {
  many : vec_len l.all ≡ l.counter;
  whole : length l.all.items ≡ l.counter;
  each : (port : ℕ) → port < length l.all.items → HasArbiter (λ arbiter. arbiter.ports) l.ports (slice_get l.all.items port);
}
