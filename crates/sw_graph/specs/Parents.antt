-- From where a walk found its numbers.
use Rattle.std.specs.Prelude.{◌≡◌, ℕ, ◌<◌, List, length, slice_index, Contains}

-- each number behind the first has a parent, at an earlier place of the list, and a step leads from that to it
pub record AreParents (next : ℕ → List ℕ) (numbers parents : List ℕ) : Type 0 where
  pub one_each : length parents ≡ length numbers
  pub earlier : (k : ℕ) → 0 < k → k < length numbers → slice_index parents k < k
  pub leads : (k : ℕ) → 0 < k → k < length numbers → Contains (next (slice_index numbers (slice_index parents k))) (slice_index numbers k)
