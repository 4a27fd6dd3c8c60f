-- Ranks of ports: how many ports come before each.
use Rattle.std.specs.Prelude.{◌≡◌, ℕ, ◌-◌, ◌<◌, List, IsBitSet, count_ones, nat_lt, slice_index, if◌then◌else◌}

-- each port of the set ranks below the number of its ports
abbrev pub AreRanks : ℕ → List ℕ → Type 0
AreRanks ports ranks = (port : ℕ) → port < 32 → IsBitSet ports port → slice_index ranks port < count_ones ports

-- no two ports of the set have one rank
abbrev pub AreDistinct : ℕ → List ℕ → Type 0
AreDistinct ports ranks = (p q : ℕ) → p < 32 → q < 32 → IsBitSet ports p → IsBitSet ports q → slice_index ranks p ≡ slice_index ranks q → p ≡ q

-- a rank after a lower one was left
abbrev pub moved_down : ℕ → ℕ → ℕ
moved_down left rank = if nat_lt left rank then rank - 1 else rank
