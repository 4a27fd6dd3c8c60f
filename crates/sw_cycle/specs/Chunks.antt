-- The flows in 64 chunks of equal size, the last ones shorter or empty (this project's choice).
use Rattle.std.specs.Prelude.{IsTrue, ◌≡◌, ℕ, ◌+◌, ◌*◌, ◌/◌, ◌<◌, ◌⊎◌, ◌↔◌, min, List, length, slice_index, IsBitSet}
use Rattle.sw_config.specs.Entries.{Declaration, all_flows}
use Rattle.sw_cycle.specs.Named.{AreNamed, AreRouted}
use Rattle.sw_cycle.specs.declared.named.Named.{Named}

-- the number of the first flow of a chunk, and behind the last chunk the number of flows
abbrev pub chunk_start : ℕ → ℕ → ℕ
chunk_start flows chunk = min flows (chunk * (flows / 64 + 1))

-- the sets have the ports that the flows of the chunk name
abbrev pub IsChunk : Declaration → ℕ → List ℕ → Type 0
IsChunk d chunk sets = AreNamed d (chunk_start (length (all_flows d)) chunk) (chunk_start (length (all_flows d)) (chunk + 1)) sets

-- the ports that the flows of the chunk name, and whether these flows are well routed
abbrev pub IsNamedChunk : Declaration → ℕ → Named → Type 0
IsNamedChunk d chunk named =
    IsChunk d chunk named.sets.items × (IsTrue named.is_routed ↔ AreRouted d (chunk_start (length (all_flows d)) chunk) (chunk_start (length (all_flows d)) (chunk + 1)))

-- the ports of the first `count` sets of the part are added to the sets of the same channels
pub record AreJoined (part : List ℕ) (count : ℕ) (sets sets2 : List ℕ) : Type 0 where
  pub size : length sets2 ≡ length sets
  pub ports : (c p : ℕ) → IsBitSet (slice_index sets2 c) p ↔ (IsBitSet (slice_index sets c) p ⊎ ((c < count) × IsBitSet (slice_index part c) p))
