-- The members that are done, and what is free to be done next.
use Rattle.std.specs.Prelude.{◌≡◌, ℕ, suc, ◌+◌, ◌<◌, ◌≤◌, ◌⊎◌, ◌↔◌, All, Bool, Contains, false, List, length, slice_index, slice_index_or, true, Vec}
use Rattle.std.specs.declared.alloc.Global.{Global}
use Rattle.sw_graph.specs.Rows.{Precedes, row}

-- is the mark of that number set?
abbrev pub is_marked : List Bool → ℕ → Bool
is_marked marks c = slice_index_or marks c false

-- each of the members is done
abbrev pub AllDone : List Bool → List ℕ → Type 0
AllDone done members = All (λ c. is_marked done c ≡ true) members

-- `free` has those of `left` of which all predecessors are done
abbrev pub AreFree : List (Vec ℕ Global) → List Bool → List ℕ → List ℕ → Type 0
AreFree predecessors done left free = (c : ℕ) → Contains free c ↔ (Contains left c × AllDone done (row predecessors c))

-- the members got the round as their level, and are done; the others stay as they were
pub record AreTaken (round : ℕ) (members levels levels2 : List ℕ) (done done2 : List Bool) : Type 0 where
  pub taken : (c : ℕ) → Contains members c → (slice_index levels2 c ≡ round) × (is_marked done2 c ≡ true)
  pub others : (c : ℕ) → (Contains members c → ⊥) → (slice_index levels2 c ≡ slice_index levels c) × (is_marked done2 c ≡ is_marked done c)

-- Before a round: the members of lower level are done, the others are left, and each of these has a predecessor that is left or was
-- done in the round before.
pub record AreRounds (predecessors : List (Vec ℕ Global)) (round : ℕ) (levels : List ℕ) (done : List Bool) (left : List ℕ) : Type 0 where
  pub numbered : length levels ≡ length predecessors
  pub marked : length done ≡ length predecessors
  pub low : round + length left ≤ length predecessors
  pub listed : (d : ℕ) → d < length predecessors → is_marked done d ≡ false → Contains left d
  pub undone : (d : ℕ) → Contains left d → (d < length predecessors) × (is_marked done d ≡ false)
  pub rising : (c d : ℕ) → is_marked done d ≡ true → Precedes predecessors c d → (is_marked done c ≡ true) × (slice_index levels c < slice_index levels d)
  pub reached : (d v : ℕ) → is_marked done d ≡ true → slice_index levels d ≡ suc v → (c : ℕ) × (is_marked done c ≡ true) × Precedes predecessors c d × (slice_index levels c ≡ v)
  pub below : (d : ℕ) → is_marked done d ≡ true → slice_index levels d < round
  pub late : (d v : ℕ) → Contains left d → round ≡ suc v → (c : ℕ) × Precedes predecessors c d × ((is_marked done c ≡ false) ⊎ ((is_marked done c ≡ true) × (slice_index levels c ≡ v)))

-- Done members have all their predecessors done, at lower levels and one just below; of the others each has a predecessor that is not.
pub record IsPeeled (predecessors : List (Vec ℕ Global)) (levels : List ℕ) (done : List Bool) : Type 0 where
  pub numbered : length levels ≡ length predecessors
  pub marked : length done ≡ length predecessors
  pub rising : (c d : ℕ) → is_marked done d ≡ true → Precedes predecessors c d → (is_marked done c ≡ true) × (slice_index levels c < slice_index levels d)
  pub reached : (d v : ℕ) → is_marked done d ≡ true → slice_index levels d ≡ suc v → (c : ℕ) × (is_marked done c ≡ true) × Precedes predecessors c d × (slice_index levels c ≡ v)
  pub tangled : (d : ℕ) → d < length predecessors → is_marked done d ≡ false → (c : ℕ) × (is_marked done c ≡ false) × Precedes predecessors c d
