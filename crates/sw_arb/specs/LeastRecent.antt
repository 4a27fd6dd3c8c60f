-- Least recent: the asking port whose last pick is longest ago.
use Rattle.std.specs.Prelude.{IsBitSet, count_ones, slice_index, if◌then◌else◌}
use Rattle.std.proofs.Common.{◌≡◌, ◌≢◌, ◌⊎◌, ℕ, ◌+◌, ◌-◌, ◌<◌, ◌≤◌, ◌==◌, List, [], ◌∷◌, length, sym, arith}
use Rattle.std.proofs.lemmas.Bool.{lt-ltb}
use Rattle.sw_arb.specs.Arbiters.{IsWithin}
use Rattle.sw_arb.specs.Ranks.{moved_down}
use Rattle.sw_arb.specs.PortCounts.{ports_below}
use Rattle.sw_arb.specs.declared.least_recent.LeastRecent.{LeastRecent}

-- how many of the arbiter's ports were last picked before the port was
abbrev pub rank : LeastRecent → ℕ → ℕ
rank a port = slice_index a.ranks port

-- no asking port ranks below the one that is picked, which then ranks last; those that ranked above it move down by one
pub record LeastRecentPicks (a : LeastRecent) (asking pick : ℕ) (b : LeastRecent) : Type 0 where
  pub is_port : pick < 32
  pub asks : IsBitSet asking pick
  pub longest : (port : ℕ) → port < 32 → IsBitSet asking port → rank a pick ≤ rank a port
  pub ports : b.ports ≡ a.ports
  pub last : rank b pick ≡ count_ones a.ports - 1
  pub others : (port : ℕ) → port < 32 → port ≢ pick → rank b port ≡ moved_down (rank a pick) (rank a port)

pub least_recent_picks_asking : (a b : LeastRecent) (asking pick : ℕ) → LeastRecentPicks a asking pick b → IsBitSet asking pick
least_recent_picks_asking a b asking pick p = p.asks

pub least_recent_keeps_ports : (a b : LeastRecent) (asking pick : ℕ) → LeastRecentPicks a asking pick b → b.ports ≡ a.ports
least_recent_keeps_ports a b asking pick p = p.ports

pub least_recent_below : (a : LeastRecent) (port : ℕ) → port < 32 → IsBitSet a.ports port → rank a port < count_ones a.ports
least_recent_below a port within member = a.below port within member

pub least_recent_falls : (a b : LeastRecent) (asking pick port : ℕ) → LeastRecentPicks a asking pick b → IsWithin asking a.ports → port < 32 → IsBitSet asking port → pick ≢ port → rank b port < rank a port
least_recent_falls a b asking pick port p within is_port asks other =
    let low : rank a pick ≤ rank a port = p.longest port is_port asks in
    let apart : rank a pick ≢ rank a port = λ e. other (a.distinct pick port p.is_port is_port (within pick p.asks) (within port asks) e) in
    let above : rank a pick < rank a port = omega arith in
    let turned : port ≢ pick = λ e. other (sym e) in
    rw (p.others port is_port turned, lt-ltb (rank a pick) (rank a port) above) (omega arith)

-- when the port was last picked: how many picks there were by then, that one counted, or 0 if it was not picked yet. The newest pick is first
abbrev pub last_picked : List ℕ → ℕ → ℕ
last_picked [] port = 0
last_picked (newest ∷ older) port = if newest == port then length older + 1 else last_picked older port

-- by those picks, p's last pick is longer ago than q's; of two that were not picked yet, so it is the lower's
abbrev pub IsLongerAgo : List ℕ → ℕ → ℕ → Type 0
IsLongerAgo picks p q = (last_picked picks p < last_picked picks q) ⊎ ((last_picked picks p ≡ last_picked picks q) × (p < q))

-- an arbiter of those ports that picked none yet
pub record IsNewLeastRecent (ports : ℕ) (a : LeastRecent) : Type 0 where
  pub same_ports : a.ports ≡ ports
  pub rising : (port : ℕ) → port < 32 → rank a port ≡ ports_below ports port

-- what a new arbiter has become by those picks
pub data HasPicked (ports : ℕ) : List ℕ → LeastRecent → Type 0 where
  nothing : (a : LeastRecent) → IsNewLeastRecent ports a → HasPicked ports [] a
  more : (a b : LeastRecent) (picks : List ℕ) (asking pick : ℕ) → HasPicked ports picks a → IsWithin asking ports → LeastRecentPicks a asking pick b → HasPicked ports (pick ∷ picks) b

-- no other asking port's last pick is longer ago than that of the port that is picked
abbrev pub LongestAgoIsPicked : Type 0
LongestAgoIsPicked =
    (ports asking pick port : ℕ) (a b : LeastRecent) (picks : List ℕ) → HasPicked ports picks a → IsWithin asking ports → LeastRecentPicks a asking pick b →
    port < 32 → IsBitSet asking port → port ≢ pick → IsLongerAgo picks pick port
