-- A relation between members, which are numbers: its steps c to d make chains, and these make levels and cycles.
use Rattle.std.specs.Prelude.{◌≡◌, ℕ, zero, suc, ◌<◌, ◌≤◌, List, length, slice_index}

-- a chain of n steps from c to d
abbrev pub Chain : (ℕ → ℕ → Type 0) → ℕ → ℕ → ℕ → Type 0
Chain dep zero c d = c ≡ d
Chain dep (suc n) c d = (b : ℕ) × Chain dep n c b × dep b d

-- a chain of one or more steps leads from a member to itself
abbrev pub HasCycle : (ℕ → ℕ → Type 0) → Type 0
HasCycle dep = (n : ℕ) × (c : ℕ) × Chain dep (suc n) c c

-- v is the greatest count of steps in a chain that ends at c
pub record IsLevel (dep : ℕ → ℕ → Type 0) (c v : ℕ) : Type 0 where
  pub reached : (b : ℕ) × Chain dep v b c
  pub greatest : (n b : ℕ) → Chain dep n b c → n ≤ v

-- each of the n members has its level
pub record IsLevels (dep : ℕ → ℕ → Type 0) (n : ℕ) (levels : List ℕ) : Type 0 where
  pub size : length levels ≡ n
  pub each : (c : ℕ) → c < n → IsLevel dep c (slice_index levels c)
