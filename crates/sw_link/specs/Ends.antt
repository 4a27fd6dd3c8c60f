-- The two ends of a channel and their changes (ECSS-E-ST-50-12C, data link layer: flow control).
use Rattle.std.specs.Prelude.{ℕ, ◌+◌, ◌-◌, ◌≤◌, Bool, ◌&&◌, nat_le, List, [], ◌∷◌, ◌++◌, length}
use Rattle.sw_char.specs.declared.nchar.NChar.{NChar}

-- a receiving end: the N-Chars that arrived and were not taken yet, how many were asked for and did not arrive yet,
-- and how many the buffer holds
pub record Received : Type 0 where
  pub buffer : List NChar
  pub outstanding : ℕ
  pub capacity : ℕ

-- how many N-Chars a receive buffer may hold: this project's choice
abbrev pub IsCapacity : ℕ → Type 0
IsCapacity capacity = (8 ≤ capacity) × (capacity ≤ 4096)

-- what is outstanding has room and is at most 56 (seven FCTs)
pub record Fits (buffer : List NChar) (outstanding capacity : ℕ) : Type 0 where
  pub room : length buffer + outstanding ≤ capacity
  pub most : outstanding ≤ 56
  pub is_capacity : IsCapacity capacity

-- there is room for eight more N-Chars beside those outstanding, and with them at most 56 are outstanding
abbrev pub may_issue : Received → Bool
may_issue r = nat_le (length r.buffer + r.outstanding + 8) r.capacity && nat_le r.outstanding 48

-- an FCT asks for eight more N-Chars
abbrev pub asked : Received → Received
asked r = record r { outstanding = r.outstanding + 8 }

-- an N-Char goes to the end of the buffer
abbrev pub arrived : NChar → Received → Received
arrived x r = record r { buffer = r.buffer ++ x ∷ []; outstanding = r.outstanding - 1 }

-- the credit after an N-Char was sent
abbrev pub spent : ℕ → ℕ
spent credit = credit - 1

-- the credit after an FCT was received
abbrev pub granted : ℕ → ℕ
granted credit = credit + 8
