-- Arbiters, and lists of their picks.
use Rattle.std.specs.Prelude.{◌≢◌, ℕ, ◌<◌, ◌==◌, List, [], ◌∷◌, All, IsBitSet, count_ones}
use Rattle.std.specs.List.{position_or_len}

-- each port that asks is one of the arbiter's
abbrev pub IsWithin : ℕ → ℕ → Type 0
IsWithin asking ports = (port : ℕ) → IsBitSet asking port → IsBitSet ports port

-- one pick: the ports that asked, and the one that was picked
pub record Pick : Type 0 where
  pub asking : ℕ
  pub picked : ℕ

-- an arbiter makes these picks, one after the other: each by its policy among some of its ports
pub data MakesPicks {A : Type 0} (ports : A → ℕ) (policy : A → ℕ → ℕ → A → Type 0) : A → List Pick → A → Type 0 where
  none : (a : A) → MakesPicks ports policy a [] a
  next : (a b c : A) (pick : Pick) (picks : List Pick) → IsWithin pick.asking (ports a) → policy a pick.asking pick.picked b → MakesPicks ports policy b picks c → MakesPicks ports policy a (pick ∷ picks) c

-- the port is among those that ask each time
abbrev pub AsksEachTime : ℕ → List Pick → Type 0
AsksEachTime port picks = All (λ pick. IsBitSet (pick.asking) port) picks

-- how many picks come before the first that picks the port: all of them if none does
abbrev pub passed_over : ℕ → List Pick → ℕ
passed_over port picks = position_or_len (λ pick. pick.picked == port) picks

-- an arbiter's port has fewer ports ahead of it than the arbiter has ports
abbrev pub AheadIsBelow : {A : Type 0} → (A → ℕ) → (A → ℕ → ℕ) → Type 0
AheadIsBelow {A = A} ports ahead_of = (a : A) (port : ℕ) → port < 32 → IsBitSet (ports a) port → ahead_of a port < count_ones (ports a)

-- a port that asks while another is picked has fewer ports ahead of it from then on
abbrev pub AheadFalls : {A : Type 0} → (A → ℕ) → (A → ℕ → ℕ → A → Type 0) → (A → ℕ → ℕ) → Type 0
AheadFalls {A = A} ports policy ahead_of =
    (a b : A) (asking pick port : ℕ) → policy a asking pick b → IsWithin asking (ports a) → port < 32 → IsBitSet asking port → pick ≢ port → ahead_of b port < ahead_of a port

-- a port that asks each time is passed over fewer times than the arbiter has ports
abbrev pub PassesOverFewerTimesThanPorts : {A : Type 0} → (A → ℕ) → (A → ℕ → ℕ → A → Type 0) → Type 0
PassesOverFewerTimesThanPorts {A = A} ports policy =
    (a b : A) (picks : List Pick) (port : ℕ) → MakesPicks ports policy a picks b → port < 32 → IsBitSet (ports a) port → AsksEachTime port picks → passed_over port picks < count_ones (ports a)
