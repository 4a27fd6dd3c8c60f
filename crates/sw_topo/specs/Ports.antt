-- Sets of ports. A set is a number: port p is in it where bit p is set.
use Rattle.std.specs.Prelude.{Bool, not, ◌==◌, bit_and, filter, ℕ, ◌^◌, ◌<◌, ◌≤◌, ◌↔◌, List, fold, bit_or, Contains, IsBitSet}
use Rattle.std.specs.List.{range_with_len}
use Rattle.std.specs.List.Sorted.{IsStrictlyIncreasing}

-- the set of the ports that a list names, in any order and as often as it likes
abbrev pub port_set : List ℕ → ℕ
port_set numbers = fold (λ set port. bit_or set (2 ^ port)) 0 numbers

-- is port p in the set?
abbrev pub has_port : ℕ → ℕ → Bool
has_port set p = not (bit_and set (2 ^ p) == 0)

-- the ports of a set as a list, in rising order
unfoldable pub ports_of : ℕ → List ℕ
ports_of set = filter (has_port set) (range_with_len 0 32)

-- no port of the set is at least n
abbrev pub NoneFrom : ℕ → ℕ → Type 0
NoneFrom n set = (p : ℕ) → n ≤ p → ¬ IsBitSet set p

-- port p is the least of the set's that are at least n
pub record IsLeastFrom (n set p : ℕ) : Type 0 where
  pub port : p < 32
  pub reached : n ≤ p
  pub member : IsBitSet set p
  pub least : (q : ℕ) → n ≤ q → q < p → ¬ IsBitSet set q

-- the set has the ports that the list names, and no others
abbrev pub PortSetHasThePorts : Type 0
PortSetHasThePorts = (numbers : List ℕ) (p : ℕ) → IsBitSet (port_set numbers) p ↔ Contains numbers p

-- a rising list of the set's ports below n, each of them once
pub record IsListed (n set : ℕ) (ports : List ℕ) : Type 0 where
  pub rising : IsStrictlyIncreasing ports
  pub members : (p : ℕ) → Contains ports p ↔ ((p < n) × IsBitSet set p)

-- a set's ports are listed in rising order
abbrev pub PortsAreListed : Type 0
PortsAreListed = (set : ℕ) → IsListed 32 set (ports_of set)
