-- How full the receive buffers of a network get while steps are made.
use Rattle.std.specs.List.{range_with_len}
use Rattle.std.specs.Prelude.{List, None, Option, Some, [], length, map, max, ℕ, ◌∷◌, ◌≡◌}
use Rattle.sw_machine.specs.Network.{Network}
use Rattle.sw_machine.specs.Runs.{Run}
use Rattle.sw_machine.specs.State.{State, empty}
use Rattle.sw_machine.specs.Steps.{Leads, Step}

-- the steps lead from s through these states: s itself, and the state after each
abbrev pub LeadsThrough : Network → State → List Step → List State → Type 0
LeadsThrough net s [] states = states ≡ s ∷ []
LeadsThrough net s (step ∷ steps) states =
    (mid : State) × (later : List State) × Leads net s step mid × LeadsThrough net mid steps later × (states ≡ s ∷ later)

-- the greatest of some numbers
abbrev pub greatest : List ℕ → ℕ
greatest [] = 0
greatest (n ∷ ns) = max n (greatest ns)

-- how many characters the receive buffer of channel c holds at most, in one of these states
abbrev pub greatest_fill : List State → ℕ → ℕ
greatest_fill states c = greatest (map (λ s. length (s.buffer c)) states)

-- channel by channel, over the states that the steps lead through from the empty one
pub record AreFills (net : Network) (steps : List Step) (fills : List ℕ) : Type 0 where
  pub states : List State
  pub through : LeadsThrough net (empty net) steps states
  pub each : fills ≡ map (greatest_fill states) (range_with_len 0 net.channels)

-- the fills, or none where not each of the steps is possible after those before it
abbrev pub AreFillsOrNone : Network → List Step → Option (List ℕ) → Type 0
AreFillsOrNone net steps None = (s : State) → Run net (empty net) steps s → ⊥
AreFillsOrNone net steps (Some fills) = AreFills net steps fills
