-- Runs of the machine, and when a state is locked up.
use Rattle.std.specs.Prelude.{List, [], false, length, suc, zero, ℕ, ◌+◌, ◌<◌, ◌∷◌, ◌≡◌}
use Rattle.sw_machine.specs.Network.{Network}
use Rattle.sw_rmap.specs.Owing.{length_pending}
use Rattle.sw_machine.specs.Packets.{IsCut, Packet}
use Rattle.sw_machine.specs.State.{State, empty}
use Rattle.sw_machine.specs.Steps.{IsPossible, Leads, Step, is_begin}

-- the steps lead from s to t, one after another
abbrev pub Run : Network → State → List Step → State → Type 0
Run net s [] t = t ≡ s
Run net s (step ∷ steps) t = (mid : State) × Leads net s step mid × Run net mid steps t

abbrev pub IsReached : Network → State → Type 0
IsReached net s = (steps : List Step) × Run net (empty net) steps s

-- the sum of f over the numbers below n
abbrev pub total : ℕ → (ℕ → ℕ) → ℕ
total zero f = 0
total (suc n) f = total n f + f n

-- how many characters are in a buffer, on a wire, still to send, or of a pending reply with its marker
abbrev pub undelivered : Network → State → ℕ
undelivered net s = total net.channels (λ c. length (s.buffer c) + length (s.wire c)) + total net.nodes (λ n. length (s.to_send n) + length_pending (s.pending n))

-- no step other than a beginning is possible
abbrev pub IsQuiet : Network → State → Type 0
IsQuiet net s = (step : Step) → is_begin step ≡ false → IsPossible net s step → ⊥

pub record IsLockedUp (net : Network) (s : State) : Type 0 where
  pub quiet : IsQuiet net s
  pub holds : 0 < undelivered net s

-- some step other than a beginning is possible
pub record GoesOn (net : Network) (s : State) : Type 0 where
  pub step : Step
  pub no_begin : is_begin step ≡ false
  pub possible : IsPossible net s step

-- these packets came out at node n
abbrev pub CameOut : State → ℕ → List Packet → Type 0
CameOut s n ps = (bytes : List ℕ) × IsCut (s.taken n) ps bytes
