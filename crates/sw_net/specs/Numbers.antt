-- What a link end counts, in the states that a network's cells are the parts of.
use Rattle.std.specs.Prelude.{length, ℕ, ◌-◌, ◌≡◌}
use Rattle.sw_machine.specs.Network.{Network, reverse_of}
use Rattle.sw_machine.specs.State.{State}
use Rattle.sw_machine.specs.Model.{network_of}
use Rattle.sw_net.specs.Net.{IsNetState, NetView}
use Rattle.sw_net.specs.declared.numbers.Numbers.{Numbers}

-- the numbers of the link end where channel e starts: its credit, and of the channel that ends there what is outstanding, and what room
-- its buffer has beside that (ECSS-E-ST-50-12C, data link layer: flow control)
abbrev pub numbers_at : Network → State → ℕ → Numbers
numbers_at net s e = record {
  credit = s.credit e;
  outstanding = s.outstanding (reverse_of e);
  room = net.capacity (reverse_of e) - length (s.buffer (reverse_of e)) - s.outstanding (reverse_of e);
}

abbrev pub AreNumbers : {R A : Type 0} → NetView R A → ℕ → Numbers → Type 0
AreNumbers v e numbers = (s : State) → IsNetState v s → numbers ≡ numbers_at (network_of v.declared) s e
