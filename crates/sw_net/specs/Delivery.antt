-- Counts of characters that are undelivered, in each state that a network's cells are the parts of.
use Rattle.std.specs.Prelude.{length, ℕ, ◌+◌, ◌≡◌}
use Rattle.sw_machine.specs.Runs.{total, undelivered}
use Rattle.sw_machine.specs.Owing.{length_pending}
use Rattle.sw_machine.specs.State.{State}
use Rattle.sw_machine.specs.Model.{network_of}
use Rattle.sw_net.specs.Net.{IsNetState, NetView}

-- on the wire of a channel and in the buffer where it ends
abbrev pub in_channel : State → ℕ → ℕ
in_channel s c = length (s.buffer c) + length (s.wire c)

-- still to send at a node, and of replies that wait there
abbrev pub at_node : State → ℕ → ℕ
at_node s n = length (s.to_send n) + length_pending (s.pending n)

abbrev pub IsBuffered : {R A : Type 0} → NetView R A → ℕ → ℕ → Type 0
IsBuffered v c count = (s : State) → IsNetState v s → count ≡ length (s.buffer c)

abbrev pub IsInChannel : {R A : Type 0} → NetView R A → ℕ → ℕ → Type 0
IsInChannel v c count = (s : State) → IsNetState v s → count ≡ in_channel s c

abbrev pub IsAtNode : {R A : Type 0} → NetView R A → ℕ → ℕ → Type 0
IsAtNode v n count = (s : State) → IsNetState v s → count ≡ at_node s n

-- in the first n channels
abbrev pub IsInChannels : {R A : Type 0} → NetView R A → ℕ → ℕ → Type 0
IsInChannels v n count = (s : State) → IsNetState v s → count ≡ total n (in_channel s)

-- at the first n nodes
abbrev pub IsAtNodes : {R A : Type 0} → NetView R A → ℕ → ℕ → Type 0
IsAtNodes v n count = (s : State) → IsNetState v s → count ≡ total n (at_node s)

-- in the whole network
abbrev pub IsUndelivered : {R A : Type 0} → NetView R A → ℕ → Type 0
IsUndelivered v count = (s : State) → IsNetState v s → count ≡ undelivered (network_of v.declared) s
