-- What a node's memory is: what the packets that came out at the node made of the first, one after another.
use Rattle.std.specs.Prelude.{List, [], ℕ, ◌∷◌, ◌≡◌}
use Rattle.sw_machine.specs.Network.{Network}
use Rattle.sw_machine.specs.Packets.{Packet}
use Rattle.sw_machine.specs.Runs.{CameOut, IsReached}
use Rattle.sw_machine.specs.State.{State}

-- the memory after these packets, one after another
abbrev pub memory_by : Network → ℕ → List ℕ → List Packet → List ℕ
memory_by net n memory [] = memory
memory_by net n memory (p ∷ ps) = memory_by net n (net.memory_after n memory p.bytes p.end) ps

-- in each reached state, with no certificate
abbrev pub MemoryIsOfPackets : Type 0
MemoryIsOfPackets = (net : Network) (s : State) → IsReached net s → (n : ℕ) (ps : List Packet) → CameOut s n ps → s.memory n ≡ memory_by net n (net.memory_at_first n) ps
