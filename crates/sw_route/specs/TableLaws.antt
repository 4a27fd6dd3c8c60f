-- What a routing table says, whatever the order of its entries.
use Rattle.std.specs.Prelude.{◌≡◌, ◌↔◌, ℕ, ◌≤◌, false, List, All, Contains, IsTrue}
use Rattle.sw_route.specs.declared.look.Route.{Route}
use Rattle.sw_route.specs.Looks.{covers, overlaps, look_of, no_look, IsTable}

-- each address that an entry is for names its ports
abbrev pub EntriesAnswer : Type 0
EntriesAnswer = (routes : List Route) → IsTable routes → (r : Route) → Contains routes r → (address : ℕ) → IsTrue (covers address r) → look_of routes address ≡ record { ports = r.ports; delete = r.delete }

-- an address that no entry is for names no port
abbrev pub OthersNameNoPort : Type 0
OthersNameNoPort = (routes : List Route) (address : ℕ) → 32 ≤ address → All (λ r. covers address r ≡ false) routes → look_of routes address ≡ no_look

-- entries overlap where some address is of both
abbrev pub OverlapsShareAnAddress : Type 0
OverlapsShareAnAddress = (r q : Route) → r.first ≤ r.last → q.first ≤ q.last → IsTrue (overlaps r q) ↔ ((address : ℕ) × IsTrue (covers address r) × IsTrue (covers address q))
