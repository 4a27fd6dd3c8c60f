-- A small network: node 0 and target 1, each at a switch of its own, and two links between the switches. Logical address 40 leads from node 0
-- to target 1, over either of the two links, and is kept; the replies go back by path addresses. The target answers each command by its byte.
use Rattle.std.specs.Prelude.{List, None, Option, Some, [], false, if◌then◌else◌, nat_eq, nat_lt, slice_get, suc, unwrap_or, zero, ℕ, ◌∷◌}
use Rattle.sw_char.specs.declared.nchar.End.{End}
use Rattle.sw_machine.specs.Certificate.{Certificate}
use Rattle.sw_machine.specs.Network.{AtNode, AtSwitch, Cell, Flow, Network, Place}
use Rattle.sw_rmap.specs.Owing.{PendingReply}

-- link 0 joins node 0 and switch 0, links 1 and 2 the switches, and link 3 switch 1 and target 1
abbrev pub starts : List Cell
starts = AtNode 0 ∷ AtSwitch 0 ∷ AtSwitch 0 ∷ AtSwitch 1 ∷ AtSwitch 0 ∷ AtSwitch 1 ∷ AtSwitch 1 ∷ AtNode 1 ∷ []

abbrev pub ends : List Cell
ends = AtSwitch 0 ∷ AtNode 0 ∷ AtSwitch 1 ∷ AtSwitch 0 ∷ AtSwitch 1 ∷ AtSwitch 0 ∷ AtNode 1 ∷ AtSwitch 1 ∷ []

abbrev pub cell_at : List Cell → ℕ → Cell
cell_at cells c = unwrap_or (slice_get cells c) (AtSwitch 0)

-- what a leading byte names
pub record Row : Type 0 where
  pub byte : ℕ
  pub outs : List ℕ

abbrev pub row : ℕ → List ℕ → Row
row byte outs = record { byte = byte; outs = outs }

abbrev pub look_in : List Row → ℕ → List ℕ
look_in [] h = []
look_in (r ∷ rows) h = if nat_eq r.byte h then r.outs else look_in rows h

abbrev pub table : ℕ → List Row
table zero = row 1 (1 ∷ []) ∷ row 2 (2 ∷ []) ∷ row 3 (4 ∷ []) ∷ row 40 (2 ∷ 4 ∷ []) ∷ []
table (suc zero) = row 1 (6 ∷ []) ∷ row 2 (3 ∷ []) ∷ row 3 (5 ∷ []) ∷ row 40 (6 ∷ []) ∷ []
table (suc (suc s)) = []

abbrev pub flow : ℕ → Flow
flow zero = record { from = 0; to = 1; address = 40 ∷ []; left = 1; reply = Some 1 }
flow (suc zero) = record { from = 1; to = 0; address = 3 ∷ 1 ∷ 67 ∷ []; left = 1; reply = None }
flow (suc (suc i)) = record { from = 0; to = 0; address = []; left = 0; reply = None }

-- the target answers each packet of two bytes or more, by its second
abbrev pub reply_to : ℕ → List ℕ → Option (List ℕ)
reply_to (suc zero) (logical ∷ byte ∷ bytes) = Some (3 ∷ 1 ∷ 67 ∷ [])
reply_to n bytes = None

abbrev pub answer : ℕ → List ℕ → List ℕ → End → Option PendingReply
answer (suc zero) memory (logical ∷ byte ∷ bytes) end = Some (record { address = 3 ∷ 1 ∷ 67 ∷ []; cargo = byte ∷ [] })
answer n memory bytes end = None

-- and it keeps that byte
abbrev pub memory_after : ℕ → List ℕ → List ℕ → End → List ℕ
memory_after (suc zero) memory (logical ∷ byte ∷ bytes) end = byte ∷ []
memory_after n memory bytes end = memory

-- the network, where each receive buffer holds so many characters
abbrev pub of_capacity : ℕ → Network
of_capacity capacity = record {
  channels = 8;
  start_of = cell_at starts;
  end_of = cell_at ends;
  capacity = λ c. capacity;
  nodes = 2;
  out = λ n. if nat_eq n 0 then 0 else 7;
  into = λ n. if nat_eq n 0 then 1 else 6;
  look = λ s h. look_in (table s) h;
  deletes = λ s h. nat_lt h 32;
  declared_flows = 1;
  flows = 2;
  flow = flow;
  reply_to = reply_to;
  answer = answer;
  longest = λ n. 1;
  slots = λ n. if nat_eq n 0 then 1 else 2;
  limited = λ i. false;
  limit = λ n. None;
  memory_after = memory_after;
  memory_at_first = λ n. 0 ∷ [];
}

abbrev pub sample : Network
sample = of_capacity 16

abbrev pub place : ℕ → ℕ → Place
place c k = record { channel = c; deleted = k }

abbrev pub certificate : Certificate
certificate = record {
  numbers = 0 ∷ 5 ∷ 1 ∷ 0 ∷ 1 ∷ 4 ∷ 2 ∷ 3 ∷ [];
  places = (place 0 0 ∷ place 2 0 ∷ place 4 0 ∷ place 6 0 ∷ []) ∷ (place 7 0 ∷ place 5 1 ∷ place 1 2 ∷ []) ∷ [];
}

-- the same network, where the packets of flow 0 begin with an address that names no port, and the address of flow 1 ends at a switch
abbrev pub lost : ℕ → Flow
lost i = record { from = 0; to = 1; address = (if nat_eq i 0 then 5 else 2) ∷ []; left = 0; reply = None }

abbrev pub misrouted : Network
misrouted = record sample { declared_flows = 2; flows = 2; flow = lost }
