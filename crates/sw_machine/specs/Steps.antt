-- The eleven steps of the machine.
use Rattle.std.specs.Prelude.{Bool, Contains, List, [], false, if◌then◌else◌, length, suc, true, ℕ, ◌+◌, ◌<◌, ◌∷◌, ◌≡◌, ◌≢◌, ◌≤◌}
use Rattle.sw_char.specs.declared.nchar.End.{End}
use Rattle.sw_char.specs.declared.nchar.NChar.{NChar}
use Rattle.sw_char.specs.declared.nchar.NChar.TheVariants.{Data, Eep, Eop}
use Rattle.sw_machine.specs.Network.{AtSwitch, IsDeclared, Network, form}
use Rattle.sw_rmap.specs.Owing.{PendingReply}
use Rattle.sw_machine.specs.Packets.{IsCut, Packet}
use Rattle.sw_machine.specs.State.{State, after_accept, after_arrive, after_begin, after_drop_byte, after_drop_marker, after_emit, after_fct, after_fct_in, after_forward, after_grant, after_reply, after_spill}
use Rattle.sw_machine.specs.declared.input.InputState.TheVariants.{Held, Idle, Spilling}

pub data Step : Type 0 where
  Fct : (c : ℕ) → Step
  FctIn : (c : ℕ) → Step
  Arrive : (c : ℕ) → Step
  Grant : (d c : ℕ) → Step
  Drop : (c : ℕ) → Step
  Forward : (c : ℕ) → Step
  Spill : (c : ℕ) → Step
  Begin : (flow : ℕ) (cargo : List ℕ) (end : End) → Step
  Emit : (n : ℕ) → Step
  Accept : (n : ℕ) → Step
  Reply : (n : ℕ) → Step

abbrev pub is_begin : Step → Bool
is_begin (Begin flow cargo end) = true
is_begin step = false

-- what a drop leaves: a marker is lost, a byte that names no output stays and is spilled (this project's choice)
abbrev pub Drops : Network → State → ℕ → ℕ → NChar → List NChar → State → Type 0
Drops net s c switch (Data h) rest t = (net.look switch h ≡ []) × (t ≡ after_drop_byte s c)
Drops net s c switch Eop rest t = t ≡ after_drop_marker s c rest
Drops net s c switch Eep rest t = t ≡ after_drop_marker s c rest

-- in net, the step leads from s to t
abbrev pub Leads : Network → State → Step → State → Type 0
-- channel c has room for eight more characters, and at most 48 are outstanding (ECSS-E-ST-50-12C, data link layer: flow control)
Leads net s (Fct c) t = record {
  in_net : c < net.channels;
  room : s.outstanding c + length (s.buffer c) + 8 ≤ net.capacity c;
  few : s.outstanding c ≤ 48;
  after : t ≡ after_fct s c;
}
-- an FCT arrives at the start of c
Leads net s (FctIn c) t = record {
  in_net : c < net.channels;
  remaining : ℕ;
  under_way : s.fcts c ≡ suc remaining;
  after : t ≡ after_fct_in s c remaining;
}
-- the first character on the wire of c arrives
Leads net s (Arrive c) t = record {
  in_net : c < net.channels;
  first : NChar;
  rest : List NChar;
  on_wire : s.wire c ≡ first ∷ rest;
  after : t ≡ after_arrive s c first rest;
}
-- input c, which waits with a header that names d, is granted d, which no input holds (wormhole routing)
Leads net s (Grant d c) t = record {
  in_net : c < net.channels;
  switch : ℕ;
  at : net.end_of c ≡ AtSwitch switch;
  idle : s.input c ≡ Idle;
  h : ℕ;
  rest : List NChar;
  front : s.buffer c ≡ Data h ∷ rest;
  named : Contains (net.look switch h) d;
  not_held : (b : ℕ) → b < net.channels → s.input b ≢ Held d;
  after : t ≡ after_grant s d c (if net.deletes switch h then rest else Data h ∷ rest);
}
-- input c waits, and what stands in front of it is no header or names no output
Leads net s (Drop c) t = record {
  in_net : c < net.channels;
  switch : ℕ;
  at : net.end_of c ≡ AtSwitch switch;
  idle : s.input c ≡ Idle;
  first : NChar;
  rest : List NChar;
  front : s.buffer c ≡ first ∷ rest;
  after : Drops net s c switch first rest t;
}
-- input c passes a character on to the output that it holds
Leads net s (Forward c) t = record {
  in_net : c < net.channels;
  d : ℕ;
  held : s.input c ≡ Held d;
  first : NChar;
  rest : List NChar;
  front : s.buffer c ≡ first ∷ rest;
  remaining : ℕ;
  credit : s.credit d ≡ suc remaining;
  after : t ≡ after_forward s c d first rest remaining;
}
-- input c loses a character of a packet that is discarded
Leads net s (Spill c) t = record {
  in_net : c < net.channels;
  spilling : s.input c ≡ Spilling;
  first : NChar;
  rest : List NChar;
  front : s.buffer c ≡ first ∷ rest;
  after : t ≡ after_spill s c first rest;
}
-- a node begins to send a declared packet
Leads net s (Begin f cargo end) t = record {
  declared : IsDeclared net f cargo;
  sends_nothing : s.to_send (net.flow f).from ≡ [];
  none_pending : s.pending (net.flow f).from ≡ [];
  after : t ≡ after_begin s (net.flow f).from (form net f 0 cargo end);
}
-- node n puts a character on its wire
Leads net s (Emit n) t = record {
  in_net : n < net.nodes;
  first : NChar;
  rest : List NChar;
  sending : s.to_send n ≡ first ∷ rest;
  remaining : ℕ;
  credit : s.credit (net.out n) ≡ suc remaining;
  after : t ≡ after_emit net s n first rest remaining;
}
-- node n, which may owe a reply more, takes a character; packets and bytes are what it took before
Leads net s (Accept n) t = record {
  in_net : n < net.nodes;
  owes_less : s.owed n < net.slots n;
  first : NChar;
  rest : List NChar;
  front : s.buffer (net.into n) ≡ first ∷ rest;
  packets : List Packet;
  bytes : List ℕ;
  cut : IsCut (s.taken n) packets bytes;
  after : t ≡ after_accept net s n bytes first rest;
}
-- node n begins to send the reply that has waited longest
Leads net s (Reply n) t = record {
  in_net : n < net.nodes;
  reply : PendingReply;
  others : List PendingReply;
  waits : s.pending n ≡ reply ∷ others;
  sends_nothing : s.to_send n ≡ [];
  after : t ≡ after_reply s n reply others;
}

abbrev pub IsPossible : Network → State → Step → Type 0
IsPossible net s step = (t : State) × Leads net s step t

-- a state and a step determine the state after
abbrev pub StepsAreDetermined : Type 0
StepsAreDetermined = (net : Network) (s : State) (step : Step) (t u : State) → Leads net s step t → Leads net s step u → t ≡ u
