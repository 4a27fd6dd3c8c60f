-- The machine with one pending reply a node, and a flag that says whether the node answers: what the machine is where each node may owe one reply.
use Rattle.std.specs.Prelude.{Bool, Contains, List, None, Option, Some, [], false, if◌then◌else◌, is_some, length, nat_lt, suc, ℕ, ◌++◌, ◌+◌, ◌-◌, ◌<◌, ◌∷◌, ◌≡◌, ◌≢◌, ◌≤◌}
use Rattle.sw_char.specs.declared.nchar.NChar.{NChar}
use Rattle.sw_char.specs.declared.nchar.NChar.TheVariants.{Data, Eep, Eop}
use Rattle.sw_machine.specs.Network.{AtSwitch, IsDeclared, IsNetwork, Network, form}
use Rattle.sw_rmap.specs.Owing.{PendingReply, reply_packet}
use Rattle.sw_machine.specs.Packets.{IsCut, Packet}
use Rattle.sw_machine.specs.Runs.{IsReached}
use Rattle.sw_machine.specs.State.{State, empty, input_after, memory_at, put, reply_at}
use Rattle.sw_machine.specs.Steps.{Accept, Arrive, Begin, Drop, Emit, Fct, FctIn, Forward, Grant, Leads, Reply, Spill, Step}
use Rattle.sw_machine.specs.declared.input.InputState.{InputState}
use Rattle.sw_machine.specs.declared.input.InputState.TheVariants.{Held, Idle, Spilling}

pub record OneReplyState : Type 0 where
  pub credit : ℕ → ℕ
  pub wire : ℕ → List NChar
  pub fcts : ℕ → ℕ
  pub buffer : ℕ → List NChar
  pub outstanding : ℕ → ℕ
  pub input : ℕ → InputState
  pub to_send : ℕ → List NChar
  pub pending : ℕ → Option PendingReply
  pub answering : ℕ → Bool
  pub taken : ℕ → List NChar
  pub memory : ℕ → List ℕ

-- whether a node still answers after it sent a character and these remain: a packet's end with no reply pending ends it
abbrev pub answering_after : List NChar → Option PendingReply → Bool → Bool
answering_after (x ∷ remaining) pending answering = answering
answering_after [] (Some reply) answering = answering
answering_after [] None answering = false

-- what a drop leaves
abbrev pub DropsOne : Network → OneReplyState → ℕ → ℕ → NChar → List NChar → OneReplyState → Type 0
DropsOne net s c switch (Data h) rest t = (net.look switch h ≡ []) × (t ≡ record s { input = put s.input c Spilling })
DropsOne net s c switch Eop rest t = t ≡ record s { buffer = put s.buffer c rest }
DropsOne net s c switch Eep rest t = t ≡ record s { buffer = put s.buffer c rest }

-- in net, the step leads from s to t
abbrev pub LeadsOne : Network → OneReplyState → Step → OneReplyState → Type 0
LeadsOne net s (Fct c) t = record {
  in_net : c < net.channels;
  room : s.outstanding c + length (s.buffer c) + 8 ≤ net.capacity c;
  few : s.outstanding c ≤ 48;
  after : t ≡ record s { outstanding = put s.outstanding c (s.outstanding c + 8); fcts = put s.fcts c (s.fcts c + 1) };
}
LeadsOne net s (FctIn c) t = record {
  in_net : c < net.channels;
  remaining : ℕ;
  under_way : s.fcts c ≡ suc remaining;
  after : t ≡ record s { fcts = put s.fcts c remaining; credit = put s.credit c (s.credit c + 8) };
}
LeadsOne net s (Arrive c) t = record {
  in_net : c < net.channels;
  first : NChar;
  rest : List NChar;
  on_wire : s.wire c ≡ first ∷ rest;
  after : t ≡ record s { wire = put s.wire c rest; buffer = put s.buffer c (s.buffer c ++ first ∷ []); outstanding = put s.outstanding c (s.outstanding c - 1) };
}
LeadsOne net s (Grant d c) t = record {
  in_net : c < net.channels;
  switch : ℕ;
  at : net.end_of c ≡ AtSwitch switch;
  idle : s.input c ≡ Idle;
  h : ℕ;
  rest : List NChar;
  front : s.buffer c ≡ Data h ∷ rest;
  named : Contains (net.look switch h) d;
  not_held : (b : ℕ) → b < net.channels → s.input b ≢ Held d;
  after : t ≡ record s { input = put s.input c (Held d); buffer = put s.buffer c (if net.deletes switch h then rest else Data h ∷ rest) };
}
LeadsOne net s (Drop c) t = record {
  in_net : c < net.channels;
  switch : ℕ;
  at : net.end_of c ≡ AtSwitch switch;
  idle : s.input c ≡ Idle;
  first : NChar;
  rest : List NChar;
  front : s.buffer c ≡ first ∷ rest;
  after : DropsOne net s c switch first rest t;
}
LeadsOne net s (Forward c) t = record {
  in_net : c < net.channels;
  d : ℕ;
  held : s.input c ≡ Held d;
  first : NChar;
  rest : List NChar;
  front : s.buffer c ≡ first ∷ rest;
  remaining : ℕ;
  credit : s.credit d ≡ suc remaining;
  after : t ≡ record s { buffer = put s.buffer c rest; wire = put s.wire d (s.wire d ++ first ∷ []); credit = put s.credit d remaining; input = put s.input c (input_after first (Held d)) };
}
LeadsOne net s (Spill c) t = record {
  in_net : c < net.channels;
  spilling : s.input c ≡ Spilling;
  first : NChar;
  rest : List NChar;
  front : s.buffer c ≡ first ∷ rest;
  after : t ≡ record s { buffer = put s.buffer c rest; input = put s.input c (input_after first Spilling) };
}
LeadsOne net s (Begin f cargo end) t = record {
  declared : IsDeclared net f cargo;
  sends_nothing : s.to_send (net.flow f).from ≡ [];
  none_pending : s.pending (net.flow f).from ≡ None;
  after : t ≡ record s { to_send = put s.to_send (net.flow f).from (form net f 0 cargo end) };
}
LeadsOne net s (Emit n) t = record {
  in_net : n < net.nodes;
  first : NChar;
  rest : List NChar;
  sending : s.to_send n ≡ first ∷ rest;
  remaining : ℕ;
  credit : s.credit (net.out n) ≡ suc remaining;
  after : t ≡ record s { to_send = put s.to_send n rest; wire = put s.wire (net.out n) (s.wire (net.out n) ++ first ∷ []); credit = put s.credit (net.out n) remaining; answering = put s.answering n (answering_after rest (s.pending n) (s.answering n)) };
}
-- a node takes no character while it answers
LeadsOne net s (Accept n) t = record {
  in_net : n < net.nodes;
  answers_not : s.answering n ≡ false;
  first : NChar;
  rest : List NChar;
  front : s.buffer (net.into n) ≡ first ∷ rest;
  packets : List Packet;
  bytes : List ℕ;
  cut : IsCut (s.taken n) packets bytes;
  after : t ≡ record s { buffer = put s.buffer (net.into n) rest; taken = put s.taken n (s.taken n ++ first ∷ []); memory = put s.memory n (memory_at net n (s.memory n) bytes first); pending = put s.pending n (reply_at net n (s.memory n) bytes first); answering = put s.answering n (is_some (reply_at net n (s.memory n) bytes first)) };
}
LeadsOne net s (Reply n) t = record {
  in_net : n < net.nodes;
  reply : PendingReply;
  waits : s.pending n ≡ Some reply;
  sends_nothing : s.to_send n ≡ [];
  after : t ≡ record s { to_send = put s.to_send n (reply_packet reply); pending = put s.pending n None };
}

abbrev pub empty_one : Network → OneReplyState
empty_one net = record {
  credit = λ c. 0;
  wire = λ c. [];
  fcts = λ c. 0;
  buffer = λ c. [];
  outstanding = λ c. 0;
  input = λ c. Idle;
  to_send = λ n. [];
  pending = λ n. None;
  answering = λ n. false;
  taken = λ n. [];
  memory = net.memory_at_first;
}

abbrev pub first_of_list : List PendingReply → Option PendingReply
first_of_list [] = None
first_of_list (r ∷ others) = Some r

-- the state as that machine has it: a reply owed stands for answering
abbrev pub one_reply : State → OneReplyState
one_reply s = record {
  credit = s.credit;
  wire = s.wire;
  fcts = s.fcts;
  buffer = s.buffer;
  outstanding = s.outstanding;
  input = s.input;
  to_send = s.to_send;
  pending = λ n. first_of_list (s.pending n);
  answering = λ n. nat_lt 0 (s.owed n);
  taken = s.taken;
  memory = s.memory;
}

-- from a reached state, each step leads in both machines to the same states
pub record IsOneReply (net : Network) (s : State) (step : Step) : Type 0 where
  pub there : (t : State) → Leads net s step t → LeadsOne net (one_reply s) step (one_reply t)
  pub back : (p : OneReplyState) → LeadsOne net (one_reply s) step p → (t : State) × Leads net s step t × (one_reply t ≡ p)

-- where each node has one slot, the machine is that with one pending reply and a flag
abbrev pub OneSlotIsOneReply : Type 0
OneSlotIsOneReply = (net : Network) → IsNetwork net → ((n : ℕ) → n < net.nodes → net.slots n ≡ 1) → (one_reply (empty net) ≡ empty_one net) × ((s : State) → IsReached net s → (step : Step) → IsOneReply net s step)
