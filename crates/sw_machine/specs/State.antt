-- The machine's state, and what each step changes of it.
use Rattle.std.specs.Prelude.{List, None, Option, [], if◌then◌else◌, nat_eq, ℕ, ◌++◌, ◌+◌, ◌-◌, ◌∷◌}
use Rattle.sw_char.specs.declared.nchar.End.TheVariants.{Eep as ByEep, Eop as ByEop}
use Rattle.sw_char.specs.declared.nchar.NChar.{NChar}
use Rattle.sw_char.specs.declared.nchar.NChar.TheVariants.{Data, Eep, Eop}
use Rattle.sw_machine.specs.Network.{Network}
use Rattle.sw_rmap.specs.Owing.{PendingReply, owed_after, owed_with, pending_with, reply_packet}
use Rattle.sw_machine.specs.Packets.{is_marker}
use Rattle.sw_machine.specs.declared.input.InputState.{InputState}
use Rattle.sw_machine.specs.declared.input.InputState.TheVariants.{Held, Idle, Spilling}

-- each channel's and each node's part, by its number
pub record State : Type 0 where
  pub credit : ℕ → ℕ  -- how many characters may still be sent on the channel (ECSS-E-ST-50-12C, data link layer: flow control)
  pub wire : ℕ → List NChar
  pub fcts : ℕ → ℕ  -- how many FCTs for the channel are under way
  pub buffer : ℕ → List NChar
  pub outstanding : ℕ → ℕ  -- how many characters were asked for by FCTs and have not yet arrived
  pub input : ℕ → InputState
  pub to_send : ℕ → List NChar
  pub pending : ℕ → List PendingReply
  pub owed : ℕ → ℕ  -- how many replies the node owes
  pub taken : ℕ → List NChar
  pub memory : ℕ → List ℕ

-- no credit, no character, nothing held, at any channel; nothing to send and nothing taken, at any node
abbrev pub empty : Network → State
empty net = record { credit = λ c. 0; wire = λ c. []; fcts = λ c. 0; buffer = λ c. []; outstanding = λ c. 0; input = λ c. Idle; to_send = λ n. []; pending = λ n. []; owed = λ n. 0; taken = λ n. []; memory = net.memory_at_first }

-- f, but x at c
abbrev pub put : {A : Type 0} → (ℕ → A) → ℕ → A → ℕ → A
put f c x k = if nat_eq k c then x else f k

-- what an input does after it has passed this character on: a marker frees its output
abbrev pub input_after : NChar → InputState → InputState
input_after x before = if is_marker x then Idle else before

-- the reply to the packet that this character completes, where bytes came before it
abbrev pub reply_at : Network → ℕ → List ℕ → List ℕ → NChar → Option PendingReply
reply_at net n memory bytes (Data byte) = None
reply_at net n memory bytes Eop = net.answer n memory bytes ByEop
reply_at net n memory bytes Eep = net.answer n memory bytes ByEep

-- the memory after this character, where bytes came before it: a packet's end may change it
abbrev pub memory_at : Network → ℕ → List ℕ → List ℕ → NChar → List ℕ
memory_at net n memory bytes (Data byte) = memory
memory_at net n memory bytes Eop = net.memory_after n memory bytes ByEop
memory_at net n memory bytes Eep = net.memory_after n memory bytes ByEep

abbrev pub after_fct : State → ℕ → State
after_fct s c = record s { outstanding = put s.outstanding c (s.outstanding c + 8); fcts = put s.fcts c (s.fcts c + 1) }

abbrev pub after_fct_in : State → ℕ → ℕ → State
after_fct_in s c remaining = record s { fcts = put s.fcts c remaining; credit = put s.credit c (s.credit c + 8) }

abbrev pub after_arrive : State → ℕ → NChar → List NChar → State
after_arrive s c first rest = record s { wire = put s.wire c rest; buffer = put s.buffer c (s.buffer c ++ first ∷ []); outstanding = put s.outstanding c (s.outstanding c - 1) }

abbrev pub after_grant : State → ℕ → ℕ → List NChar → State
after_grant s d c rest = record s { input = put s.input c (Held d); buffer = put s.buffer c rest }

-- a byte that names no output stays in the buffer, to be spilled with its packet
abbrev pub after_drop_byte : State → ℕ → State
after_drop_byte s c = record s { input = put s.input c Spilling }

abbrev pub after_drop_marker : State → ℕ → List NChar → State
after_drop_marker s c rest = record s { buffer = put s.buffer c rest }

abbrev pub after_forward : State → ℕ → ℕ → NChar → List NChar → ℕ → State
after_forward s c d first rest remaining = record s { buffer = put s.buffer c rest; wire = put s.wire d (s.wire d ++ first ∷ []); credit = put s.credit d remaining; input = put s.input c (input_after first (Held d)) }

abbrev pub after_spill : State → ℕ → NChar → List NChar → State
after_spill s c first rest = record s { buffer = put s.buffer c rest; input = put s.input c (input_after first Spilling) }

abbrev pub after_begin : State → ℕ → List NChar → State
after_begin s n packet = record s { to_send = put s.to_send n packet }

abbrev pub after_emit : Network → State → ℕ → NChar → List NChar → ℕ → State
after_emit net s n first rest remaining = record s {
  to_send = put s.to_send n rest;
  wire = put s.wire (net.out n) (s.wire (net.out n) ++ first ∷ []);
  credit = put s.credit (net.out n) remaining;
  owed = put s.owed n (owed_after rest (s.pending n) (s.owed n));
}

-- bytes are those of the packet that was under way before
abbrev pub after_accept : Network → State → ℕ → List ℕ → NChar → List NChar → State
after_accept net s n bytes first rest = record s {
  buffer = put s.buffer (net.into n) rest;
  taken = put s.taken n (s.taken n ++ first ∷ []);
  memory = put s.memory n (memory_at net n (s.memory n) bytes first);
  pending = put s.pending n (pending_with (s.pending n) (reply_at net n (s.memory n) bytes first));
  owed = put s.owed n (owed_with (s.owed n) (reply_at net n (s.memory n) bytes first));
}

abbrev pub after_reply : State → ℕ → PendingReply → List PendingReply → State
after_reply s n reply others = record s { to_send = put s.to_send n (reply_packet reply); pending = put s.pending n others }
