-- The machine as a function: the state after a step, if the step is possible.
use Rattle.std.specs.List.{list_any}
use Rattle.std.specs.Option.{option_and_then}
use Rattle.std.specs.Prelude.{Bool, List, None, Option, Some, [], false, if◌then◌else◌, is_some, length, nat_eq, nat_le, nat_lt, not, suc, true, zero, ℕ, ◌&&◌, ◌++◌, ◌+◌, ◌||◌, ◌↔◌, ◌∷◌, ◌≡◌}
use Rattle.std.specs.Str.{bytes_eq}
use Rattle.sw_char.specs.declared.nchar.End.{End}
use Rattle.sw_char.specs.declared.nchar.NChar.{NChar}
use Rattle.sw_char.specs.declared.nchar.NChar.TheVariants.{Data, Eep, Eop}
use Rattle.sw_machine.specs.Network.{AtSwitch, Cell, Network, form, left_bytes}
use Rattle.sw_rmap.specs.Owing.{PendingReply}
use Rattle.sw_machine.specs.State.{State, after_accept, after_arrive, after_begin, after_drop_byte, after_drop_marker, after_emit, after_fct, after_fct_in, after_forward, after_grant, after_reply, after_spill}
use Rattle.sw_machine.specs.Steps.{Accept, Arrive, Begin, Drop, Emit, Fct, FctIn, Forward, Grant, Leads, Reply, Spill, Step}
use Rattle.sw_machine.specs.declared.input.InputState.{InputState}
use Rattle.sw_machine.specs.declared.input.InputState.TheVariants.{Held, Idle, Spilling}

-- whether the input holds d
abbrev pub holds : ℕ → InputState → Bool
holds d (Held e) = nat_eq e d
holds d i = false

-- whether some input below n holds d
abbrev pub is_held : ℕ → ℕ → (ℕ → InputState) → Bool
is_held zero d input = false
is_held (suc n) d input = holds d (input n) || is_held n d input

-- the bytes of the packet under way, read one by one behind these
abbrev pub under_way : List ℕ → List NChar → List ℕ
under_way bytes [] = bytes
under_way bytes (Data byte ∷ l) = under_way (bytes ++ byte ∷ []) l
under_way bytes (Eop ∷ l) = under_way [] l
under_way bytes (Eep ∷ l) = under_way [] l

module _ (net : Network) (s : State) where
  abbrev pub try_fct_in : ℕ → ℕ → Option State
  try_fct_in c zero = None
  try_fct_in c (suc k) = if nat_lt c net.channels then Some (after_fct_in s c k) else None

  abbrev pub try_arrive : ℕ → List NChar → Option State
  try_arrive c [] = None
  try_arrive c (x ∷ l) = if nat_lt c net.channels then Some (after_arrive s c x l) else None

  abbrev pub try_grant : ℕ → ℕ → Cell → InputState → List NChar → Option State
  try_grant d c (AtSwitch w) Idle (Data h ∷ l) = if nat_lt c net.channels && (list_any (nat_eq d) (net.look w h) && not (is_held net.channels d s.input)) then Some (after_grant s d c (if net.deletes w h then l else Data h ∷ l)) else None
  try_grant d c at i l = None

  abbrev pub try_drop_byte : ℕ → List ℕ → Option State
  try_drop_byte c [] = if nat_lt c net.channels then Some (after_drop_byte s c) else None
  try_drop_byte c (d ∷ l) = None

  abbrev pub try_drop : ℕ → Cell → InputState → List NChar → Option State
  try_drop c (AtSwitch w) Idle (Data h ∷ l) = try_drop_byte c (net.look w h)
  try_drop c (AtSwitch w) Idle (Eop ∷ l) = if nat_lt c net.channels then Some (after_drop_marker s c l) else None
  try_drop c (AtSwitch w) Idle (Eep ∷ l) = if nat_lt c net.channels then Some (after_drop_marker s c l) else None
  try_drop c at i l = None

  abbrev pub try_credit : ℕ → ℕ → NChar → List NChar → ℕ → Option State
  try_credit c d x l zero = None
  try_credit c d x l (suc k) = if nat_lt c net.channels then Some (after_forward s c d x l k) else None

  abbrev pub try_forward : ℕ → InputState → List NChar → Option State
  try_forward c (Held d) (x ∷ l) = try_credit c d x l (s.credit d)
  try_forward c i l = None

  abbrev pub try_spill : ℕ → InputState → List NChar → Option State
  try_spill c Spilling (x ∷ l) = if nat_lt c net.channels then Some (after_spill s c x l) else None
  try_spill c i l = None

  abbrev pub is_answered_by : ℕ → Option ℕ → Option (List ℕ) → Bool
  is_answered_by i j None = true
  is_answered_by i (Some j) (Some address) = bytes_eq (net.flow j).address address
  is_answered_by i None (Some address) = false

  -- a packet of a limited flow is a command that is answered
  abbrev pub is_command_if_limited : ℕ → Option (List ℕ) → Bool
  is_command_if_limited i address = not (net.limited i) || is_some address

  abbrev pub try_begin : ℕ → List ℕ → End → List NChar → List PendingReply → Option State
  try_begin f cargo end [] [] = if (nat_lt f net.declared_flows && (nat_lt 0 (length cargo) && nat_le (length cargo) 33554432)) && (is_answered_by f (net.flow f).reply (net.reply_to (net.flow f).to (left_bytes net f cargo)) && is_command_if_limited f (net.reply_to (net.flow f).to (left_bytes net f cargo))) then Some (after_begin s (net.flow f).from (form net f 0 cargo end)) else None
  try_begin f cargo end l p = None

  abbrev pub try_emit : ℕ → List NChar → ℕ → Option State
  try_emit n (x ∷ l) (suc k) = if nat_lt n net.nodes then Some (after_emit net s n x l k) else None
  try_emit n l k = None

  abbrev pub try_accept : ℕ → List NChar → List ℕ → Option State
  try_accept n [] bytes = None
  try_accept n (x ∷ l) bytes = if nat_lt n net.nodes && nat_lt (s.owed n) (net.slots n) then Some (after_accept net s n bytes x l) else None

  abbrev pub try_reply : ℕ → List PendingReply → List NChar → Option State
  try_reply n (r ∷ others) [] = if nat_lt n net.nodes then Some (after_reply s n r others) else None
  try_reply n p l = None

  -- the state after the step, if it is possible
  abbrev pub try_step : Step → Option State
  try_step (Fct c) = if nat_lt c net.channels && (nat_le (s.outstanding c + length (s.buffer c) + 8) (net.capacity c) && nat_le (s.outstanding c) 48) then Some (after_fct s c) else None
  try_step (FctIn c) = try_fct_in c (s.fcts c)
  try_step (Arrive c) = try_arrive c (s.wire c)
  try_step (Grant d c) = try_grant d c (net.end_of c) (s.input c) (s.buffer c)
  try_step (Drop c) = try_drop c (net.end_of c) (s.input c) (s.buffer c)
  try_step (Forward c) = try_forward c (s.input c) (s.buffer c)
  try_step (Spill c) = try_spill c (s.input c) (s.buffer c)
  try_step (Begin f cargo end) = try_begin f cargo end (s.to_send (net.flow f).from) (s.pending (net.flow f).from)
  try_step (Emit n) = try_emit n (s.to_send n) (s.credit (net.out n))
  try_step (Accept n) = try_accept n (s.buffer (net.into n)) (under_way [] (s.taken n))
  try_step (Reply n) = try_reply n (s.pending n) (s.to_send n)

-- the state after these steps, if each is possible
abbrev pub try_steps : Network → State → List Step → Option State
try_steps net s [] = Some s
try_steps net s (step ∷ steps) = option_and_then (λ t. try_steps net t steps) (try_step net s step)

-- the function answers a state exactly where the step leads there
abbrev pub StepsAreTried : Type 0
StepsAreTried = (net : Network) (s : State) (step : Step) (t : State) → (try_step net s step ≡ Some t) ↔ Leads net s step t
