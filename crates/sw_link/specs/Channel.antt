-- A whole channel: its two ends, its wire and the FCTs that are under way to its transmitting end.
use Rattle.std.specs.Prelude.{◌≡◌, ℕ, ◌+◌, ◌*◌, ◌<◌, ◌≤◌, IsTrue, List, [], ◌∷◌, ◌++◌, length}
use Rattle.sw_char.specs.declared.nchar.NChar.{NChar}
use Rattle.sw_link.specs.Ends.{Received, may_issue, asked, arrived, spent, granted}

pub record Channel : Type 0 where
  pub credit : ℕ
  pub wire : List NChar
  pub fcts : ℕ
  pub received : Received

-- nothing is sent, asked for or received
abbrev pub new_channel : ℕ → Channel
new_channel capacity = record { credit = 0; wire = []; fcts = 0; received = record { buffer = []; outstanding = 0; capacity = capacity } }

-- what can happen to a channel
pub data Event : Type 0 where
  issue : Event
  receive_fct : Event
  send : NChar → Event
  arrive : Event
  take : NChar → Event

-- when it can, and what it changes
pub data Changes : Channel → Event → Channel → Type 0 where
  issued : (s : Channel) → IsTrue (may_issue s.received) → Changes s issue (record s { received = asked s.received; fcts = s.fcts + 1 })
  fct_received : (s : Channel) (fcts : ℕ) → s.fcts ≡ fcts + 1 → Changes s receive_fct (record s { credit = granted s.credit; fcts = fcts })
  sent : (s : Channel) (x : NChar) → 0 < s.credit → Changes s (send x) (record s { credit = spent s.credit; wire = s.wire ++ x ∷ [] })
  arrives : (s : Channel) (x : NChar) (wire : List NChar) → s.wire ≡ x ∷ wire → Changes s arrive (record s { wire = wire; received = arrived x s.received })
  taken : (s : Channel) (x : NChar) (buffer : List NChar) → s.received.buffer ≡ x ∷ buffer → Changes s (take x) (record s { received = record (s.received) { buffer = buffer } })

-- the state that a channel with a buffer of some capacity gets into by these events, the last first
pub data IsReached (capacity : ℕ) : List Event → Channel → Type 0 where
  start : IsReached capacity [] (new_channel capacity)
  more : (s t : Channel) (events : List Event) (event : Event) → IsReached capacity events s → Changes s event t → IsReached capacity (event ∷ events) t

-- the N-Chars that were sent
abbrev pub all_sent : List Event → List NChar
all_sent [] = []
all_sent (issue ∷ earlier) = all_sent earlier
all_sent (receive_fct ∷ earlier) = all_sent earlier
all_sent (send x ∷ earlier) = all_sent earlier ++ x ∷ []
all_sent (arrive ∷ earlier) = all_sent earlier
all_sent (take x ∷ earlier) = all_sent earlier

-- the N-Chars that were taken
abbrev pub all_taken : List Event → List NChar
all_taken [] = []
all_taken (issue ∷ earlier) = all_taken earlier
all_taken (receive_fct ∷ earlier) = all_taken earlier
all_taken (send x ∷ earlier) = all_taken earlier
all_taken (arrive ∷ earlier) = all_taken earlier
all_taken (take x ∷ earlier) = all_taken earlier ++ x ∷ []

-- what was sent was taken, is in the buffer or is on the wire, in the order in which it was sent
abbrev pub NothingIsLost : Type 0
NothingIsLost =
    (capacity : ℕ) (events : List Event) (s : Channel) → IsReached capacity events s →
    all_sent events ≡ all_taken events ++ (s.received.buffer ++ s.wire)

abbrev pub OutstandingIsAccountedFor : Type 0
OutstandingIsAccountedFor =
    (capacity : ℕ) (events : List Event) (s : Channel) → IsReached capacity events s →
    (s.credit + length s.wire + 8 * s.fcts ≡ s.received.outstanding) × (s.received.outstanding ≤ 56)

abbrev pub OutstandingHasRoom : Type 0
OutstandingHasRoom =
    (capacity : ℕ) (events : List Event) (s : Channel) → IsReached capacity events s →
    (s.received.outstanding + length s.received.buffer ≤ s.received.capacity) × (s.received.capacity ≡ capacity)

-- credit leaves room for an FCT that is under way, and what is on the wire was asked for
abbrev pub EndsAcceptChannelChanges : Type 0
EndsAcceptChannelChanges =
    (capacity : ℕ) (events : List Event) (s : Channel) → IsReached capacity events s →
    (0 < s.fcts → s.credit ≤ 48) × (0 < length s.wire → 0 < s.received.outstanding)
