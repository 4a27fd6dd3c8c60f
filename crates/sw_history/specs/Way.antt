-- A network on the way, while it sends a load.
use Rattle.std.specs.Prelude.{Bool, List, None, Ok, Option, Some, [], false, length, slice_get, suc, true, zero, ℕ, ◌*◌, ◌++◌, ◌∷◌, ◌≡◌, ◌⊎◌}
use Rattle.sw_config.specs.Entries.{Declaration}
use Rattle.sw_history.specs.Enabled.{CanStepBelow, IsChosen}
use Rattle.sw_history.specs.Next.{BeginsOne as MayBeginNext, MayFollow, begin_of}
use Rattle.sw_history.specs.Noted.{within_limit}
use Rattle.sw_load.specs.History.{IsHistory, packets_at, packets_of}
use Rattle.sw_load.specs.Load.{LoadEntry}
use Rattle.sw_machine.specs.Begun.{Begun, beginnings, moves}
use Rattle.sw_machine.specs.Parts.{link_end_of}
use Rattle.sw_machine.specs.State.{State}
use Rattle.sw_machine.specs.Steps.{Step, is_begin}
use Rattle.sw_machine.specs.Model.{network_of}
use Rattle.sw_net.specs.Asked.{IsQuietNet}
use Rattle.sw_net.specs.Net.{IsNetState, NetAnswers, NetView}
use Rattle.sw_net.specs.Possible.{TellsBeginning}
use Rattle.sw_net.specs.Unanswered.{Counts, CountsUnanswered, HasCounted}

-- the net is in the state after these steps, so many of them no beginnings; begun tells by node how many packets it has begun, and the counts what
-- is unanswered
pub record IsOnTheWay {R A : Type 0} (load : List LoadEntry) (v : NetView R A) (begun : List ℕ) (counts : Counts) (steps : List Step) (count : ℕ) : Type 0 where
  pub state : State
  pub history : IsHistory (network_of v.declared) (packets_of load) steps state
  pub in_net : IsNetState v state
  pub all_nodes : length begun ≡ length v.declared.nodes
  pub counted : (n k : ℕ) → slice_get begun n ≡ Some k → k ≡ length (packets_at (network_of v.declared) n (beginnings steps))
  pub moves_are : moves steps ≡ count
  pub unanswered : CountsUnanswered v.declared steps state counts

-- the packet that node n begins next, where it has begun so many, if it is within the limit
abbrev pub ready_packet : List LoadEntry → Declaration → Counts → ℕ → ℕ → Option Begun
ready_packet load d counts n k = within_limit d counts (slice_get (packets_at (network_of d) n (packets_of load)) k)

-- true: node n can begin its next packet; false: it has none left, or none within the limit, or can't begin
abbrev pub IsReady : {R A : Type 0} → List LoadEntry → NetView R A → Counts → ℕ → ℕ → Bool → Type 0
IsReady load v counts n k true = ((b : Begun) × (ready_packet load v.declared counts n k ≡ Some b)) × TellsBeginning v n true
IsReady load v counts n k false = (ready_packet load v.declared counts n k ≡ None) ⊎ TellsBeginning v n false

-- no node can
abbrev pub NoneIsReady : {R A : Type 0} → List LoadEntry → NetView R A → List ℕ → Counts → Type 0
NoneIsReady load v begun counts = (n k : ℕ) → slice_get begun n ≡ Some k → IsReady load v counts n k false

-- behind these steps no node may begin its next packet
abbrev pub NoneMayBegin : {R A : Type 0} → List LoadEntry → NetView R A → List Step → Type 0
NoneMayBegin load v steps = (n : ℕ) → MayBeginNext (network_of v.declared) (packets_of load) steps n → ⊥

-- a step other than a beginning was made that belongs to the link end where channel e starts
pub record HasMoved {R A : Type 0} (v : NetView R A) (e : ℕ) (w : NetView R A) : Type 0 where
  pub step : Step
  pub belongs : link_end_of (network_of v.declared) step ≡ e
  pub no_begin : is_begin step ≡ false
  pub made : NetAnswers v step (Ok tt) w

-- a node began its next packet, which may follow these steps
pub record HasBegunNext {R A : Type 0} (load : List LoadEntry) (v : NetView R A) (steps : List Step) (w : NetView R A) (after : List Step) : Type 0 where
  pub packet : Begun
  pub follows : MayFollow (network_of v.declared) (packets_of load) steps (begin_of packet)
  pub made : NetAnswers v (begin_of packet) (Ok tt) w
  pub adds : after ≡ steps ++ begin_of packet ∷ []

-- so it is whatever steps the net is after, and all is counted
abbrev pub HasBegun : {R A : Type 0} → List LoadEntry → NetView R A → List ℕ → Counts → NetView R A → List ℕ → Counts → Type 0
HasBegun load v begun counts w after more =
    (steps : List Step) (count : ℕ) → IsOnTheWay load v begun counts steps count → (longer : List Step) × HasBegunNext load v steps w longer × IsOnTheWay load w after more longer count

-- true: some node began its next packet; false: none can, and nothing changed
abbrev pub BeginsOne : {R A : Type 0} → List LoadEntry → NetView R A → List ℕ → Counts → Bool → NetView R A → List ℕ → Counts → Type 0
BeginsOne load v begun counts true w after more = HasBegun load v begun counts w after more
BeginsOne load v begun counts false w after more = (w ≡ v) × (after ≡ begun) × (more ≡ counts) × NoneIsReady load v begun counts

-- true: a step other than a beginning was made, of the link end that the index chooses; false: none is possible, and nothing changed
abbrev pub MovesOne : {R A : Type 0} → NetView R A → ℕ → Bool → NetView R A → Type 0
MovesOne v index true w = (e : ℕ) × IsChosen v index e × HasMoved v e w
MovesOne v index false w = (w ≡ v) × IsQuietNet v true

-- the step that was made is counted; where none was, no count has changed
abbrev pub CountsMove : {R A : Type 0} → (v : NetView R A) → Counts → (index : ℕ) (made : Bool) (w : NetView R A) → Counts → MovesOne v index made w → Type 0
CountsMove v counts index true w after moved = HasCounted v counts (moved.2).step w after
CountsMove v counts index false w after moved = after ≡ counts

-- pick answers with the index where it is asked how many can step; where none can, it is not asked
abbrev pub Asks : {F : Type 0} → (F → ℕ → ℕ → F → Type 0) → F → ℕ → ℕ → F → Type 0
Asks step f zero index g = g ≡ f
Asks step f (suc n) index g = step f (suc n) index g

-- pick is asked how many link ends can step, and its answer is the index that chooses the one of which a step is made
pub record MovesPicked {R A F : Type 0} (step : F → ℕ → ℕ → F → Type 0) (v : NetView R A) (f : F) (made : Bool) (w : NetView R A) (g : F) : Type 0 where
  pub count : ℕ
  pub counted : CanStepBelow v (2 * length v.declared.links) count
  pub index : ℕ
  pub asked : Asks step f count index g
  pub moved : MovesOne v index made w
