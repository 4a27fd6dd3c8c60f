-- What stands behind the characters: for each channel what its end has yet to pass on of the packet that it
-- passes, what its start has yet to get of the packet that it gets, and the packets between.
use Rattle.std.proofs.Common.{List, Some, [], is_some, length, slice_index, true, ℕ, ◌++◌, ◌+◌, ◌<◌, ◌∷◌, ◌≡◌, ◌≢◌, ◌⊎◌}
use Rattle.std.specs.List.{AllByRecursion}
use Rattle.sw_char.specs.declared.nchar.End.{End}
use Rattle.sw_char.specs.declared.nchar.NChar.{NChar}
use Rattle.sw_char.specs.declared.nchar.NChar.TheVariants.{Data, Eep, Eop}
use Rattle.sw_machine.specs.Certificate.{Certificate, IsListed, number}
use Rattle.sw_machine.specs.Network.{AnsweredBy, AtNode, AtSwitch, Cell, Network, form, left_bytes}
use Rattle.sw_rmap.specs.Owing.{PendingReply}
use Rattle.sw_machine.specs.Owed.{IsAsked}
use Rattle.sw_machine.specs.Places.{deleted_after}
use Rattle.sw_machine.specs.State.{State, put}
use Rattle.sw_machine.specs.declared.input.InputState.{InputState}
use Rattle.sw_machine.specs.declared.input.InputState.TheVariants.{Held, Idle, Spilling}

-- a packet on a channel: its flow, how many bytes are deleted, its cargo and its marker
pub record Entry : Type 0 where
  pub flow : ℕ
  pub deleted : ℕ
  pub cargo : List ℕ
  pub end : End

abbrev pub form_of : Network → Entry → List NChar
form_of net e = form net e.flow e.deleted e.cargo e.end

abbrev pub flat : Network → List Entry → List NChar
flat net [] = []
flat net (e ∷ es) = form_of net e ++ flat net es

-- a packet of this flow may have this cargo, and of a limited flow it is a command
pub record IsCarried (net : Network) (i : ℕ) (cargo : List ℕ) : Type 0 where
  pub in_flows : i < net.flows
  pub answered : AnsweredBy net i (net.reply_to (net.flow i).to (left_bytes net i cargo))
  pub command : net.limited i ≡ true → is_some (net.reply_to (net.flow i).to (left_bytes net i cargo)) ≡ true

-- the packet may stand on channel c
pub record IsEntry (net : Network) (cert : Certificate) (c : ℕ) (e : Entry) : Type 0 where
  pub carried : IsCarried net e.flow e.cargo
  pub listed : IsListed cert e.flow c e.deleted

-- one marker, at the very end
abbrev pub IsWhole : List NChar → Type 0
IsWhole [] = ⊥
IsWhole (Data byte ∷ l) = IsWhole l
IsWhole (Eop ∷ l) = l ≡ []
IsWhole (Eep ∷ l) = l ≡ []

abbrev pub IsRest : List NChar → Type 0
IsRest [] = Unit {0}
IsRest (x ∷ l) = IsWhole (x ∷ l)

pub record Ghost : Type 0 where
  pub rest : ℕ → List NChar
  pub coming : ℕ → List NChar
  pub queue : ℕ → List Entry
  pub came : ℕ → List Entry

-- what is on a channel and what still comes are the rest of a packet and whole packets
pub record Stream (net : Network) (cert : Certificate) (c : ℕ) (buffer wire coming rest : List NChar) (queue : List Entry) : Type 0 where
  pub content : buffer ++ (wire ++ coming) ≡ rest ++ flat net queue
  pub queued : AllByRecursion (IsEntry net cert c) queue
  pub ends : IsRest rest

-- an input that holds d passes on what comes to d, along a dependency
pub record Holds (net : Network) (cert : Certificate) (rest coming : ℕ → List NChar) (c d : ℕ) : Type 0 where
  pub in_net : d < net.channels
  pub same : rest c ≡ coming d
  pub whole : IsWhole (rest c)
  pub rising : number cert c < number cert d
  pub switch : ℕ
  pub ends : net.end_of c ≡ AtSwitch switch
  pub starts : net.start_of d ≡ AtSwitch switch

abbrev pub InputIs : Network → Certificate → (ℕ → List NChar) → (ℕ → List NChar) → ℕ → InputState → Type 0
InputIs net cert rest coming c Idle = (switch : ℕ) → net.end_of c ≡ AtSwitch switch → rest c ≡ []
InputIs net cert rest coming c (Held d) = Holds net cert rest coming c d
InputIs net cert rest coming c Spilling = ⊥

-- where what comes to d comes from
abbrev pub Fed : Network → (ℕ → List NChar) → (ℕ → InputState) → (ℕ → List NChar) → ℕ → Cell → Type 0
Fed net to_send input coming d (AtNode n) = coming d ≡ to_send n
Fed net to_send input coming d (AtSwitch switch) = (coming d ≡ []) ⊎ ((b : ℕ) × (b < net.channels) × (input b ≡ Held d))

-- a reply that waits was given, and goes by the reply flow of a flow that ends here
pub record Waits (net : Network) (n : ℕ) (r : PendingReply) : Type 0 where
  pub asked : ℕ
  pub flow : ℕ
  pub in_flows : asked < net.flows
  pub by : (net.flow asked).reply ≡ Some flow
  pub at : (net.flow asked).to ≡ n
  pub goes : r.address ≡ (net.flow flow).address
  pub memory : List ℕ
  pub bytes : List ℕ
  pub end : End
  pub answer : net.answer n memory bytes end ≡ Some r

pub record NodeIs (net : Network) (cert : Certificate) (n : ℕ) (to_send taken rest : List NChar) (owed : ℕ) (pending : List PendingReply) (came : List Entry) : Type 0 where
  pub content : taken ++ rest ≡ flat net came
  pub all_came : AllByRecursion (IsEntry net cert (net.into n)) came
  pub asked : 0 < owed → IsAsked net n
  pub busy : 0 < owed → pending ≡ [] → to_send ≢ []
  pub waits : AllByRecursion (Waits net n) pending

abbrev pub StreamAt : Network → Certificate → State → Ghost → ℕ → Type 0
StreamAt net cert s g c = Stream net cert c (s.buffer c) (s.wire c) (g.coming c) (g.rest c) (g.queue c)

abbrev pub InputAt : Network → Certificate → State → Ghost → ℕ → Type 0
InputAt net cert s g c = InputIs net cert g.rest g.coming c (s.input c)

abbrev pub FedAt : Network → Certificate → State → Ghost → ℕ → Type 0
FedAt net cert s g d = Fed net s.to_send s.input g.coming d (net.start_of d)

abbrev pub NodeAt : Network → Certificate → State → Ghost → ℕ → Type 0
NodeAt net cert s g n = NodeIs net cert n (s.to_send n) (s.taken n) (g.rest (net.into n)) (s.owed n) (s.pending n) (g.came n)

pub record Inv (net : Network) (cert : Certificate) (s : State) (g : Ghost) : Type 0 where
  pub streams : (c : ℕ) → c < net.channels → StreamAt net cert s g c
  pub inputs : (c : ℕ) → c < net.channels → InputAt net cert s g c
  pub one : (b c d : ℕ) → b < net.channels → c < net.channels → s.input b ≡ Held d → s.input c ≡ Held d → b ≡ c
  pub fed : (d : ℕ) → d < net.channels → FedAt net cert s g d
  pub nodes : (n : ℕ) → n < net.nodes → NodeAt net cert s g n

-- what a step changes behind the characters: node n sends on
abbrev pub emit_ghost : Network → Ghost → ℕ → List NChar → Ghost
emit_ghost net g n rest = record g { coming = put g.coming (net.out n) rest }

-- node n begins to send this packet
abbrev pub send_ghost : Network → Ghost → ℕ → Entry → Ghost
send_ghost net g n e = record g { coming = put g.coming (net.out n) (form_of net e); queue = put g.queue (net.out n) (g.queue (net.out n) ++ e ∷ []) }

-- a character goes from c to the channel d that it holds
abbrev pub forward_ghost : Ghost → ℕ → ℕ → List NChar → Ghost
forward_ghost g c d rest = record g { rest = put g.rest c rest; coming = put g.coming d rest }

-- the first packet of c goes on to d, where it is e
abbrev pub grant_ghost : Network → Ghost → ℕ → ℕ → Entry → List Entry → Ghost
grant_ghost net g d c e es = record g { rest = put g.rest c (form_of net e); coming = put g.coming d (form_of net e); queue = put (put g.queue c es) d (g.queue d ++ e ∷ []) }

-- node n goes on to the next packet
abbrev pub open_ghost : Network → Ghost → ℕ → Entry → List Entry → Ghost
open_ghost net g n e es = record g { rest = put g.rest (net.into n) (form_of net e); queue = put g.queue (net.into n) es; came = put g.came n (g.came n ++ e ∷ []) }

-- node n takes a character
abbrev pub accept_ghost : Network → Ghost → ℕ → List NChar → Ghost
accept_ghost net g n tail = record g { rest = put g.rest (net.into n) tail }

-- a packet behind the switch
abbrev pub passed_on : Network → ℕ → Entry → Entry
passed_on net switch e = record e { deleted = deleted_after net e.flow switch e.deleted }

-- what stands at the front of an input that waits: e, and behind it es
pub record Heads (net : Network) (cert : Certificate) (c switch h : ℕ) (more : List NChar) (e : Entry) (es : List Entry) (q : List Entry) : Type 0 where
  pub is : q ≡ e ∷ es
  pub valid : IsEntry net cert c e
  pub within : e.deleted < length (net.flow e.flow).address
  pub byte : h ≡ slice_index (net.flow e.flow).address e.deleted
  pub left : more ≡ form_of net (record e { deleted = e.deleted + 1 }) ++ flat net es
  pub later : AllByRecursion (IsEntry net cert c) es
