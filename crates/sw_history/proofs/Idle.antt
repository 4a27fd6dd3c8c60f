-- Whether a step of a link end may follow.
use Rattle.std.proofs.Common.{◌≡◌, ◌↔◌, ◌<◌, ◌∷◌, ◌∙◌, [], ℕ, suc, Bool, List, None, Option, Some, ap, arith, eq-eqb, false, length, ne_eqb, refl, replicate, subst, sym, true, ⊎_elim}
use Rattle.std.specs.Prelude.{All, IfNone, IfSome, IsTrue, is_some, nat_eq, not, option_map, slice_get}
use Rattle.std.proofs.lemmas.Bool.{cases_eq, false≢true}
use Rattle.std.proofs.lemmas.List.Elements.{All-append, All-filter, All-nil, All-replicate, All-cons}
use Rattle.std.proofs.lemmas.List.Concat.{flat_map-cons}
use Rattle.std.proofs.lemmas.Option.{get_or_from_slice_get, slice_get_within}
use Rattle.sw_net.specs.Makes.{IsDeclaredAt}
use Rattle.sw_net.specs.CellPossible.{CanStepAt}
use Rattle.sw_history.proofs.Follows.{follows_where_possible, no_begin_keeps, no_begin_next}
use Rattle.sw_history.specs.History.{HistoryView, IsKept, IsNext, IsNextAt, Keeps}
use Rattle.sw_history.specs.Next.{BeginsOne, begin_of, IsIdle}
use Rattle.sw_load.specs.History.{BeginsNext, KeepsLimit, next_packet, packet_of, packets_at, packets_of}
use Rattle.sw_load.specs.Laws.{AreDeclared}
use Rattle.sw_load.specs.Load.{LoadEntry}
use Rattle.sw_machine.specs.DeclaredPackets.{IsDeclaredPacket}
use Rattle.sw_machine.proofs.Parts.{link_ends}
use Rattle.sw_machine.specs.Begun.{Begun, beginnings}
use Rattle.sw_machine.specs.Network.{AtNode, AtSwitch, Network}
use Rattle.sw_machine.specs.Parts.{link_end_of}
use Rattle.sw_machine.specs.Steps.{Accept, Arrive, Begin, Drop, Emit, Fct, FctIn, Forward, Grant, IsPossible, Reply, Spill, Step, is_begin}
use Rattle.sw_machine.proofs.DeclaredNetworks.{are_networks}
use Rattle.sw_machine.specs.Model.{network_of}
use Rattle.sw_net.specs.Asked.{CanStep}
use Rattle.sw_net.specs.Making.{IsMoveOf}
use Rattle.sw_net.specs.Net.{NetView}
use Rattle.sw_net.specs.Possible.{Tells, TellsBeginning}
use Rattle.sw_net.specs.Unanswered.{Counts}
use Rattle.sw_config.specs.Entries.{Declaration}
use Rattle.sw_config.specs.Valid.{IsValid}

-- ---- the packets of a load

at_place : {X : Type 0} (P : X → Type 0) (xs : List X) (k : ℕ) (x : X) → All P xs → slice_get xs k ≡ Some x → P x
at_place P xs k x all at = subst P (get_or_from_slice_get xs k x x at) (all k x (slice_get_within xs k x at))

own : (net : Network) (n : ℕ) (packets : List Begun) → All (λ (b : Begun). (net.flow b.flow).from ≡ n) (packets_at net n packets)
own net n [] = All-nil (λ (b : Begun). (net.flow b.flow).from ≡ n)
own net n (b ∷ packets) = ⊎_elim
    (λ e. rw (eq-eqb (net.flow b.flow).from n e) (All-cons (λ (b : Begun). (net.flow b.flow).from ≡ n) b (packets_at net n packets) e (own net n packets)))
    (λ ne. rw (ne_eqb (net.flow b.flow).from n ne) (own net n packets))
    (cases_eq (net.flow b.flow).from n)

abbrev Declared : Declaration → Begun → Type 0
Declared d b = IsDeclaredPacket d b.flow b.cargo

all_declared : (d : Declaration) (load : List LoadEntry) → AreDeclared d load → All (Declared d) (packets_of load)
all_declared d [] all = All-nil (Declared d)
all_declared d (p ∷ load) all =
    let copies = All-replicate (Declared d) p.count (packet_of p) (all 0 p (omega arith)) in
    let rest = all_declared d load (λ k x lt. all (suc k) x (omega arith)) in
    subst (All (Declared d)) (sym (flat_map-cons (λ (q : LoadEntry). replicate q.count (packet_of q)) p load)) (All-append (Declared d) (replicate p.count (packet_of p)) (packets_of load) copies rest)

module _ (d : Declaration) (load : List LoadEntry) (steps : List Step) (n : ℕ) (b : Begun) (next : next_packet (network_of d) (packets_of load) steps n ≡ Some b) where
  abbrev before : ℕ
  before = length (packets_at (network_of d) n (beginnings steps))

  pub next_from : ((network_of d).flow b.flow).from ≡ n
  next_from = at_place (λ (b : Begun). ((network_of d).flow b.flow).from ≡ n) (packets_at (network_of d) n (packets_of load)) before b (own (network_of d) n (packets_of load)) next

  pub next_declared : AreDeclared d load → IsDeclaredPacket d b.flow b.cargo
  next_declared all = at_place (Declared d) (packets_at (network_of d) n (packets_of load)) before b (All-filter (λ b. nat_eq ((network_of d).flow b.flow).from n) (Declared d) (packets_of load) (all_declared d load all)) next

pub from_told : (d : Declaration) (load : List LoadEntry) (steps : List Step) (n : ℕ) {X : Type 0} (f : X → Begun) (o : Option X) → IfSome o (λ x. next_packet (network_of d) (packets_of load) steps n ≡ Some (f x))
    → IfSome o (λ x. ((network_of d).flow (f x).flow).from ≡ n)
from_told d load steps n f None is = tt
from_told d load steps n f (Some x) is = next_from d load steps n (f x) is

some_of : {A : Type 0} (o : Option A) → is_some o ≡ true → (x : A) × (o ≡ Some x)
some_of None h = absurd (false≢true h)
some_of (Some x) h = (x, refl)

-- what holds of what an option is mapped to
pub if_mapped : {X Y : Type 0} (f : X → Y) (P : Y → Type 0) (o : Option X) (m : Option Y) → option_map f o ≡ m → ((y : Y) → m ≡ Some y → P y) → IfSome o (λ x. P (f x))
if_mapped f P None m e each = tt
if_mapped f P (Some x) m e each = each (f x) (sym e)

pub none_mapped : {X Y : Type 0} (f : X → Y) (P : Type 0) (o : Option X) (m : Option Y) → option_map f o ≡ m → (m ≡ None → P) → IfNone o P
none_mapped f P None m e none = none (sym e)
none_mapped f P (Some x) m e none = tt

-- ---- what may follow

module _ {R A : Type 0} (v : NetView R A) (h : HistoryView) (begun : List ℕ) {counts : Counts} (kept : IsKept v h begun counts) where
  abbrev net : Network
  net = network_of h.declared

  abbrev follows : (step : Step) → IsNext h step ↔ (IsPossible net kept.state step × BeginsNext net (packets_of h.load) h.steps step × KeepsLimit net h.steps kept.state step)
  follows step = follows_where_possible net (packets_of h.load) h.steps kept.state kept.leads step

  pub tells_next : (step : Step) (told : Bool) → Tells v step told → BeginsNext net (packets_of h.load) h.steps step → Keeps h step → (IsTrue told ↔ IsNext h step)
  tells_next step true tells next keep = (λ t. (follows step).1 (subst (λ (d : Declaration). IsPossible (network_of d) kept.state step) kept.network (tells kept.state kept.in_net), next, keep kept.state kept.leads), λ may. refl)
  tells_next step false tells next keep = (λ t. absurd (false≢true t), λ may. absurd (tells kept.state kept.in_net (subst (λ (d : Declaration). IsPossible (network_of d) kept.state step) (sym kept.network) ((follows step).0 may).0)))

  -- ---- the beginning of a node's next packet

  module _ (n : ℕ) where
    abbrev next : Option Begun
    next = next_packet net (packets_of h.load) h.steps n

    one_next : (one : BeginsOne net (packets_of h.load) h.steps n) → next ≡ Some one.packet
    one_next one = ap (next_packet net (packets_of h.load) h.steps) (sym one.from) ∙ ((follows (Begin one.packet.flow one.packet.cargo one.packet.end)).0 one.follows).1

    tells_packet : (told : Bool) → TellsBeginning v n told → (b : Begun) → next ≡ Some b → Tells v (Begin b.flow b.cargo b.end) told
    tells_packet told tells b is =
        let at : IsDeclaredAt h.declared n b.flow b.cargo = record { packet = next_declared h.declared h.load h.steps n b is kept.packets; from = next_from h.declared h.load h.steps n b is } in
        tells b.flow b.cargo b.end (subst (λ (d : Declaration). IsDeclaredAt d n b.flow b.cargo) (sym kept.network) at)

    begins_next : (b : Begun) → next ≡ Some b → BeginsNext net (packets_of h.load) h.steps (Begin b.flow b.cargo b.end)
    begins_next b is = ap (next_packet net (packets_of h.load) h.steps) (next_from h.declared h.load h.steps n b is) ∙ is

    pub begins_packet : TellsBeginning v n true → (b : Begun) → next ≡ Some b → Keeps h (begin_of b) → IsNext h (begin_of b)
    begins_packet tells b is keep = (tells_next (begin_of b) true (tells_packet true tells b is) (begins_next b is) keep).0 refl

    pub begins_told : TellsBeginning v n true → {X : Type 0} (f : X → Begun) (o : Option X) → IfSome o (λ x. next ≡ Some (f x)) → IfSome o (λ x. Keeps h (begin_of (f x))) → IfSome o (λ x. IsNext h (begin_of (f x)))
    begins_told tells f None is keep = tt
    begins_told tells f (Some x) is keep = begins_packet tells (f x) is keep

    pub cannot_begin : TellsBeginning v n false → BeginsOne net (packets_of h.load) h.steps n → ⊥
    cannot_begin tells one =
        let b = one.packet in
        tells_packet false tells b (one_next one) kept.state kept.in_net (subst (λ (d : Declaration). IsPossible (network_of d) kept.state (begin_of b)) (sym kept.network) ((follows (begin_of b)).0 one.follows).0)

    pub begun_all : next ≡ None → BeginsOne net (packets_of h.load) h.steps n → ⊥
    begun_all none one = let some = one_next one in let bad : ⊥ = cc in bad

  -- a possible step of a link end that begins no packet
  pub next_move : (e : ℕ) (step : Step) → IsMoveOf v e step → Tells v step true → IsNextAt h e step
  next_move e step move tells = record {
    belongs = subst (λ (d : Declaration). link_end_of (network_of d) step ≡ e) kept.network move.belongs;
    next = (tells_next step true tells (no_begin_next net (packets_of h.load) h.steps step move.no_begin) (λ s leads. no_begin_keeps net h.steps s step move.no_begin)).0 refl;
  }

  -- ---- link ends

  can_step : (e : ℕ) → CanStep v e true → CanStepAt net kept.state e
  can_step e can = subst (λ (d : Declaration). CanStepAt (network_of d) kept.state e) kept.network (can kept.state kept.in_net)

  cannot_step : (e : ℕ) → CanStep v e false → CanStepAt net kept.state e → ⊥
  cannot_step e none can = none kept.state kept.in_net (subst (λ (d : Declaration). CanStepAt (network_of d) kept.state e) (sym kept.network) can)

  pub not_idle : (e : ℕ) → CanStep v e true → IsIdle net (packets_of h.load) h.steps e → ⊥
  not_idle e can idle =
      let at = can_step e can in
      idle at.step at.belongs ((follows at.step).1 (at.possible, no_begin_next net (packets_of h.load) h.steps at.step at.no_begin, no_begin_keeps net h.steps kept.state at.step at.no_begin))

  moves : (e : ℕ) → CanStep v e false → (step : Step) → is_begin step ≡ false → link_end_of net step ≡ e → IsNext h step → ⊥
  moves e none step no_begin belongs may = cannot_step e none (record { step = step; belongs = belongs; no_begin = no_begin; possible = ((follows step).0 may).0 })

  idle_but : (e : ℕ) → CanStep v e false → ((b : Begun) → net.out (net.flow b.flow).from ≡ e → IsNext h (Begin b.flow b.cargo b.end) → ⊥) → IsIdle net (packets_of h.load) h.steps e
  idle_but e none begins (Begin f cargo end) belongs may = begins (record { flow = f; cargo = cargo; end = end }) belongs may
  idle_but e none begins (Fct c) belongs may = moves e none (Fct c) refl belongs may
  idle_but e none begins (FctIn c) belongs may = moves e none (FctIn c) refl belongs may
  idle_but e none begins (Arrive c) belongs may = moves e none (Arrive c) refl belongs may
  idle_but e none begins (Grant o c) belongs may = moves e none (Grant o c) refl belongs may
  idle_but e none begins (Drop c) belongs may = moves e none (Drop c) refl belongs may
  idle_but e none begins (Forward c) belongs may = moves e none (Forward c) refl belongs may
  idle_but e none begins (Spill c) belongs may = moves e none (Spill c) refl belongs may
  idle_but e none begins (Emit m) belongs may = moves e none (Emit m) refl belongs may
  idle_but e none begins (Accept m) belongs may = moves e none (Accept m) refl belongs may
  idle_but e none begins (Reply m) belongs may = moves e none (Reply m) refl belongs may

  -- by the packet that may be begun there
  pub idle_by : (e : ℕ) → CanStep v e false → ((b : Begun) → IsNextAt h e (begin_of b) → ⊥) → IsIdle net (packets_of h.load) h.steps e
  idle_by e none begins = idle_but e none (λ b belongs may. begins b (record { belongs = belongs; next = may }))

  pub idle_told : (e : ℕ) → CanStep v e false → {X : Type 0} (f : X → Begun) (o : Option X) (told : Bool) → is_some o ≡ not told → IfSome o (λ x. IsNextAt h e (begin_of (f x)))
      → IfNone o ((b : Begun) → IsNextAt h e (begin_of b) → ⊥) → (IsTrue told ↔ IsIdle net (packets_of h.load) h.steps e)
  idle_told e none f None true is some begins = (λ t. idle_by e none begins, λ idle. refl)
  idle_told e none f None false is some begins = absurd (false≢true is)
  idle_told e none f (Some x) true is some begins = absurd (false≢true (sym is))
  idle_told e none f (Some x) false is some begins = (λ t. absurd (false≢true t), λ idle. absurd (idle (begin_of (f x)) some.belongs some.next))

  module _ (valid : IsValid h.declared) where
    -- the packet begins where its link end starts
    begins_at : (b : Begun) → IsNext h (Begin b.flow b.cargo b.end) → net.start_of (net.out (net.flow b.flow).from) ≡ AtNode (net.flow b.flow).from
    begins_at b may = (link_ends net (are_networks h.declared valid) kept.state (Begin b.flow b.cargo b.end) ((follows (Begin b.flow b.cargo b.end)).0 may).0).1

    pub switch_begins : (e w : ℕ) → net.start_of e ≡ AtSwitch w → (b : Begun) → IsNextAt h e (begin_of b) → ⊥
    switch_begins e w starts b at =
        let both : AtNode (net.flow b.flow).from ≡ AtSwitch w = sym (begins_at b at.next) ∙ ap net.start_of at.belongs ∙ starts in
        let bad : ⊥ = cc in
        bad

    module _ (e n : ℕ) (starts : net.start_of e ≡ AtNode n) where
      pub node_begins : e < net.channels → {X : Type 0} (f : X → Begun) (o : Option X) → IfSome o (λ x. IsNext h (begin_of (f x))) → IfSome o (λ x. (net.flow (f x).flow).from ≡ n) → IfSome o (λ x. IsNextAt h e (begin_of (f x)))
      node_begins lt f None may from = tt
      node_begins lt f (Some x) may from = record { belongs = ap net.out from ∙ ((are_networks h.declared valid).starts_at_node e n lt starts).1; next = may }

      pub none_begins : {X : Type 0} (o : Option X) → IfNone o (BeginsOne net (packets_of h.load) h.steps n → ⊥) → IfNone o ((b : Begun) → IsNextAt h e (begin_of b) → ⊥)
      none_begins None none = λ b at.
          let both : AtNode (net.flow b.flow).from ≡ AtNode n = sym (begins_at b at.next) ∙ ap net.start_of at.belongs ∙ starts in
          let same : (net.flow b.flow).from ≡ n = cc in
          none (record { packet = b; from = same; follows = at.next })
      none_begins (Some x) none = tt
