-- A node's next packet, where the limit on unanswered commands lets it begin.
use Rattle.std.proofs.Common.{Bool, List, None, Option, Some, ap, false, get_or, length, refl, subst, sym, true, ℕ, ◌<◌, ◌∙◌, ◌≡◌, ◌≤◌}
use Rattle.std.proofs.lemmas.Bool.{false≢true}
use Rattle.std.proofs.lemmas.Option.{same_Some, slice_get_read}
use Rattle.std.specs.Prelude.{if◌then◌else◌, option_map, slice_get, ◌↔◌}
use Rattle.sw_config.specs.Entries.{Declaration}
use Rattle.sw_config.specs.Valid.{IsValid}
use Rattle.sw_history.proofs.FewBegun.{few_are_begun}
use Rattle.sw_history.proofs.Follows.{follows_where_possible, one_state_after}
use Rattle.sw_history.proofs.Idle.{next_declared}
use Rattle.sw_history.specs.History.{HistoryView, IsKept, Keeps}
use Rattle.sw_history.specs.Next.{BeginsOne, begin_of}
use Rattle.sw_history.specs.Noted.{packet_after, senders_of, within_limit}
use Rattle.sw_load.specs.History.{IsHistory, KeepsLimit, next_packet, packets_at, packets_of}
use Rattle.sw_load.specs.Laws.{AreDeclared}
use Rattle.sw_load.specs.Load.{LoadEntry, packet_count}
use Rattle.sw_load.specs.Senders.{SendersView}
use Rattle.sw_machine.proofs.Declares.{declared_are_declared}
use Rattle.sw_machine.specs.Begun.{Begun}
use Rattle.sw_machine.specs.Model.{network_of}
use Rattle.sw_machine.specs.Network.{Network}
use Rattle.sw_machine.specs.State.{State}
use Rattle.sw_machine.specs.Steps.{Step}
use Rattle.sw_net.proofs.CountedCommands.{allowed_is_within_limits}
use Rattle.sw_net.specs.Net.{NetView}
use Rattle.sw_net.specs.Unanswered.{Counts, CountsUnanswered, allows}

-- what is let through is the packet, and it is allowed
let_through : (allow : Bool) (b p : Begun) → (if allow then Some b else None) ≡ Some p → (allow ≡ true) × (b ≡ p)
let_through true b p is = (refl, same_Some b p is)
let_through false b p is = absurd cc

kept_back : (allow : Bool) (b : Begun) → (if allow then Some b else None) ≡ None → allow ≡ false
kept_back true b is = absurd cc
kept_back false b is = refl

pub passes : (d : Declaration) (c : Counts) (o : Option Begun) (p : Begun) → within_limit d c o ≡ Some p → o ≡ Some p
passes d c None p is = absurd cc
passes d c (Some b) p is = ap Some (let_through (allows d c b.flow) b p is).1

-- behind a history, of which what is unanswered is counted
module _ (d : Declaration) (valid : IsValid d) (load : List LoadEntry) (all : AreDeclared d load) (total : packet_count load ≤ 65536) (steps : List Step) (s : State) (leads : IsHistory (network_of d) (packets_of load) steps s) (c : Counts) (counts : CountsUnanswered d steps s c) where
  abbrev net : Network
  net = network_of d

  module _ (n : ℕ) where
    abbrev next : Option Begun
    next = next_packet net (packets_of load) steps n

    -- the next packet is allowed exactly where it keeps the limit
    allowed : (b : Begun) → next ≡ Some b → (allows d c b.flow ≡ true) ↔ KeepsLimit net steps s (begin_of b)
    allowed b is =
        allowed_is_within_limits d valid steps s c leads.run leads.keeps counts (few_are_begun net load steps s leads total) b.flow b.cargo b.end
        ((declared_are_declared d b.flow b.cargo).0 (next_declared d load steps n b is all))

    some_by : (o : Option Begun) → next ≡ o → (p : Begun) → within_limit d c o ≡ Some p → (next ≡ Some p) × KeepsLimit net steps s (begin_of p)
    some_by None is p within = absurd cc
    some_by (Some b) is p within =
        let through = let_through (allows d c b.flow) b p within in
        let keeps = (allowed b is).0 through.0 in
        (is ∙ ap Some through.1, subst (λ q. KeepsLimit net steps s (begin_of q)) through.1 keeps)

    -- a packet that is let through is the next, and within the limit
    pub some_within : (p : Begun) → within_limit d c next ≡ Some p → (next ≡ Some p) × KeepsLimit net steps s (begin_of p)
    some_within p within = some_by next refl p within

    none_by : (o : Option Begun) → next ≡ o → within_limit d c o ≡ None → BeginsOne net (packets_of load) steps n → ⊥
    none_by None is within one =
        let may = (follows_where_possible net (packets_of load) steps s leads (begin_of one.packet)).0 one.follows in
        let some : next ≡ Some one.packet = ap (next_packet net (packets_of load) steps) (sym one.from) ∙ may.1 in
        let bad : None ≡ Some one.packet = sym is ∙ some in
        absurd cc
    none_by (Some b) is within one =
        let may = (follows_where_possible net (packets_of load) steps s leads (begin_of one.packet)).0 one.follows in
        let some : next ≡ Some one.packet = ap (next_packet net (packets_of load) steps) (sym one.from) ∙ may.1 in
        let same : one.packet ≡ b = same_Some one.packet b (sym some ∙ is) in
        let allow = (allowed b is).1 (subst (λ q. KeepsLimit net steps s (begin_of q)) same may.2) in
        false≢true (sym (kept_back (allows d c b.flow) b within) ∙ allow)

    -- where none is, the node may begin none
    pub none_within : within_limit d c next ≡ None → BeginsOne net (packets_of load) steps n → ⊥
    none_within within one = none_by next refl within one

-- the same of a history as it is kept
module _ {R A : Type 0} (v : NetView R A) (h : HistoryView) (begun : List ℕ) {counts : Counts} (kept : IsKept v h begun counts) (valid : IsValid h.declared) (total : packet_count h.load ≤ 65536) (n : ℕ) where
  pub kept_some : (p : Begun) → within_limit h.declared counts (next_packet (network_of h.declared) (packets_of h.load) h.steps n) ≡ Some p
      → (next_packet (network_of h.declared) (packets_of h.load) h.steps n ≡ Some p) × Keeps h (begin_of p)
  kept_some p within =
      let is = some_within h.declared valid h.load kept.packets total h.steps kept.state kept.leads counts kept.unanswered n p within in (
        is.0,
        λ s leads. subst (λ t. KeepsLimit (network_of h.declared) h.steps t (begin_of p)) (sym (one_state_after (network_of h.declared) (packets_of h.load) h.steps kept.state s kept.leads leads)) is.1,
      )

  pub kept_none : within_limit h.declared counts (next_packet (network_of h.declared) (packets_of h.load) h.steps n) ≡ None → BeginsOne (network_of h.declared) (packets_of h.load) h.steps n → ⊥
  kept_none within = none_within h.declared valid h.load kept.packets total h.steps kept.state kept.leads counts kept.unanswered n within

  -- the packet that is read of the senders is the node's next
  pub read_next : (s : SendersView) → s ≡ senders_of h → (d : Declaration) → d ≡ h.declared → (k : ℕ) → n < length h.declared.nodes → k ≡ get_or begun n k → {X : Type 0} (f : X → Begun) (o : Option X) → option_map f o ≡ within_limit d counts (packet_after s n k)
      → option_map f o ≡ within_limit h.declared counts (next_packet (network_of h.declared) (packets_of h.load) h.steps n)
  read_next s senders d same k inside read f o is =
      let lt : n < length begun = subst (λ l. n < l) (sym kept.all_nodes) inside in
      let at : slice_get begun n ≡ Some k = slice_get_read begun (length begun) n k refl lt read in
      is ∙ ap (λ e. within_limit e counts (packet_after s n k)) same ∙ ap (λ t. within_limit h.declared counts (packet_after t n k)) senders
      ∙ ap (λ j. within_limit h.declared counts (slice_get (packets_at (network_of h.declared) n (packets_of h.load)) j)) (kept.counted n k at)
