-- Where nothing is undelivered after a history.
use Rattle.std.proofs.Common.{List, Some, [], ap, append-nil, arith, count_by, length, length-append, map, refl, subst, suc, sym, zero, ⊎_elim, ℕ, ◌+◌, ◌++◌, ◌<◌, ◌∙◌, ◌∷◌, ◌≡◌}
use Rattle.std.proofs.lemmas.Bool.{cases_lt}
use Rattle.std.proofs.lemmas.List.{nil_from_length}
use Rattle.std.proofs.lemmas.List.Sums.{count_by-le-length, sum_by-cons}
use Rattle.std.specs.Prelude.{slice_get}
use Rattle.sw_char.specs.declared.nchar.NChar.TheVariants.{Data, Eop}
use Rattle.sw_config.proofs.Limits.{limit_within, limit_at_least}
use Rattle.sw_config.specs.Entries.{Declaration}
use Rattle.sw_config.specs.Limits.{limit_at}
use Rattle.sw_config.specs.Valid.{IsValid}
use Rattle.sw_history.proofs.Begun.{declared_at}
use Rattle.sw_history.proofs.Follows.{follows_where_possible}
use Rattle.sw_history.specs.Next.{AreKeptBack, BeginsOne, begin_of}
use Rattle.sw_load.proofs.Grown.{slice_get-behind}
use Rattle.sw_load.specs.History.{BeginsNext, IsHistory, IsWhole, KeepsLimit, next_packet, packets_at, packets_of}
use Rattle.sw_load.specs.Laws.{AreDeclared}
use Rattle.sw_load.specs.Load.{LoadEntry}
use Rattle.sw_machine.proofs.Balance.{count_append}
use Rattle.sw_machine.proofs.DeclaredNetworks.{are_networks}
use Rattle.sw_machine.proofs.Declares.{declared_are_declared}
use Rattle.sw_machine.proofs.Limits.{beginnings_push, nothing_is_unanswered}
use Rattle.sw_machine.specs.Begun.{Begun, beginnings}
use Rattle.sw_machine.specs.Certificate.{Certificate, IsAccepted}
use Rattle.sw_machine.specs.Limits.{is_command_to}
use Rattle.sw_machine.specs.Model.{network_of}
use Rattle.sw_machine.specs.Network.{Network, form}
use Rattle.sw_machine.specs.Owing.{length_pending, PendingReply, reply_packet}
use Rattle.sw_machine.specs.Runs.{total, undelivered}
use Rattle.sw_machine.specs.State.{State, after_begin}
use Rattle.sw_machine.specs.Steps.{IsPossible, Step}
use Rattle.sw_net.proofs.CellNetwork.{nodes_are}

total_zero : (f : ℕ → ℕ) (n c : ℕ) → total n f ≡ 0 → c < n → f c ≡ 0
total_zero f zero c e lt = absurd (omega arith)
total_zero f (suc n) c e lt = ⊎_elim
    (λ small. total_zero f n c (omega arith) small)
    (λ ge. let is : c ≡ n = omega arith in ap f is ∙ omega arith)
    (cases_lt c n)

none_pending : (ps : List PendingReply) → length_pending ps ≡ 0 → ps ≡ []
none_pending [] e = refl
none_pending (r ∷ ps) e =
    absurd (let s = sum_by-cons (λ (q : PendingReply). length (reply_packet q)) r ps in let a = length-append (map Data (r.address ++ r.cargo)) (Eop ∷ []) in omega arith)

whole_by : (net : Network) (packets : List Begun) (steps : List Step) (n : ℕ) → ((b : Begun) → next_packet net packets steps n ≡ Some b → ⊥) → (rest : List Begun) → packets_at net n packets ≡ packets_at net n (beginnings steps) ++ rest
    → packets_at net n (beginnings steps) ≡ packets_at net n packets
whole_by net packets steps n none [] e = sym (e ∙ append-nil (packets_at net n (beginnings steps)))
whole_by net packets steps n none (b ∷ rest) e =
    let xs = packets_at net n (beginnings steps) in
    absurd (none b (ap (λ l. slice_get l (length xs)) e ∙ slice_get-behind xs (b ∷ rest)))

-- where no node has a packet left, all is begun
pub whole_if : (net : Network) (packets : List Begun) (steps : List Step) (s : State) → IsHistory net packets steps s → ((n : ℕ) (b : Begun) → next_packet net packets steps n ≡ Some b → ⊥) → IsWhole net packets steps
whole_if net packets steps s history none n = let front = history.in_order n in whole_by net packets steps n (none n) front.0 front.1

limit_is : (d : Declaration) (n : ℕ) → (network_of d).limit n ≡ limit_at d n
unfolding network_of
limit_is d n = refl

module _ (d : Declaration) (valid : IsValid d) (load : List LoadEntry) (steps : List Step) (s : State) (history : IsHistory (network_of d) (packets_of load) steps s) (empty : undelivered (network_of d) s ≡ 0) where
  abbrev net : Network
  net = network_of d

  -- each node can begin its next packet, as far as the network goes
  module _ (declared : AreDeclared d load) (n : ℕ) (b : Begun) (at : next_packet (network_of d) (packets_of load) steps n ≡ Some b) where
    can_begin : IsPossible net s (begin_of b)
    can_begin =
        let ok = are_networks d valid in
        let here = declared_at d load declared n (length (packets_at net n (beginnings steps))) b at in
        let packet = (declared_are_declared d b.flow b.cargo).0 here.packet in
        let small = packet.declared in
        let flows = ok.flows_declared in
        let ends = ok.flow_ends b.flow (omega arith) in
        let m = (net.flow b.flow).from in
        let idle = total_zero (λ i. length (s.to_send i) + length_pending (s.pending i)) net.nodes m (omega arith) ends.0 in (
          after_begin s m (form net b.flow 0 b.cargo b.end),
          record {
            declared = packet;
            sends_nothing = nil_from_length (s.to_send m) (omega arith);
            none_pending = none_pending (s.pending m) (omega arith);
            after = refl;
          },
        )

    begins_next : BeginsNext net (packets_of load) steps (begin_of b)
    begins_next = ap (next_packet net (packets_of load) steps) (declared_at d load declared n (length (packets_at net n (beginnings steps))) b at).from ∙ at

    -- and does where that is within the limit
    pub begins_within : KeepsLimit net steps s (begin_of b) → BeginsOne net (packets_of load) steps n
    begins_within keeps = record {
      packet = b;
      from = (declared_at d load declared n (length (packets_at net n (beginnings steps))) b at).from;
      follows = (follows_where_possible net (packets_of load) steps s history (begin_of b)).1 (can_begin, begins_next, keeps);
    }

  -- where no node may begin its next packet, each is kept back by the limit
  pub kept_back : AreDeclared d load → ((n : ℕ) → BeginsOne net (packets_of load) steps n → ⊥) → AreKeptBack net (packets_of load) steps s
  kept_back declared none n b at keeps = none n (begins_within declared n b at keeps)

  -- where a certificate is accepted, nothing is unanswered, so each packet is within the limit
  pub keeps_next : (cert : Certificate) → IsAccepted net cert → (b : Begun) → KeepsLimit net steps s (begin_of b)
  keeps_next cert acc b limit came has out =
      let n = (net.flow b.flow).to in
      let limited = sym (limit_is d n) ∙ has in
      let inside = subst (λ k. n < k) (sym (nodes_are d)) (limit_within d valid n limit limited) in
      let zero_is = nothing_is_unanswered net cert (are_networks d valid) acc steps s history.run empty n inside came out in
      let least = limit_at_least d valid n limit limited in
      let push = ap (count_by (is_command_to net n)) (beginnings_push steps (begin_of b)) in
      let more = count_append (is_command_to net n) (beginnings steps) (b ∷ []) in
      let one = count_by-le-length (is_command_to net n) (b ∷ []) in
      omega arith

  -- and none is kept back
  pub none_kept_back : (cert : Certificate) → IsAccepted net cert → AreKeptBack net (packets_of load) steps s → IsWhole net (packets_of load) steps
  none_kept_back cert acc kept = whole_if net (packets_of load) steps s history (λ n b at. kept n b at (keeps_next cert acc b))
