-- Where nothing more can happen, the load is sent.
use Rattle.std.proofs.Common.{List, Some, [], ap, arith, count_by, length, refl, subst, sym, true, ⊎_elim, ℕ, ◌*◌, ◌+◌, ◌∙◌, ◌∷◌, ◌≡◌, ◌≤◌}
use Rattle.std.proofs.Math.Nat.{mul-le-mul_left}
use Rattle.std.specs.Prelude.{slice_get, sum_by}
use Rattle.sw_net.proofs.CellNetwork.{nodes_are}
use Rattle.sw_history.proofs.Begun.{declared_at}
use Rattle.sw_history.specs.Drained.{IsDrained, most_moves, most_moves_of}
use Rattle.sw_history.proofs.Emptied.{kept_back, none_kept_back}
use Rattle.sw_net.proofs.Alike.{same_undelivered}
use Rattle.sw_history.proofs.Follows.{follows_where_possible}
use Rattle.sw_history.proofs.Within.{none_within}
use Rattle.sw_history.specs.Next.{begin_of}
use Rattle.sw_history.specs.Noted.{within_limit}
use Rattle.sw_history.specs.Way.{IsOnTheWay, NoneIsReady, NoneMayBegin}
use Rattle.sw_load.proofs.Fronts.{histories_end, no-more}
use Rattle.sw_load.specs.History.{IsWhole, next_packet, packets_at, packets_of}
use Rattle.sw_load.specs.Limit.{enough_limit}
use Rattle.sw_load.specs.Laws.{AreDeclared}
use Rattle.sw_load.specs.Load.{LoadEntry, packet_count}
use Rattle.sw_machine.proofs.Balance.{count_cons}
use Rattle.sw_machine.proofs.RunLists.{all_moves}
use Rattle.sw_machine.specs.Begun.{Begun, RunOf, beginnings, length_with_reply, moves}
use Rattle.sw_machine.specs.Certificate.{Certificate, IsAccepted}
use Rattle.sw_machine.specs.DeadlockFreedom.{IsDeadlockFreeWithinLimits}
use Rattle.sw_machine.specs.Runs.{total, undelivered}
use Rattle.sw_machine.specs.State.{State, empty}
use Rattle.sw_machine.specs.Steps.{Accept, Arrive, Begin, Drop, Emit, Fct, FctIn, Forward, Grant, Reply, Spill, Step, is_begin}
use Rattle.sw_machine.proofs.Flows.{some_at}
use Rattle.sw_machine.proofs.DeclaredNetworks.{are_networks}
use Rattle.sw_machine.specs.Model.{network_of}
use Rattle.sw_net.specs.Asked.{IsQuietNet}
use Rattle.sw_net.specs.Net.{IsNet, IsNetState, NetView}
use Rattle.sw_net.specs.Unanswered.{Counts}
use Rattle.sw_route.specs.declared.look.Look.{Look}
use Rattle.sw_config.specs.Valid.{IsValid}

-- each step but the beginnings begins nothing
beginnings_are : (steps : List Step) → length (beginnings steps) ≡ count_by is_begin steps
beginnings_are [] = refl
beginnings_are (Begin f cargo end ∷ steps) = let r = beginnings_are steps in let c = count_cons is_begin (Begin f cargo end) steps in omega arith
beginnings_are (Fct c ∷ steps) = let r = beginnings_are steps in let k = count_cons is_begin (Fct c) steps in omega arith
beginnings_are (FctIn c ∷ steps) = let r = beginnings_are steps in let k = count_cons is_begin (FctIn c) steps in omega arith
beginnings_are (Arrive c ∷ steps) = let r = beginnings_are steps in let k = count_cons is_begin (Arrive c) steps in omega arith
beginnings_are (Grant d c ∷ steps) = let r = beginnings_are steps in let k = count_cons is_begin (Grant d c) steps in omega arith
beginnings_are (Drop c ∷ steps) = let r = beginnings_are steps in let k = count_cons is_begin (Drop c) steps in omega arith
beginnings_are (Forward c ∷ steps) = let r = beginnings_are steps in let k = count_cons is_begin (Forward c) steps in omega arith
beginnings_are (Spill c ∷ steps) = let r = beginnings_are steps in let k = count_cons is_begin (Spill c) steps in omega arith
beginnings_are (Emit n ∷ steps) = let r = beginnings_are steps in let k = count_cons is_begin (Emit n) steps in omega arith
beginnings_are (Accept n ∷ steps) = let r = beginnings_are steps in let k = count_cons is_begin (Accept n) steps in omega arith
beginnings_are (Reply n ∷ steps) = let r = beginnings_are steps in let k = count_cons is_begin (Reply n) steps in omega arith

module _ {R A : Type 0} (load : List LoadEntry) (v : NetView R A) (valid : IsValid v.declared) (declared : AreDeclared v.declared load) (cert : Certificate) (free : IsDeadlockFreeWithinLimits (network_of v.declared) cert) (begun : List ℕ) (counts : Counts) (steps : List Step) (count : ℕ) (way : IsOnTheWay load v begun counts steps count) where
  -- the loop does not run for ever
  pub not_over : length steps ≡ enough_limit (network_of v.declared) (packets_of load) → ⊥
  not_over e =
      let less = histories_end (network_of v.declared) free.bounded_by_load (packets_of load) steps way.state way.history in
      absurd (omega arith)

  few_moves : IsWhole (network_of v.declared) (packets_of load) steps → moves steps ≤ most_moves (network_of v.declared) (packets_of load)
  few_moves whole =
      let net = network_of v.declared in
      let bound = free.bounded_by_load steps way.state (way.history).run in
      let all = all_moves steps in
      let some = beginnings_are steps in
      let short = no-more (λ (b : Begun). (net.flow b.flow).from) (length_with_reply net) (beginnings steps) (packets_of load) (way.history).in_order in
      let product : net.channels * (14 + 5 * sum_by (length_with_reply net) (beginnings steps)) ≤ net.channels * (14 + 5 * sum_by (length_with_reply net) (packets_of load)) = mul-le-mul_left net.channels (omega arith) in
      omega arith

  -- where no node is ready, none may begin its next packet
  pub none_may : packet_count load ≤ 65536 → NoneIsReady load v begun counts → NoneMayBegin load v steps
  none_may total none n one =
      let net = network_of v.declared in
      let ok = are_networks v.declared valid in
      let b = one.packet in
      let may = (follows_where_possible net (packets_of load) steps way.state way.history (begin_of b)).0 one.follows in
      let next : next_packet net (packets_of load) steps n ≡ Some b = ap (next_packet net (packets_of load) steps) (sym one.from) ∙ may.1 in
      let small = may.0.1.declared.declared in
      let flows = ok.flows_declared in
      let from = (ok.flow_ends b.flow (omega arith)).0 in
      let is_n = one.from in
      let all = nodes_are v.declared in
      let long_begun = way.all_nodes in
      let j = some_at begun n (omega arith) in
      let done = way.counted n j.0 j.1 in
      ⊎_elim
      (λ past. none_within v.declared valid load declared total steps way.state way.history counts way.unanswered n (ap (λ k. within_limit v.declared counts (slice_get (packets_at net n (packets_of load)) k)) (sym done) ∙ past) one)
      (λ never. never b.flow b.cargo b.end (declared_at v.declared load declared n (length (packets_at net n (beginnings steps))) b next) way.state way.in_net may.0)
      (none n j.0 j.1)

  module _ (answer : R → ℕ → Look) (ports : A → ℕ) (sound : IsNet answer ports v) (acc : IsAccepted (network_of v.declared) cert) (none : NoneMayBegin load v steps) (quiet : IsQuietNet v true) where
    state_is_empty : undelivered (network_of v.declared) way.state ≡ 0
    state_is_empty = free.quiet_is_empty way.state (steps, (way.history).run, (way.history).keeps) (quiet way.state way.in_net)

    pub is_empty : (s : State) → IsNetState v s → undelivered (network_of v.declared) s ≡ 0
    is_empty s k = same_undelivered answer ports v sound s way.state k way.in_net ∙ state_is_empty

    all_begun : IsWhole (network_of v.declared) (packets_of load) steps
    all_begun =
        none_kept_back v.declared valid load steps way.state way.history state_is_empty cert acc
        (kept_back v.declared valid load steps way.state way.history state_is_empty declared none)

    begins : (begun : List Begun) × RunOf (network_of v.declared) (empty (network_of v.declared)) steps begun way.state
    begins = free.each_run_is_counted steps way.state (way.history).run

    pub is_drained : IsDrained load v count
    is_drained = record {
      steps = steps;
      state = way.state;
      history = way.history;
      in_net = way.in_net;
      all_begun = all_begun;
      empty = is_empty;
      counted = sym way.moves_are;
      few = subst (λ k. k ≤ most_moves (network_of v.declared) (packets_of load)) way.moves_are (few_moves all_begun);
      begun = begins.0;
      begins = begins.1;
      few_of_begun = subst (λ k. k ≤ most_moves_of (network_of v.declared) begins.0) way.moves_are (free.bounded steps begins.0 way.state begins.1);
    }
