-- The loop that sends a load: how it starts, goes on and ends.
use Rattle.std.proofs.Common.{Err, List, Ok, Result, [], ap, arith, false, length, refl, subst, sym, true, ℕ, ◌+◌, ◌++◌, ◌∙◌, ◌∷◌, ◌≡◌, ◌≤◌}
use Rattle.std.proofs.lemmas.List.{length-replicate}
use Rattle.std.specs.Prelude.{OnErr, replicate, slice_get}
use Rattle.sw_config.specs.Entries.{Declaration}
use Rattle.sw_config.specs.Valid.{IsValid}
use Rattle.sw_history.proofs.Ends.{is_drained, none_may, not_over}
use Rattle.sw_history.proofs.Way.{moved_on}
use Rattle.sw_history.proofs.Zero.{all_zero, new_history, none_counted}
use Rattle.sw_history.specs.Drained.{IsDrained, IsUnderWay}
use Rattle.sw_history.specs.Way.{BeginsOne, CountsMove, IsOnTheWay, MovesOne, NoneMayBegin}
use Rattle.sw_load.specs.History.{packets_of}
use Rattle.sw_load.specs.Laws.{AreDeclared}
use Rattle.sw_load.specs.Limit.{enough_limit}
use Rattle.sw_load.specs.Load.{LoadEntry, packet_count}
use Rattle.sw_machine.proofs.RunLists.{all_moves}
use Rattle.sw_machine.specs.Certificate.{Certificate, IsAccepted}
use Rattle.sw_machine.specs.DeadlockFreedom.{IsDeadlockFreeWithinLimits}
use Rattle.sw_machine.specs.Model.{network_of}
use Rattle.sw_machine.specs.State.{empty}
use Rattle.sw_machine.specs.Steps.{Step}
use Rattle.sw_net.specs.Asked.{IsQuietNet}
use Rattle.sw_net.specs.Net.{IsNet, IsNetState, NetView}
use Rattle.sw_net.specs.Unanswered.{Counts, CountsUnanswered, nothing_counted}
use Rattle.sw_route.specs.declared.look.Look.{Look}

module _ {R A : Type 0} (load : List LoadEntry) where
  pub new_way : (v : NetView R A) (begun : List ℕ) (counts : Counts) (nodes : ℕ) → begun ≡ replicate nodes 0 → counts ≡ nothing_counted nodes → IsNetState v (empty (network_of v.declared)) → nodes ≡ length v.declared.nodes → IsOnTheWay load v begun counts [] 0
  new_way v begun counts nodes is none state all = record {
    state = empty (network_of v.declared);
    history = new_history v.declared load;
    in_net = state;
    all_nodes = ap length is ∙ length-replicate nodes 0 ∙ all;
    counted = λ n k h. all_zero nodes n k (ap (λ l. slice_get l n) (sym is) ∙ h);
    moves_are = refl;
    unanswered = subst (CountsUnanswered v.declared [] (empty (network_of v.declared))) (sym none) (none_counted v.declared nodes all);
  }

  -- where a step fails, the state is still one that a history leads to
  pub under_way : (v w : NetView R A) (begun : List ℕ) (counts : Counts) (steps : List Step) (count : ℕ) → IsOnTheWay load v begun counts steps count → w ≡ v → {X E : Type 0} (r : Result X E) → OnErr r (IsUnderWay load w)
  under_way v w begun counts steps count way same (Ok x) = tt
  under_way v w begun counts steps count way same (Err e) =
      let is : IsUnderWay load v = record { steps = steps; state = way.state; history = way.history; in_net = way.in_net } in
      subst (λ (k : NetView R A). IsUnderWay load k) (sym same) is

  pub no_more_moves : (v : NetView R A) (begun : List ℕ) (counts : Counts) (steps : List Step) (count : ℕ) → IsOnTheWay load v begun counts steps count → count ≤ length steps
  no_more_moves v begun counts steps count way = let all = all_moves steps in let m = way.moves_are in omega arith

  module _ (v u w : NetView R A) (begun after : List ℕ) (counts more last : Counts) (steps : List Step) (count : ℕ) (begins : BeginsOne load v begun counts false u after more) (way : IsOnTheWay load v begun counts steps count) where
    pub still_way : IsOnTheWay load u after more steps count
    still_way =
        let here = subst (λ (k : NetView R A). IsOnTheWay load k begun counts steps count) (sym begins.0) way in
        let there = subst (λ l. IsOnTheWay load u l counts steps count) (sym begins.1) here in
        subst (λ c. IsOnTheWay load u after c steps count) (sym begins.2) there

    pub one_moved : (index : ℕ) (moved : MovesOne u index true w) → CountsMove u more index true w last moved → w.declared ≡ u.declared → IsValid u.declared → packet_count load ≤ 65536 → IsOnTheWay load w after last (steps ++ (moved.2).step ∷ []) (count + 1)
    one_moved index moved has_counted same valid total = moved_on load u w same valid total after more last moved.0 moved.2 has_counted steps count still_way

    module _ (d : Declaration) (same : v.declared ≡ d) (valid : IsValid d) (declared : AreDeclared d load) (total : packet_count load ≤ 65536) (cert : Certificate) (free : IsDeadlockFreeWithinLimits (network_of d) cert) where
      pub none_begin : NoneMayBegin load v steps
      none_begin = none_may load v (subst IsValid (sym same) valid) (subst (λ (e : Declaration). AreDeclared e load) (sym same) declared) cert (subst (λ (e : Declaration). IsDeadlockFreeWithinLimits (network_of e) cert) (sym same) free) begun counts steps count way total begins.3

      pub finished : (acc : IsAccepted (network_of d) cert) (answer : R → ℕ → Look) (ports : A → ℕ) → IsNet answer ports w → (index : ℕ) → MovesOne u index false w → IsDrained load w count
      finished acc answer ports sound index stops =
          let quiet = subst (λ (k : NetView R A). IsQuietNet k true) begins.0 stops.1 in
          let here = subst (λ (k : NetView R A). IsNet answer ports k) (stops.0 ∙ begins.0) sound in
          let is = is_drained load v (subst IsValid (sym same) valid) (subst (λ (e : Declaration). AreDeclared e load) (sym same) declared) cert (subst (λ (e : Declaration). IsDeadlockFreeWithinLimits (network_of e) cert) (sym same) free) begun counts steps count way
          answer ports here (subst (λ (e : Declaration). IsAccepted (network_of e) cert) (sym same) acc) none_begin quiet in
          subst (λ (k : NetView R A). IsDrained load k count) (sym (stops.0 ∙ begins.0)) is

  pub never_over : (v : NetView R A) (begun : List ℕ) (counts : Counts) (steps : List Step) (count : ℕ) → IsOnTheWay load v begun counts steps count → (d : Declaration) → v.declared ≡ d → IsValid d → AreDeclared d load → (cert : Certificate) → IsDeadlockFreeWithinLimits (network_of d) cert → length steps ≡ enough_limit (network_of d) (packets_of load) → ⊥
  never_over v begun counts steps count way d same valid declared cert free e =
      not_over load v (subst IsValid (sym same) valid) (subst (λ (k : Declaration). AreDeclared k load) (sym same) declared) cert (subst (λ (k : Declaration). IsDeadlockFreeWithinLimits (network_of k) cert) (sym same) free) begun counts steps count way
      (e ∙ ap (λ (k : Declaration). enough_limit (network_of k) (packets_of load)) (sym same))
