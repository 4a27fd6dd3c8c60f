-- What is known on the way, when a step is made.
use Rattle.std.proofs.Common.{Bool, List, Ok, Some, [], ap, arith, length, length-append, length-set, refl, set, subst, sym, ℕ, ◌+◌, ◌++◌, ◌∙◌, ◌∷◌, ◌≡◌, ◌≤◌}
use Rattle.std.proofs.lemmas.Option.{slice_get_within}
use Rattle.std.specs.Prelude.{if◌then◌else◌, not, slice_get}
use Rattle.sw_config.specs.Entries.{Declaration}
use Rattle.sw_config.specs.Valid.{IsValid}
use Rattle.sw_history.proofs.Adds.{begin_counted, none_counted}
use Rattle.sw_history.proofs.FewBegun.{few_are_begun}
use Rattle.sw_history.proofs.Follows.{no_begin_keeps, no_begin_next}
use Rattle.sw_history.specs.History.{IsCounted}
use Rattle.sw_history.specs.Next.{begin_of}
use Rattle.sw_history.specs.Way.{HasBegunNext, HasMoved, IsOnTheWay}
use Rattle.sw_load.proofs.Grown.{grows}
use Rattle.sw_load.specs.History.{IsHistory, KeepsLimit, next_packet, packets_of}
use Rattle.sw_load.specs.Load.{LoadEntry, packet_count}
use Rattle.sw_machine.proofs.RunLists.{moves_append, moves_cons}
use Rattle.sw_machine.specs.Begun.{Begun, moves}
use Rattle.sw_machine.specs.Model.{network_of}
use Rattle.sw_machine.specs.State.{State}
use Rattle.sw_machine.specs.Steps.{Leads, Step, is_begin}
use Rattle.sw_net.proofs.CountedCommands.{counted_with_each_step}
use Rattle.sw_net.specs.Net.{IsNetState, NetAnswers, NetView}
use Rattle.sw_net.specs.Unanswered.{Counts, CountsUnanswered, HasCounted}

pub one_longer : (steps : List Step) (step : Step) (long : ℕ) → length steps ≡ long → length (steps ++ step ∷ []) ≡ long + 1
one_longer steps step long e = let a = length-append steps (step ∷ []) in omega arith

-- 1 for a step that is no beginning
abbrev move_of : Bool → ℕ
move_of begins = if not begins then 1 else 0

last_moves : (steps : List Step) (step : Step) → moves (steps ++ step ∷ []) ≡ moves steps + move_of (is_begin step)
last_moves steps step = let a = moves_append steps (step ∷ []) in let c = moves_cons step [] in omega arith

module _ {R A : Type 0} (load : List LoadEntry) (v w : NetView R A) (same : w.declared ≡ v.declared) (valid : IsValid v.declared) (total : packet_count load ≤ 65536) where
  -- the counts go on
  counted_on : {begun : List ℕ} (counts after : Counts) (old : List Step) (count : ℕ) (way : IsOnTheWay load v begun counts old count) (step : Step) (t : State) → Leads (network_of v.declared) way.state step t → IsNetState w t
      → HasCounted v counts step w after → CountsUnanswered v.declared (old ++ step ∷ []) t after
  counted_on counts after old count way step t leads there has_counted =
      let few = few_are_begun (network_of v.declared) load old way.state way.history total in
      subst (CountsUnanswered v.declared (old ++ step ∷ []) t) (sym (has_counted way.state t way.in_net there)) (counted_with_each_step v.declared valid old way.state counts way.history.run way.unanswered few step t leads)

  pub moved_on : (begun : List ℕ) (counts after : Counts) (e : ℕ) (move : HasMoved v e w) → HasCounted v counts move.step w after → (steps : List Step) (count : ℕ) → IsOnTheWay load v begun counts steps count → IsOnTheWay load w begun after (steps ++ move.step ∷ []) (count + 1)
  moved_on begun counts after e move has_counted old count way =
      let step = move.step in
      let net = network_of v.declared in
      let r = move.made way.state way.in_net in
      let steps = old ++ step ∷ [] in
      let next = no_begin_next net (packets_of load) old step move.no_begin in
      let history = grows net (packets_of load) old way.state way.history step r.0 r.1 next (no_begin_keeps net old way.state step move.no_begin) in
      let one : move_of (is_begin step) ≡ 1 = ap move_of move.no_begin in
      let more = last_moves old step in
      let before = way.moves_are in
      let unanswered = counted_on counts after old count way step r.0 r.1 r.2 has_counted in
      record {
        state = r.0;
        history = subst (λ (d : Declaration). IsHistory (network_of d) (packets_of load) steps r.0) (sym same) history;
        in_net = r.2;
        all_nodes = way.all_nodes ∙ ap (λ (d : Declaration). length d.nodes) (sym same);
        counted = subst (λ (d : Declaration). IsCounted d steps begun) (sym same) (none_counted v.declared old begun way.counted step move.no_begin);
        moves_are = omega arith;
        unanswered = subst (λ (d : Declaration). CountsUnanswered d steps r.0 after) (sym same) unanswered;
      }

  pub begun_on : (begun : List ℕ) (counts after : Counts) (node k : ℕ) (b : Begun) → slice_get begun node ≡ Some k → ((network_of v.declared).flow b.flow).from ≡ node → NetAnswers v (begin_of b) (Ok tt) w
      → HasCounted v counts (begin_of b) w after
      → (steps : List Step) (count : ℕ) (way : IsOnTheWay load v begun counts steps count) → next_packet (network_of v.declared) (packets_of load) steps node ≡ Some b → KeepsLimit (network_of v.declared) steps way.state (begin_of b)
      → (longer : List Step) × HasBegunNext load v steps w longer × IsOnTheWay load w (set begun node (k + 1)) after longer count
  begun_on begun counts after node k b at from made has_counted old count way next keeps =
      let step = begin_of b in
      let net = network_of v.declared in
      let n = (net.flow b.flow).from in
      let r = made way.state way.in_net in
      let steps = old ++ step ∷ [] in
      let here : slice_get begun n ≡ Some k = ap (slice_get begun) from ∙ at in
      let is_next : next_packet net (packets_of load) old n ≡ Some b = ap (next_packet net (packets_of load) old) from ∙ next in
      let history = grows net (packets_of load) old way.state way.history step r.0 r.1 is_next keeps in
      let counted = begin_counted v.declared old begun way.counted b.flow b.cargo b.end k here (slice_get_within begun n k here) in
      let more = last_moves old step in
      let before = way.moves_are in
      let unanswered = counted_on counts after old count way step r.0 r.1 r.2 has_counted in (
        steps,
        record { packet = b; follows = (r.0, history); made = made; adds = refl },
        record {
          state = r.0;
          history = subst (λ (d : Declaration). IsHistory (network_of d) (packets_of load) steps r.0) (sym same) history;
          in_net = r.2;
          all_nodes = length-set begun node (k + 1) ∙ way.all_nodes ∙ ap (λ (d : Declaration). length d.nodes) (sym same);
          counted = subst (λ (d : Declaration). IsCounted d steps (set begun node (k + 1))) (sym same) (subst (λ m. IsCounted v.declared steps (set begun m (k + 1))) from counted);
          moves_are = omega arith;
          unanswered = subst (λ (d : Declaration). CountsUnanswered d steps r.0 after) (sym same) unanswered;
        },
      )
