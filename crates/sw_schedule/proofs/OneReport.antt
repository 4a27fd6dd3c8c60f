-- One thing is true of a state.
use Rattle.std.proofs.Common.{List, [], ap, arith, get_or, length, refl, subst, sym, suc, ℕ, ◌<◌, ◌∙◌, ◌∷◌, ◌≡◌}
use Rattle.sw_machine.proofs.Cuts.{cuts}
use Rattle.sw_machine.specs.Network.{Network}
use Rattle.sw_machine.specs.Packets.{Packet}
use Rattle.sw_machine.specs.Runs.{CameOut, IsLockedUp}
use Rattle.sw_machine.specs.State.{State, empty}
use Rattle.sw_machine.specs.Model.{network_of}
use Rattle.sw_schedule.specs.Reports.{IsTrueOf, Report}
use Rattle.sw_schedule.specs.Replays.{ReplaysAreDetermined}
use Rattle.sw_schedule.proofs.Stops.{one_end}
use Rattle.sw_topo.proofs.Lists.{same_answer}

one_cut : (s : State) (n : ℕ) (ps qs : List Packet) → CameOut s n ps → CameOut s n qs → ps ≡ qs
one_cut s n ps qs (a, x) (b, y) = (cuts ps qs a b (sym x ∙ y)).0

same_list : {X : Type 0} (xs ys : List X) (z : X) → length xs ≡ length ys → ((k : ℕ) → k < length xs → get_or xs k z ≡ get_or ys k z) → xs ≡ ys
same_list [] [] z len each = refl
same_list [] (y ∷ ys) z len each = absurd (omega arith)
same_list (x ∷ xs) [] z len each = absurd (omega arith)
same_list (x ∷ xs) (y ∷ ys) z len each =
    let first : x ≡ y = each 0 (omega arith) in
    let rest : xs ≡ ys = same_list xs ys z (omega arith) (λ k lt. each (suc k) (omega arith)) in
    ap (λ w. w ∷ xs) first ∙ ap (λ l. y ∷ l) rest

module _ (net : Network) (s : State) (r q : Report) (x : IsTrueOf net s r) (y : IsTrueOf net s q) where
  same_remaining : r.remaining ≡ q.remaining
  same_remaining = x.counted ∙ sym y.counted

  same_stuck : r.stuck ≡ q.stuck
  same_stuck = same_answer (IsLockedUp net s) r.stuck q.stuck x.locked_up y.locked_up

  same_packets : r.came_out ≡ q.came_out
  same_packets =
      let count : length r.came_out ≡ length q.came_out = x.outputs.each_node ∙ sym y.outputs.each_node in
      same_list r.came_out q.came_out [] count (λ k lt. let in_net : k < net.nodes = subst (λ n. k < n) x.outputs.each_node lt in one_cut s k (get_or r.came_out k []) (get_or q.came_out k []) (x.outputs.packets k in_net) (y.outputs.packets k in_net))

  pub same_report : r.outcome ≡ q.outcome → r ≡ q
  same_report outcome = λ i. record { outcome = outcome i; remaining = same_remaining i; stuck = same_stuck i; came_out = same_packets i }

pub replays_are_determined : ReplaysAreDetermined
replays_are_determined d steps r q x y =
    let end = one_end (network_of d) [] (empty (network_of d)) x.state y.state steps r.outcome q.outcome x.ends y.ends in
    same_report (network_of d) y.state r q (subst (λ (s : State). IsTrueOf (network_of d) s r) end.1 x.report) y.report end.0
