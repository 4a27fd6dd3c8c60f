-- The packets of one node more.
use Rattle.std.proofs.Common.{List, [], ap, arith, get_or, length, length-append, subst, sym, ℕ, ⊎_elim, ◌++◌, ◌+◌, ◌<◌, ◌∙◌, ◌∷◌, ◌≡◌, map}
use Rattle.std.proofs.lemmas.Bool.{cases_lt}
use Rattle.std.proofs.lemmas.List.{map-append}
use Rattle.std.proofs.Math.ListN.{get_or-append}
use Rattle.std.proofs.Math.Seq.{get_or-append_seam}
use Rattle.std.specs.Global.{Vec}
use Rattle.sw_machine.specs.Packets.{Packet}
use Rattle.sw_machine.specs.Runs.{CameOut}
use Rattle.sw_machine.specs.State.{State}
use Rattle.sw_machine.specs.Model.{network_of}
use Rattle.sw_net.specs.Net.{IsNetState, NetView}
use Rattle.sw_schedule.specs.Reports.{AreOutputs}
use Rattle.sw_machine.proofs.Steps.{same_nodes}

-- the lists by node
abbrev pub rows : List (Vec Packet) → List (List Packet)
rows all = map (λ (packets : Vec Packet). packets.items) all

-- the first n of them are what came out there, in each state of the cells
pub record AreFirst {R A : Type 0} (v : NetView R A) (n : ℕ) (all : List (Vec Packet)) : Type 0 where
  pub count : length (rows all) ≡ n
  pub packets : (s : State) → IsNetState v s → (k : ℕ) → k < n → CameOut s k (get_or (rows all) k [])

module _ (all : List (List Packet)) (n : ℕ) (packets : List Packet) (count : length all ≡ n) where
  one_more : length (all ++ packets ∷ []) ≡ n + 1
  one_more = let sum = length-append all (packets ∷ []) in omega arith

  more_outputs : (s : State) → ((k : ℕ) → k < n → CameOut s k (get_or all k [])) → CameOut s n packets → (k : ℕ) → k < n + 1 → CameOut s k (get_or (all ++ packets ∷ []) k [])
  more_outputs s each here k lt = ⊎_elim
      (λ small. subst (CameOut s k) (sym (get_or-append all (packets ∷ []) [] k (omega arith))) (each k small))
      (λ ge. let is : n ≡ k = omega arith in let last : length all ≡ k = omega arith in
      subst (CameOut s k) (sym (subst (λ (j : ℕ). get_or (all ++ packets ∷ []) j [] ≡ packets) last (get_or-append_seam all packets [] []))) (subst (λ (j : ℕ). CameOut s j packets) is here))
      (cases_lt k n)

module _ {R A : Type 0} (v : NetView R A) (all : List (Vec Packet)) (n : ℕ) (q : Vec Packet) where
  pub pushed : (more : List (Vec Packet)) → more ≡ all ++ q ∷ [] → AreFirst v n all → ((s : State) → IsNetState v s → CameOut s n q.items) → AreFirst v (n + 1) more
  pushed more is first here =
      let same = ap rows is ∙ map-append (λ (p : Vec Packet). p.items) all (q ∷ []) in
      record {
        count = subst (λ (l : List (List Packet)). length l ≡ n + 1) (sym same) (one_more (rows all) n q.items first.count);
        packets = λ s at. subst (λ (l : List (List Packet)). (k : ℕ) → k < n + 1 → CameOut s k (get_or l k [])) (sym same) (more_outputs (rows all) n q.items first.count s (first.packets s at) (here s at));
      }

pub all_outputs : {R A : Type 0} (v : NetView R A) (n : ℕ) (all : List (Vec Packet)) → n ≡ length v.declared.nodes → AreFirst v n all → (s : State) → IsNetState v s → AreOutputs (network_of v.declared) s (rows all)
all_outputs v n all is first s at =
    let count : n ≡ (network_of v.declared).nodes = is ∙ same_nodes v.declared in
    record {
      each_node = first.count ∙ count;
      packets = subst (λ (m : ℕ). (k : ℕ) → k < m → CameOut s k (get_or (rows all) k [])) count (first.packets s at);
    }
