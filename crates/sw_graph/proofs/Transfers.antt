-- Relations with the same steps.
use Rattle.std.proofs.Common.{ℕ, zero, suc, List, ◌++◌, length, subst}
use Rattle.std.specs.Prelude.{slice_index, Vec}
use Rattle.std.specs.declared.alloc.Global.{Global}
use Rattle.sw_graph.specs.declared.answer.Order.{Order}
use Rattle.sw_graph.specs.declared.answer.Order.TheVariants.{Levels, Cycle}
use Rattle.sw_graph.specs.Answers.{Answers}
use Rattle.sw_graph.specs.Cycles.{IsBehindCycle, IsLeast, IsLeastPredecessor, IsShownCycle}
use Rattle.sw_graph.specs.Laws.{AnswersCarryOver}
use Rattle.sw_graph.specs.Levels.{Chain, HasCycle, IsLevels}
use Rattle.sw_graph.specs.Rows.{IsReversed, Leads, Precedes}
use Rattle.sw_graph.proofs.Backs.{walks_map}

pub chain_map : (P Q : ℕ → ℕ → Type 0) → ((c d : ℕ) → P c d → Q c d) → (n c d : ℕ) → Chain P n c d → Chain Q n c d
chain_map P Q f zero c d h = h
chain_map P Q f (suc n) c d h = (h.0, chain_map P Q f n c h.0 h.1, f h.0 d h.2)

pub cycle_map : (P Q : ℕ → ℕ → Type 0) → ((c d : ℕ) → P c d → Q c d) → HasCycle P → HasCycle Q
cycle_map P Q f h = (h.0, h.1, chain_map P Q f (suc h.0) h.1 h.1 h.2)

behind_map : (P Q : ℕ → ℕ → Type 0) → ((c d : ℕ) → P c d → Q c d) → (c : ℕ) → IsBehindCycle P c → IsBehindCycle Q c
behind_map P Q f c h = (h.0, h.1, h.2, chain_map P Q f (suc h.1) h.0 h.0 h.3, chain_map P Q f h.2 h.0 c h.4)

least_map : (P Q : ℕ → Type 0) → ((c : ℕ) → P c → Q c) → ((c : ℕ) → Q c → P c) → (c : ℕ) → IsLeast P c → IsLeast Q c
least_map P Q f g c h = record { member = f c h.member; least = λ d q. h.least d (g d q) }

module _ (dep same : ℕ → ℕ → Type 0) (forth : (c d : ℕ) → dep c d → same c d) (back : (c d : ℕ) → same c d → dep c d) where
  levels_map : (n : ℕ) (levels : List ℕ) → IsLevels dep n levels → IsLevels same n levels
  levels_map n levels h = record {
    size = h.size;
    each = λ c lt.
        let l = h.each c lt in
        record {
          reached = (l.reached.0, chain_map dep same forth (slice_index levels c) l.reached.0 c l.reached.1);
          greatest = λ n b k. l.greatest n b (chain_map same dep back n b c k);
        };
  }

  predecessor_map : (c p : ℕ) → IsLeastPredecessor dep c p → IsLeastPredecessor same c p
  predecessor_map c p h =
      least_map (λ b. IsBehindCycle dep b × dep b c) (λ b. IsBehindCycle same b × same b c) (λ b k. (behind_map dep same forth b k.0, forth b c k.1)) (λ b k. (behind_map same dep back b k.0, back b c k.1)) p h

  shown_map : (cycle : List ℕ) → IsShownCycle dep cycle → IsShownCycle same cycle
  shown_map cycle h = record {
    before = h.before;
    between = h.between;
    some = h.some;
    begins = least_map (IsBehindCycle dep) (IsBehindCycle same) (behind_map dep same forth) (behind_map same dep back) (slice_index (h.before ++ h.between) 0) h.begins;
    goes_back = walks_map (IsLeastPredecessor dep) (IsLeastPredecessor same) predecessor_map (h.before ++ h.between) (slice_index h.between 0) h.goes_back;
    once = h.once;
    shown = h.shown;
  }

  pub answers_map : (n : ℕ) (answer : Order) → Answers dep n answer → Answers same n answer
  answers_map n (Levels levels) h = (λ k. h.0 (cycle_map same dep back k), levels_map n levels.items h.1)
  answers_map n (Cycle cycle) h = (cycle_map dep same forth h.0, shown_map cycle.items h.1)

pub carry_over : (dep same : ℕ → ℕ → Type 0) → AnswersCarryOver dep same
carry_over dep same f = answers_map dep same (λ c d. (f c d).0) (λ c d. (f c d).1)

pub reversed_answers : (g h : List (Vec ℕ Global)) → IsReversed g h → (answer : Order) → Answers (Precedes h) (length h) answer → Answers (Leads g) (length g) answer
reversed_answers g h r answer k =
    let P : ℕ → Type 0 = λ n. Answers (Leads g) n answer in
    subst P r.size (answers_map (Precedes h) (Leads g) (λ c d. (r.each c d).1) (λ c d. (r.each c d).0) (length h) answer k)
