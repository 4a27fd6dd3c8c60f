-- Chains turned round, cut short, and as numbers that are reached.
use Rattle.std.proofs.Common.{◌≡◌, ℕ, zero, suc, ◌+◌, ◌-◌, ◌<◌, ◌≤◌, List, refl, sym, subst, inl, inr, arith}
use Rattle.std.specs.Prelude.{Vec}
use Rattle.std.specs.declared.alloc.Global.{Global}
use Rattle.std.proofs.lemmas.Bool.{cases_lt}
use Rattle.sw_graph.specs.Laws.{IsAmong}
use Rattle.sw_graph.specs.Levels.{Chain}
use Rattle.sw_graph.specs.Reached.{Reached}
use Rattle.sw_graph.specs.Reached.Reached.{begin, step}
use Rattle.sw_graph.specs.Rows.{Leads, row}
use Rattle.sw_graph.proofs.Existence.{stop, stop_first, stop_inside, stop_last}
use Rattle.sw_graph.proofs.Pigeons.{chain_join, pigeons}

pub chain_cons : (dep : ℕ → ℕ → Type 0) (n c b d : ℕ) → dep c b → Chain dep n b d → Chain dep (suc n) c d
chain_cons dep n c b d s h = chain_join dep 1 n c b d (c, refl, s) h (suc n) (omega arith)

-- the first step of a chain
pub chain_first : (dep : ℕ → ℕ → Type 0) (n c d : ℕ) → Chain dep (suc n) c d → (b : ℕ) × dep c b × Chain dep n b d
chain_first dep zero c d h = let P : ℕ → Type 0 = λ x. dep x d in (d, subst P (sym h.1) h.2, refl)
chain_first dep (suc n) c d h = let r = chain_first dep n c h.0 h.1 in (r.0, r.1, (h.0, r.2, h.2))

pub chain_flip : (P Q : ℕ → ℕ → Type 0) → ((c d : ℕ) → P c d → Q d c) → (n c d : ℕ) → Chain P n c d → Chain Q n d c
chain_flip P Q f zero c d h = sym h
chain_flip P Q f (suc n) c d h = chain_cons Q n d h.0 c (f h.0 d h.2) (chain_flip P Q f n c h.0 h.1)

-- from c back to it in no more steps than there are numbers
pub shortened : (dep : ℕ → ℕ → Type 0) (count : ℕ) → IsAmong dep count → (fuel n c : ℕ) → n ≤ fuel → Chain dep (suc n) c c → (m : ℕ) × (m < count) × Chain dep (suc m) c c
shortened dep count among zero n c le h = let lt = (among h.0 c h.2).1 in let P : ℕ → Type 0 = λ x. Chain dep (suc x) c c in let z : n ≡ 0 = omega arith in (0, omega arith, subst P z h)
shortened dep count among (suc fuel) n c le h = elim (cases_lt n count) [
  | inl lt ↦ (n, lt, h)
  | inr past ↦
      let f : ℕ → ℕ = stop dep (suc n) c c h in
      let r = pigeons count f (λ k l. stop_inside dep count among (suc n) c c h k (among h.0 c h.2).1) in
      let i : ℕ = r.0 in
      let j : ℕ = r.1 in
      let less : i < j = r.2 in
      let last : j ≤ count = r.3 in
      let k : ℕ = n - j + i in
      let P : ℕ → Type 0 = λ x. Chain dep (suc n - j) c x in
      let one : Chain dep (suc n - j) c (f i) = subst P (sym r.4) (stop_last dep (suc n) c c h j (suc n - j) (omega arith)) in
      let two : Chain dep i (f i) c = stop_first dep (suc n) c c h i (omega arith) in
      shortened dep count among fuel k c (omega arith) (chain_join dep (suc n - j) i c (f i) c one two (suc k) (omega arith))
]

pub reached_chain : (rows : List (Vec ℕ Global)) (c d : ℕ) → Reached (row rows) c d → (n : ℕ) × Chain (Leads rows) n c d
reached_chain rows c d begin = (0, refl)
reached_chain rows c d (step {n = b} r h) = let k = reached_chain rows c b r in (suc k.0, (b, k.1, h))

pub chain_reached : (rows : List (Vec ℕ Global)) (n c d : ℕ) → Chain (Leads rows) n c d → Reached (row rows) c d
chain_reached rows zero c d h = let P : ℕ → Type 0 = λ x. Reached (row rows) c x in subst P h begin
chain_reached rows (suc n) c d h = step (chain_reached rows n c h.0 h.1) h.2
