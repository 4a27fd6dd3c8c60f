-- The shown cycle as a list of members, each with a step to the next.
use Rattle.std.proofs.Common.{◌≡◌, ℕ, ◌<◌, List, [], ◌∷◌, ◌++◌, length, refl, sym, ap, subst, arith}
use Rattle.std.specs.Prelude.{reverse, slice_index}
use Rattle.std.proofs.lemmas.List.{reverse-append}
use Rattle.sw_graph.specs.Cycles.{IsLeastPredecessor, Walks}
use Rattle.sw_graph.specs.Laws.{IsChain, IsCycle, ShownIsCycle}

module _ (dep : ℕ → ℕ → Type 0) where
  chain_join : (c : ℕ) (xs : List ℕ) (e : ℕ) (ys : List ℕ) (d : ℕ) → IsChain dep c xs e → IsChain dep e ys d → IsChain dep c (xs ++ e ∷ ys) d
  chain_join c [] e ys d h k = (h, k)
  chain_join c (x ∷ xs) e ys d h k = (h.0, chain_join x xs e ys d h.1 k)

  chain_cut : (c : ℕ) (xs : List ℕ) (e : ℕ) (ys : List ℕ) (d : ℕ) → IsChain dep c (xs ++ e ∷ ys) d → IsChain dep c xs e × IsChain dep e ys d
  chain_cut c [] e ys d h = h
  chain_cut c (x ∷ xs) e ys d h = let r = chain_cut x xs e ys d h.1 in ((h.0, r.0), r.1)

  append_none : (xs : List ℕ) → xs ++ [] ≡ xs
  append_none [] = refl
  append_none (x ∷ xs) = ap (λ l. x ∷ l) (append_none xs)

  -- a cycle may begin at any of its members
  pub cycle_turned : (xs ys : List ℕ) → IsCycle dep (xs ++ ys) → IsCycle dep (ys ++ xs)
  cycle_turned [] ys h = subst (IsCycle dep) (sym (append_none ys)) h
  cycle_turned (x ∷ xs) [] h = subst (IsCycle dep) (append_none (x ∷ xs)) h
  cycle_turned (x ∷ xs) (y ∷ ys) h = let r = chain_cut x xs y ys x h in chain_join y ys x xs y r.1 r.0

  -- a walk against the steps, in the other direction
  walk_chain : (a : ℕ) (ws : List ℕ) (end : ℕ) → Walks (IsLeastPredecessor dep) (a ∷ ws) end → IsChain dep end (reverse ws) a
  walk_chain a [] end h = h.member.1
  walk_chain a (w ∷ ws) end h =
      let r = walk_chain w ws end h.1 in
      let P : List ℕ → Type 0 = λ l. IsChain dep end l a in
      subst P (sym (reverse-append (w ∷ []) ws)) (chain_join end (reverse ws) w [] a r h.0.member.1)

  walk_end : (before : List ℕ) (a : ℕ) (ws : List ℕ) (end : ℕ) → Walks (IsLeastPredecessor dep) (before ++ a ∷ ws) end → Walks (IsLeastPredecessor dep) (a ∷ ws) end
  walk_end [] a ws end h = h
  walk_end (b ∷ []) a ws end h = h.1
  walk_end (b ∷ c ∷ rest) a ws end h = walk_end (c ∷ rest) a ws end h.1

  walked_cycle : (before between : List ℕ) → 0 < length between → Walks (IsLeastPredecessor dep) (before ++ between) (slice_index between 0) → IsCycle dep (reverse between)
  walked_cycle before [] some h = absurd (omega arith)
  walked_cycle before (a ∷ ws) some h =
      let r : IsCycle dep (a ∷ reverse ws) = walk_chain a ws a (walk_end before a ws a h) in
      subst (IsCycle dep) (sym (reverse-append (a ∷ []) ws)) (cycle_turned (a ∷ []) (reverse ws) r)

pub shown_is_cycle : (dep : ℕ → ℕ → Type 0) → ShownIsCycle dep
shown_is_cycle dep cycle h =
    let t = h.shown in
    let r = walked_cycle dep h.before h.between h.some h.goes_back in
    subst (IsCycle dep) (sym t.turned) (cycle_turned dep t.early t.late (subst (IsCycle dep) t.direction r))
