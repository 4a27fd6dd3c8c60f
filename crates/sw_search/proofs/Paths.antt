-- Where steps lead, decided: over the first n numbers alone, one number more at a time.
use Rattle.std.proofs.Common.{◌≡◌, ℕ, zero, suc, ◌<◌, ◌⊎◌, List, Contains, refl, sym, subst, inl, inr, arith}
use Rattle.std.proofs.lemmas.Bool.{cases_eq}
use Rattle.sw_graph.specs.Levels.{Chain, HasCycle}
use Rattle.sw_graph.proofs.Peels.{is_listed}
use Rattle.sw_graph.specs.Reached.{Reached}
use Rattle.sw_graph.specs.Reached.Reached.{begin, step}

-- it holds, or it does not
abbrev pub Decided : Type 0 → Type 0
Decided A = A ⊎ (A → ⊥)

pub both : (A B : Type 0) → Decided A → Decided B → Decided (A × B)
both A B (inl a) (inl b) = inl (a, b)
both A B (inl a) (inr b) = inr (λ h. b h.1)
both A B (inr a) b = inr (λ h. a h.0)

pub either : (A B : Type 0) → Decided A → Decided B → Decided (A ⊎ B)
either A B (inl a) b = inl (inl a)
either A B (inr a) (inl b) = inl (inr b)
either A B (inr a) (inr b) = inr (λ h. elim h [ inl x ↦ a x | inr y ↦ b y ])

-- one of the first n numbers has the property, or none has
pub some_before : (P : ℕ → Type 0) (n : ℕ) → ((b : ℕ) → b < n → Decided (P b)) → ((b : ℕ) × (b < n) × P b) ⊎ ((b : ℕ) → b < n → P b → ⊥)
some_before P zero dec = inr (λ b lt p. omega arith)
some_before P (suc n) dec = elim (some_before P n (λ b lt. dec b (omega arith))) [
  | inl r ↦ inl (r.0, (let lt = r.1 in omega arith), r.2)
  | inr none ↦ elim (dec n (omega arith)) [
    | inl p ↦ inl (n, omega arith, p)
    | inr never ↦ inr (λ b lt p. elim (cases_eq b n) [ inl e ↦ never (subst P e p) | inr ne ↦ none b (omega arith) p ])
  ]
]

module _ (dep : ℕ → ℕ → Type 0) where
  -- steps lead from a to b, between the two over numbers below n
  abbrev Via : ℕ → ℕ → ℕ → Type 0
  Via zero a b = dep a b
  Via (suc n) a b = Via n a b ⊎ (Via n a n × Via n n b)

  by_step : (n a b : ℕ) → dep a b → Via n a b
  by_step zero a b h = h
  by_step (suc n) a b h = inl (by_step n a b h)

  to_last : (n a : ℕ) → Via (suc n) a n → Via n a n
  to_last n a (inl h) = h
  to_last n a (inr h) = h.0

  from_last : (n b : ℕ) → Via (suc n) n b → Via n n b
  from_last n b (inl h) = h
  from_last n b (inr h) = h.1

  via_join : (n a m b : ℕ) → m < n → Via n a m → Via n m b → Via n a b
  via_join zero a m b lt h k = absurd (omega arith)
  via_join (suc n) a m b lt h k = by (cases_eq m n) h k (via_join n)
    where
      by : (m ≡ n) ⊎ (m ≡ n → ⊥) → Via (suc n) a m → Via (suc n) m b → ((x y z : ℕ) → y < n → Via n x y → Via n y z → Via n x z) → Via (suc n) a b
      by (inl same) h k rest =
          let first : Via n a n = to_last n a (subst (λ (x : ℕ). Via (suc n) a x) same h) in
          let second : Via n n b = from_last n b (subst (λ (x : ℕ). Via (suc n) x b) same k) in
          inr (first, second)
      by (inr other) (inl h) (inl k) rest = inl (rest a m b (omega arith) h k)
      by (inr other) (inl h) (inr k) rest = inr (rest a m n (omega arith) h k.0, k.1)
      by (inr other) (inr h) (inl k) rest = inr (h.0, rest n m b (omega arith) h.1 k)
      by (inr other) (inr h) (inr k) rest = inr (h.0, k.1)

  via_decided : ((a b : ℕ) → Decided (dep a b)) → (n a b : ℕ) → Decided (Via n a b)
  via_decided dec zero a b = dec a b
  via_decided dec (suc n) a b = either (Via n a b) (Via n a n × Via n n b) (via_decided dec n a b) (both (Via n a n) (Via n n b) (via_decided dec n a n) (via_decided dec n n b))

  join : (m n a b c : ℕ) → Chain dep (suc m) a b → Chain dep (suc n) b c → (k : ℕ) × Chain dep (suc k) a c
  join m zero a b c h k = (suc m, (b, h, subst (λ (x : ℕ). dep x c) (sym k.1) k.2))
  join m (suc n) a b c h k = let r = join m n a b k.0 h k.1 in (suc r.0, (k.0, r.1, k.2))

  via_chain : (n a b : ℕ) → Via n a b → (k : ℕ) × Chain dep (suc k) a b
  via_chain zero a b h = (0, (a, refl, h))
  via_chain (suc n) a b (inl h) = via_chain n a b h
  via_chain (suc n) a b (inr h) = let r = via_chain n a n h.0 in let s = via_chain n n b h.1 in join r.0 s.0 a n b r.1 s.1

  module _ (n : ℕ) (below : (a b : ℕ) → dep a b → b < n) where
    chain_via : (k a b : ℕ) → Chain dep (suc k) a b → Via n a b
    chain_via zero a b h = by_step n a b (subst (λ (x : ℕ). dep x b) (sym h.1) h.2)
    chain_via (suc k) a b h =
        let before : Chain dep (suc k) a h.0 = h.1 in
        via_join n a h.0 b (below before.0 h.0 before.2) (chain_via k a h.0 before) (by_step n h.0 b h.2)

    module _ (dec : (a b : ℕ) → Decided (dep a b)) where
      -- there is a cycle, or there is none
      pub cycle_decided : Decided (HasCycle dep)
      cycle_decided = elim (some_before (λ c. Via n c c) n (λ c lt. via_decided dec n c c)) [
        | inl r ↦ let s = via_chain n r.0 r.0 r.2 in inl (s.0, r.0, s.1)
        | inr none ↦ inr (λ h.
            let c : ℕ = h.1 in
            let around : Chain dep (suc h.0) c c = h.2 in
            none c (below around.0 c around.2) (chain_via h.0 c c around))
      ]

      -- a chain leads from a to b, or none does
      pub chain_decided : (a b : ℕ) → Decided ((k : ℕ) × Chain dep k a b)
      chain_decided a b = elim (cases_eq a b) [
        | inl same ↦ inl (0, same)
        | inr other ↦ elim (via_decided dec n a b) [
          | inl h ↦ let r = via_chain n a b h in inl (suc r.0, r.1)
          | inr none ↦ inr (λ h. by other none h.0 h.1)
        ]
      ]
        where
          by : (a ≡ b → ⊥) → (Via n a b → ⊥) → (k : ℕ) → Chain dep k a b → ⊥
          by other none zero h = other h
          by other none (suc k) h = none (chain_via k a b h)

-- ---- numbers that are reached

module _ (next : ℕ → List ℕ) (start : ℕ) where
  chain_of : (m : ℕ) → Reached next start m → (k : ℕ) × Chain (λ a b. Contains (next a) b) k start m
  chain_of m begin = (0, refl)
  chain_of m (step {n = n} r h) = let c = chain_of n r in (suc c.0, (n, c.1, h))

  reached_by : (k m : ℕ) → Chain (λ a b. Contains (next a) b) k start m → Reached next start m
  reached_by zero m h = subst (Reached next start) h begin
  reached_by (suc k) m h = step (reached_by k h.0 h.1) h.2

  -- a number is reached, or it is not
  pub reached_decided : (n : ℕ) → ((a b : ℕ) → Contains (next a) b → b < n) → (m : ℕ) → Decided (Reached next start m)
  reached_decided n below m = elim (chain_decided (λ a b. Contains (next a) b) n below (λ a b. is_listed (next a) b) start m) [
    | inl r ↦ inl (reached_by r.0 m r.1)
    | inr none ↦ inr (λ h. none (chain_of m h))
  ]
