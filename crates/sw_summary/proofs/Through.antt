-- The states that steps lead through.
use Rattle.std.proofs.Common.{List, [], ap, arith, length, refl, subst, sym, ℕ, ◌++◌, ◌∷◌, ◌≡◌, ◌≤◌}
use Rattle.std.specs.Prelude.{max}
use Rattle.sw_summary.specs.Fills.{LeadsThrough, greatest_fill}
use Rattle.sw_machine.proofs.Determined.{determined}
use Rattle.sw_machine.specs.Network.{Network}
use Rattle.sw_machine.specs.Runs.{Run}
use Rattle.sw_machine.specs.State.{State}
use Rattle.sw_machine.specs.Steps.{Leads, Step}

-- with the last of them
abbrev pub ThroughTo : Network → State → List Step → List State → State → Type 0
ThroughTo net s [] states t = (states ≡ s ∷ []) × (t ≡ s)
ThroughTo net s (step ∷ steps) states t = (mid : State) × (later : List State) × Leads net s step mid × ThroughTo net mid steps later t × (states ≡ s ∷ later)

module _ (net : Network) where
  pub through_of : (s : State) (steps : List Step) (states : List State) (t : State) → ThroughTo net s steps states t → LeadsThrough net s steps states
  through_of s [] states t h = h.0
  through_of s (x ∷ l) states t (mid, later, leads, rest, is) = (mid, later, leads, through_of mid l later t rest, is)

  -- one step more
  pub through_more : (s : State) (steps : List Step) (states : List State) (m : State) (step : Step) (t : State) → ThroughTo net s steps states m → Leads net m step t
      → ThroughTo net s (steps ++ step ∷ []) (states ++ t ∷ []) t
  through_more s [] states m step t (is, same) leads =
      (t, t ∷ [], subst (λ (u : State). Leads net u step t) same leads, (refl, refl), ap (λ (l : List State). l ++ t ∷ []) is)
  through_more s (x ∷ l) states m step t (mid, later, first, rest, is) leads =
      (mid, later ++ t ∷ [], first, through_more mid l later m step t rest leads, ap (λ (k : List State). k ++ t ∷ []) is)

  -- a run of more steps goes the same way, and on
  pub goes_on : (s : State) (steps : List Step) (states : List State) (m : State) (step : Step) (others all : List Step) (t : State) → ThroughTo net s steps states m
      → all ≡ steps ++ step ∷ others → Run net s all t → (u : State) × Leads net m step u
  goes_on s [] states m step others [] t h is run = absurd cc
  goes_on s [] states m step others (x ∷ l) t (first, same) is (u, leads, rest) =
      let x_is : x ≡ step = cc in
      (u, subst (λ (v : State). Leads net v step u) (sym same) (subst (λ (y : Step). Leads net s y u) x_is leads))
  goes_on s (y ∷ steps) states m step others [] t h is run = absurd cc
  goes_on s (y ∷ steps) states m step others (x ∷ l) t (mid, later, first, before, listed) is (u, leads, rest) =
      let x_is : x ≡ y = cc in
      let l_is : l ≡ steps ++ step ∷ others = cc in
      let one : mid ≡ u = determined net s y mid u first (subst (λ (z : Step). Leads net s z u) x_is leads) in
      goes_on mid steps later m step others l t before l_is (subst (λ (v : State). Run net v l t) (sym one) rest)

  -- the last state holds no more than the greatest fill
  pub last_held : (s : State) (steps : List Step) (states : List State) (t : State) → ThroughTo net s steps states t → (k : ℕ) → length (t.buffer k) ≤ greatest_fill states k
  last_held s [] states t (is, same) k =
      let fill : greatest_fill states k ≡ max (length (s.buffer k)) 0 = ap (λ (l : List State). greatest_fill l k) is in
      let here : length (t.buffer k) ≡ length (s.buffer k) = ap (λ (u : State). length (u.buffer k)) same in
      omega (arith, fill, here)
  last_held s (x ∷ l) states t (mid, later, first, rest, is) k =
      let fill : greatest_fill states k ≡ max (length (s.buffer k)) (greatest_fill later k) = ap (λ (l : List State). greatest_fill l k) is in
      let before = last_held mid l later t rest k in
      omega (arith, fill, before)

-- one state more
pub fill_more : (states : List State) (t : State) (k : ℕ) → greatest_fill (states ++ t ∷ []) k ≡ max (greatest_fill states k) (length (t.buffer k))
fill_more [] t k = omega arith
fill_more (s ∷ states) t k = let rest = fill_more states t k in omega (arith, rest)
