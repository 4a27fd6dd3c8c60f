-- From one state on, steps are made to one end.
use Rattle.std.proofs.Common.{List, None, [], ap, append-nil, append_assoc, length, refl, subst, suc, sym, ◌++◌, ◌+◌, ◌∙◌, ◌∷◌, ◌≡◌}
use Rattle.sw_net.specs.Places.{IsUndeclared}
use Rattle.sw_machine.proofs.Determined.{determined}
use Rattle.sw_machine.specs.Network.{Network}
use Rattle.sw_machine.specs.State.{State}
use Rattle.sw_machine.specs.Steps.{Accept, Arrive, Begin, Drop, Emit, Fct, FctIn, Forward, Grant, Leads, Reply, Spill, Step}
use Rattle.sw_schedule.specs.declared.replayed.ReplayEnd.{ReplayEnd}
use Rattle.sw_schedule.specs.declared.replayed.ReplayEnd.TheVariants.{Made, Refused}
use Rattle.sw_schedule.specs.declared.replayed.StepRefusal.{StepRefusal}
use Rattle.sw_schedule.specs.declared.replayed.StepRefusal.TheVariants.{NotEnabled, NotInFlow, OverLimit}
use Rattle.sw_schedule.specs.Replays.{Ends, MakesOr, Refuses, RunWithin}

module _ (net : Network) where
  -- a step that leads on begins no undeclared packet
  is_declared : (s t : State) (step : Step) → Leads net s step t → IsUndeclared net step → ⊥
  is_declared s t (Fct c) l u = u
  is_declared s t (FctIn c) l u = u
  is_declared s t (Arrive c) l u = u
  is_declared s t (Grant d c) l u = u
  is_declared s t (Drop c) l u = u
  is_declared s t (Forward c) l u = u
  is_declared s t (Spill c) l u = u
  is_declared s t (Begin f cargo end) l u = u l.declared
  is_declared s t (Emit n) l u = u
  is_declared s t (Accept n) l u = u
  is_declared s t (Reply n) l u = u

  -- a step that is made is not refused
  not_made : (before : List Step) (s t : State) (step : Step) (refusal : StepRefusal) → MakesOr net before s step None t → Refuses net before s step refusal → ⊥
  not_made before s t step NotInFlow l r = is_declared s t step l.0 r
  not_made before s t step NotEnabled l r = r.1 (t, l.0)
  not_made before s t step OverLimit l r = r.1 l.1

  -- a step is refused for one reason
  one_refusal : (before : List Step) (s : State) (step : Step) (a b : StepRefusal) → Refuses net before s step a → Refuses net before s step b → a ≡ b
  one_refusal before s step NotInFlow NotInFlow r q = refl
  one_refusal before s step NotInFlow NotEnabled r q = absurd (q.0 r)
  one_refusal before s step NotInFlow OverLimit r q = absurd (is_declared s (q.0).0 step (q.0).1 r)
  one_refusal before s step NotEnabled NotInFlow r q = absurd (r.0 q)
  one_refusal before s step NotEnabled NotEnabled r q = refl
  one_refusal before s step NotEnabled OverLimit r q = absurd (r.1 q.0)
  one_refusal before s step OverLimit NotInFlow r q = absurd (is_declared s (r.0).0 step (r.0).1 q)
  one_refusal before s step OverLimit NotEnabled r q = absurd (q.1 r.0)
  one_refusal before s step OverLimit OverLimit r q = refl

  -- behind these steps the next lead on from s, and the one after them is refused then, with the number and the reason
  abbrev Stops : List Step → State → List Step → Step → StepRefusal → State → Type 0
  Stops before s made step refusal t = RunWithin net before s made t × Refuses net (before ++ made) t step refusal

  -- the same behind one step more
  stops_on : (before : List Step) (s t : State) (x : Step) (made : List Step) (step : Step) (refusal : StepRefusal) → RunWithin net (before ++ x ∷ []) s made t → Refuses net (before ++ x ∷ made) t step refusal → Stops (before ++ x ∷ []) s made step refusal t
  stops_on before s t x made step refusal r refused = (r, subst (λ l. Refuses net l t step refusal) (sym (append_assoc before (x ∷ []) made)) refused)

  -- where nothing was made
  stops_here : (before : List Step) (s t : State) (step : Step) (refusal : StepRefusal) → t ≡ s → Refuses net (before ++ []) t step refusal → Refuses net before s step refusal
  stops_here before s t step refusal same refused = subst (λ l. Refuses net l s step refusal) (append-nil before) (subst (λ (w : State). Refuses net (before ++ []) w step refusal) same refused)

  pub one_run : (before : List Step) (s t u : State) (steps : List Step) → RunWithin net before s steps t → RunWithin net before s steps u → t ≡ u
  one_run before s t u [] r q = r ∙ sym q
  one_run before s t u (x ∷ l) (m, h, r) (k, i, q) =
      let same : m ≡ k = determined net s x m k h.0 i.0 in
      one_run (before ++ x ∷ []) k t u l (subst (λ (w : State). RunWithin net (before ++ x ∷ []) w l t) same r) q

  -- steps that all lead on are not stopped
  never_stops : (before : List Step) (s t u : State) (steps made others : List Step) (step : Step) (refusal : StepRefusal) → steps ≡ made ++ step ∷ others → RunWithin net before s steps t → Stops before s made step refusal u → ⊥
  never_stops before s t u [] [] others step refusal is r stop = cc
  never_stops before s t u [] (y ∷ made) others step refusal is r stop = cc
  never_stops before s t u (x ∷ l) [] others step refusal is (m, h, r) (same, refused) =
      let first : x ≡ step = cc in
      not_made before s m step refusal (subst (λ (y : Step). MakesOr net before s y None m) first h) (stops_here before s u step refusal same refused)
  never_stops before s t u (x ∷ l) (y ∷ made) others step refusal is (m, h, r) ((k, i, q), refused) =
      let first : x ≡ y = cc in
      let rest : l ≡ made ++ step ∷ others = cc in
      let same : m ≡ k = determined net s y m k (subst (λ (y : Step). Leads net s y m) first h.0) i.0 in
      let on = stops_on before k u y made step refusal q refused in
      never_stops (before ++ y ∷ []) m t u l made others step refusal rest (subst (λ (z : Step). RunWithin net (before ++ z ∷ []) m l t) first r) (subst (λ (w : State). Stops (before ++ y ∷ []) w made step refusal u) (sym same) on)

  -- two stops of one list of steps are one
  pub record SameStop (made other : List Step) (a b : StepRefusal) (t u : State) : Type 0 where
    pub count : length made ≡ length other
    pub reason : a ≡ b
    pub state : t ≡ u

  one_stop : (before : List Step) (s t u : State) (made others made' others' : List Step) (step step' : Step) (a b : StepRefusal) → made ++ step ∷ others ≡ made' ++ step' ∷ others'
      → Stops before s made step a t → Stops before s made' step' b u → SameStop made made' a b t u
  one_stop before s t u [] others [] others' step step' a b is (r, x) (q, y) =
      let first : step ≡ step' = cc in
      let here = stops_here before s t step a r x in
      let there = stops_here before s u step' b q y in
      record {
        count = refl;
        reason = one_refusal before s step' a b (subst (λ (z : Step). Refuses net before s z a) first here) there;
        state = r ∙ sym q;
      }
  one_stop before s t u [] others (z ∷ made') others' step step' a b is (r, x) ((m, h, q), y) =
      let first : step ≡ z = cc in
      absurd (not_made before s m z a h (subst (λ (v : Step). Refuses net before s v a) first (stops_here before s t step a r x)))
  one_stop before s t u (z ∷ made) others [] others' step step' a b is ((m, h, r), x) (q, y) =
      let first : z ≡ step' = cc in
      absurd (not_made before s m z b h (subst (λ (v : Step). Refuses net before s v b) (sym first) (stops_here before s u step' b q y)))
  one_stop before s t u (z ∷ made) others (v ∷ made') others' step step' a b is ((m, h, r), x) ((k, i, q), y) =
      let first : z ≡ v = cc in
      let rest : made ++ step ∷ others ≡ made' ++ step' ∷ others' = cc in
      let same : m ≡ k = determined net s v m k (subst (λ (w : Step). Leads net s w m) first h.0) i.0 in
      let one = subst (λ (w : Step). Stops (before ++ w ∷ []) m made step a t) first (stops_on before m t z made step a r x) in
      let other = stops_on before k u v made' step' b q y in
      let stop = one_stop (before ++ v ∷ []) k t u made others made' others' step step' a b rest (subst (λ (w : State). Stops (before ++ v ∷ []) w made step a t) same one) other in
      record { count = ap suc stop.count; reason = stop.reason; state = stop.state }

  pub one_end : (before : List Step) (s t u : State) (steps : List Step) (a b : ReplayEnd) → Ends net before s steps a t → Ends net before s steps b u → (a ≡ b) × (t ≡ u)
  one_end before s t u steps (Made k) (Made j) x y = (ap Made (x.0 ∙ sym y.0), one_run before s t u steps x.1 y.1)
  one_end before s t u steps (Made k) (Refused j refusal) x y = absurd (never_stops before s t u steps y.made y.others y.step refusal y.parts x.1 (y.run, y.refused))
  one_end before s t u steps (Refused k refusal) (Made j) x y = absurd (never_stops before s u t steps x.made x.others x.step refusal x.parts y.1 (x.run, x.refused))
  one_end before s t u steps (Refused k reason) (Refused j refusal) x y =
      let stop = one_stop before s t u x.made x.others y.made y.others x.step y.step reason refusal (sym x.parts ∙ y.parts) (x.run, x.refused) (y.run, y.refused) in
      let count : length x.made ≡ length y.made = stop.count in
      let number : k ≡ j = x.counted ∙ ap (λ n. n + 1) count ∙ sym y.counted in
      (ap (λ n. Refused n reason) number ∙ ap (λ r. Refused j r) stop.reason, stop.state)
