-- Steps that are made one after another.
use Rattle.std.proofs.Common.{List, None, Some, [], ap, append-nil, append_assoc, arith, drop, get_or, length, length-append, refl, replicate, subst, suc, sym, take, zero, ℕ, ◌++◌, ◌+◌, ◌-◌, ◌<◌, ◌≤◌, ◌∙◌, ◌∷◌, ◌≡◌}
use Rattle.std.proofs.lemmas.List.{flat_map_more, length-replicate, replicate-append-replicate, take_more}
use Rattle.sw_load.proofs.Grown.{keeps_with}
use Rattle.sw_machine.proofs.RunLists.{run_append}
use Rattle.sw_machine.specs.Limits.{KeepsLimits}
use Rattle.sw_machine.specs.Network.{Network}
use Rattle.sw_machine.specs.Runs.{Run}
use Rattle.sw_machine.specs.State.{State, empty}
use Rattle.sw_machine.specs.Steps.{Step}
use Rattle.sw_schedule.specs.declared.replayed.ReplayEnd.TheVariants.{Refused}
use Rattle.sw_schedule.specs.declared.replayed.StepRefusal.{StepRefusal}
use Rattle.sw_schedule.specs.Replays.{Ends, MakesOr, Refuses, RunWithin}
use Rattle.sw_schedule.specs.Lines.{Repeated}
use Rattle.sw_schedule.specs.Schedule.{steps_of}

module _ (net : Network) where
  -- steps that are made behind steps that were made
  pub within_append : (before : List Step) (a b : List Step) (s m t : State) → RunWithin net before s a m → RunWithin net (before ++ a) m b t → RunWithin net before s (a ++ b) t
  within_append before [] b s m t r q = subst (λ (w : State). RunWithin net before w b t) r (subst (λ l. RunWithin net l m b t) (append-nil before) q)
  within_append before (x ∷ a) b s m t (k, h, r) q = (k, h, within_append (before ++ x ∷ []) a b k m t r (subst (λ l. RunWithin net l m b t) (sym (append_assoc before (x ∷ []) a)) q))

  -- they lead on, without regard to limits
  pub run_of_within : (before steps : List Step) (s t : State) → RunWithin net before s steps t → Run net s steps t
  run_of_within before [] s t r = r
  run_of_within before (x ∷ l) s t (k, h, r) = (k, h.0, run_of_within (before ++ x ∷ []) l k t r)

  -- and all steps from the empty state on keep the limits
  pub within_keeps : (before steps : List Step) (s t : State) → Run net (empty net) before s → KeepsLimits net before → RunWithin net before s steps t → KeepsLimits net (before ++ steps)
  within_keeps before [] s t run keeps r = subst (KeepsLimits net) (sym (append-nil before)) keeps
  within_keeps before (x ∷ l) s t run keeps (k, h, r) =
      subst (KeepsLimits net) (append_assoc before (x ∷ []) l)
      (within_keeps (before ++ x ∷ []) l k t (run_append net before (x ∷ []) (empty net) s k run (k, h.0, refl)) (keeps_with net before s run keeps x k h.0 h.1) r)

  -- a step that is made once more
  pub once_more : (before : List Step) (s t u : State) (x : Step) (k : ℕ) → RunWithin net before s (replicate k x) t → MakesOr net (before ++ replicate k x) t x None u → RunWithin net before s (replicate (k + 1) x) u
  once_more before s t u x k run makes =
      subst (λ (l : List Step). RunWithin net before s l u) (replicate-append-replicate k 1 x) (within_append before (replicate k x) (x ∷ []) s t u run (u, makes, refl))

  -- a step that is refused, behind so many times that it was made
  pub refused_then : (before : List Step) (s t u : State) (x : Step) (k n : ℕ) (r : StepRefusal) → k < n → RunWithin net before s (replicate k x) t → MakesOr net (before ++ replicate k x) t x (Some r) u → Ends net before s (replicate n x) (Refused (k + 1) r) u
  refused_then before s t u x k n r lt run (refuses, same) =
      let m : ℕ = n - (k + 1) in
      let is : n ≡ k + suc m = omega arith in
      record {
        made = replicate k x;
        step = x;
        others = replicate m x;
        parts = ap (λ j. replicate j x) is ∙ sym (replicate-append-replicate k (suc m) x);
        counted = ap (λ j. j + 1) (sym (length-replicate k x));
        run = subst (λ (w : State). RunWithin net before s (replicate k x) w) (sym same) run;
        refused = subst (λ (w : State). Refuses net (before ++ replicate k x) w x r) (sym same) refuses;
      }

  -- steps that are stopped behind steps that were made
  pub stopped_then : (before : List Step) (s t u : State) (a b rest : List Step) (count k : ℕ) (r : StepRefusal) → RunWithin net before s a t → count ≡ length a → Ends net (before ++ a) t b (Refused k r) u → Ends net before s (a ++ (b ++ rest)) (Refused (count + k) r) u
  stopped_then before s t u a b rest count k r run is stop =
      let parts : a ++ (b ++ rest) ≡ (a ++ stop.made) ++ (stop.step ∷ (stop.others ++ rest)) =
      ap (λ (l : List Step). a ++ (l ++ rest)) stop.parts
      ∙ ap (λ (l : List Step). a ++ l) (append_assoc stop.made (stop.step ∷ stop.others) rest)
      ∙ sym (append_assoc a stop.made (stop.step ∷ (stop.others ++ rest)))
      in
      let sum = length-append a stop.made in
      let counted = stop.counted in
      record {
        made = a ++ stop.made;
        step = stop.step;
        others = stop.others ++ rest;
        parts = parts;
        counted = omega arith;
        run = within_append before a stop.made s t u run stop.run;
        refused = subst (λ l. Refuses net l u stop.step r) (append_assoc before a stop.made) stop.refused;
      }

  pub stopped_at : (before : List Step) (s t u : State) (all a b rest : List Step) (count k : ℕ) (r : StepRefusal) → all ≡ a ++ (b ++ rest) → RunWithin net before s a t → count ≡ length a → Ends net (before ++ a) t b (Refused k r) u → Ends net before s all (Refused (count + k) r) u
  stopped_at before s t u all a b rest count k r parts run is stop = subst (λ (l : List Step). Ends net before s l (Refused (count + k) r) u) (sym parts) (stopped_then before s t u a b rest count k r run is stop)

-- steps that are made, and some of those behind them, are some of all
pub within_all : (all a b rest : List Step) (count k : ℕ) → all ≡ a ++ (b ++ rest) → count ≤ length a → k ≤ length b → count + k ≤ length all
within_all all a b rest count k parts made more =
    let whole = ap length parts in
    let la = length-append a (b ++ rest) in
    let lb = length-append b rest in
    omega arith

-- the steps of the entries before entry i, its own, and those behind
pub steps_at : (entries : List Repeated) (i j : ℕ) (e : Repeated) → i < length entries → e ≡ get_or entries i e → j ≡ suc i
    → steps_of entries ≡ steps_of (take i entries) ++ (replicate e.count e.step ++ steps_of (drop j entries))
steps_at [] i j e lt is next = absurd (omega arith)
steps_at (x ∷ xs) zero j e lt is next = rw next (ap (λ (y : Repeated). replicate y.count y.step ++ steps_of xs) (sym is))
steps_at (x ∷ xs) (suc i) j e lt is next =
    let rest = steps_at xs i (suc i) e (omega arith) is refl in
    rw next (ap (λ (l : List Step). replicate x.count x.step ++ l) rest ∙ sym (append_assoc (replicate x.count x.step) (steps_of (take i xs)) (replicate e.count e.step ++ steps_of (drop (suc i) xs))))

pub steps_more : (entries : List Repeated) (i : ℕ) (e : Repeated) → i < length entries → e ≡ get_or entries i e → steps_of (take (i + 1) entries) ≡ steps_of (take i entries) ++ replicate e.count e.step
steps_more entries i e lt is =
    ap steps_of (take_more entries i e lt ∙ ap (λ (y : Repeated). take i entries ++ y ∷ []) (sym is))
    ∙ sym (flat_map_more (λ (r : Repeated). replicate r.count r.step) [] (take i entries) e)
