-- Steps that a network's cells make one after another.
use Rattle.std.proofs.Common.{Err, List, None, Ok, Result, Some, [], ap, append-nil, append_assoc, arith, length, length-append, refl, replicate, subst, sym, take, ℕ, ◌++◌, ◌+◌, ◌-◌, ◌<◌, ◌≤◌, ◌∙◌, ◌∷◌, ◌≡◌}
use Rattle.std.proofs.lemmas.List.{length-replicate, replicate-append-replicate}
use Rattle.std.specs.Prelude.{IfOk}
use Rattle.sw_machine.specs.Begun.{beginning, beginnings}
use Rattle.sw_machine.specs.Limits.{KeepsLimits}
use Rattle.sw_machine.specs.Network.{Network}
use Rattle.sw_machine.specs.State.{State, empty}
use Rattle.sw_machine.specs.Steps.{Accept, Arrive, Begin, Drop, Emit, Fct, FctIn, Forward, Grant, Reply, Spill, Step}
use Rattle.sw_machine.specs.Model.{network_of}
use Rattle.sw_net.proofs.CountedCommands.{counted_at_first}
use Rattle.sw_net.specs.Net.{NetView}
use Rattle.sw_net.specs.New.{IsNewNet}
use Rattle.sw_net.specs.Unanswered.{AreFewBegun, Counts, CountsUnanswered, nothing_counted}
use Rattle.sw_config.specs.Entries.{Declaration}
use Rattle.sw_config.specs.Valid.{IsValid}
use Rattle.sw_schedule.proofs.Making.{once_more, refused_then, stopped_at, within_append, within_keeps}
use Rattle.sw_schedule.specs.Nets.{EndsFromEmpty, IsAfter, IsTrueOfNet, NetEnds, NetMakesOr}
use Rattle.sw_schedule.specs.Replays.{Ends, IsReplayed, MakesOr, ReplaysKeepLimits, RunWithin, made_of}
use Rattle.sw_schedule.specs.Reports.{IsTrueOf, Report}
use Rattle.sw_schedule.specs.declared.replayed.ReplayEnd.{ReplayEnd}
use Rattle.sw_schedule.specs.declared.replayed.ReplayEnd.TheVariants.{Made, Refused}
use Rattle.sw_schedule.specs.declared.replayed.StepRefusal.{StepRefusal}

-- what was made of a step so often, told of what the two are
pub again_so : {R A E : Type 0} (v w : NetView R A) (c e : Counts) (n m : ℕ) (x y : Step) (r : Result ReplayEnd E) → n ≡ m → x ≡ y → IfOk r (λ o. NetEnds v c (replicate n x) o w e) → IfOk r (λ o. NetEnds v c (replicate m y) o w e)
again_so v w c e n m x y r count step h =
    subst (λ (k : ℕ). IfOk r (λ o. NetEnds v c (replicate k y) o w e)) count (subst (λ (z : Step). IfOk r (λ o. NetEnds v c (replicate n z) o w e)) step h)

some_more : {A : Type 0} (l : List A) (x : A) (m : List A) → l ++ x ∷ m ≡ [] → ⊥
some_more [] x m e = cc
some_more (y ∷ l) x m e = cc

-- no more packets are begun than steps made
one_at_most : (step : Step) → length (beginning step) ≤ 1
one_at_most (Begin flow cargo end) = omega arith
one_at_most (Fct c) = omega arith
one_at_most (FctIn c) = omega arith
one_at_most (Arrive c) = omega arith
one_at_most (Grant o i) = omega arith
one_at_most (Drop c) = omega arith
one_at_most (Forward c) = omega arith
one_at_most (Spill c) = omega arith
one_at_most (Emit n) = omega arith
one_at_most (Accept n) = omega arith
one_at_most (Reply n) = omega arith

few_begun : (steps : List Step) → length (beginnings steps) ≤ length steps
few_begun [] = omega arith
few_begun (step ∷ steps) =
    let rest = few_begun steps in
    let one = one_at_most step in
    let both = length-append (beginning step) (beginnings steps) in
    omega (arith, rest, one, both)

are_few : (steps : List Step) → length steps < 1000000 → AreFewBegun steps
are_few steps few = let begun = few_begun steps in omega (arith, few, begun)

-- how many steps there are
few_with : (before steps : List Step) (n : ℕ) → length before + length steps ≤ n → length (before ++ steps) ≤ n
few_with before steps n few = let sum = length-append before steps in omega arith

fewer_with : (before : List Step) (x : Step) (k j n : ℕ) → k < j → length before + length (replicate j x) ≤ n → length (before ++ replicate k x) < n
fewer_with before x k j n lt few =
    let sum = length-append before (replicate k x) in
    let one = length-replicate k x in
    let all = length-replicate j x in
    omega arith

fewer_before : (before : List Step) (x : Step) (k j n : ℕ) → k ≤ j → length before + length (replicate j x) ≤ n → length before + length (replicate k x) ≤ n
fewer_before before x k j n le few =
    let one = length-replicate k x in
    let all = length-replicate j x in
    omega arith

module _ {R A : Type 0} (v w u : NetView R A) (c e f : Counts) (same : w.declared ≡ v.declared) where
  -- a step that is made once more
  pub made_again : (x : Step) (k : ℕ) → NetEnds v c (replicate k x) (Made k) w e → NetMakesOr w e x None u f → NetEnds v c (replicate (k + 1) x) (Made (k + 1)) u f
  made_again x k before makes = λ l s few is after.
      let first = before l s (fewer_before l x k (k + 1) 1000000 (omega arith) few) is after in
      let next = makes (l ++ replicate k x) first.0 (are_few (l ++ replicate k x) (fewer_with l x k (k + 1) 1000000 (omega arith) few)) first.2 (subst (λ (d : Declaration). IsAfter d (l ++ replicate k x) first.0 e) (sym same) first.3) in
      let made = subst (λ (d : Declaration). MakesOr (network_of d) (l ++ replicate k x) first.0 x None next.0) same next.1 in
      let longer : (l ++ replicate k x) ++ x ∷ [] ≡ l ++ replicate (k + 1) x = append_assoc l (replicate k x) (x ∷ []) ∙ ap (λ (b : List Step). l ++ b) (replicate-append-replicate k 1 x) in
      let then_after = subst (λ (d : Declaration). IsAfter d (l ++ replicate (k + 1) x) next.0 f) same (subst (λ b. IsAfter w.declared b next.0 f) longer next.3) in
      (next.0, (sym (length-replicate (k + 1) x), once_more (network_of v.declared) l s first.0 next.0 x k (first.1).1 made), next.2, then_after)

  -- a step that is refused, behind so many times that it was made
  pub refused_again : (x : Step) (k n : ℕ) (r : StepRefusal) → k < n → NetEnds v c (replicate k x) (Made k) w e → NetMakesOr w e x (Some r) u f → NetEnds v c (replicate n x) (Refused (k + 1) r) u f
  refused_again x k n r lt before makes = λ l s few is after.
      let first = before l s (fewer_before l x k n 1000000 (omega arith) few) is after in
      let next = makes (l ++ replicate k x) first.0 (are_few (l ++ replicate k x) (fewer_with l x k n 1000000 lt few)) first.2 (subst (λ (d : Declaration). IsAfter d (l ++ replicate k x) first.0 e) (sym same) first.3) in
      let refused = subst (λ (d : Declaration). MakesOr (network_of d) (l ++ replicate k x) first.0 x (Some r) next.0) same next.1 in
      (next.0, refused_then (network_of v.declared) l s first.0 next.0 x k n r lt (first.1).1 refused, next.2, tt)

  -- steps that are made behind steps that were made
  pub made_behind : (all a b : List Step) (k j : ℕ) → all ≡ a ++ b → NetEnds v c a (Made k) w e → NetEnds w e b (Made j) u f → NetEnds v c all (Made (k + j)) u f
  made_behind all a b k j parts before more = λ l s few is after.
      let whole = ap length parts in
      let sum = length-append a b in
      let joined = length-append l a in
      let first = before l s (omega arith) is after in
      let next = more (l ++ a) first.0 (omega arith) first.2 (subst (λ (d : Declaration). IsAfter d (l ++ a) first.0 e) (sym same) first.3) in
      let ends = subst (λ (d : Declaration). Ends (network_of d) (l ++ a) first.0 b (Made j) next.0) same next.1 in
      let one = (first.1).0 in
      let other = ends.0 in
      let count : k + j ≡ length all = omega arith in
      let run = within_append (network_of v.declared) l a b s first.0 next.0 (first.1).1 ends.1 in
      let longer : (l ++ a) ++ b ≡ l ++ all = append_assoc l a b ∙ ap (λ (x : List Step). l ++ x) (sym parts) in
      let then_after = subst (λ (d : Declaration). IsAfter d (l ++ all) next.0 f) same (subst (λ x. IsAfter w.declared x next.0 f) longer next.3) in
      (next.0, (count, subst (λ (x : List Step). RunWithin (network_of v.declared) l s x next.0) (sym parts) run), next.2, then_after)

  -- steps that are stopped behind steps that were made
  pub stopped_behind : (all a b rest : List Step) (k j : ℕ) (r : StepRefusal) → all ≡ a ++ (b ++ rest) → NetEnds v c a (Made k) w e → NetEnds w e b (Refused j r) u f → NetEnds v c all (Refused (k + j) r) u f
  stopped_behind all a b rest k j r parts before more = λ l s few is after.
      let whole = ap length parts in
      let sum = length-append a (b ++ rest) in
      let others = length-append b rest in
      let joined = length-append l a in
      let first = before l s (omega arith) is after in
      let next = more (l ++ a) first.0 (omega arith) first.2 (subst (λ (d : Declaration). IsAfter d (l ++ a) first.0 e) (sym same) first.3) in
      let ends = subst (λ (d : Declaration). Ends (network_of d) (l ++ a) first.0 b (Refused j r) next.0) same next.1 in
      (next.0, stopped_at (network_of v.declared) l s first.0 next.0 all a b rest k j r parts (first.1).1 (first.1).0 ends, next.2, tt)

-- before any step
pub none_made : {R A : Type 0} (v : NetView R A) (c : Counts) → NetEnds v c [] (Made 0) v c
none_made v c = λ l s few is after. (s, (refl, refl), is, subst (λ x. IsAfter v.declared x s c) (sym (append-nil l)) after)

-- a new network is one of what it declares
pub new_here : {R A : Type 0} (d : Declaration) (v : NetView R A) → IsNewNet d v → IsNewNet v.declared v
new_here d v new = subst (λ (e : Declaration). IsNewNet e v) (sym new.network) new

-- nothing was made, and nothing is counted
pub at_first : (d : Declaration) (c : Counts) → IsValid d → c ≡ nothing_counted (length d.nodes) → IsAfter d [] (empty (network_of d)) c
at_first d c valid is = record {
  valid = valid;
  run = refl;
  keeps = λ before after flow cargo end s e r. absurd (some_more before (Begin flow cargo end) after e);
  counts = subst (λ x. CountsUnanswered d [] (empty (network_of d)) x) (sym is) (counted_at_first d);
}

-- what the steps on a new network come to, of which there are not too many
pub ends_from_new : {R A : Type 0} (d : Declaration) (v w : NetView R A) (c e : Counts) (steps : List Step) (o : ReplayEnd) → IsNewNet d v → IsValid d → c ≡ nothing_counted (length d.nodes) → length steps ≤ 1000000 → NetEnds v c steps o w e → EndsFromEmpty d steps o w
ends_from_new d v w c e steps o new valid none few ends =
    let all : length {A = Step} [] + length steps ≤ 1000000 = omega (arith, few) in
    let end = ends [] (empty (network_of d)) all new.empty (subst (λ (x : Declaration). IsAfter x [] (empty (network_of d)) c) (sym new.network) (at_first d c valid none)) in
    (end.0, subst (λ (x : Declaration). Ends (network_of x) [] (empty (network_of d)) steps o end.0) new.network end.1, end.2)

pub ends_from_made : {R A E : Type 0} (d : Declaration) (v w : NetView R A) (c e : Counts) (steps : List Step) (r : Result ReplayEnd E) → IsNewNet d v → IsValid d → c ≡ nothing_counted (length d.nodes) → length steps ≤ 1000000
    → IfOk r (λ o. NetEnds v c steps o w e) → IfOk r (λ o. EndsFromEmpty d steps o w)
ends_from_made d v w c e steps (Ok o) new valid none few ends = ends_from_new d v w c e steps o new valid none few ends
ends_from_made d v w c e steps (Err fault) new valid none few ends = tt

-- what is told of a replay on a new network
pub replayed : {R A : Type 0} (d : Declaration) (w : NetView R A) (steps : List Step) (o : ReplayEnd) (r : Report) → w.declared ≡ d → EndsFromEmpty d steps o w → r.outcome ≡ o → IsTrueOfNet w r → IsReplayed d steps r
replayed d w steps o r same end is report = record {
  state = end.0;
  ends = subst (λ (p : ReplayEnd). Ends (network_of d) [] (empty (network_of d)) steps p end.0) (sym is) end.1;
  report = subst (λ (x : Declaration). IsTrueOf (network_of x) end.0 r) same (report end.0 end.2);
}

-- ---- the steps that a replay makes keep the limits

made_front : (made others : List Step) (step : Step) (number : ℕ) → number ≡ length made + 1 → take (number - 1) (made ++ step ∷ others) ≡ made
made_front made others step number is =
    let count : number - 1 ≡ length made = omega (arith, is) in
    ap (λ k. take k (made ++ step ∷ others)) count ∙ take_front made (step ∷ others)
  where
    take_front : (xs ys : List Step) → take (length xs) (xs ++ ys) ≡ xs
    take_front [] ys = refl
    take_front (x ∷ xs) ys = ap (λ l. x ∷ l) (take_front xs ys)

no_steps_keep : (net : Network) → KeepsLimits net []
no_steps_keep net before after flow cargo end s e r = absurd (some_more before (Begin flow cargo end) after e)

pub keeps_from_empty : (net : Network) (steps : List Step) (t : State) → RunWithin net [] (empty net) steps t → KeepsLimits net steps
keeps_from_empty net steps t run = within_keeps net [] steps (empty net) t refl (no_steps_keep net) run

pub replays_keep_limits : ReplaysKeepLimits
replays_keep_limits d steps r is = by r.outcome is.ends
  where
    by : (o : ReplayEnd) → Ends (network_of d) [] (empty (network_of d)) steps o is.state → KeepsLimits (network_of d) (made_of steps o)
    by (Made count) ends = keeps_from_empty (network_of d) steps is.state ends.1
    by (Refused number refusal) ends =
        let kept = keeps_from_empty (network_of d) ends.made is.state ends.run in
        let front = ap (λ (l : List Step). take (number - 1) l) ends.parts ∙ made_front ends.made ends.others ends.step number ends.counted in
        subst (KeepsLimits (network_of d)) (sym front) kept
