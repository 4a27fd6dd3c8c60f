-- What causes and shown cycles show: dependencies, and cycles of them.
use Rattle.std.proofs.Common.{◌≡◌, ℕ, suc, ◌+◌, ◌%◌, ◌<◌, ◌≤◌, List, [], ◌∷◌, ◌++◌, length, get_or, Option, Some, None, refl, sym, ap, ◌∙◌, subst, arith, ◌⊎◌, inl, inr, true}
use Rattle.std.specs.Prelude.{slice_get, IsSome}
use Rattle.std.specs.Option.{option_map}
use Rattle.std.proofs.Math.Nat.{mod-eq_of_lt, mod_self}
use Rattle.std.proofs.lemmas.Bool.{cases_lt}
use Rattle.std.proofs.lemmas.List.{get_or_append_left, get_or_push}
use Rattle.std.proofs.lemmas.Option.{slice_get_within}
use Rattle.sw_config.specs.Entries.{FlowEntry, ReplyEntry, Declaration, all_flows}
use Rattle.sw_config.specs.Valid.{IsValid}
use Rattle.sw_config.proofs.AnsweringNodes.{answered_flow}
use Rattle.sw_config.proofs.Limits.{waiting_answers}
use Rattle.sw_config.specs.Limits.{may_make_wait}
use Rattle.sw_flow.specs.declared.place.Place.{Place}
use Rattle.sw_flow.specs.Places.{IsPlace}
use Rattle.sw_flow.specs.Places.IsPlace.{start, next}
use Rattle.sw_flow.specs.Ways.{GoesFromStart, GoesOver, GoesTo, IsStart}
use Rattle.sw_machine.specs.Network.{Network}
use Rattle.sw_machine.specs.Places.{IsChain, IsCycle, IsDependency}
use Rattle.sw_machine.specs.Places.IsDependency.{ByFlow, ByTarget}
use Rattle.sw_machine.specs.Model.{network_of, reply_number}
use Rattle.sw_machine.proofs.AlwaysTaking.{not_always_where}
use Rattle.sw_machine.proofs.Flows.{flow_at, some_at}
use Rattle.sw_machine.proofs.Steps.{steps_agree}
use Rattle.sw_cycle.specs.Cycles as cycles
use Rattle.sw_cycle.specs.Cycles.{CauseEntry, IsCause, IsFlowCause, IsTargetCause, round}
use Rattle.sw_cycle.specs.Laws.{CausesShowDependencies, ShownCyclesAreCycles}

replied : (n : ℕ) (o : Option ReplyEntry) → IsSome o → option_map (λ r. n) o ≡ Some n
replied n None h = absurd cc
replied n (Some r) h = refl

module _ (d : Declaration) where
  started : (f : FlowEntry) (p : Place) → IsStart d f p → IsPlace d f p.channel p.deleted
  started f p h = subst (λ (k : ℕ). IsPlace d f p.channel k) (sym h.1) (start h.0)

  -- over places that end with x and y, from a place on
  goes_over : (f : FlowEntry) (p : Place) (before : List Place) (x y : Place) → IsPlace d f p.channel p.deleted → GoesOver d f p (before ++ x ∷ y ∷ []) → IsPlace d f x.channel x.deleted × GoesTo d f x y
  goes_over f p [] x y here g = (next here g.0, g.1.0)
  goes_over f p (q ∷ qs) x y here g = goes_over f q qs x y (next here g.0) g.1

  pub last_step : (f : FlowEntry) (before : List Place) (x y : Place) → GoesFromStart d f (before ++ x ∷ y ∷ []) → IsPlace d f x.channel x.deleted × GoesTo d f x y
  last_step f [] x y g = (started f x g.0, g.1.0)
  last_step f (p ∷ ps) x y g = goes_over f p ps x y (started f p g.0) g.1

  module _ (valid : IsValid d) where
    target_shows : (t c e : ℕ) → IsTargetCause d t c e → IsDependency (network_of d) c e
    unfolding network_of
    target_shows t c e h =
        let a = answered_flow d t (waiting_answers d t h.waits) in
        let i : ℕ = a.number in
        let here : slice_get (all_flows d) i ≡ Some a.flow = a.numbered in
        let below : i < length (all_flows d) = slice_get_within (all_flows d) i a.flow here in
        let to : (flow_at d i).to ≡ t = rw here a.ends_there in
        let reply : (flow_at d i).reply ≡ Some (reply_number d i) = rw here (replied (reply_number d i) a.flow.reply a.replied) in
        let leaves : (network_of d).out (flow_at d i).to ≡ e = rw (to, h.leaves) refl in
        let enters : (network_of d).into (flow_at d i).to ≡ c = rw (to, h.leaves) (sym h.enters) in
        let shown : IsDependency (network_of d) ((network_of d).into (flow_at d i).to) ((network_of d).out (flow_at d i).to) = ByTarget i (reply_number d i) below reply (not_always_where d (flow_at d i).to (subst (λ (n : ℕ). may_make_wait d n ≡ true) (sym to) h.waits)) in
        subst (λ (x : ℕ). IsDependency (network_of d) x e) enters (subst (λ (y : ℕ). IsDependency (network_of d) ((network_of d).into (flow_at d i).to) y) leaves shown)

    flow_shows : (i : ℕ) (places : List Place) (c e : ℕ) → IsFlowCause d i places c e → IsDependency (network_of d) c e
    unfolding network_of
    flow_shows i places c e h =
        let f : FlowEntry = h.flow in
        let below : i < length (all_flows d) = slice_get_within (all_flows d) i f h.numbered in
        let g : GoesFromStart d f (h.ends_on.before ++ h.ends_on.last ∷ h.ends_on.next ∷ []) = subst (λ (ps : List Place). GoesFromStart d f ps) h.ends_on.listed h.goes in
        let l = last_step f h.ends_on.before h.ends_on.last h.ends_on.next g in
        let same = steps_agree d valid i f h.numbered in
        let shown : IsDependency (network_of d) h.ends_on.last.channel h.ends_on.next.channel =
        ByFlow i h.ends_on.last.channel h.ends_on.last.deleted h.ends_on.next.channel h.ends_on.next.deleted below ((same.place h.ends_on.last.channel h.ends_on.last.deleted).1 l.0)
        ((same.step h.ends_on.last.channel h.ends_on.last.deleted h.ends_on.next.channel h.ends_on.next.deleted).1 l.1)
        in
        subst (λ (x : ℕ). IsDependency (network_of d) x e) h.ends_on.from (subst (λ (y : ℕ). IsDependency (network_of d) h.ends_on.last.channel y) h.ends_on.to shown)

    shows : (cause : CauseEntry) (c e : ℕ) → IsCause d cause c e → IsDependency (network_of d) c e
    shows (cycles.ByTarget t) c e h = target_shows t c e h
    shows (cycles.ByFlow i places) c e h = flow_shows i places c e h

pub causes_show : CausesShowDependencies
causes_show d valid cause c e h = shows d valid cause c e h

-- dependencies place by place
chain : (net : Network) (first e : ℕ) (es : List ℕ) → ((i : ℕ) → i < length (e ∷ es) → IsDependency net (get_or (e ∷ es) i 0) (get_or (es ++ first ∷ []) i 0)) → IsChain net e es first
chain net first e [] h = h 0 (omega arith)
chain net first e (x ∷ xs) h = (h 0 (omega arith), chain net first x xs (λ i lt. h (suc i) (omega arith)))

pub round_here : (xs : List ℕ) (i : ℕ) → i < length xs → round xs i ≡ get_or xs i 0
round_here xs i lt = ap (λ k. get_or xs k 0) (mod-eq_of_lt lt)

pub round_next : (c : ℕ) (cs : List ℕ) (i : ℕ) → i < suc (length cs) → round (c ∷ cs) (i + 1) ≡ get_or (cs ++ c ∷ []) i 0
round_next c cs i lt = by (cases_lt i (length cs))
  where
    by : (i < length cs) ⊎ (length cs ≤ i) → round (c ∷ cs) (i + 1) ≡ get_or (cs ++ c ∷ []) i 0
    by (inl here) =
        let more : i + 1 < suc (length cs) = omega arith in
        let at : (i + 1) % suc (length cs) ≡ suc i = mod-eq_of_lt more ∙ omega arith in
        ap (λ k. get_or (c ∷ cs) k 0) at ∙ sym (get_or_append_left cs (c ∷ []) 0 i here)
    by (inr past) =
        let end : length cs ≡ i = omega arith in
        let all : i + 1 ≡ suc (length cs) = omega arith in
        let at : (i + 1) % suc (length cs) ≡ 0 = ap (λ k. k % suc (length cs)) all ∙ mod_self (suc (length cs)) in
        ap (λ k. get_or (c ∷ cs) k 0) at ∙ sym (get_or_push cs c 0 i end)

pub shown_are_cycles : ShownCyclesAreCycles
shown_are_cycles d valid cycle shown = by cycle.channels refl
  where
    at : (c : ℕ) (cs : List ℕ) → cycle.channels ≡ c ∷ cs → (i : ℕ) → i < length (c ∷ cs) → IsDependency (network_of d) (get_or (c ∷ cs) i 0) (get_or (cs ++ c ∷ []) i 0)
    at c cs same i lt =
        let count : length cycle.causes ≡ suc (length cs) = shown.one_each ∙ ap length same in
        let cause = some_at cycle.causes i (omega arith) in
        let is : IsCause d cause.0 (round (c ∷ cs) i) (round (c ∷ cs) (i + 1)) = subst (λ (xs : List ℕ). IsCause d cause.0 (round xs i) (round xs (i + 1))) same (shown.caused i cause.0 cause.1) in
        let dependency = shows d valid cause.0 (round (c ∷ cs) i) (round (c ∷ cs) (i + 1)) is in
        subst (λ (x : ℕ). IsDependency (network_of d) x (get_or (cs ++ c ∷ []) i 0)) (round_here (c ∷ cs) i lt)
        (subst (λ (y : ℕ). IsDependency (network_of d) (round (c ∷ cs) i) y) (round_next c cs i lt) dependency)

    by : (xs : List ℕ) → cycle.channels ≡ xs → IsCycle (network_of d) xs
    by [] same = let none : length cycle.channels ≡ 0 = ap length same in absurd (omega (arith, shown.some))
    by (c ∷ cs) same = chain (network_of d) c c cs (at c cs same)
