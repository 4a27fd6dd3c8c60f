-- Runs under a guard that keep the limits on unanswered commands, and lead to a state that is locked up under it, found by trying their steps.
use Rattle.std.proofs.Common.{Bool, List, None, Option, Some, [], ap, append-nil, append_assoc, arith, false, ltb-true, nat_le, nat_lt, refl, subst, sym, true, ℕ, ◌++◌, ◌<◌, ◌∙◌, ◌∷◌, ◌≡◌, ◌≤◌}
use Rattle.std.proofs.lemmas.Bool.{agree_below, agree_below_at, and_from, and_parts, leb-true}
use Rattle.std.specs.Option.{option_map_or}
use Rattle.std.specs.Prelude.{is_some, not, ◌&&◌}
use Rattle.sw_char.specs.declared.nchar.End.{End}
use Rattle.sw_machine.proofs.Cuts.{cons_tail, cut_of, cuts_are_equal, no_cons}
use Rattle.sw_machine.proofs.Stalling.{runs_under_are_runs}
use Rattle.sw_machine.proofs.Tries.{tried, tries}
use Rattle.sw_machine.specs.LimitSamples.{LocksUp}
use Rattle.sw_machine.specs.Limits.{IsWithinLimit, unanswered}
use Rattle.sw_machine.specs.Network.{IsNetwork, Network}
use Rattle.sw_machine.specs.Runs.{Run, undelivered}
use Rattle.sw_machine.specs.Stalling.{IsLockedUpUnder, IsQuietUnder, RunUnder}
use Rattle.sw_machine.specs.StallingSamples.{LocksUpUnder}
use Rattle.sw_machine.specs.State.{State, empty}
use Rattle.sw_machine.specs.Steps.{Accept, Arrive, Begin, Drop, Emit, Fct, FctIn, Forward, Grant, IsPossible, Leads, Reply, Spill, Step}
use Rattle.sw_machine.specs.Tried.{try_step}

-- each number below n passes
abbrev all_below : (ℕ → Bool) → ℕ → Bool
all_below test n = agree_below test (λ k. true) n

passes : (test : ℕ → Bool) (n : ℕ) → all_below test n ≡ true → (k : ℕ) → k < n → test k ≡ true
passes test n all k lt = agree_below_at test (λ k. true) n k all lt

head_is : (x y : Step) (a b : List Step) → x ∷ a ≡ y ∷ b → x ≡ y
head_is x y a b e = cc

some_is : (s t : State) → Some s ≡ Some t → s ≡ t
some_is s t e = cc

-- what is unanswered at each node is within its limit
abbrev AreWithin : Network → List Step → State → Type 0
AreWithin net steps s = (n : ℕ) → n < net.nodes → IsWithinLimit net steps s n

module _ (net : Network) where
  -- whether what is unanswered at a node is within this limit
  abbrev is_within : List Step → State → ℕ → Option ℕ → Bool
  is_within before s n None = true
  is_within before s n (Some limit) = nat_le (unanswered net n before (cut_of (s.taken n)).0 s) limit

  abbrev are_within : List Step → State → Bool
  are_within before s = all_below (λ n. is_within before s n (net.limit n)) net.nodes

  within : (before : List Step) (s : State) → are_within before s ≡ true → AreWithin net before s
  within before s all n lt limit came is out =
      let k = cut_of (s.taken n) in
      let same : k.0 ≡ came = (cuts_are_equal (s.taken n) k.0 came k.1 out.0 k.2 out.1).0 in
      let fits : is_within before s n (Some limit) ≡ true =
      sym (ap (is_within before s n) is) ∙ passes (λ n. is_within before s n (net.limit n)) net.nodes all n lt in
      subst (λ ps. unanswered net n before ps s ≤ limit) same (leb-true (unanswered net n before k.0 s) limit fits)

module _ (net : Network) (meets : State → Step → Bool) where
  -- the guard of this test
  abbrev Meets : State → Step → Type 0
  Meets s step = meets s step ≡ true

  -- whether the step does not meet the guard, or is not possible
  abbrev fails : State → Step → Bool
  fails s step = not (meets s step && is_some (try_step net s step))

  -- a step that meets the guard and is possible
  abbrev IsDone : State → Step → Type 0
  IsDone s step = Meets s step × IsPossible net s step

  impossible : (s : State) (step : Step) → fails s step ≡ true → IsDone s step → ⊥
  impossible s step e p =
      let both : (meets s step && is_some (try_step net s step)) ≡ true = and_from (meets s step) (is_some (try_step net s step)) p.0 (ap is_some (tries net s step p.1.0 p.1.1)) in
      let no : false ≡ true = sym (ap not both) ∙ e in
      cc

  -- whether no step of this kind meets the guard and is possible at the numbers below n
  abbrev all_fail : State → (ℕ → Step) → ℕ → Bool
  all_fail s kind n = all_below (λ k. fails s (kind k)) n

  rests : (s : State) (kind : ℕ → Step) (n : ℕ) → all_fail s kind n ≡ true → (k : ℕ) → k < n → IsDone s (kind k) → ⊥
  rests s kind n all k lt = impossible s (kind k) (passes (λ k. fails s (kind k)) n all k lt)

  abbrev no_grant : State → ℕ → Bool
  no_grant s c = all_fail s (λ d. Grant d c) net.channels

  -- whether no step other than a beginning meets the guard and is possible
  abbrev channels_rest : State → Bool
  channels_rest s =
      all_fail s Fct net.channels && (all_fail s FctIn net.channels && (all_fail s Arrive net.channels && (all_fail s Drop net.channels
      && (all_fail s Forward net.channels && (all_fail s Spill net.channels && all_below (no_grant s) net.channels)))))

  abbrev nodes_rest : State → Bool
  nodes_rest s = all_fail s Emit net.nodes && (all_fail s Accept net.nodes && all_fail s Reply net.nodes)

  -- no step of any kind but a beginning meets the guard and is possible
  record Rests (s : State) : Type 0 where
    fct : all_fail s Fct net.channels ≡ true
    fct_in : all_fail s FctIn net.channels ≡ true
    arrive : all_fail s Arrive net.channels ≡ true
    dropped : all_fail s Drop net.channels ≡ true
    forward : all_fail s Forward net.channels ≡ true
    spill : all_fail s Spill net.channels ≡ true
    grant : all_below (no_grant s) net.channels ≡ true
    emit : all_fail s Emit net.nodes ≡ true
    accept : all_fail s Accept net.nodes ≡ true
    reply : all_fail s Reply net.nodes ≡ true

  all_rest : (s : State) → channels_rest s ≡ true → nodes_rest s ≡ true → Rests s
  all_rest s channels nodes =
      let fct = and_parts _ _ channels in
      let fct_in = and_parts _ _ fct.1 in
      let arrive = and_parts _ _ fct_in.1 in
      let dropped = and_parts _ _ arrive.1 in
      let forward = and_parts _ _ dropped.1 in
      let spill = and_parts _ _ forward.1 in
      let emit = and_parts _ _ nodes in
      let accept = and_parts _ _ emit.1 in
      record {
        fct = fct.0;
        fct_in = fct_in.0;
        arrive = arrive.0;
        dropped = dropped.0;
        forward = forward.0;
        spill = spill.0;
        grant = spill.1;
        emit = emit.0;
        accept = accept.0;
        reply = accept.1;
      }

  quiet : IsNetwork net → (s : State) → Rests s → IsQuietUnder Meets net s
  quiet ok s r (Fct c) other m p = rests s Fct net.channels r.fct c p.1.in_net (m, p)
  quiet ok s r (FctIn c) other m p = rests s FctIn net.channels r.fct_in c p.1.in_net (m, p)
  quiet ok s r (Arrive c) other m p = rests s Arrive net.channels r.arrive c p.1.in_net (m, p)
  quiet ok s r (Grant d c) other m p =
      rests s (λ d. Grant d c) net.channels (passes (no_grant s) net.channels r.grant c p.1.in_net) d (ok.look_starts p.1.switch p.1.h d p.1.named).0 (m, p)
  quiet ok s r (Drop c) other m p = rests s Drop net.channels r.dropped c p.1.in_net (m, p)
  quiet ok s r (Forward c) other m p = rests s Forward net.channels r.forward c p.1.in_net (m, p)
  quiet ok s r (Spill c) other m p = rests s Spill net.channels r.spill c p.1.in_net (m, p)
  quiet ok s r (Begin f cargo end) other m p = absurd (cc)
  quiet ok s r (Emit n) other m p = rests s Emit net.nodes r.emit n p.1.in_net (m, p)
  quiet ok s r (Accept n) other m p = rests s Accept net.nodes r.accept n p.1.in_net (m, p)
  quiet ok s r (Reply n) other m p = rests s Reply net.nodes r.reply n p.1.in_net (m, p)

  -- whether these steps, behind the ones before, meet the guard, are possible one after another, keep the limits, and lead to a state that is locked up
  abbrev locks : List Step → List Step → State → Bool
  locks before [] s = are_within net before s && (channels_rest s && (nodes_rest s && nat_lt 0 (undelivered net s)))
  locks before (step ∷ steps) s = are_within net before s && (meets s step && option_map_or (λ t. locks (before ++ step ∷ []) steps t) (try_step net s step) false)

  abbrev KeepsFrom : List Step → List Step → State → Type 0
  KeepsFrom before steps s = (done after : List Step) (t : State) → done ++ after ≡ steps → Run net s done t → AreWithin net (before ++ done) t

  record Locks (before steps : List Step) (s : State) : Type 0 where
    end : State
    run : RunUnder Meets net s steps end
    keeps : KeepsFrom before steps s
    locked : IsLockedUpUnder Meets net end

  here : (before : List Step) (s t : State) → are_within net before s ≡ true → t ≡ s → AreWithin net (before ++ []) t
  here before s t all same =
      subst (λ t. AreWithin net (before ++ []) t) (sym same) (subst (λ l. AreWithin net l s) (sym (append-nil before)) (within net before s all))

  keeps_last : (before : List Step) (s : State) → are_within net before s ≡ true → KeepsFrom before [] s
  keeps_last before s all [] after t e r = here before s t all r
  keeps_last before s all (step ∷ done) after t e r = absurd (no_cons step (done ++ after) e)

  keeps_on : (before : List Step) (step : Step) (steps : List Step) (s mid : State)
      → are_within net before s ≡ true → try_step net s step ≡ Some mid → KeepsFrom (before ++ step ∷ []) steps mid → KeepsFrom before (step ∷ steps) s
  keeps_on before step steps s mid all is on [] after t e r = here before s t all r
  keeps_on before step steps s mid all is on (first ∷ done) after t e r =
      let one : first ≡ step = head_is first step (done ++ after) steps e in
      let leads : Leads net s step r.0 = subst (λ x. Leads net s x r.0) one r.1 in
      let same : r.0 ≡ mid = some_is r.0 mid (sym (tries net s step r.0 leads) ∙ is) in
      let k = on done after t (cons_tail first step (done ++ after) steps e) (subst (λ m. Run net m done t) same r.2) in
      let l : AreWithin net (before ++ step ∷ done) t = subst (λ l. AreWithin net l t) (append_assoc before (step ∷ []) done) k in
      subst (λ x. AreWithin net (before ++ x ∷ done) t) (sym one) l

  shown : IsNetwork net → (before steps : List Step) (s : State) → locks before steps s ≡ true → Locks before steps s
  shown ok before [] s e =
      let a = and_parts _ _ e in
      let b = and_parts _ _ a.1 in
      let d = and_parts _ _ b.1 in
      let locked : IsLockedUpUnder Meets net s = record { quiet = quiet ok s (all_rest s b.0 d.0); holds = ltb-true 0 (undelivered net s) d.1 } in
      record { end = s; run = refl; keeps = keeps_last before s a.0; locked = locked }
  shown ok before (step ∷ steps) s e =
      let a = and_parts _ _ e in
      let m = and_parts _ _ a.1 in
      first (try_step net s step) refl a.0 m.0 m.1 (λ mid e. shown ok (before ++ step ∷ []) steps mid e)
    where
      first : (o : Option State) → try_step net s step ≡ o → are_within net before s ≡ true → Meets s step
          → option_map_or (λ t. locks (before ++ step ∷ []) steps t) o false ≡ true
          → ((mid : State) → locks (before ++ step ∷ []) steps mid ≡ true → Locks (before ++ step ∷ []) steps mid) → Locks before (step ∷ steps) s
      first None is all m e on = absurd (cc)
      first (Some mid) is all m e on =
          let l = on mid e in
          record { end = l.end; run = (mid, m, tried net s step mid is, l.run); keeps = keeps_on before step steps s mid all is l.keeps; locked = l.locked }

  -- the node where the flow of a packet that was begun ends
  ends_in_net : IsNetwork net → (before : List Step) (flow : ℕ) (cargo : List ℕ) (end : End) (s t : State) → Run net s (before ++ Begin flow cargo end ∷ []) t → (net.flow flow).to < net.nodes
  ends_in_net ok [] flow cargo end s t r =
      let declared = r.1.declared.declared in
      let flows = ok.flows_declared in
      (ok.flow_ends flow (omega arith)).1
  ends_in_net ok (step ∷ before) flow cargo end s t r = ends_in_net ok before flow cargo end r.0 t r.2

  pub locks_up_under : IsNetwork net → (steps : List Step) → locks [] steps (empty net) ≡ true → LocksUpUnder Meets net steps
  locks_up_under ok steps e =
      let l = shown ok [] steps (empty net) e in
      record {
        s = l.end;
        run = l.run;
        keeps = λ before after flow cargo end t e r. l.keeps (before ++ Begin flow cargo end ∷ []) after t (append_assoc before (Begin flow cargo end ∷ []) after ∙ e) r (net.flow flow).to (ends_in_net ok before flow cargo end (empty net) t r);
        locked = l.locked;
      }

-- the same where each step meets the guard
pub locks_up : (net : Network) → IsNetwork net → (steps : List Step) → locks net (λ s step. true) [] steps (empty net) ≡ true → LocksUp net steps
locks_up net ok steps e =
    let l = locks_up_under net (λ s step. true) ok steps e in
    record {
      s = l.s;
      run = runs_under_are_runs (λ s step. true ≡ true) net (empty net) steps l.s l.run;
      keeps = l.keeps;
      locked = record { quiet = λ step none p. l.locked.quiet step none refl p; holds = l.locked.holds };
    }
