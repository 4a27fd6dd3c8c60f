-- How a history grows.
use Rattle.std.proofs.Common.{◌≡◌, ◌++◌, ◌+◌, ◌-◌, ◌≤◌, ◌∷◌, ◌∙◌, [], ℕ, List, Some, count_by, length, refl, sym, ap, subst, append_assoc, append-nil, ⊎_elim}
use Rattle.std.specs.Prelude.{nat_eq, slice_get}
use Rattle.std.proofs.lemmas.Bool.{cases_eq, eq-eqb, ne_eqb}
use Rattle.std.proofs.lemmas.List.Elements.{filter-append}
use Rattle.sw_char.specs.declared.nchar.End.{End}
use Rattle.sw_load.specs.History.{BeginsNext, IsFront, IsHistory, KeepsLimit, packets_at}
use Rattle.sw_machine.proofs.Determined.{determined}
use Rattle.sw_machine.proofs.Limits.{beginnings_push, keeps_begin, keeps_push}
use Rattle.sw_machine.proofs.RunLists.{run_append}
use Rattle.sw_machine.specs.Begun.{Begun, beginning, beginnings}
use Rattle.sw_machine.specs.Limits.{IsWithinLimit, KeepsLimits, is_command_at, is_command_to}
use Rattle.sw_machine.specs.Network.{Network}
use Rattle.sw_machine.specs.Packets.{IsCut}
use Rattle.sw_machine.specs.Runs.{Run}
use Rattle.sw_machine.specs.State.{State, empty}
use Rattle.sw_machine.specs.Steps.{Accept, Arrive, Begin, Drop, Emit, Fct, FctIn, Forward, Grant, Leads, Reply, Spill, Step}

pub slice_get-behind : {A : Type 0} (xs ys : List A) → slice_get (xs ++ ys) (length xs) ≡ slice_get ys 0
slice_get-behind [] ys = refl
slice_get-behind (x ∷ xs) ys = slice_get-behind xs ys

longer_front : {A : Type 0} (xs rest : List A) (b : A) → slice_get rest 0 ≡ Some b → IsFront (xs ++ b ∷ []) (xs ++ rest)
longer_front xs [] b h = absurd cc
longer_front xs (r ∷ rest) b h = let e : r ≡ b = cc in (rest, ap (λ x. xs ++ x ∷ rest) e ∙ sym (append_assoc xs (b ∷ []) rest))

pub run_determined : (net : Network) (steps : List Step) (s t u : State) → Run net s steps t → Run net s steps u → u ≡ t
run_determined net [] s t u r q = q ∙ sym r
run_determined net (step ∷ steps) s t u r q =
    let same = determined net s step q.0 r.0 q.1 r.1 in
    run_determined net steps r.0 t u r.2 (subst (λ m. Run net m steps u) same q.2)

pub split_last : (net : Network) (steps : List Step) (step : Step) (s t : State) → Run net s (steps ++ step ∷ []) t → (m : State) × Run net s steps m × Leads net m step t
split_last net [] step s t r = (s, refl, subst (λ m. Leads net s step m) (sym r.2) r.1)
split_last net (first ∷ steps) step s t r =
    let later = split_last net steps step r.0 t r.2 in
    (later.0, (r.0, r.1, later.1), later.2)

-- ---- limits

-- what took and owes as much is within its limit as well
pub within_as : (net : Network) (steps : List Step) (s t : State) (n : ℕ) → t.taken n ≡ s.taken n → t.owed n ≡ s.owed n → IsWithinLimit net steps s n → IsWithinLimit net steps t n
within_as net steps s t n taken owed within limit came is out =
    let before = within limit came is (out.0, subst (λ l. IsCut l came out.0) taken out.1) in
    subst (λ k. (count_by (is_command_to net n) (beginnings steps) + k) - count_by (is_command_at net n) came ≤ limit) (sym owed) before

-- a beginning changes neither
pub begin_takes : (net : Network) (f : ℕ) (cargo : List ℕ) (end : End) (s t : State) → Leads net s (Begin f cargo end) t → (n : ℕ) → t.taken n ≡ s.taken n
begin_takes net f cargo end s t leads n = ap (λ (u : State). u.taken n) leads.after

pub begin_owes : (net : Network) (f : ℕ) (cargo : List ℕ) (end : End) (s t : State) → Leads net s (Begin f cargo end) t → (n : ℕ) → t.owed n ≡ s.owed n
begin_owes net f cargo end s t leads n = ap (λ (u : State). u.owed n) leads.after

-- the limits are kept by one step more
pub keeps_with : (net : Network) (steps : List Step) (s : State) → Run net (empty net) steps s → KeepsLimits net steps → (step : Step) (t : State) → Leads net s step t → KeepsLimit net steps s step → KeepsLimits net (steps ++ step ∷ [])
keeps_with net steps s run keeps (Begin f cargo end) t leads keep = keeps_begin net steps f cargo end keeps
    (λ u r.
    let same : u ≡ t = run_determined net (steps ++ Begin f cargo end ∷ []) (empty net) t u (run_append net steps (Begin f cargo end ∷ []) (empty net) s t run (t, leads, refl)) r in
    subst (λ k. IsWithinLimit net (steps ++ Begin f cargo end ∷ []) k (net.flow f).to) (sym same)
    (within_as net (steps ++ Begin f cargo end ∷ []) s t (net.flow f).to (begin_takes net f cargo end s t leads (net.flow f).to) (begin_owes net f cargo end s t leads (net.flow f).to) keep))
keeps_with net steps s run keeps (Fct c) t leads keep = keeps_push net steps (Fct c) refl keeps
keeps_with net steps s run keeps (FctIn c) t leads keep = keeps_push net steps (FctIn c) refl keeps
keeps_with net steps s run keeps (Arrive c) t leads keep = keeps_push net steps (Arrive c) refl keeps
keeps_with net steps s run keeps (Grant d c) t leads keep = keeps_push net steps (Grant d c) refl keeps
keeps_with net steps s run keeps (Drop c) t leads keep = keeps_push net steps (Drop c) refl keeps
keeps_with net steps s run keeps (Forward c) t leads keep = keeps_push net steps (Forward c) refl keeps
keeps_with net steps s run keeps (Spill c) t leads keep = keeps_push net steps (Spill c) refl keeps
keeps_with net steps s run keeps (Emit m) t leads keep = keeps_push net steps (Emit m) refl keeps
keeps_with net steps s run keeps (Accept m) t leads keep = keeps_push net steps (Accept m) refl keeps
keeps_with net steps s run keeps (Reply m) t leads keep = keeps_push net steps (Reply m) refl keeps

-- and where they are, the step keeps the limit
pub keeps_last : (net : Network) (steps : List Step) (s : State) (step : Step) (t : State) → Run net (empty net) (steps ++ step ∷ []) t → Leads net s step t → KeepsLimits net (steps ++ step ∷ []) → KeepsLimit net steps s step
keeps_last net steps s (Begin f cargo end) t run leads keeps =
    within_as net (steps ++ Begin f cargo end ∷ []) t s (net.flow f).to (sym (begin_takes net f cargo end s t leads (net.flow f).to)) (sym (begin_owes net f cargo end s t leads (net.flow f).to))
    (keeps steps [] f cargo end t refl run)
keeps_last net steps s (Fct c) t run leads keeps = tt
keeps_last net steps s (FctIn c) t run leads keeps = tt
keeps_last net steps s (Arrive c) t run leads keeps = tt
keeps_last net steps s (Grant d c) t run leads keeps = tt
keeps_last net steps s (Drop c) t run leads keeps = tt
keeps_last net steps s (Forward c) t run leads keeps = tt
keeps_last net steps s (Spill c) t run leads keeps = tt
keeps_last net steps s (Emit m) t run leads keeps = tt
keeps_last net steps s (Accept m) t run leads keeps = tt
keeps_last net steps s (Reply m) t run leads keeps = tt

module _ (net : Network) (packets : List Begun) where
  abbrev at : ℕ → List Begun → List Begun
  at n ps = packets_at net n ps

  pub begun_at_last : (steps : List Step) (step : Step) (n : ℕ) → at n (beginnings (steps ++ step ∷ [])) ≡ at n (beginnings steps) ++ at n (beginning step)
  begun_at_last steps step n = ap (at n) (beginnings_push steps step) ∙ filter-append (λ b. nat_eq (net.flow b.flow).from n) (beginnings steps) (beginning step)

  pub its_own : (b : Begun) (n : ℕ) → (net.flow b.flow).from ≡ n → at n (b ∷ []) ≡ b ∷ []
  its_own b n e = rw (eq-eqb (net.flow b.flow).from n e) refl

  pub not_its_own : (b : Begun) (n : ℕ) → ((net.flow b.flow).from ≡ n → ⊥) → at n (b ∷ []) ≡ []
  not_its_own b n ne = rw (ne_eqb (net.flow b.flow).from n ne) refl

  keeps_front : (steps : List Step) (step : Step) (n : ℕ) → at n (beginning step) ≡ [] → IsFront (at n (beginnings steps)) (at n packets) → IsFront (at n (beginnings (steps ++ step ∷ []))) (at n packets)
  keeps_front steps step n none front =
      let e = begun_at_last steps step n ∙ ap (λ l. at n (beginnings steps) ++ l) none ∙ append-nil (at n (beginnings steps)) in
      subst (λ l. IsFront l (at n packets)) (sym e) front

  grows_front : (steps : List Step) (f : ℕ) (cargo : List ℕ) (end : End) → BeginsNext net packets steps (Begin f cargo end)
      → IsFront (at (net.flow f).from (beginnings steps)) (at (net.flow f).from packets) → IsFront (at (net.flow f).from (beginnings (steps ++ Begin f cargo end ∷ []))) (at (net.flow f).from packets)
  grows_front steps f cargo end next front =
      let n = (net.flow f).from in
      let b : Begun = record { flow = f; cargo = cargo; end = end } in
      let xs = at n (beginnings steps) in
      let first = sym (slice_get-behind xs front.0) ∙ ap (λ l. slice_get l (length xs)) (sym front.1) ∙ next in
      let grown = subst (λ l. IsFront (xs ++ b ∷ []) l) (sym front.1) (longer_front xs front.0 b first) in
      let e = begun_at_last steps (Begin f cargo end) n ∙ ap (λ l. xs ++ l) (its_own b n refl) in
      subst (λ l. IsFront l (at n packets)) (sym e) grown

  module _ (steps : List Step) (s : State) (h : IsHistory net packets steps s) where
    order_with : (step : Step) → BeginsNext net packets steps step → (n : ℕ) → IsFront (at n (beginnings (steps ++ step ∷ []))) (at n packets)
    order_with (Begin f cargo end) next n = ⊎_elim
        (λ same. subst (λ m. IsFront (at m (beginnings (steps ++ Begin f cargo end ∷ []))) (at m packets)) same (grows_front steps f cargo end next (h.in_order (net.flow f).from)))
        (λ other. keeps_front steps (Begin f cargo end) n (not_its_own (record { flow = f; cargo = cargo; end = end }) n other) (h.in_order n))
        (cases_eq (net.flow f).from n)
    order_with (Fct c) next n = keeps_front steps (Fct c) n refl (h.in_order n)
    order_with (FctIn c) next n = keeps_front steps (FctIn c) n refl (h.in_order n)
    order_with (Arrive c) next n = keeps_front steps (Arrive c) n refl (h.in_order n)
    order_with (Grant d c) next n = keeps_front steps (Grant d c) n refl (h.in_order n)
    order_with (Drop c) next n = keeps_front steps (Drop c) n refl (h.in_order n)
    order_with (Forward c) next n = keeps_front steps (Forward c) n refl (h.in_order n)
    order_with (Spill c) next n = keeps_front steps (Spill c) n refl (h.in_order n)
    order_with (Emit m) next n = keeps_front steps (Emit m) n refl (h.in_order n)
    order_with (Accept m) next n = keeps_front steps (Accept m) n refl (h.in_order n)
    order_with (Reply m) next n = keeps_front steps (Reply m) n refl (h.in_order n)

    -- a step that leads on from the state after a history makes a longer one
    pub grows : (step : Step) (t : State) → Leads net s step t → BeginsNext net packets steps step → KeepsLimit net steps s step → IsHistory net packets (steps ++ step ∷ []) t
    grows step t leads next keep = record {
      run = run_append net steps (step ∷ []) (empty net) s t h.run (t, leads, refl);
      in_order = order_with step next;
      keeps = keeps_with net steps s h.run h.keeps step t leads keep;
    }
