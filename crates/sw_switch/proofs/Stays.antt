-- An input that waits goes on waiting until it is granted.
use Rattle.std.specs.Prelude.{slice_get, slice_set, Option, Some, None, IsBitSet, bit_and}
use Rattle.std.specs.List.{slice_index_or}
use Rattle.std.proofs.Common.{◌≡◌, ◌≢◌, ℕ, zero, suc, List, [], ◌∷◌, ◌++◌, length, refl, sym, ap, subst, ◌∙◌, arith, inl, inr, get_or-set_other, ne_eqb}
use Rattle.std.proofs.lemmas.Bool.{cases_eq, cond_both}
use Rattle.sw_topo.proofs.PortBits.{and_members, zero_none}
use Rattle.sw_arb.specs.Arbiters.{Pick, MakesPicks, none, next, AsksEachTime, passed_over}
use Rattle.sw_char.specs.declared.nchar.NChar.{NChar}
use Rattle.sw_char.specs.declared.nchar.NChar.TheVariants.{Data, Eop, Eep}
use Rattle.sw_link.specs.Ends.{Received, arrived}
use Rattle.sw_route.specs.declared.look.Look.{Look}
use Rattle.sw_switch.specs.Cell.{Cell, input_at, end_at, front_at, new_end}
use Rattle.sw_switch.specs.Conditions.{Names, IsDropped}
use Rattle.sw_switch.specs.Changes.{granted_to, passed, dropped, is_marker, is_deleted, without_front}
use Rattle.sw_switch.specs.Waiting.{Waits, Moves, forwards, drops, spills, issues, arrives, fct_received, Meanwhile, start, picked, picked_elsewhere, given, moved}
use Rattle.sw_switch.specs.declared.input.Input.{Input}
use Rattle.sw_switch.specs.declared.input.Input.TheVariants.{Idle, Held, Spilling}
use Rattle.sw_topo.proofs.Lists.{slice_get-set_other, slice_get-set_same}
use Rattle.std.proofs.lemmas.List.Elements.{All-cons}

-- a new entry changes no front if it has that of the old one
front-set : (ends : List Received) (i j : ℕ) (r d : Received) → slice_get r.buffer 0 ≡ slice_get (slice_index_or ends i d).buffer 0 →
    slice_get (slice_index_or (slice_set ends i r) j d).buffer 0 ≡ slice_get (slice_index_or ends j d).buffer 0
front-set [] i j r d e = refl
front-set (x ∷ ends) zero zero r d e = e
front-set (x ∷ ends) zero (suc j) r d e = refl
front-set (x ∷ ends) (suc i) zero r d e = refl
front-set (x ∷ ends) (suc i) (suc j) r d e = front-set ends i j r d e

-- one more character behind a front
front-append : (buffer : List NChar) (x y : NChar) → slice_get buffer 0 ≡ Some y → slice_get (buffer ++ x ∷ []) 0 ≡ slice_get buffer 0
front-append [] x y e = cc
front-append (z ∷ buffer) x y e = refl

-- the waiting input's front is there
has_front : {R : Type 0} (answer : R → ℕ → Look) (routes : R) (front : Option NChar) (out : ℕ) → Names answer routes front out → (x : NChar) × (front ≡ Some x)
has_front answer routes None out names = absurd names
has_front answer routes (Some x) out names = (x, refl)

-- it names a port with a link, so it is not dropped
not_dropped : {R : Type 0} (answer : R → ℕ → Look) (routes : R) (linked : ℕ) (front : Option NChar) (out : ℕ) → IsBitSet linked out → Names answer routes front out →
    IsDropped answer routes linked front → ⊥
not_dropped answer routes linked None out has names dropped = dropped
not_dropped answer routes linked (Some (Data byte)) out has names dropped =
    zero_none (bit_and ((answer routes byte).ports) linked) dropped out (omega arith) ((and_members ((answer routes byte).ports) linked out).1 (names, has))
not_dropped answer routes linked (Some Eop) out has names dropped = names
not_dropped answer routes linked (Some Eep) out has names dropped = names

-- where the input's state and front stay, it waits on
waits_after : {R A : Type 0} (answer : R → ℕ → Look) (old : Cell R A) (out input : ℕ) (credits : List ℕ) (inputs : List Input) (received : List Received) (arbiters : List (Option A)) →
    Waits answer old out input → slice_index_or inputs input Idle ≡ input_at old input → slice_get (slice_index_or received input (new_end 0)).buffer 0 ≡ front_at old input →
    Waits answer (record { routes = old.routes; linked = old.linked; credits = credits; inputs = inputs; received = received; arbiters = arbiters }) out input
waits_after answer old out input credits inputs received arbiters waits same front =
    let P : Option NChar → Type 0 = λ f. Names answer old.routes f out in
    record {
      linked = waits.linked;
      asks = record { linked = waits.asks.linked; idle = same ∙ waits.asks.idle; names = subst P (sym front) waits.asks.names };
      only = λ port linked names. let Q : Option NChar → Type 0 = λ f. Names answer old.routes f port in waits.only port linked (subst Q front names);
    }

other_input : (inputs : List Input) (input other : ℕ) (after : Input) → other ≢ input → slice_index_or (slice_set inputs other after) input Idle ≡ slice_index_or inputs input Idle
other_input inputs input other after apart = get_or-set_other inputs other input after Idle (λ e. apart (sym e))

other_front : (ends : List Received) (input other : ℕ) (after d : Received) → other ≢ input →
    slice_get (slice_index_or (slice_set ends other after) input d).buffer 0 ≡ slice_get (slice_index_or ends input d).buffer 0
other_front ends input other after d apart = ap (λ (r : Received). slice_get r.buffer 0) (get_or-set_other ends other input after d (λ e. apart (sym e)))

-- the input waits on, and nothing happens to the arbiters
pub record Stays {R A : Type 0} (answer : R → ℕ → Look) (old new : Cell R A) (out input : ℕ) : Type 0 where
  pub waits : Waits answer new out input
  pub linked : new.linked ≡ old.linked
  pub arbiters : new.arbiters ≡ old.arbiters

passed_stays : {R A : Type 0} (answer : R → ℕ → Look) (cell : Cell R A) (out input other : ℕ) → Waits answer cell out input → other ≢ input → Waits answer (passed cell other) out input
passed_stays answer cell out input other waits apart =
    waits_after answer cell out input cell.credits _ _ cell.arbiters waits
    (cond_both (is_marker (front_at cell other)) (slice_set cell.inputs other Idle) cell.inputs (λ inputs. slice_index_or inputs input Idle ≡ input_at cell input) (λ _. other_input cell.inputs input other Idle apart) (λ _. refl))
    (other_front cell.received input other _ (new_end 0) apart)

granted_stays : {R A : Type 0} (answer : R → ℕ → Look) (cell : Cell R A) (out input some other : ℕ) (arbiters : List (Option A)) → Waits answer cell out input → other ≢ input →
    Waits answer (record (granted_to answer cell some other) { arbiters = arbiters }) out input
granted_stays answer cell out input some other arbiters waits apart =
    waits_after answer cell out input cell.credits _ _ arbiters waits
    (other_input cell.inputs input other (Held some) apart)
    (cond_both (is_deleted answer cell.routes (front_at cell other)) ((without_front cell other).received) cell.received (λ received. slice_get (slice_index_or received input (new_end 0)).buffer 0 ≡ front_at cell input) (λ _. other_front cell.received input other _ (new_end 0) apart) (λ _. refl))

moves_stay : {R A : Type 0} (answer : R → ℕ → Look) (old new : Cell R A) (out input : ℕ) → Waits answer old out input → Moves answer old new → Stays answer old new out input
moves_stay answer _ _ out input waits (forwards cell other to can held) = record {
  waits =
      let apart : other ≢ input = λ e. let held' = rw e at held in let idle = waits.asks.idle in cc in
      let on = passed_stays answer cell out input other waits apart in
      waits_after answer (passed cell other) out input _ _ _ cell.arbiters on refl refl;
  linked = refl;
  arbiters = refl;
}
moves_stay answer _ _ out input waits (drops cell other can) =
    let apart : other ≢ input = λ e. not_dropped answer cell.routes cell.linked (front_at cell input) out waits.linked waits.asks.names (rw e at can.dropped) in
    record {
      waits =
          waits_after answer cell out input cell.credits _ _ cell.arbiters waits
          (cond_both (is_marker (front_at cell other)) cell.inputs (slice_set cell.inputs other Spilling) (λ inputs. slice_index_or inputs input Idle ≡ input_at cell input) (λ _. refl) (λ _. other_input cell.inputs input other Spilling apart))
          (cond_both (is_marker (front_at cell other)) ((without_front cell other).received) cell.received (λ received. slice_get (slice_index_or received input (new_end 0)).buffer 0 ≡ front_at cell input) (λ _. other_front cell.received input other _ (new_end 0) apart) (λ _. refl));
      linked = refl;
      arbiters = refl;
    }
moves_stay answer _ _ out input waits (spills cell other can) = record {
  waits = passed_stays answer cell out input other waits (λ e. let spilling = rw e at can.spilling in let idle = waits.asks.idle in cc);
  linked = refl;
  arbiters = refl;
}
moves_stay answer _ _ out input waits (issues cell other can) = record {
  waits = waits_after answer cell out input cell.credits cell.inputs _ cell.arbiters waits refl (front-set cell.received other input _ (new_end 0) refl);
  linked = refl;
  arbiters = refl;
}
moves_stay answer _ _ out input waits (arrives cell other x some) = record {
  waits = waits_after answer cell out input cell.credits cell.inputs _ cell.arbiters waits refl (elim (cases_eq other input) [
    | inl same ↦
        let found = has_front answer cell.routes (front_at cell input) out waits.asks.names in
        front-set cell.received other input (arrived x (end_at cell other)) (new_end 0) (front-append (end_at cell other).buffer x found.0 (rw same found.1))
    | inr apart ↦ other_front cell.received input other _ (new_end 0) apart
  ]);
  linked = refl;
  arbiters = refl;
}
moves_stay answer _ _ out input waits (fct_received cell to room) = record {
  waits = waits_after answer cell out input _ cell.inputs cell.received cell.arbiters waits refl refl;
  linked = refl;
  arbiters = refl;
}

-- what the output's arbiter picks meanwhile: the waiting input asks each time, and is not picked
pub record PicksOthers {A : Type 0} (ports : A → ℕ) (policy : A → ℕ → ℕ → A → Type 0) (input : ℕ) (a : A) (picks : List Pick) : Type 0 where
  pub b : A
  pub makes : MakesPicks ports policy a picks b
  pub asks : AsksEachTime input picks
  pub over : passed_over input picks ≡ length picks

pub picks_others : {R A : Type 0} (answer : R → ℕ → Look) (ports : A → ℕ) (policy : A → ℕ → ℕ → A → Type 0) →
    ((a b : A) (asking pick : ℕ) → policy a asking pick b → ports b ≡ ports a) →
    (out input : ℕ) (cell later : Cell R A) (picks : List Pick) (a : A) → Waits answer cell out input → slice_get cell.arbiters out ≡ Some (Some a) → ports a ≡ cell.linked →
    Meanwhile answer policy out input cell picks later → PicksOthers ports policy input a picks
picks_others answer ports policy keeps out input _ _ _ a waits at same (start cell) = record { b = a; makes = none a; asks = λ k d lt. absurd (omega arith); over = refl }
picks_others {R = R} {A = A} answer ports policy keeps out input _ _ _ a waits at same (picked old new later other picks grant apart rest) =
    let is_before : grant.before ≡ a = cc in
    let policy_a : policy a grant.asking other grant.after = rw is_before at grant.picks in
    let kept : ports grant.after ≡ ports a = keeps a grant.after grant.asking other policy_a in
    let P : Cell R A → Type 0 = λ c. Waits answer c out input in
    let on = subst P (sym grant.changed) (granted_stays answer old out input out other (slice_set old.arbiters out (Some grant.after)) waits apart) in
    let later_on = picks_others answer ports policy keeps out input new later picks grant.after on (rw grant.changed (slice_get-set_same old.arbiters out (Some a) (Some grant.after) at)) (kept ∙ same ∙ sym (ap (λ (c : Cell R A). c.linked) grant.changed)) rest in
    let Has : ℕ → ℕ → Type 0 = λ p set. IsBitSet set p in
    record {
      b = later_on.b;
      makes = next a grant.after later_on.b (record { asking = grant.asking; picked = other }) picks (λ p set. subst (Has p) (sym same) ((grant.are_asking p).0 set).asks.linked) policy_a later_on.makes;
      asks = All-cons (λ (pick : Pick). IsBitSet (pick.asking) input) _ picks ((grant.are_asking input).1 (record { linked = waits.linked; free = grant.possible.free; asks = waits.asks })) later_on.asks;
      over = rw (ne_eqb other input apart) (omega (arith, later_on.over));
    }
picks_others {R = R} {A = A} answer ports policy keeps out input _ _ picks a waits at same (picked_elsewhere old new later elsewhere other _ not_here grant apart rest) =
    let P : Cell R A → Type 0 = λ c. Waits answer c out input in
    let on = subst P (sym grant.changed) (granted_stays answer old out input elsewhere other (slice_set old.arbiters elsewhere (Some grant.after)) waits apart) in
    picks_others answer ports policy keeps out input new later picks a on
    (rw grant.changed (slice_get-set_other old.arbiters elsewhere out (Some grant.after) (λ e. not_here (sym e)) ∙ at))
    (same ∙ sym (ap (λ (c : Cell R A). c.linked) grant.changed))
    rest
picks_others answer ports policy keeps out input _ _ picks a waits at same (given old later some other _ can apart rest) =
    picks_others answer ports policy keeps out input (granted_to answer old some other) later picks a (granted_stays answer old out input some other old.arbiters waits apart) at same rest
picks_others answer ports policy keeps out input _ _ picks a waits at same (moved old new later _ move rest) =
    let stays = moves_stay answer old new out input waits move in
    picks_others answer ports policy keeps out input new later picks a stays.waits (rw stays.arbiters at) (rw stays.linked same) rest
