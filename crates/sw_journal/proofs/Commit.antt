-- What a commit keeps.
use Rattle.std.proofs.Common.{All, Bool, Err, IsTrue, List, Ok, Option, Some, [], ap, arith, eq-eqb, get_or, length, map, refl, subst, sym, ℕ, ◌++◌, ◌<◌, ◌∙◌, ◌∷◌, ◌≡◌}
use Rattle.std.proofs.lemmas.Bool.{false≢true}
use Rattle.std.proofs.lemmas.Option.{get_or_from_slice_get, slice_get-get_or, slice_get-map}
use Rattle.std.proofs.lemmas.List.{length-append, length-map, take-append-le}
use Rattle.std.specs.Prelude.{false, option_map, slice_get, slice_set, true, ◌||◌, ◌↔◌}
use Rattle.atomic_table.specs.Seated.{TableId}
use Rattle.atomic_table.specs.Table.{Me}
use Rattle.sw_cell.specs.Places.{IsAt, IsDoneAt, machine_cell}
use Rattle.sw_cell.specs.declared.fault.NetFault.{NetFault}
use Rattle.sw_cell.specs.declared.fault.NetFault.TheVariants.{Memory, NotEnabled, NotInFlow}
use Rattle.sw_cell.specs.declared.cell.CellId.{CellId}
use Rattle.sw_history.proofs.Follows.{one_state_after}
use Rattle.sw_load.proofs.Grown.{split_last}
use Rattle.sw_history.specs.History.{HistoryView, IsNext, with_steps}
use Rattle.sw_history.specs.Next.{IsIdle, MayFollow}
use Rattle.sw_journal.specs.Adding.{AddsAt, IsAtCell, IsWithSteps}
use Rattle.sw_journal.proofs.Told.{at_its_cell, ends_once, known_after, known_at, placed}
use Rattle.sw_journal.proofs.Renewed.{if_false, if_true}
use Rattle.sw_journal.specs.Cells.{all_known, cells_of, ends_at, numbered}
use Rattle.sw_journal.specs.Marks.{IsTrueMark}
use Rattle.sw_journal.specs.Record.{JournalView, CellView, Commits, IsTrueView, IsKept, IsNowCell, LeadsTo, with_step}
use Rattle.sw_journal.specs.Renewal.{AreOnce, AreRenewedAfter, is_it, is_one_of, renewed}
use Rattle.sw_journal.specs.declared.fault.JournalFault.{JournalFault}
use Rattle.sw_journal.specs.declared.fault.JournalFault.TheVariants as journal
use Rattle.sw_load.specs.Load.{LoadEntry}
use Rattle.sw_load.specs.History.{IsHistory, packets_of}
use Rattle.sw_machine.specs.Begun.{Begun}
use Rattle.sw_machine.specs.Network.{IsNetwork, Network}
use Rattle.sw_machine.specs.Parts.{cell_of}
use Rattle.sw_machine.specs.State.{State, empty}
use Rattle.sw_machine.specs.Steps.{IsPossible, Leads, Step}
use Rattle.sw_machine.specs.Model.{network_of}
use Rattle.sw_config.specs.Entries.{Declaration}
use Rattle.sw_net.specs.Numbers.{numbers_at}
use Rattle.sw_net.specs.declared.numbers.Numbers.{Numbers}
use Rattle.sw_journal.specs.Views.{holder, kept_of, knower, shown, with_known}
use Rattle.sw_journal.specs.declared.cell_table.SeatChange.{SeatChange}
use Rattle.sw_journal.specs.declared.cell_table.Known.{Known}
use Rattle.sw_journal.specs.declared.cell_table.View.{View}
use Rattle.sw_net.proofs.Undeclared.{never_begun}

abbrev pub known : CellId → List (ℕ × Numbers) → Known
known id ends = record { id = id; ends = ends }

-- a cell that met the journal is the network's at its place, with its numbers in the state after the history
pub record IsMet (j : JournalView) (s : State) (number : ℕ) (id : CellId) (ends : List (ℕ × Numbers)) : Type 0 where
  pub at : slice_get (cells_of j.declared) number ≡ Some id
  pub ends_are : ends ≡ numbered (network_of j.declared) s id

pub met : (j : JournalView) (me theirs : Me SeatChange View) (number : ℕ) (id : CellId) (ends : List (ℕ × Numbers)) → (k : IsKept j me) → theirs ≡ (holder number (known id ends), [])
    → (theirs.0.claims ≡ true → slice_get me.0.all theirs.0.cell ≡ Some theirs.0.known) → IsMet j k.true_view.state number id ends
met j me theirs number id ends k is same =
    let s = k.true_view.state in
    let claims : theirs.0.claims ≡ true = ap (λ (m : Me SeatChange View). m.0.claims) is in
    let read : slice_get (all_known j.declared s) number ≡ Some (known id ends) =
    ap (λ (m : Me SeatChange View). slice_get m.0.all number) (sym k.seat)
    ∙ ap (λ (m : Me SeatChange View). slice_get me.0.all m.0.cell) (sym is)
    ∙ same claims
    ∙ ap (λ (m : Me SeatChange View). Some m.0.known) is in
    let own = known_at j.declared s number (known id ends) read in
    let which : id ≡ own.0 = ap (λ (x : Known). x.id) own.2 in
    record {
      at = own.1 ∙ ap (λ (i : CellId). Some i) (sym which);
      ends_are = ap (λ (x : Known). x.ends) own.2 ∙ ap (numbered (network_of j.declared) s) (sym which);
    }

pub now_cell : (j : JournalView) (s : State) (number : ℕ) (cell : CellView) → LeadsTo j s → IsMet j s number cell.id cell.ends → IsNowCell j cell
now_cell j s number cell leads is = record {
  inside = (placed j.declared number cell.id is.at).0;
  ends = λ t to. is.ends_are ∙ ap (λ (u : State). numbered (network_of j.declared) u cell.id) (sym (one_state_after (network_of j.declared) (packets_of j.load) j.history s t leads to));
}

-- ---- the link ends of a cell are in range

pub ends_within : (net : Network) (s : State) (id : CellId) (n : ℕ) (ends : List (ℕ × Numbers)) → IsNetwork net → net.channels ≡ n → ends ≡ map (λ e. (e, numbers_at net s e)) (ends_at net id) → All {X = ℕ × Numbers} (λ p. p.0 < n) ends
ends_within net s id n ends ok count is = subst (λ (l : List (ℕ × Numbers)). All {X = ℕ × Numbers} (λ p. p.0 < n) l) (sym is) (each (ends_at net id) (λ k e at. let lt = (at_its_cell net ok id k e at).0 in omega (arith, count)))
  where
    each : (es : List ℕ) → ((k e : ℕ) → slice_get es k ≡ Some e → e < n) → All {X = ℕ × Numbers} (λ p. p.0 < n) (map (λ e. (e, numbers_at net s e)) es)
    each es low = λ k d lt.
        let f : ℕ → ℕ × Numbers = λ e. (e, numbers_at net s e) in
        let few : k < length es = omega (arith, lt, length-map es f) in
        let e = get_or es k 0 in
        let at = slice_get-get_or es k 0 few in
        let there = slice_get-map (λ (e : ℕ). (e, numbers_at net s e)) es k ∙ ap (option_map (λ (e : ℕ). (e, numbers_at net s e))) at in
        subst (λ (p : ℕ × Numbers). p.0 < n) (sym (get_or_from_slice_get (map (λ (e : ℕ). (e, numbers_at net s e)) es) k (e, numbers_at net s e) d there)) (low k e at)

names_back : (net : Network) (s : State) (es : List ℕ) → map (λ (p : ℕ × Numbers). p.0) (map (λ e. (e, numbers_at net s e)) es) ≡ es
names_back net s [] = refl
names_back net s (e ∷ es) = λ i. e ∷ names_back net s es i

-- and each is there once
pub names_once : (net : Network) (s : State) (id : CellId) (ends : List (ℕ × Numbers)) → ends ≡ map (λ e. (e, numbers_at net s e)) (ends_at net id) → AreOnce (map (λ p. p.0) ends)
names_once net s id ends is =
    let names : map (λ (p : ℕ × Numbers). p.0) ends ≡ ends_at net id = ap (map (λ (p : ℕ × Numbers). p.0)) is ∙ names_back net s (ends_at net id) in
    subst AreOnce (sym names) (ends_once net id)

-- ---- the journal's seat

-- after a refusal
pub kept_same : (j k : JournalView) (before met parted theirs : Me SeatChange View) → k ≡ j → IsKept j before → met ≡ (shown before.0 theirs.0, before.1) → parted ≡ (kept_of met.0, met.1) → IsKept k parted
kept_same j k before met parted theirs same is meets parts =
    let split : Me SeatChange View → Me SeatChange View = λ m. (kept_of m.0, m.1) in
    let seat : parted ≡ (knower (all_known j.declared is.true_view.state), []) =
    parts ∙ ap split meets ∙ (λ i. (kept_of (is.seat i).0, (is.seat i).1)) in
    subst (λ (a : JournalView). IsKept a parted) (sym same) (record { true_view = is.true_view; channels = is.channels; seat = seat })

mark_more : (net : Network) (packets : List Begun) (steps : List Step) (step : Step) (e k : ℕ) → IsTrueMark net packets steps e k → IsTrueMark net packets (steps ++ step ∷ []) e k
mark_more net packets steps step e k m = record {
  within = let w = m.within in omega (arith, length-append steps (step ∷ []));
  idle = subst (λ l. IsIdle net packets l e) (sym (take-append-le k steps (step ∷ []) m.within)) m.idle;
}

named : (o : Option ℕ) (e : ℕ) → o ≡ Some e → is_it o e ≡ true
named o e h = ap (λ (x : Option ℕ). is_it x e) h ∙ eq-eqb e e refl

or_true : (b : Bool) → b || true ≡ true
or_true true = refl
or_true false = refl

-- a step that changes only the numbers of these link ends
module _ (net : Network) (s t : State) (these : Option ℕ × Option ℕ) (only : (e : ℕ) → (these.0 ≡ Some e → ⊥) → (these.1 ≡ Some e → ⊥) → numbers_at net t e ≡ numbers_at net s e) where
  then_by : (e : ℕ) (b : Bool) → is_one_of these e ≡ b → renewed these net t (e, numbers_at net s e) ≡ (e, numbers_at net t e)
  then_by e true one = if_true (is_one_of these e) (e, numbers_at net t e) (e, numbers_at net s e) one
  then_by e false none =
      let first : these.0 ≡ Some e → ⊥ = λ h. false≢true (sym none ∙ ap (λ b. b || is_it these.1 e) (named these.0 e h)) in
      let second : these.1 ≡ Some e → ⊥ = λ h. false≢true (sym none ∙ ap (λ b. is_it these.0 e || b) (named these.1 e h) ∙ or_true (is_it these.0 e)) in
      let same = only e first second in
      if_false (is_one_of these e) (e, numbers_at net t e) (e, numbers_at net s e) none ∙ (λ i. (e, sym same i))

  map_renewed : (es : List ℕ) → map (renewed these net t) (map (λ e. (e, numbers_at net s e)) es) ≡ map (λ e. (e, numbers_at net t e)) es
  map_renewed [] = refl
  map_renewed (e ∷ es) = λ i. then_by e (is_one_of these e) refl i ∷ map_renewed es i

module _ (j : JournalView) (before : Me SeatChange View) (is : IsKept j before) (number : ℕ) (id : CellId) (ends : List (ℕ × Numbers)) (cell_is : IsMet j is.true_view.state number id ends)
    (step : Step) (here : cell_of (network_of j.declared) step ≡ machine_cell id) (next : MayFollow (network_of j.declared) (packets_of j.load) j.history step)
    (these : Option ℕ × Option ℕ)
    (only : (s t : State) → LeadsTo j s → Leads (network_of j.declared) s step t → (e : ℕ) → (these.0 ≡ Some e → ⊥) → (these.1 ≡ Some e → ⊥) → numbers_at (network_of j.declared) t e ≡ numbers_at (network_of j.declared) s e) where
  abbrev net : Network
  net = network_of j.declared

  abbrev t : State
  t = next.0

  leads : Leads net is.true_view.state step t
  leads =
      let last = split_last net j.history step (empty net) t next.1.run in
      let same = one_state_after net (packets_of j.load) j.history is.true_view.state last.0 is.true_view.history (record { run = last.1; in_order = is.true_view.history.in_order; keeps = is.true_view.history.keeps }) in
      subst (λ (m : State). Leads net m step t) same last.2

  -- the numbers after the step
  pub after_step : (more : List (ℕ × Numbers)) → more ≡ map (renewed these net t) ends → more ≡ numbered net t id
  after_step more renew = renew ∙ ap (map (renewed these net t)) cell_is.ends_are ∙ map_renewed net is.true_view.state t these (only is.true_view.state t is.true_view.history leads) (ends_at net id)

  known_then : (more : List (ℕ × Numbers)) → more ≡ map (renewed these net t) ends → slice_set (all_known j.declared is.true_view.state) number (known id more) ≡ all_known j.declared t
  known_then more renew =
      ap (λ (l : List (ℕ × Numbers)). slice_set (all_known j.declared is.true_view.state) number (known id l)) (after_step more renew)
      ∙ sym (known_after j.declared is.true_view.network is.true_view.state t (j.history, is.true_view.history.run) step leads number id cell_is.at here)

  pub account_after : length j.history < j.limit → IsTrueView (with_step j step)
  account_after room = record {
    network = is.true_view.network;
    state = t;
    history = next.1;
    within = omega (arith, length-append j.history (step ∷ []), room);
    places = is.true_view.places;
    true_marks = λ e k at. mark_more net (packets_of j.load) j.history step e k (is.true_view.true_marks e k at);
  }

  -- what the journal keeps after the step
  pub kept_after : (k : JournalView) (theirs shown_seat renewed_seat parted : Me SeatChange View) (more : List (ℕ × Numbers)) → k ≡ with_step j step → length j.history < j.limit
      → more ≡ map (renewed these net t) ends → theirs ≡ (holder number (known id ends), []) → shown_seat ≡ (shown before.0 theirs.0, before.1)
      → renewed_seat ≡ (with_known shown_seat.0 (known shown_seat.0.known.id more), shown_seat.1) → parted ≡ (kept_of renewed_seat.0, renewed_seat.1) → IsKept k parted
  unfolding account_after
  kept_after k theirs shown_seat renewed_seat parted more same room renew cell meets renews parts =
      let all = all_known j.declared is.true_view.state in
      let split : Me SeatChange View → Me SeatChange View = λ m. (kept_of m.0, m.1) in
      let change : Me SeatChange View → Me SeatChange View = λ m. (with_known m.0 (known m.0.known.id more), m.1) in
      let met_is : shown_seat ≡ (shown (knower all) (holder number (known id ends)), []) = meets ∙ (λ i. (shown (is.seat i).0 (cell i).0, (is.seat i).1)) in
      let seat : parted ≡ (knower (all_known j.declared t), []) =
      parts ∙ ap split (renews ∙ ap change met_is)
      ∙ ap (λ (l : List Known). let m : Me SeatChange View = (knower l, []) in m) (known_then more renew) in
      subst (λ (a : JournalView). IsKept a parted) (sym same) (record { true_view = account_after room; channels = is.channels; seat = seat })

  -- and the cell
  pub same_cell_after : (k : JournalView) (cell : CellView) (more : List (ℕ × Numbers)) → k ≡ with_step j step → cell.id ≡ id → cell.ends ≡ more → more ≡ map (renewed these net t) ends → IsNowCell k cell
  same_cell_after k cell more same which ends_are renew =
      let here : IsMet (with_step j step) t number cell.id cell.ends = record {
        at = cell_is.at ∙ ap (λ (i : CellId). Some i) (sym which);
        ends_are = ends_are ∙ after_step more renew ∙ ap (numbered net t) (sym which);
      } in
      subst (λ (a : JournalView). IsNowCell a cell) (sym same) (now_cell (with_step j step) t number cell next.1 here)

-- ---- refusals

pub at_own : (d : Declaration) (step : Step) (own at : CellId) (r : Bool) → IsAt d step own → IsTrue r ↔ (machine_cell own ≡ machine_cell at) → IsAtCell d at step r
at_own d step own at true is same = is.cell ∙ same.0 refl
at_own d step own at false is same = λ here s p. absurd (let no = same.1 (sym is.cell ∙ here) in cc)

pub at_none : (d : Declaration) (step : Step) (at : CellId) (e : NetFault) → IsDoneAt d step (Err e) → IsAtCell d at step false
at_none d step at NotInFlow is = λ here s p. never_begun (network_of d) s step is p
at_none d step at NotEnabled is = λ here s p. is.1 s p
at_none d step at Memory is = absurd is

-- a step that may follow a history is possible in some state
pub possible_of : (n : Network) (packets : List Begun) (steps : List Step) (step : Step) → MayFollow n packets steps step → (s : State) × IsPossible n s step
possible_of n packets steps step next =
    let last = split_last n steps step (empty n) next.0 next.1.run in
    (last.0, (next.0, last.2))

-- ---- the answers of a history

abbrev pub view_of : TableId → HistoryView → ℕ → List (Option ℕ) → JournalView
view_of name h limit marks = record { name = name; declared = h.declared; load = h.load; limit = limit; history = h.steps; marks = marks }

pub refused_same : (h k : HistoryView) (at : CellId) (limit : ℕ) (step : Step) (fault : JournalFault) → AddsAt h at limit step (Err fault) k → IsWithSteps h h.steps k
refused_same h k at limit step journal.NotEnabled adds = adds.1
refused_same h k at limit step journal.Full adds = adds.2
refused_same h k at limit step journal.Memory adds = adds.2

-- ---- a step added to a history, where room for it was made before

module _ (h k : HistoryView) (same : IsWithSteps h h.steps k) (step : Step) where
  pub next_of : IsNext k step → IsNext h step
  next_of next = subst (λ (v : Declaration × (List LoadEntry × List Step)). MayFollow (network_of v.0) (packets_of v.1.0) v.1.1 step) (λ i. (same.declared i, (same.load i, same.steps i))) next

  pub next_in : IsNext h step → IsNext k step
  next_in next = subst (λ (v : Declaration × (List LoadEntry × List Step)). MayFollow (network_of v.0) (packets_of v.1.0) v.1.1 step) (sym (λ i. (same.declared i, (same.load i, same.steps i)))) next

  pub steps_more : (m : HistoryView) (room : ℕ) → m ≡ with_steps k (k.steps ++ step ∷ []) room → IsWithSteps h (h.steps ++ step ∷ []) m
  steps_more m room is = record {
    declared = ap (λ (v : HistoryView). v.declared) is ∙ same.declared;
    load = ap (λ (v : HistoryView). v.load) is ∙ same.load;
    steps = ap (λ (v : HistoryView). v.steps) is ∙ ap (λ (l : List Step). l ++ step ∷ []) same.steps;
  }

  pub steps_same : (m : HistoryView) → m ≡ k → IsWithSteps h h.steps m
  steps_same m is = subst (λ (v : HistoryView). IsWithSteps h h.steps v) (sym is) same

pub account_same : (name : TableId) (h k : HistoryView) (limit : ℕ) (marks : List (Option ℕ)) (steps : List Step) → IsWithSteps h steps k
    → view_of name k limit marks ≡ record { name = name; declared = h.declared; load = h.load; limit = limit; history = steps; marks = marks }
account_same name h k limit marks steps w = λ i. record { name = name; declared = w.declared i; load = w.load i; limit = limit; history = w.steps i; marks = marks }

pub renewed_then : (h k : HistoryView) (steps : List Step) (t : State) (these : Option ℕ × Option ℕ) (ends more : List (ℕ × Numbers)) → IsWithSteps h steps k → IsHistory (network_of h.declared) (packets_of h.load) steps t
    → AreRenewedAfter k these ends more → more ≡ map (renewed these (network_of h.declared) t) ends
renewed_then h k steps t these ends more w leads renew =
    let P : HistoryView → Type 0 = λ v. AreRenewedAfter v these ends more in
    let then : IsHistory (network_of k.declared) (packets_of k.load) k.steps t = subst (λ (v : Declaration × (List LoadEntry × List Step)). IsHistory (network_of v.0) (packets_of v.1.0) v.1.1 t) (λ i. (sym w.declared i, (sym w.load i, sym w.steps i))) leads in
    renew t then ∙ ap (λ (d : Declaration). map (renewed these (network_of d) t) ends) w.declared

pub now_same : (j k : JournalView) (cell after : CellView) → j ≡ k → cell ≡ after → IsNowCell j cell → IsNowCell k after
now_same j k cell after same also is = subst (λ (v : JournalView × CellView). IsNowCell v.0 v.1) (λ i. (same i, also i)) is

pub commits_same : (j k then : JournalView) (cell after now : CellView) (step : Step) → j ≡ k → cell ≡ after → Commits j cell step (Ok tt) then now → Commits k after step (Ok tt) then now
commits_same j k then cell after now step same also is = subst (λ (v : JournalView × CellView). Commits v.0 v.1 step (Ok tt) then now) (λ i. (same i, also i)) is
