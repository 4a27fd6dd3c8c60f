-- A new journal.
use Rattle.std.proofs.Common.{Bool, IsTrue, cond, List, None, Option, Some, [], ap, append-nil, arith, false, filter, length, map, refl, replicate, subst, sym, true, zero, suc, ℕ, ◌*◌, ◌++◌, ◌+◌, ◌∙◌, ◌∷◌, ◌≡◌, ◌↔◌}
use Rattle.atomic_table.specs.Seated.{TableId}
use Rattle.atomic_table.specs.Table.{Me}
use Rattle.std.proofs.lemmas.List.{length-replicate, map-append}
use Rattle.std.proofs.lemmas.List.FromFn.{map-range_with_len_more}
use Rattle.std.proofs.lemmas.List.Elements.{filter-append}
use Rattle.std.specs.List.{range_with_len}
use Rattle.std.specs.Prelude.{slice_get}
use Rattle.sw_cell.specs.Places.{machine_cell}
use Rattle.sw_cell.specs.declared.cell.CellId.{CellId}
use Rattle.sw_history.specs.History.{HistoryView, LeadsTo}
use Rattle.sw_journal.proofs.Commit.{view_of}
use Rattle.sw_journal.proofs.Told.{is_same_cell, same_itself}
use Rattle.sw_journal.specs.Cells.{all_known, same_cell}
use Rattle.sw_journal.specs.Opening.{numbered_of}
use Rattle.sw_journal.specs.Record.{JournalView, IsKept}
use Rattle.sw_graph.proofs.Ranges.{range_more}
use Rattle.sw_history.proofs.Zero.{new_history}
use Rattle.sw_load.specs.History.{IsHistory, packets_of}
use Rattle.sw_load.specs.Load.{LoadEntry}
use Rattle.sw_machine.specs.Network.{Cell, Network}
use Rattle.sw_machine.specs.State.{State, empty}
use Rattle.sw_machine.specs.Steps.{Step}
use Rattle.sw_machine.proofs.DeclaredNetworks.{are_networks}
use Rattle.sw_machine.specs.Model.{cell_of, network_of}
use Rattle.sw_net.proofs.Delivered.{channel_count}
use Rattle.sw_net.specs.Net.{IsNetState, NetView}
use Rattle.sw_net.specs.Numbers.{numbers_at}
use Rattle.sw_net.specs.declared.numbers.Numbers.{Numbers}
use Rattle.sw_config.specs.Entries.{Declaration, wiring_of}
use Rattle.sw_config.specs.Valid.{IsValid}
use Rattle.sw_journal.specs.Views.{knower}
use Rattle.sw_journal.specs.declared.cell_table.SeatChange.{SeatChange}
use Rattle.sw_journal.specs.declared.cell_table.View.{View}
use Rattle.sw_topo.specs.Wiring.{Wiring}
use Rattle.sw_topo.specs.declared.place.PlaceEnd.{PlaceEnd}

-- ---- where a link end stands

are_same : (a b : Cell) → a ≡ b → same_cell a b ≡ true
are_same a b e = ap (same_cell a) (sym e) ∙ same_itself a

not_same : (a b : Cell) → (a ≡ b → ⊥) → (r : Bool) → same_cell a b ≡ r → false ≡ same_cell a b
not_same a b apart true e = absurd (apart (is_same_cell a b e))
not_same a b apart false e = sym e

pub is_same : (r : Bool) (at own : Cell) → IsTrue r ↔ (at ≡ own) → r ≡ same_cell own at
is_same true at own e = sym (are_same own at (sym (e.0 refl)))
is_same false at own e = not_same own at (λ same. let no = e.1 (sym same) in cc) (same_cell own at) refl

pub starts_there : (d : Declaration) (w : Wiring) (e : ℕ) (p : PlaceEnd) → w ≡ wiring_of d → slice_get w.ends e ≡ Some p → (network_of d).start_of e ≡ cell_of (Some p)
unfolding network_of
starts_there d w e p same at = ap cell_of (ap (λ (v : Wiring). slice_get v.ends e) (sym same) ∙ at)

-- what is asked of the network of a net
pub stood_at : (own d : Declaration) (id : CellId) (e : ℕ) (r is : Bool) → own ≡ d → r ≡ same_cell ((network_of own).start_of e) (machine_cell id) → r ≡ is → same_cell ((network_of d).start_of e) (machine_cell id) ≡ is
stood_at own d id e r is same asked found = ap (λ (k : Declaration). same_cell ((network_of k).start_of e) (machine_cell id)) (sym same) ∙ sym asked ∙ found

-- ---- the link ends of a cell

pub numbered_more : (net : Network) (s : State) (id : CellId) (n : ℕ) (before after : List (ℕ × Numbers)) → before ≡ numbered_of net s id (range_with_len 0 n) → after ≡ before ++ numbered_of net s id (n ∷ [])
    → after ≡ numbered_of net s id (range_with_len 0 (n + 1))
numbered_more net s id n before after is next =
    let here : ℕ → Bool = λ e. same_cell (net.start_of e) (machine_cell id) in
    let f : ℕ → ℕ × Numbers = λ e. (e, numbers_at net s e) in
    next ∙ ap (λ l. l ++ numbered_of net s id (n ∷ [])) is
    ∙ sym (map-append f (filter here (range_with_len 0 n)) (filter here (n ∷ [])))
    ∙ ap (map f) (sym (filter-append here (range_with_len 0 n) (n ∷ [])))
    ∙ ap (numbered_of net s id) (sym (range_more n))

-- one that stands there
pub numbered_one : (net : Network) (s : State) (id : CellId) (e : ℕ) (numbers : Numbers) (before after : List (ℕ × Numbers)) → same_cell (net.start_of e) (machine_cell id) ≡ true → numbers ≡ numbers_at net s e
    → after ≡ before ++ (e, numbers) ∷ [] → after ≡ before ++ numbered_of net s id (e ∷ [])
numbered_one net s id e numbers before after here is next =
    let f : ℕ → ℕ × Numbers = λ k. (k, numbers_at net s k) in
    next ∙ (λ i. before ++ (e, is i) ∷ []) ∙ ap (λ (b : Bool). before ++ map f (cond b (e ∷ []) [])) (sym here)

-- one that stands elsewhere
pub numbered_none : (net : Network) (s : State) (id : CellId) (e : ℕ) (before : List (ℕ × Numbers)) → same_cell (net.start_of e) (machine_cell id) ≡ false → before ≡ before ++ numbered_of net s id (e ∷ [])
numbered_none net s id e before here =
    let f : ℕ → ℕ × Numbers = λ k. (k, numbers_at net s k) in
    sym (append-nil before) ∙ ap (λ (b : Bool). before ++ map f (cond b (e ∷ []) [])) (sym here)

pub ids_more : (f : ℕ → CellId) (n : ℕ) → map f (range_with_len 0 (n + 1)) ≡ map f (range_with_len 0 n) ++ f n ∷ []
ids_more f n = map-range_with_len_more f 0 n n (omega arith)

-- ---- the journal

no_mark : (n e k : ℕ) → slice_get (replicate {A = Option ℕ} n None) e ≡ Some (Some k) → ⊥
no_mark zero e k h = cc
no_mark (suc n) zero k h = cc
no_mark (suc n) (suc e) k h = no_mark n e k h

abbrev pub first_view : TableId → Declaration → List LoadEntry → ℕ → JournalView
first_view name d load limit = record { name = name; declared = d; load = load; limit = limit; history = []; marks = replicate (network_of d).channels None }

pub account_first : (name : TableId) (d : Declaration) (h : HistoryView) (load : List LoadEntry) (limit n : ℕ) (marks : List (Option ℕ)) → n ≡ 2 * length d.links → h.declared ≡ d → h.load ≡ load → h.steps ≡ []
    → marks ≡ replicate n None → view_of name h limit marks ≡ first_view name d load limit
account_first name d h load limit n marks count declared packets steps none =
    let channels : n ≡ (network_of d).channels = count ∙ sym (channel_count d) in
    let all : marks ≡ replicate (network_of d).channels None = none ∙ ap (λ k. replicate k None) channels in
    λ i. record { name = name; declared = declared i; load = packets i; limit = limit; history = steps i; marks = all i }

pub kept_first : (name : TableId) (d : Declaration) (h : HistoryView) (limit n : ℕ) (marks : List (Option ℕ)) (me : Me SeatChange View) → IsValid d → n ≡ 2 * length d.links → h.declared ≡ d → h.steps ≡ []
    → marks ≡ replicate n None → me ≡ (knower (all_known d (empty (network_of d))), []) → IsKept (view_of name h limit marks) me
kept_first name d h limit n marks me valid count declared steps none seat =
    let net = network_of d in
    let first : IsKept (first_view name d h.load limit) me = record {
      true_view = record {
        network = are_networks d valid;
        state = empty net;
        history = new_history d h.load;
        within = omega arith;
        places = length-replicate net.channels None;
        true_marks = λ e k at. absurd (no_mark net.channels e k at);
      };
      channels = channel_count d;
      seat = seat;
    } in
    subst (λ (a : JournalView). IsKept a me) (sym (account_first name d h h.load limit n marks count declared refl steps none)) first

-- ---- its network

-- the network of a history of no steps is in its empty state
pub state_first : {R A : Type 0} (h : HistoryView) (net : NetView R A) → net.declared ≡ h.declared → h.steps ≡ [] → ((s : State) → LeadsTo h s → IsNetState net s) → IsNetState net (empty (network_of net.declared))
state_first h net declared none reached =
    let n = network_of h.declared in
    let packets = packets_of h.load in
    let leads = subst (λ (steps : List Step). IsHistory n packets steps (empty n)) (sym none) (new_history h.declared h.load) in
    subst (λ (d : Declaration). IsNetState net (empty (network_of d))) (sym declared) (reached (empty n) leads)
