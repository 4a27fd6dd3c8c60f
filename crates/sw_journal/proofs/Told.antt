-- What cells know before and after a step.
use Rattle.std.proofs.Common.{◌≡◌, ◌≢◌, ◌⊎◌, ℕ, zero, suc, ◌+◌, ◌-◌, ◌<◌, ◌≤◌, Some, None, List, [], ◌∷◌, ◌++◌, length, map, filter, Bool, true, false, refl, sym, ap, ◌∙◌, subst, ⊎_elim, inl, inr, arith, cond}
use Rattle.std.specs.List.{range_with_len}
use Rattle.std.specs.Prelude.{Option, option_map, slice_get, slice_set}
use Rattle.std.proofs.lemmas.Bool.{eq-eqb, eqb-true}
use Rattle.std.proofs.lemmas.List.FromFn.{length-map-range_with_len}
use Rattle.std.proofs.lemmas.Option.{same_Some, slice_get-map}
use Rattle.sw_cell.specs.Places.{IsIn, machine_cell}
use Rattle.sw_cell.specs.declared.cell.CellId.{CellId}
use Rattle.sw_cell.specs.declared.cell.CellId.TheVariants.{Node, Switch}
use Rattle.sw_journal.specs.Renewal.{AreOnce}
use Rattle.sw_journal.specs.Cells.{all_known, cells_of, ends_at, known_of, same_cell}
use Rattle.sw_machine.proofs.Parts.{changes}
use Rattle.sw_machine.proofs.Wormhole.{held_once}
use Rattle.sw_machine.specs.Network.{AtNode, AtSwitch, Cell, IsNetwork, Network, reverse_of}
use Rattle.sw_machine.specs.Parts.{SamePart, cell_of}
use Rattle.sw_machine.specs.Runs.{IsReached}
use Rattle.sw_machine.specs.State.{State}
use Rattle.sw_machine.specs.Steps.{Leads, Step}
use Rattle.sw_machine.specs.Model.{network_of}
use Rattle.sw_net.specs.Numbers.{numbers_at}
use Rattle.sw_config.specs.Entries.{Declaration}
use Rattle.sw_journal.specs.declared.cell_table.Known.{Known}

-- ---- places of lists

at_append : {A : Type 0} (xs ys : List A) (k : ℕ) (x : A) → slice_get (xs ++ ys) k ≡ Some x → (slice_get xs k ≡ Some x) ⊎ ((j : ℕ) × (k ≡ length xs + j) × (slice_get ys j ≡ Some x))
at_append [] ys k x e = inr (k, omega arith, e)
at_append (y ∷ xs) ys zero x e = inl e
at_append (y ∷ xs) ys (suc k) x e = ⊎_elim (λ t. inl t) (λ t. inr (t.0, (let same = t.1 in omega arith), t.2)) (at_append xs ys k x e)

in_range : {A : Type 0} (f : ℕ → A) (a n k : ℕ) (x : A) → slice_get (map f (range_with_len a n)) k ≡ Some x → (k < n) × (x ≡ f (a + k))
in_range f a zero k x e = absurd cc
in_range f a (suc n) zero x e = (omega arith, (let here : x ≡ f a = cc in let same : a ≡ a + 0 = omega arith in here ∙ ap f same))
in_range f a (suc n) (suc k) x e =
    let later = in_range f (a + 1) n k x e in
    let same : a + 1 + k ≡ a + suc k = omega arith in
    ((let lt = later.0 in omega arith), later.1 ∙ ap f same)

below : {A : Type 0} (f : ℕ → A) (n k : ℕ) (x : A) → slice_get (map f (range_with_len 0 n)) k ≡ Some x → (k < n) × (x ≡ f k)
below f n k x e =
    let at = in_range f 0 n k x e in
    let same : 0 + k ≡ k = omega arith in
    (at.0, at.1 ∙ ap f same)

map_same : {A B : Type 0} (f g : A → B) (xs : List A) → ((j : ℕ) (y : A) → slice_get xs j ≡ Some y → g y ≡ f y) → map g xs ≡ map f xs
map_same f g [] same = refl
map_same f g (x ∷ xs) same = λ i. same 0 x refl i ∷ map_same f g xs (λ j y e. same (suc j) y e) i

map_set : {A B : Type 0} (f g : A → B) (xs : List A) (k : ℕ) (x : A) → slice_get xs k ≡ Some x
    → ((j : ℕ) (y : A) → slice_get xs j ≡ Some y → (j ≡ k → ⊥) → g y ≡ f y) → map g xs ≡ slice_set (map f xs) k (g x)
map_set f g [] k x e same = absurd cc
map_set f g (y ∷ xs) zero x e same =
    let here : y ≡ x = cc in
    λ i. g (here i) ∷ map_same f g xs (λ j z at. same (suc j) z at (λ (no : suc j ≡ 0). absurd (omega arith))) i
map_set f g (y ∷ xs) (suc k) x e same =
    let later = map_set f g xs k x e (λ j z at no. same (suc j) z at (λ (s : suc j ≡ suc k). no (omega arith))) in
    λ i. same 0 y refl (λ (no : 0 ≡ suc k). absurd (omega arith)) i ∷ later i

-- what a filter keeps of a range is in it, and passes
module _ (p : ℕ → Bool) where
  kept_by : (a n x : ℕ) (rest : List ℕ) → ((k : ℕ) → slice_get rest k ≡ Some x → (p x ≡ true) × (x < a + suc n)) → (b : Bool) → p a ≡ b
      → (k : ℕ) → slice_get (cond b (a ∷ rest) rest) k ≡ Some x → (p x ≡ true) × (x < a + suc n)
  kept_by a n x rest later true is zero e = let here : a ≡ x = cc in (ap p (sym here) ∙ is, omega arith)
  kept_by a n x rest later true is (suc k) e = later k e
  kept_by a n x rest later false is k e = later k e

  kept_in_range : (a n k x : ℕ) → slice_get (filter p (range_with_len a n)) k ≡ Some x → (p x ≡ true) × (x < a + n)
  kept_in_range a zero k x e = absurd cc
  kept_in_range a (suc n) k x e =
      kept_by a n x (filter p (range_with_len (a + 1) n)) (λ j at. let it = kept_in_range (a + 1) n j x at in (it.0, (let lt = it.1 in omega arith))) (p a) refl k e

  from_by : (a x : ℕ) (rest : List ℕ) → ((k : ℕ) → slice_get rest k ≡ Some x → a + 1 ≤ x) → (b : Bool) → (k : ℕ) → slice_get (cond b (a ∷ rest) rest) k ≡ Some x → a ≤ x
  from_by a x rest later true zero e = let here : a ≡ x = cc in omega arith
  from_by a x rest later true (suc k) e = let lt = later k e in omega arith
  from_by a x rest later false k e = let lt = later k e in omega arith

  kept_from : (a n k x : ℕ) → slice_get (filter p (range_with_len a n)) k ≡ Some x → a ≤ x
  kept_from a zero k x e = absurd cc
  kept_from a (suc n) k x e = from_by a x (filter p (range_with_len (a + 1) n)) (λ j at. kept_from (a + 1) n j x at) (p a) k e

  once_by : (a x : ℕ) (rest : List ℕ) → ((k : ℕ) → slice_get rest k ≡ Some x → a + 1 ≤ x) → ((i j : ℕ) → slice_get rest i ≡ Some x → slice_get rest j ≡ Some x → i ≡ j)
      → (b : Bool) (i j : ℕ) → slice_get (cond b (a ∷ rest) rest) i ≡ Some x → slice_get (cond b (a ∷ rest) rest) j ≡ Some x → i ≡ j
  once_by a x rest above once true zero zero e f = refl
  once_by a x rest above once true zero (suc j) e f = let here : a ≡ x = cc in let lt = above j f in absurd (omega arith)
  once_by a x rest above once true (suc i) zero e f = let here : a ≡ x = cc in let lt = above i e in absurd (omega arith)
  once_by a x rest above once true (suc i) (suc j) e f = ap suc (once i j e f)
  once_by a x rest above once false i j e f = once i j e f

  kept_once : (a n i j x : ℕ) → slice_get (filter p (range_with_len a n)) i ≡ Some x → slice_get (filter p (range_with_len a n)) j ≡ Some x → i ≡ j
  kept_once a zero i j x e f = absurd cc
  kept_once a (suc n) i j x e f =
      once_by a x (filter p (range_with_len (a + 1) n)) (λ k at. kept_from (a + 1) n k x at) (λ k l g h. kept_once (a + 1) n k l x g h) (p a) i j e f

-- no two places of a cell's list have one link end
pub ends_once : (net : Network) (id : CellId) → AreOnce (ends_at net id)
ends_once net id i j e at there = kept_once (λ c. same_cell (net.start_of c) (machine_cell id)) 0 net.channels i j e at there

-- ---- cells

pub is_same_cell : (a b : Cell) → same_cell a b ≡ true → a ≡ b
is_same_cell (AtNode n) (AtNode m) e = ap AtNode (eqb-true n m e)
is_same_cell (AtNode n) (AtSwitch w) e = absurd cc
is_same_cell (AtSwitch w) (AtNode n) e = absurd cc
is_same_cell (AtSwitch w) (AtSwitch v) e = ap AtSwitch (eqb-true w v e)

pub same_itself : (a : Cell) → same_cell a a ≡ true
same_itself (AtNode n) = eq-eqb n n refl
same_itself (AtSwitch w) = eq-eqb w w refl

-- the place of a cell in the list of all
abbrev pub place_of : Declaration → Cell → ℕ
place_of d (AtNode n) = n
place_of d (AtSwitch w) = length d.nodes + w

place_of_node : (d : Declaration) (k : ℕ) (id : CellId) → slice_get (map Node (range_with_len 0 (length d.nodes))) k ≡ Some id → IsIn d id × (k ≡ place_of d (machine_cell id))
place_of_node d k id e =
    let at = below Node (length d.nodes) k id e in
    subst (λ (i : CellId). IsIn d i × (k ≡ place_of d (machine_cell i))) (sym at.1) (at.0, refl)

place_of_switch : (d : Declaration) (k j : ℕ) (id : CellId) → k ≡ length d.nodes + j → slice_get (map Switch (range_with_len 0 (length d.switches))) j ≡ Some id → IsIn d id × (k ≡ place_of d (machine_cell id))
place_of_switch d k j id is e =
    let at = below Switch (length d.switches) j id e in
    subst (λ (i : CellId). IsIn d i × (k ≡ place_of d (machine_cell i))) (sym at.1) (at.0, is)

-- each cell of the list is the network's, and stands at its place
pub placed : (d : Declaration) (k : ℕ) (id : CellId) → slice_get (cells_of d) k ≡ Some id → IsIn d id × (k ≡ place_of d (machine_cell id))
placed d k id e =
    ⊎_elim
    (λ at. place_of_node d k id at)
    (λ (t : (j : ℕ) × (k ≡ length (map Node (range_with_len 0 (length d.nodes))) + j) × (slice_get (map Switch (range_with_len 0 (length d.switches))) j ≡ Some id)).
    let count = length-map-range_with_len Node 0 (length d.nodes) in
    place_of_switch d k t.0 id (let same = t.1 in omega arith) t.2)
    (at_append (map Node (range_with_len 0 (length d.nodes))) (map Switch (range_with_len 0 (length d.switches))) k id e)

-- two of them are two of the machine's cells
two_cells : (d : Declaration) (j k : ℕ) (a b : CellId) → slice_get (cells_of d) j ≡ Some a → slice_get (cells_of d) k ≡ Some b → (j ≡ k → ⊥) → machine_cell a ≢ machine_cell b
two_cells d j k a b at bt apart same = apart ((placed d j a at).1 ∙ ap (place_of d) same ∙ sym (placed d k b bt).1)

-- ---- numbers

pub reverse_back : (c : ℕ) → reverse_of (reverse_of c) ≡ c
reverse_back c = grind arith

module _ (net : Network) (ok : IsNetwork net) where
  -- what is received at a link end ends at its cell
  pub received_ends : (e : ℕ) → e < net.channels → (reverse_of e < net.channels) × (net.end_of (reverse_of e) ≡ net.start_of e)
  received_ends e lt =
      let there = (ok.reversed e lt).0 in
      (there, sym (ok.reversed (reverse_of e) there).1 ∙ ap net.start_of (reverse_back e))

  -- a cell whose part is the same has the same numbers
  numbers_same : (cell : Cell) (s t : State) → SamePart net cell s t → (e : ℕ) → e < net.channels → net.start_of e ≡ cell → numbers_at net t e ≡ numbers_at net s e
  numbers_same cell s t same e lt at =
      let back = received_ends e lt in
      let ends = same.ends (reverse_of e) back.0 (back.1 ∙ at) in
      let credit = same.starts e lt at in
      λ i. record {
        credit = credit i;
        outstanding = ends.outstanding i;
        room = net.capacity (reverse_of e) - length (ends.buffer i) - ends.outstanding i;
      }

  -- the link ends of a cell are channels that start there
  pub at_its_cell : (id : CellId) (k e : ℕ) → slice_get (ends_at net id) k ≡ Some e → (e < net.channels) × (net.start_of e ≡ machine_cell id)
  at_its_cell id k e at =
      let it = kept_in_range (λ c. same_cell (net.start_of c) (machine_cell id)) 0 net.channels k e at in
      ((let lt = it.1 in omega arith), is_same_cell (net.start_of e) (machine_cell id) it.0)

  known_same : (id : CellId) (s t : State) → SamePart net (machine_cell id) s t → known_of net t id ≡ known_of net s id
  known_same id s t same =
      let numbers = map_same (λ e. (e, numbers_at net s e)) (λ e. (e, numbers_at net t e)) (ends_at net id)
      (λ j e at. let it = at_its_cell id j e at in λ i. (e, numbers_same (machine_cell id) s t same e it.0 it.1 i)) in
      λ i. record { id = id; ends = numbers i }

-- after a step only what its own cell knows is other than before
pub known_after : (d : Declaration) → IsNetwork (network_of d) → (s t : State) → IsReached (network_of d) s → (step : Step) → Leads (network_of d) s step t
    → (k : ℕ) (id : CellId) → slice_get (cells_of d) k ≡ Some id → cell_of (network_of d) step ≡ machine_cell id
    → all_known d t ≡ slice_set (all_known d s) k (known_of (network_of d) t id)
known_after d ok s t reached step leads k id at here =
    let net = network_of d in
    map_set (known_of net s) (known_of net t) (cells_of d) k id at
    (λ j other there apart.
    known_same net ok other s t
    (changes net ok s (held_once net ok s reached) step t leads (machine_cell other) (λ same. two_cells d j k other id there at apart (same ∙ here))))

-- what is known of all cells at a place
pub known_at : (d : Declaration) (s : State) (k : ℕ) (known : Known) → slice_get (all_known d s) k ≡ Some known → (id : CellId) × (slice_get (cells_of d) k ≡ Some id) × (known ≡ known_of (network_of d) s id)
known_at d s k known e = from (slice_get (cells_of d) k) refl (sym (slice_get-map (known_of (network_of d) s) (cells_of d) k) ∙ e)
  where
    from : (o : Option CellId) → slice_get (cells_of d) k ≡ o → option_map (known_of (network_of d) s) o ≡ Some known → (id : CellId) × (slice_get (cells_of d) k ≡ Some id) × (known ≡ known_of (network_of d) s id)
    from None is e = absurd cc
    from (Some id) is e = (id, is, sym (same_Some (known_of (network_of d) s id) known e))
