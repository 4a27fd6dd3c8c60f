-- The places of the packets of a node, entry by entry of a load.
use Rattle.std.proofs.Common.{append_assoc, set, ◌≡◌, ◌++◌, ◌+◌, ◌<◌, ◌∷◌, ◌∙◌, [], ℕ, zero, suc, List, None, Option, Some, get_or, length, length-append, map, refl, sym, ap, subst, take, append-nil, arith, ne_eqb, eq-eqb, ⊎_elim}
use Rattle.std.specs.Prelude.{Vec, nat_eq, option_map, replicate, slice_get}
use Rattle.std.specs.Borrow.{Bor}
use Rattle.std.specs.Slice.{IsItemAt}
use Rattle.std.specs.declared.alloc.Global.{Global}
use Rattle.std.proofs.lemmas.Bool.{cases_eq}
use Rattle.std.proofs.lemmas.Grind.{flat_map-append}
use Rattle.std.proofs.lemmas.List.Concat.{flat_map-cons}
use Rattle.std.proofs.lemmas.List.{get_or-set_same, length-set, map-append, replicate_more, take_more}
use Rattle.std.proofs.lemmas.List.Elements.{filter-append}
use Rattle.std.proofs.lemmas.Option.{slice_get-get_or, slice_get-map, slice_get_past, slice_get_read}
use Rattle.sw_load.specs.History.{packet_of, packets_at, packets_of}
use Rattle.sw_load.specs.Senders.{AreAdded, ArePlaced, IsFound, items_of, packet_in, places_at}
use Rattle.sw_load.specs.Load.{LoadEntry}
use Rattle.sw_machine.specs.Begun.{Begun}
use Rattle.sw_machine.specs.Network.{Network}
use Rattle.sw_machine.specs.Model.{network_of}
use Rattle.sw_config.specs.Entries.{Declaration, FlowEntry, all_flows}

map-copies : {A B : Type 0} (f : A → B) (k : ℕ) (x : A) → map f (replicate k x) ≡ replicate k (f x)
map-copies f zero x = refl
map-copies f (suc k) x = ap (λ l. f x ∷ l) (map-copies f k x)

module _ (net : Network) (n : ℕ) where
  own_copies : (k : ℕ) (b : Begun) → (net.flow b.flow).from ≡ n → packets_at net n (replicate k b) ≡ replicate k b
  own_copies zero b e = refl
  own_copies (suc k) b e = rw (eq-eqb (net.flow b.flow).from n e) (ap (λ l. b ∷ l) (own_copies k b e))

  pub other_copies : (k : ℕ) (b : Begun) → ((net.flow b.flow).from ≡ n → ⊥) → packets_at net n (replicate k b) ≡ []
  other_copies zero b ne = refl
  other_copies (suc k) b ne = rw (ne_eqb (net.flow b.flow).from n ne) (other_copies k b ne)

  pub entry_first : (p : LoadEntry) (load : List LoadEntry) → packets_at net n (packets_of (p ∷ load)) ≡ packets_at net n (replicate p.count (packet_of p)) ++ packets_at net n (packets_of load)
  entry_first p load =
      ap (packets_at net n) (flat_map-cons (λ (q : LoadEntry). replicate q.count (packet_of q)) p load)
      ∙ filter-append (λ b. nat_eq (net.flow b.flow).from n) (replicate p.count (packet_of p)) (packets_of load)

  module _ (load : List LoadEntry) (i : ℕ) (p : LoadEntry) (lt : i < length load) (here : p ≡ get_or load i p) where
    abbrev before : ℕ → List Begun
    before j = packets_at net n (packets_of (take j load))

    one_more : before (i + 1) ≡ before i ++ packets_at net n (replicate p.count (packet_of p))
    one_more =
        let copies : LoadEntry → List Begun = λ q. replicate q.count (packet_of q) in
        ap (λ l. packets_at net n (packets_of l)) (take_more load i p lt ∙ ap (λ q. take i load ++ q ∷ []) (sym here))
        ∙ ap (packets_at net n) (flat_map-append copies (take i load) (p ∷ []) ∙ ap (λ l. packets_of (take i load) ++ l) (append-nil (copies p)))
        ∙ filter-append (λ b. nat_eq (net.flow b.flow).from n) (packets_of (take i load)) (copies p)

    in_load : packet_in load i ≡ Some (packet_of p)
    in_load = ap (option_map packet_of) (slice_get-get_or load i p lt ∙ ap (λ q. Some q) (sym here))

    placed_here : (row after : List ℕ) → (net.flow p.flow).from ≡ n → after ≡ row ++ replicate p.count i → ArePlaced load row (before i) → ArePlaced load after (before (i + 1))
    placed_here row after from is placed =
        let f = packet_in load in
        let some : Begun → Option Begun = λ b. Some b in
        let left : map f after ≡ map some (before i) ++ replicate p.count (some (packet_of p)) =
        ap (map f) is ∙ map-append f row (replicate p.count i) ∙ ap (λ l. l ++ map f (replicate p.count i)) placed
        ∙ ap (λ l. map some (before i) ++ l) (map-copies f p.count i ∙ ap (replicate p.count) in_load) in
        let right : map some (before (i + 1)) ≡ map some (before i) ++ replicate p.count (some (packet_of p)) =
        ap (map some) (one_more ∙ ap (λ l. before i ++ l) (own_copies p.count (packet_of p) from)) ∙ map-append some (before i) (replicate p.count (packet_of p))
        ∙ ap (λ l. map some (before i) ++ l) (map-copies some p.count (packet_of p)) in
        left ∙ sym right

    placed_elsewhere : (row after : List ℕ) → ((net.flow p.flow).from ≡ n → ⊥) → after ≡ row → ArePlaced load row (before i) → ArePlaced load after (before (i + 1))
    placed_elsewhere row after other is placed =
        let some : Begun → Option Begun = λ b. Some b in
        ap (map (packet_in load)) is ∙ placed ∙ sym (ap (map some) (one_more ∙ ap (λ l. before i ++ l) (other_copies p.count (packet_of p) other) ∙ append-nil (before i)))

-- each node's row has the places of its packets in the first i entries
pub record IsFoundTo (d : Declaration) (load : List LoadEntry) (i : ℕ) (rows : List (Vec ℕ Global)) : Type 0 where
  pub size : length rows ≡ length d.nodes
  pub each : (n : ℕ) → n < length d.nodes → ArePlaced load (places_at rows n) (packets_at (network_of d) n (packets_of (take i load)))

-- before the first entry the rows are empty
pub found_none : (d : Declaration) (load : List LoadEntry) (rows : List (Vec ℕ Global)) (count : ℕ) → length rows ≡ count → ((n : ℕ) → places_at rows n ≡ []) → count ≡ length d.nodes → IsFoundTo d load 0 rows
found_none d load rows count size empty all = record {
  size = size ∙ all;
  each = λ n inside. ap (map (packet_in load)) (empty n);
}

pub found_more : (d : Declaration) (load : List LoadEntry) (i : ℕ) (p : LoadEntry) (rows after : List (Vec ℕ Global)) (from : ℕ) → i < length load → p ≡ get_or load i p → ((network_of d).flow p.flow).from ≡ from
    → IsFoundTo d load i rows → AreAdded from i p.count rows after → IsFoundTo d load (i + 1) after
found_more d load i p rows after from lt here is found added = record {
  size = added.size ∙ found.size;
  each = λ n inside. ⊎_elim
      (λ own. placed_here (network_of d) n load i p lt here (places_at rows n) (places_at after n) (is ∙ own) (ap (places_at after) (sym own) ∙ added.here ∙ ap (λ m. places_at rows m ++ replicate p.count i) own) (found.each n inside))
      (λ other. placed_elsewhere (network_of d) n load i p lt here (places_at rows n) (places_at after n) (λ e. other (sym is ∙ e)) (added.others n (λ e. other (sym e))) (found.each n inside))
      (cases_eq from n);
}

pub found_all : (d : Declaration) (load : List LoadEntry) (i : ℕ) (rows : List (Vec ℕ Global)) → take i load ≡ load → IsFoundTo d load i rows → IsFound d load rows
found_all d load i rows all found = record {
  size = found.size;
  each = λ n inside. subst (λ l. ArePlaced load (places_at rows n) (packets_at (network_of d) n (packets_of l))) all (found.each n inside);
}

-- what is read of a row of places
read_placed : (load : List LoadEntry) (row : List ℕ) (packets : List Begun) (k : ℕ) → ArePlaced load row packets → option_map (packet_in load) (slice_get row k) ≡ option_map (λ b. Some b) (slice_get packets k)
read_placed load row packets k placed = sym (slice_get-map (packet_in load) row k) ∙ ap (λ l. slice_get l k) placed ∙ slice_get-map (λ b. Some b) packets k

inner : (a b : Option Begun) → Some a ≡ option_map (λ b. Some b) b → a ≡ b
inner a None h = absurd cc
inner a (Some b) h = cc

no_inner : (b : Option Begun) → None ≡ option_map (λ b. Some b) b → b ≡ None
no_inner None h = refl
no_inner (Some b) h = absurd cc

-- where there is no place in the row there is no packet, and at a place there is a packet of its entry
pub no_packet : (load : List LoadEntry) (row : List ℕ) (packets : List Begun) (k : ℕ) → ArePlaced load row packets → slice_get row k ≡ None → slice_get packets k ≡ None
no_packet load row packets k placed none = no_inner (slice_get packets k) (ap (option_map (packet_in load)) (sym none) ∙ read_placed load row packets k placed)

pub packet_found : (load : List LoadEntry) (row : List ℕ) (packets : List Begun) (k place : ℕ) → ArePlaced load row packets → slice_get row k ≡ Some place → packet_in load place ≡ slice_get packets k
packet_found load row packets k place placed at = inner (packet_in load place) (slice_get packets k) (ap (option_map (packet_in load)) (sym at) ∙ read_placed load row packets k placed)

pub flow_from : (d : Declaration) (f : ℕ) (e : FlowEntry) → slice_get (all_flows d) f ≡ Some e → ((network_of d).flow f).from ≡ e.from
unfolding network_of
flow_from d f e at = rw at refl

pub read_at : {A : Type 0} (items load : List A) (i : ℕ) (p : A) → items ≡ load → i < length items → p ≡ get_or items i p → (i < length load) × (p ≡ get_or load i p)
read_at items load i p same lt here = (let e = ap length same in omega arith, here ∙ ap (λ l. get_or l i p) same)

pub row_read : (rows : List (Vec ℕ Global)) (n : ℕ) (v : Vec ℕ Global) → n < length rows → v ≡ get_or rows n v → places_at rows n ≡ v.items
row_read rows n v lt at = ap items_of (slice_get_read rows (length rows) n v refl lt at)

-- what is lent of an item, where it is there
pub lent : {A B : Type 0} (f : A → B) (xs : List A) (k : ℕ) (r : Option (Bor A)) → IsItemAt xs k r → option_map (λ x. f x.now) r ≡ option_map f (slice_get xs k)
lent f xs k None h = ap (option_map f) (sym (slice_get_past xs k h.3))
lent f xs k (Some x) h = ap (option_map f) (sym (slice_get_read xs (length xs) k x.now refl h.3.0 h.1))

empty_behind : (rows : List (Vec ℕ Global)) (v : Vec ℕ Global) → v.items ≡ [] → ((n : ℕ) → places_at rows n ≡ []) → (n : ℕ) → places_at (rows ++ v ∷ []) n ≡ []
empty_behind [] v none before zero = none
empty_behind [] v none before (suc n) = refl
empty_behind (r ∷ rows) v none before zero = before zero
empty_behind (r ∷ rows) v none before (suc n) = empty_behind rows v none (λ m. before (suc m)) n

-- one more empty row behind empty rows
pub more_empty : (rows after : List (Vec ℕ Global)) (v : Vec ℕ Global) (count : ℕ) → after ≡ rows ++ v ∷ [] → v.items ≡ [] → ((n : ℕ) → places_at rows n ≡ []) × (length rows ≡ count)
    → ((n : ℕ) → places_at after n ≡ []) × (length after ≡ count + 1)
more_empty rows after v count is none before =
    let longer = ap length is ∙ length-append rows (v ∷ []) in
    let size = before.1 in
    (λ n. ap (λ l. places_at l n) is ∙ empty_behind rows v none before.0 n, omega (arith, longer, size))

set_elsewhere : (rows : List (Vec ℕ Global)) (n m : ℕ) (v : Vec ℕ Global) → (m ≡ n → ⊥) → places_at (set rows n v) m ≡ places_at rows m
set_elsewhere [] n m v other = refl
set_elsewhere (r ∷ rows) zero zero v other = absurd (other refl)
set_elsewhere (r ∷ rows) zero (suc m) v other = refl
set_elsewhere (r ∷ rows) (suc n) zero v other = refl
set_elsewhere (r ∷ rows) (suc n) (suc m) v other = set_elsewhere rows n m v (λ e. other (ap suc e))

-- one more place in the row of node n
pub added_more : (n place count : ℕ) (start rows : List (Vec ℕ Global)) (v w : Vec ℕ Global) → n < length rows → v ≡ get_or rows n v → w.items ≡ v.items ++ place ∷ [] → AreAdded n place count start rows
    → AreAdded n place (count + 1) start (set rows n w)
added_more n place count start rows v w lt at is added =
    let within : n < length (set rows n w) = rw (length-set rows n w) lt in
    let before = sym (row_read rows n v lt at) ∙ added.here in
    record {
      size = length-set rows n w ∙ added.size;
      here = row_read (set rows n w) n w within (sym (get_or-set_same rows n w w lt)) ∙ is ∙ ap (λ l. l ++ place ∷ []) before
          ∙ append_assoc (places_at start n) (replicate count place) (place ∷ []) ∙ ap (λ l. places_at start n ++ l) (replicate_more count place);
      others = λ m other. set_elsewhere rows n m w other ∙ added.others m other;
    }
