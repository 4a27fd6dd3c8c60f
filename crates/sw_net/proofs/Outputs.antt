-- Arbiters by output: in the order of channels, and by switch and port.
use Rattle.std.proofs.Common.{List, Option, Some, [], ap, append_assoc, arith, drop, length, refl, set, subst, suc, sym, take, zero, ℕ, ◌+◌, ◌++◌, ◌<◌, ◌∷◌, ◌∙◌, ◌≡◌, ⊎_elim}
use Rattle.std.proofs.Math.Seq.{drop-length}
use Rattle.std.proofs.lemmas.Bool.{cases_eq}
use Rattle.std.proofs.lemmas.List.{append-nil, map-append}
use Rattle.std.proofs.lemmas.Option.{same_Some, slice_get_within}
use Rattle.std.specs.Global.{Vec}
use Rattle.std.specs.Prelude.{slice_get}
use Rattle.sw_config.specs.Entries.{Declaration, wiring_of}
use Rattle.sw_config.specs.Valid.{IsValid}
use Rattle.sw_flow.specs.Places.{ends_of}
use Rattle.sw_net.proofs.New.{nothing_left}
use Rattle.sw_net.proofs.Steps.{get_set_other, get_set_same}
use Rattle.sw_net.specs.Net.{arbiters_of}
use Rattle.sw_net.specs.New.{AreArbiters, ArePlaced, IsLinkedSet, rows_of}
use Rattle.sw_net.specs.Outputs.{AreByOutput, StandsAt}
use Rattle.sw_switch.specs.Cell.{Cell}
use Rattle.sw_topo.proofs.Ends.{one_port}
use Rattle.sw_topo.specs.declared.place.PlaceEnd.{PlaceEnd}
use Rattle.sw_topo.specs.declared.place.PlaceEnd.TheVariants.{Node, Switch}

-- ---- lists

module _ {X : Type 0} where
  take_next : (l : List X) (c : ℕ) (x : X) → slice_get l c ≡ Some x → take (suc c) l ≡ take c l ++ x ∷ []
  take_next [] c x e = absurd (cc)
  take_next (y ∷ l) zero x e = ap (λ z. z ∷ []) (same_Some y x e)
  take_next (y ∷ l) (suc c) x e = ap (λ k. y ∷ k) (take_next l c x e)

  take_one : (l : List X) (c : ℕ) (x : X) → slice_get l c ≡ Some x → take (c + 1) l ≡ take c l ++ x ∷ []
  take_one l c x e = let same : c + 1 ≡ suc c = omega arith in ap (λ k. take k l) same ∙ take_next l c x e

  pub take_whole : (l : List X) → take (length l) l ≡ l
  take_whole [] = refl
  take_whole (x ∷ l) = ap (λ k. x ∷ k) (take_whole l)

  -- what stands among the first c elements
  among_first : (l : List X) (c k : ℕ) (x : X) → slice_get (take c l) k ≡ Some x → (k < c) × (slice_get l k ≡ Some x)
  among_first l zero k x e = absurd (cc)
  among_first [] (suc c) k x e = absurd (cc)
  among_first (y ∷ l) (suc c) zero x e = (omega arith, e)
  among_first (y ∷ l) (suc c) (suc k) x e = let h = among_first l c k x e in let lt = h.0 in (omega arith, h.1)

-- ---- in the order of channels

module _ {A : Type 0} (Is : ℕ → ℕ → A → Type 0) where
  push_node : (n : ℕ) (l : List PlaceEnd) (all : List A) → AreByOutput Is l all → AreByOutput Is (l ++ Node n ∷ []) all
  push_node n [] [] h = tt
  push_node n [] (a ∷ all) h = absurd h
  push_node n (Node m ∷ l) all h = push_node n l all h
  push_node n (Switch w p ∷ l) [] h = absurd h
  push_node n (Switch w p ∷ l) (a ∷ all) h = (h.0, push_node n l all h.1)

  push_switch : (w p : ℕ) (x : A) (l : List PlaceEnd) (all : List A) → Is w p x → AreByOutput Is l all → AreByOutput Is (l ++ Switch w p ∷ []) (all ++ x ∷ [])
  push_switch w p x [] [] is h = (is, tt)
  push_switch w p x [] (a ∷ all) is h = absurd h
  push_switch w p x (Node m ∷ l) all is h = push_switch w p x l all is h
  push_switch w p x (Switch v q ∷ l) [] is h = absurd h
  push_switch w p x (Switch v q ∷ l) (a ∷ all) is h = (h.0, push_switch w p x l all is h.1)

  pub node_next : (ends : List PlaceEnd) (c n : ℕ) (all : List A) → slice_get ends c ≡ Some (Node n) → AreByOutput Is (take c ends) all → AreByOutput Is (take (c + 1) ends) all
  node_next ends c n all at h = subst (λ l. AreByOutput Is l all) (sym (take_one ends c (Node n) at)) (push_node n (take c ends) all h)

  pub switch_next : (ends : List PlaceEnd) (c w p : ℕ) (x : A) (all more : List A) → slice_get ends c ≡ Some (Switch w p) → more ≡ all ++ x ∷ [] → Is w p x → AreByOutput Is (take c ends) all → AreByOutput Is (take (c + 1) ends) more
  switch_next ends c w p x all more at pushed is h =
      subst (AreByOutput Is (take (c + 1) ends)) (sym pushed) (subst (λ l. AreByOutput Is l (all ++ x ∷ [])) (sym (take_one ends c (Switch w p) at)) (push_switch w p x (take c ends) all is h))

  pub all_taken : (ends : List PlaceEnd) (c : ℕ) (all : List A) → c ≡ length ends → AreByOutput Is (take c ends) all → AreByOutput Is ends all
  all_taken ends c all e h = subst (λ l. AreByOutput Is l all) (ap (λ k. take k ends) e ∙ take_whole ends) h

  none_left : (all : List A) → AreByOutput Is [] all → length all ≡ 0
  none_left [] h = refl
  none_left (a ∷ all) h = absurd h

module _ {A : Type 0} (P Q : ℕ → ℕ → A → Type 0) where
  -- where the one holds at an output, so does the other
  pub by_output_map : (ends : List PlaceEnd) (all : List A) → ((c w port : ℕ) (a : A) → slice_get ends c ≡ Some (Switch w port) → P w port a → Q w port a) → AreByOutput P ends all → AreByOutput Q ends all
  by_output_map [] [] each h = tt
  by_output_map [] (a ∷ all) each h = absurd h
  by_output_map (Node n ∷ ends) all each h = by_output_map ends all (λ c. each (suc c)) h
  by_output_map (Switch w port ∷ ends) [] each h = absurd h
  by_output_map (Switch w port ∷ ends) (a ∷ all) each h = (each 0 w port a refl h.0, by_output_map ends all (λ c. each (suc c)) h.1)

  -- both hold of the arbiter of an output
  pub at_output : (ends : List PlaceEnd) (all : List A) (c w port : ℕ) → slice_get ends c ≡ Some (Switch w port) → AreByOutput P ends all → AreByOutput Q ends all → (a : A) × P w port a × Q w port a
  at_output [] all c w port at p q = absurd (cc)
  at_output (Node n ∷ ends) all zero w port at p q = absurd (cc)
  at_output (Node n ∷ ends) all (suc c) w port at p q = at_output ends all c w port at p q
  at_output (Switch v o ∷ ends) [] c w port at p q = absurd p
  at_output (Switch v o ∷ ends) (a ∷ all) zero w port at p q =
      let same : Switch v o ≡ Switch w port = same_Some (Switch v o) (Switch w port) at in
      let one : v ≡ w = cc in
      let two : o ≡ port = cc in
      (a, subst (λ k. P k port a) one (subst (λ k. P v k a) two p.0), subst (λ k. Q k port a) one (subst (λ k. Q v k a) two q.0))
  at_output (Switch v o ∷ ends) (a ∷ all) (suc c) w port at p q = at_output ends all c w port at p.1 q.1

-- ---- by switch and port

module _ {A : Type 0} (rows : List (List (Option A))) (w port : ℕ) (row : List (Option A)) (a : A) (at : slice_get rows w ≡ Some row) where
  stands_set : port < length row → StandsAt (set rows w (set row port (Some a))) w port a
  stands_set lt = (set row port (Some a), get_set_same rows w (set row port (Some a)) (slice_get_within rows w row at), get_set_same row port (Some a) lt)

  stands_still : (v q : ℕ) (b : A) → (v ≡ w → q ≡ port → ⊥) → StandsAt rows v q b → StandsAt (set rows w (set row port (Some a))) v q b
  stands_still v q b other h = ⊎_elim
      (λ e.
      let same : h.0 ≡ row = same_Some h.0 row (sym h.1 ∙ subst (λ k. slice_get rows k ≡ Some row) (sym e) at) in
      let here = get_set_same rows w (set row port (Some a)) (slice_get_within rows w row at) in
      (set row port (Some a), subst (λ k. slice_get (set rows w (set row port (Some a))) k ≡ Some (set row port (Some a))) (sym e) here, get_set_other row port q (Some a) (other e) ∙ ap (λ r. slice_get r q) (sym same) ∙ h.2))
      (λ ne. (h.0, get_set_other rows w v (set row port (Some a)) ne ∙ h.1, h.2))
      (cases_eq v w)

-- ---- one channel after another

module _ {A : Type 0} (d : Declaration) where
  pub none_placed : (all rest : List A) (rows : List (List (Option A))) → rest ≡ all → ArePlaced d 0 all rest rows
  none_placed all rest rows e = record { placed = []; whole = sym e; stand = tt }

  pub node_placed : (c n : ℕ) (all rest : List A) (rows : List (List (Option A))) → slice_get (ends_of d) c ≡ Some (Node n) → ArePlaced d c all rest rows → ArePlaced d (c + 1) all rest rows
  node_placed c n all rest rows at is = record { placed = is.placed; whole = is.whole; stand = node_next (StandsAt rows) (ends_of d) c n is.placed at is.stand }

  pub switch_placed : IsValid d → (c w port : ℕ) (all rest more : List A) (a : A) (rows : List (List (Option A))) (row : List (Option A)) → slice_get (ends_of d) c ≡ Some (Switch w port) → rest ≡ a ∷ more → slice_get rows w ≡ Some row → port < length row
      → ArePlaced d c all rest rows → ArePlaced d (c + 1) all more (set rows w (set row port (Some a)))
  switch_placed valid c w port all rest more a rows row starts next at lt is =
      let after = set rows w (set row port (Some a)) in
      let earlier = λ (k v q : ℕ) (b : A) (at_k : slice_get (take c (ends_of d)) k ≡ Some (Switch v q)) (s : StandsAt rows v q b).
      let h = among_first (ends_of d) c k (Switch v q) at_k in
      let below = h.0 in
      let other = λ (ev : v ≡ w) (eq : q ≡ port).
      let here = subst (λ j. slice_get (ends_of d) k ≡ Some (Switch j port)) ev (subst (λ j. slice_get (ends_of d) k ≡ Some (Switch v j)) eq h.1) in
      let same : k ≡ c = one_port (wiring_of d) valid.sound w port k c here starts in
      absurd (omega arith) in
      stands_still rows w port row a at v q b other s in
      record {
        placed = is.placed ++ a ∷ [];
        whole = is.whole ∙ ap (λ l. is.placed ++ l) next ∙ sym (append_assoc is.placed (a ∷ []) more);
        stand = switch_next (StandsAt after) (ends_of d) c w port a is.placed (is.placed ++ a ∷ []) starts refl (stands_set rows w port row a at lt)
            (by_output_map (StandsAt rows) (StandsAt after) (take c (ends_of d)) is.placed earlier is.stand);
      }

  -- with no arbiters left, all are placed
  pub all_placed : (ports : A → ℕ) (c : ℕ) (all rest : List A) (rows : List (List (Option A))) → c ≡ length (ends_of d) → AreArbiters ports d (drop c (ends_of d)) rest → ArePlaced d c all rest rows → AreByOutput (StandsAt rows) (ends_of d) all
  all_placed ports c all rest rows e left is =
      let Is = λ (w port : ℕ) (a : A). IsLinkedSet d w (ports a) in
      let none = none_left Is rest (subst (λ l. AreByOutput Is l rest) (ap (λ k. drop k (ends_of d)) e ∙ drop-length (ends_of d)) left) in
      let whole : all ≡ is.placed = is.whole ∙ ap (λ l. is.placed ++ l) (nothing_left rest none) ∙ append-nil is.placed in
      all_taken (StandsAt rows) (ends_of d) c all e (subst (AreByOutput (StandsAt rows) (take c (ends_of d))) (sym whole) is.stand)

-- ---- one switch after another

module _ {R A : Type 0} where
  pub one_more_row : (cells all : List (Cell R A)) (cell : Cell R A) (rows more : List (Vec (Option A))) (row : Vec (Option A)) → all ≡ cells ++ cell ∷ [] → rows ≡ row ∷ more → cell.arbiters ≡ row.items
      → arbiters_of all ++ rows_of more ≡ arbiters_of cells ++ rows_of rows
  one_more_row cells all cell rows more row made next same =
      ap (λ l. arbiters_of l ++ rows_of more) made
      ∙ ap (λ l. l ++ rows_of more) (map-append (λ (c : Cell R A). c.arbiters) cells (cell ∷ []))
      ∙ append_assoc (arbiters_of cells) (cell.arbiters ∷ []) (rows_of more)
      ∙ ap (λ r. arbiters_of cells ++ r ∷ rows_of more) same
      ∙ ap (λ l. arbiters_of cells ++ rows_of l) (sym next)

  pub all_rows : (cells : List (Cell R A)) (rest rows : List (Vec (Option A))) → length rest ≡ 0 → arbiters_of cells ++ rows_of rest ≡ rows_of rows → arbiters_of cells ≡ rows_of rows
  all_rows cells rest rows no_rest same = sym (append-nil (arbiters_of cells)) ∙ ap (λ l. arbiters_of cells ++ rows_of l) (sym (nothing_left rest no_rest)) ∙ same
