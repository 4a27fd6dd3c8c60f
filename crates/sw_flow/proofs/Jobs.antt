-- What was made for each flow.
use Rattle.std.proofs.Common.{◌≡◌, ℕ, suc, ◌+◌, ◌<◌, List, [], ◌∷◌, length, get_or, Vec, Global, sym, subst, arith}
use Rattle.std.specs.List.{AllZip, range_with_len}
use Rattle.std.proofs.lemmas.Option.{get_or_from_slice_get}
use Rattle.sw_config.specs.Entries.{FlowEntry, Declaration, all_flows}
use Rattle.sw_flow.specs.declared.place.Place.{Place}
use Rattle.sw_flow.specs.Places.{IsPlaceList, IsPlacesOf}

-- from the places in a list to its elements
zip_at : {F X : Type 0} (Q : ℕ → X → Type 0) (P : F → X → Type 0) (fs : List F) (a : ℕ) (ys : List X) → ((i : ℕ) (f : F) (x : X) → i < length fs → Q (a + i) x → P (get_or fs i f) x) → AllZip Q (range_with_len a (length fs)) ys → AllZip P fs ys
zip_at Q P [] a [] move h = tt
zip_at Q P [] a (y ∷ ys) move h = absurd h
zip_at Q P (f ∷ fs) a [] move h = absurd h
zip_at {F = F} {X = X} Q P (f ∷ fs) a (y ∷ ys) move h = (
  move 0 f y (omega arith) (subst (λ (n : ℕ). Q n y) (omega arith) h.0),
  zip_at Q P fs (a + 1) ys (λ i g x lt q. move (suc i) g x (omega arith) (subst (λ (n : ℕ). Q n x) (omega arith) q)) h.1,
)

numbered : (d : Declaration) (i : ℕ) (f : FlowEntry) (v : Vec Place Global) → IsPlacesOf d i v.items → IsPlaceList d (get_or (all_flows d) i f) v.items
numbered d i f v q = subst (λ (h : FlowEntry). IsPlaceList d h v.items) (sym (get_or_from_slice_get (all_flows d) i q.flow f q.numbered)) q.list

-- what was made by number, by the flows themselves
pub made_for_flows : (d : Declaration) (n : ℕ) (lists : List (Vec Place Global)) → n ≡ length (all_flows d) → AllZip (λ i v. IsPlacesOf d i v.items) (range_with_len 0 n) lists → AllZip (λ f v. IsPlaceList d f v.items) (all_flows d) lists
made_for_flows d n lists count h =
    zip_at (λ i v. IsPlacesOf d i v.items) (λ f v. IsPlaceList d f v.items) (all_flows d) 0 lists
    (λ i f v lt q. numbered d i f v (subst (λ (k : ℕ). IsPlacesOf d k v.items) (omega arith) q))
    (subst (λ (m : ℕ). AllZip (λ i v. IsPlacesOf d i v.items) (range_with_len 0 m) lists) count h)
