-- Rows with further waits, and their cycles.
use Rattle.std.proofs.Common.{◌≡◌, ℕ, zero, suc, ◌<◌, ◌↔◌, ◌⊎◌, List, [], ◌∷◌, ◌++◌, length, map, get_or, All, refl, sym, ap, ◌∙◌, subst, inl, inr, arith}
use Rattle.std.specs.Prelude.{Contains, Vec}
use Rattle.std.specs.declared.alloc.Global.{Global}
use Rattle.std.proofs.lemmas.List.{get_or_default, length-map}
use Rattle.std.proofs.lemmas.List.Elements.{All-contains, All-contains_itself, Contains-append_cases, Contains-append_left, Contains-append_right}
use Rattle.sw_config.specs.Entries.{Declaration}
use Rattle.sw_graph.specs.Levels.{HasCycle}
use Rattle.sw_graph.specs.Rows.{IsGraph, Leads, row}
use Rattle.sw_graph.proofs.Listed.{lead_inside, row_read}
use Rattle.sw_graph.proofs.Transfers.{cycle_map}
use Rattle.sw_margin.specs.Rising.{LeadsWith}
use Rattle.sw_margin.specs.Waits.{AreDependencies, AreWith, IsWithin, StaysFree, WaitsWith}
use Rattle.sw_topo.proofs.Lists.{none_in}

row_items : (g : List (Vec ℕ Global)) (c : ℕ) → row g c ≡ get_or (map (λ (v : Vec ℕ Global). v.items) g) c []
row_items [] c = refl
row_items (v ∷ g) zero = refl
row_items (v ∷ g) (suc c) = row_items g c

-- the same further waits of rows with the same items
pub with_copied : (g h h2 : List (Vec ℕ Global)) (more : List (ℕ × ℕ)) → map (λ (v : Vec ℕ Global). v.items) h ≡ map (λ (v : Vec ℕ Global). v.items) g → AreWith h more h2 → AreWith g more h2
with_copied g h h2 more same w =
    let long : length h ≡ length g = sym (length-map h (λ (v : Vec ℕ Global). v.items)) ∙ ap length same ∙ length-map g (λ (v : Vec ℕ Global). v.items) in
    record {
      size = w.size ∙ long;
      each = λ c e.
          let at : row h c ≡ row g c = row_items h c ∙ ap (λ (l : List (List ℕ)). get_or l c []) same ∙ sym (row_items g c) in
          let P : List ℕ → Type 0 = λ l. Leads h2 c e ↔ (Contains l e ⊎ Contains more (c, e)) in
          subst P at (w.each c e);
    }

pub with_none : (g : List (Vec ℕ Global)) → AreWith g [] g
with_none g = record { size = refl; each = λ c e. (λ h. inl h, λ h. elim h [ inl k ↦ k | inr k ↦ absurd (none_in (c, e) k) ]) }

-- one more further wait
pub with_more : (ws : List (ℕ × ℕ)) (w : ℕ × ℕ) (g g1 g2 : List (Vec ℕ Global)) → AreWith g ws g1 → AreWith g1 (w ∷ []) g2 → AreWith g (ws ++ w ∷ []) g2
with_more ws w g g1 g2 a b = record {
  size = b.size ∙ a.size;
  each = λ c e. (
    λ h. elim ((b.each c e).0 h) [
      | inl k ↦ elim ((a.each c e).0 k) [ inl old ↦ inl old | inr new ↦ inr (Contains-append_left ws (w ∷ []) (c, e) new) ]
      | inr k ↦ inr (Contains-append_right ws (w ∷ []) (c, e) k)
    ],
    λ h. elim h [
      | inl k ↦ (b.each c e).1 (inl ((a.each c e).1 (inl k)))
      | inr k ↦ elim (Contains-append_cases ws (w ∷ []) (c, e) k) [ inl old ↦ (b.each c e).1 (inl ((a.each c e).1 (inr old))) | inr new ↦ (b.each c e).1 (inr new) ]
    ],
  );
}

-- only channels are listed
pub with_graph : (g h : List (Vec ℕ Global)) (more : List (ℕ × ℕ)) → IsGraph g → All (IsWithin (length g)) more → AreWith g more h → IsGraph h
with_graph g h more ok within w k v lt =
    let at : row h k ≡ (get_or h k v).items = row_read h k (get_or h k v) lt (get_or_default h k v (get_or h k v) lt) in
    let P : List ℕ → Type 0 = λ l. All (λ d. d < length h) l in
    let size = w.size in
    let inside : (e : ℕ) → (Leads g k e ⊎ Contains more (k, e)) → e < length h = λ e x. elim x [
      | inl led ↦ let low = (lead_inside g ok k e led).1 in omega arith
      | inr new ↦ let low = (All-contains (IsWithin (length g)) more (k, e) within new).to in omega arith
    ] in
    subst P at (λ i d li. inside (get_or (row h k) i d) ((w.each k (get_or (row h k) i d)).0 (All-contains_itself (row h k) i d li)))

-- the rows with the further waits have no cycle exactly where the rows and these waits have none
pub rows_with : (g h : List (Vec ℕ Global)) (more : List (ℕ × ℕ)) → AreWith g more h → ((HasCycle (Leads h) → ⊥) ↔ (HasCycle (LeadsWith g more) → ⊥))
rows_with g h more w = (
  λ none cycle. none (cycle_map (LeadsWith g more) (Leads h) (λ c e. (w.each c e).1) cycle),
  λ none cycle. none (cycle_map (Leads h) (LeadsWith g more) (λ c e. (w.each c e).0) cycle),
)

-- the rows and the further waits have no cycle exactly where the network stays free
pub free_with : (d : Declaration) (g : List (Vec ℕ Global)) (more : List (ℕ × ℕ)) → AreDependencies d g → ((HasCycle (LeadsWith g more) → ⊥) ↔ StaysFree d more)
free_with d g more are = (
  λ none cycle. none (cycle_map (WaitsWith d more) (LeadsWith g more) (λ c e x. elim x [ inl k ↦ inl ((are.exact c e).1 k) | inr m ↦ inr m ]) cycle),
  λ stays cycle. stays (cycle_map (LeadsWith g more) (WaitsWith d more) (λ c e x. elim x [ inl k ↦ inl ((are.exact c e).0 k) | inr m ↦ inr m ]) cycle),
)
