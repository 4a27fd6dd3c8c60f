-- Counts and ranges.
use Rattle.std.proofs.Common.{◌≡◌, ℕ, zero, suc, ◌+◌, ◌<◌, ◌≤◌, ◌==◌, ◌&&◌, Bool, true, false, List, [], ◌∷◌, length, drop, Some, None, refl, sym, ap, ◌∙◌, ◌⊎◌, inl, inr, arith}
use Rattle.std.specs.Prelude.{slice_get}
use Rattle.std.specs.List.{list_all}
use Rattle.std.proofs.lemmas.Bool.{cases_Bool, cases_lt, eq-eqb, ne_eqb, lt-ltb, le-ltb, le-leb, lt-leb, and_parts, and_from}
use Rattle.sw_config.specs.Entries.{FlowEntry, Declaration}
use Rattle.sw_flow.specs.declared.place.Place.{Place}
use Rattle.sw_flow.specs.Places.{ends_of}
use Rattle.sw_cert.specs.Refusals.{is_in_range, are_in_range}
use Rattle.sw_cert.proofs.Lists.{drop_past}
use Rattle.sw_topo.proofs.Lists.{drop_at}

-- two counts, and what else is looked at
pub other_count : (a b : ℕ) (r : Bool) → (a ≡ b → ⊥) → ((a == b) && r) ≡ false
other_count a b r other = ap (λ (t : Bool). t && r) (ne_eqb a b other)

pub same_count : (a b : ℕ) (r : Bool) → a ≡ b → ((a == b) && r) ≡ r
same_count a b r same = ap (λ (t : Bool). t && r) (eq-eqb a b same)

module _ (d : Declaration) where
  pub as_many : (fs : List FlowEntry) (pss : List (List Place)) → are_in_range d fs pss ≡ true → length pss ≡ length fs
  as_many [] [] h = refl
  as_many [] (ps ∷ pss) h = absurd cc
  as_many (f ∷ fs) [] h = absurd cc
  as_many (f ∷ fs) (ps ∷ pss) h = ap suc (as_many fs pss (and_parts (list_all (is_in_range d f) ps) (are_in_range d fs pss) h).1)

  pub not_as_many : (fs : List FlowEntry) (pss : List (List Place)) → (length pss ≡ length fs → ⊥) → are_in_range d fs pss ≡ false
  not_as_many fs pss other = elim (cases_Bool (are_in_range d fs pss)) [ inl all ↦ absurd (other (as_many fs pss all)) | inr none ↦ none ]

  pub in_range_each : (fs : List FlowEntry) (pss : List (List Place)) → are_in_range d fs pss ≡ true → (i : ℕ) (f : FlowEntry) (ps : List Place) → slice_get fs i ≡ Some f → slice_get pss i ≡ Some ps → list_all (is_in_range d f) ps ≡ true
  in_range_each [] pss h i f ps here there = absurd (let bad : None ≡ Some f = here in cc)
  in_range_each (g ∷ fs) [] h i f ps here there = absurd cc
  in_range_each (g ∷ fs) (qs ∷ pss) h zero f ps here there =
      let same : g ≡ f = cc in
      let list : qs ≡ ps = cc in
      rw (← same, ← list) (and_parts (list_all (is_in_range d g) qs) (are_in_range d fs pss) h).0
  in_range_each (g ∷ fs) (qs ∷ pss) h (suc i) f ps here there = in_range_each fs pss (and_parts (list_all (is_in_range d g) qs) (are_in_range d fs pss) h).1 i f ps here there

  pub each_in_range : (fs : List FlowEntry) (pss : List (List Place)) → length pss ≡ length fs
      → ((i : ℕ) (f : FlowEntry) (ps : List Place) → slice_get fs i ≡ Some f → slice_get pss i ≡ Some ps → list_all (is_in_range d f) ps ≡ true) → are_in_range d fs pss ≡ true
  each_in_range [] [] same each = refl
  each_in_range [] (ps ∷ pss) same each = absurd (omega arith)
  each_in_range (f ∷ fs) [] same each = absurd (omega arith)
  each_in_range (f ∷ fs) (ps ∷ pss) same each = and_from (list_all (is_in_range d f) ps) (are_in_range d fs pss) (each 0 f ps refl refl) (each_in_range fs pss (omega arith) (λ i g qs here there. each (suc i) g qs here there))

  module _ (i : ℕ) (fs : List FlowEntry) (pss : List (List Place)) where
    in_range_more : (f : FlowEntry) (ps : List Place) → slice_get fs i ≡ Some f → slice_get pss i ≡ Some ps → are_in_range d (drop i fs) (drop i pss) ≡ (list_all (is_in_range d f) ps && are_in_range d (drop (suc i) fs) (drop (suc i) pss))
    in_range_more f ps here there = rw (drop_at fs i f here, drop_at pss i ps there) refl

    pub in_range_next : (f : FlowEntry) (ps : List Place) → slice_get fs i ≡ Some f → slice_get pss i ≡ Some ps → list_all (is_in_range d f) ps ≡ true → are_in_range d (drop (i + 1) fs) (drop (i + 1) pss) ≡ are_in_range d (drop i fs) (drop i pss)
    in_range_next f ps here there all =
        let next : i + 1 ≡ suc i = omega arith in
        let on : are_in_range d (drop (i + 1) fs) (drop (i + 1) pss) ≡ are_in_range d (drop (suc i) fs) (drop (suc i) pss) = ap (λ (n : ℕ). are_in_range d (drop n fs) (drop n pss)) next in
        on ∙ sym (in_range_more f ps here there ∙ ap (λ (b : Bool). b && are_in_range d (drop (suc i) fs) (drop (suc i) pss)) all)

    pub in_range_not : (f : FlowEntry) (ps : List Place) → slice_get fs i ≡ Some f → slice_get pss i ≡ Some ps → list_all (is_in_range d f) ps ≡ false → are_in_range d (drop i fs) (drop i pss) ≡ false
    in_range_not f ps here there none = in_range_more f ps here there ∙ ap (λ (b : Bool). b && are_in_range d (drop (suc i) fs) (drop (suc i) pss)) none

    pub in_range_end : length fs ≤ i → length pss ≤ i → are_in_range d (drop i fs) (drop i pss) ≡ true
    in_range_end lf lp = rw (drop_past fs i lf, drop_past pss i lp) refl

  pub range_of : (f : FlowEntry) (p : Place) → is_in_range d f p ≡ true → (p.channel < length (ends_of d)) × (p.deleted ≤ length f.address)
  range_of f p h = by (cases_lt p.channel (length (ends_of d))) (cases_lt (length f.address) p.deleted)
    where
      by : (p.channel < length (ends_of d)) ⊎ (length (ends_of d) ≤ p.channel) → (length f.address < p.deleted) ⊎ (p.deleted ≤ length f.address) → (p.channel < length (ends_of d)) × (p.deleted ≤ length f.address)
      by (inl lt) (inr le) = (lt, le)
      by (inl lt) (inl gt) = absurd (let bad = rw (lt-ltb p.channel (length (ends_of d)) lt, lt-leb p.deleted (length f.address) gt) at h in cc)
      by (inr ge) side = absurd (let bad = rw (le-ltb p.channel (length (ends_of d)) ge) at h in cc)

  pub of_range : (f : FlowEntry) (p : Place) → p.channel < length (ends_of d) → p.deleted ≤ length f.address → is_in_range d f p ≡ true
  of_range f p lt le = rw (lt-ltb p.channel (length (ends_of d)) lt, le-leb p.deleted (length f.address) le) refl
