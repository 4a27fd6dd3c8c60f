-- The places of all flows, as members of one list.
use Rattle.std.proofs.Common.{◌≡◌, ℕ, zero, suc, ◌+◌, List, [], ◌∷◌, Contains, Some, sym, ap, ap₂, subst, ◌⊎◌, inl, inr, arith}
use Rattle.std.specs.Prelude.{slice_get}
use Rattle.std.specs.List.{AllZip}
use Rattle.std.proofs.lemmas.List.Elements.{Contains-append_cases, Contains-append_left, Contains-append_right}
use Rattle.std.proofs.lemmas.Option.{same_Some}
use Rattle.sw_config.specs.Entries.{FlowEntry, Declaration, all_flows}
use Rattle.sw_flow.specs.declared.place.Place.{Place}
use Rattle.sw_flow.specs.Places.{IsPlace, IsPlaceList}
use Rattle.sw_flow.proofs.Listed.{Contains-from_map, Contains-map}
use Rattle.sw_linter.specs.FlowPlaces.{FlowPlace, joined, places_of_flow}
use Rattle.sw_linter.specs.InWords.{AllPlacesAreListed}

-- a place of one of these flows, numbered from n
pub record IsFrom (d : Declaration) (n : ℕ) (flows : List FlowEntry) (v : FlowPlace) : Type 0 where
  pub index : ℕ
  pub number : v.number ≡ n + index
  pub flow : slice_get flows index ≡ Some v.flow
  pub place : IsPlace d v.flow v.place.channel v.place.deleted

abbrev of : ℕ → FlowEntry → Place → FlowPlace
of n f p = record { number = n; flow = f; place = p }

in_joined : (d : Declaration) (n : ℕ) (flows : List FlowEntry) (lists : List (List Place)) (v : FlowPlace) → AllZip (IsPlaceList d) flows lists → Contains (joined n flows lists) v → IsFrom d n flows v
in_joined d n [] lists v zip h = absurd (omega (arith, h.1))
in_joined d n (f ∷ fs) [] v zip h = absurd zip
in_joined d n (f ∷ fs) (ps ∷ lists) v zip h = by (Contains-append_cases (places_of_flow n f ps) (joined (n + 1) fs lists) v h) (in_joined d (n + 1) fs lists v zip.1)
  where
    by : Contains (places_of_flow n f ps) v ⊎ Contains (joined (n + 1) fs lists) v → (Contains (joined (n + 1) fs lists) v → IsFrom d (n + 1) fs v) → IsFrom d n (f ∷ fs) v
    by (inl first) on =
        let m = Contains-from_map (of n f) ps v first in
        let number : n ≡ v.number = ap (λ (w : FlowPlace). w.number) m.2 in
        record {
          index = 0;
          number = omega arith;
          flow = ap (λ (w : FlowPlace). Some w.flow) m.2;
          place = subst (λ (w : FlowPlace). IsPlace d w.flow w.place.channel w.place.deleted) m.2 ((zip.0.member m.0).0 m.1);
        }
    by (inr later) on =
        let r = on later in
        let number = r.number in
        record { index = suc r.index; number = omega arith; flow = r.flow; place = r.place }

pub joined_has : (d : Declaration) (n k : ℕ) (flows : List FlowEntry) (lists : List (List Place)) (v : FlowPlace) → AllZip (IsPlaceList d) flows lists → v.number ≡ n + k → slice_get flows k ≡ Some v.flow
    → IsPlace d v.flow v.place.channel v.place.deleted → Contains (joined n flows lists) v
joined_has d n k [] lists v zip number at place = absurd cc
joined_has d n k (f ∷ fs) [] v zip number at place = absurd zip
joined_has d n zero (f ∷ fs) (ps ∷ lists) v zip number at place =
    let flow : f ≡ v.flow = same_Some f v.flow at in
    let first : n ≡ v.number = omega arith in
    let same : of n f v.place ≡ v = ap₂ (λ (m : ℕ) (g : FlowEntry). of m g v.place) first flow in
    let inside = (zip.0.member v.place).1 (subst (λ (g : FlowEntry). IsPlace d g v.place.channel v.place.deleted) (sym flow) place) in
    Contains-append_left (places_of_flow n f ps) (joined (n + 1) fs lists) v (subst (λ (w : FlowPlace). Contains (places_of_flow n f ps) w) same (Contains-map (of n f) ps v.place inside))
joined_has d n (suc k) (f ∷ fs) (ps ∷ lists) v zip number at place =
    Contains-append_right (places_of_flow n f ps) (joined (n + 1) fs lists) v (joined_has d (n + 1) k fs lists v zip.1 (omega arith) at place)

pub all_listed : AllPlacesAreListed
all_listed d all v a = (
  λ h.
      let r = in_joined d 0 (all_flows d) a.lists v a.each (subst (λ (l : List FlowPlace). Contains l v) a.listed h) in
      let number = r.number in
      let same : r.index ≡ v.number = omega arith in
      record { numbered = subst (λ (k : ℕ). slice_get (all_flows d) k ≡ Some v.flow) same r.flow; place = r.place },
  λ c. subst (λ (l : List FlowPlace). Contains l v) (sym a.listed) (joined_has d 0 v.number (all_flows d) a.lists v a.each (omega arith) c.numbered c.place),
)
