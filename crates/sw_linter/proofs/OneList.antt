-- The places of all flows of a network are one list.
use Rattle.std.proofs.Common.{◌≡◌, List, [], ◌∷◌, refl, sym, ap, ap₂, ◌∙◌}
use Rattle.std.specs.List.{AllZip}
use Rattle.sw_config.specs.Entries.{FlowEntry, Declaration}
use Rattle.sw_flow.specs.declared.place.Place.{Place}
use Rattle.sw_flow.specs.Places.{IsPlaceList}
use Rattle.sw_flow.proofs.Sorted.{same_places}
use Rattle.sw_linter.specs.FlowPlaces.{FlowPlace, AreFlowPlaces, joined}

same_lists : (d : Declaration) (flows : List FlowEntry) (xs ys : List (List Place)) → AllZip (IsPlaceList d) flows xs → AllZip (IsPlaceList d) flows ys → xs ≡ ys
same_lists d [] [] [] h k = refl
same_lists d [] (x ∷ xs) ys h k = absurd h
same_lists d [] [] (y ∷ ys) h k = absurd k
same_lists d (f ∷ fs) [] ys h k = absurd h
same_lists d (f ∷ fs) (x ∷ xs) [] h k = absurd k
same_lists d (f ∷ fs) (x ∷ xs) (y ∷ ys) h k = ap₂ (λ (z : List Place) (zs : List (List Place)). z ∷ zs) (same_places d f x y h.0 k.0) (same_lists d fs xs ys h.1 k.1)

pub same_all : (d : Declaration) (flows : List FlowEntry) (all other : List FlowPlace) → AreFlowPlaces d flows all → AreFlowPlaces d flows other → all ≡ other
same_all d flows all other a b = a.listed ∙ ap (joined 0 flows) (same_lists d flows a.lists b.lists a.each b.each) ∙ sym b.listed
