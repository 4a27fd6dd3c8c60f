-- Lists of flows that circle, as they are found.
use Rattle.std.proofs.Common.{◌≡◌, ◌∙◌, ◌++◌, ℕ, ◌+◌, List, [], ◌∷◌, None, Option, Some, ap, refl, subst, sym}
use Rattle.std.specs.Prelude.{filter_map}
use Rattle.std.specs.List.{AllZip, range_with_len}
use Rattle.std.specs.Option.{option_to_list}
use Rattle.std.proofs.lemmas.List.Elements.{filter_map-append}
use Rattle.sw_config.proofs.Lists.{zip_push}
use Rattle.sw_config.specs.Entries.{Declaration}
use Rattle.sw_graph.proofs.Ranges.{range_more}
use Rattle.sw_circles.specs.Circlings.{CirclingView, IsCirclingOf}

abbrev each_told : List (Option CirclingView) → List CirclingView
each_told each = filter_map (λ o. o) each

last_told : (o : Option CirclingView) → each_told (o ∷ []) ≡ option_to_list o
last_told None = refl
last_told (Some c) = refl

-- one flow more
pub one_more : (d : Declaration) (flow : ℕ) (each : List (Option CirclingView)) (old now : List CirclingView) (o : Option CirclingView)
    → AllZip (IsCirclingOf d) (range_with_len 0 flow) each → old ≡ each_told each → IsCirclingOf d flow o → now ≡ old ++ option_to_list o
    → (more : List (Option CirclingView)) × AllZip (IsCirclingOf d) (range_with_len 0 (flow + 1)) more × (now ≡ each_told more)
one_more d flow each old now o all was is grown = (
  each ++ o ∷ [],
  subst (λ flows. AllZip (IsCirclingOf d) flows (each ++ o ∷ [])) (sym (range_more flow)) (zip_push (IsCirclingOf d) (range_with_len 0 flow) each flow o all is),
  grown ∙ ap (λ them. them ++ option_to_list o) was ∙ ap (λ them. each_told each ++ them) (sym (last_told o)) ∙ sym (filter_map-append (λ q. q) each (o ∷ [])),
)
