-- The circles of a flow, by how many address bytes are deleted.
use Rattle.std.proofs.Common.{List, ap, subst, sym, ◌∙◌, ◌≡◌, ◌+◌, ◌++◌, ◌∷◌, [], ℕ}
use Rattle.std.specs.List.{AllZip, flat_map, range_with_len}
use Rattle.std.proofs.lemmas.List.{flat_map_more}
use Rattle.sw_config.proofs.Lists.{zip_push}
use Rattle.sw_config.specs.Entries.{Declaration, FlowEntry}
use Rattle.sw_flow.specs.declared.place.Place.{Place}
use Rattle.sw_graph.proofs.Ranges.{range_more}
use Rattle.sw_circles.specs.Circles.{AreCirclesOf, with_deleted}

joined : {X : Type 0} (each : List (List X)) (more : List X) → flat_map (λ c. c) (each ++ more ∷ []) ≡ flat_map (λ c. c) each ++ more
joined each more = sym (flat_map_more (λ c. c) [] each more)

-- the circles with so many deleted bytes come behind those with fewer
pub one_layer : (d : Declaration) (f : FlowEntry) (places alike : List Place) (k : ℕ) (each : List (List (List ℕ))) (more after old : List (List ℕ))
    → AllZip (λ j. AreCirclesOf d f (with_deleted j places)) (range_with_len 0 k) each → old ≡ flat_map (λ c. c) each
    → alike ≡ with_deleted k places → AreCirclesOf d f alike more → after ≡ old ++ more
    → (them : List (List (List ℕ))) × AllZip (λ j. AreCirclesOf d f (with_deleted j places)) (range_with_len 0 (k + 1)) them × (after ≡ flat_map (λ c. c) them)
one_layer d f places alike k each more after old all was is here now = (
  each ++ more ∷ [],
  subst (λ ks. AllZip (λ j. AreCirclesOf d f (with_deleted j places)) ks (each ++ more ∷ [])) (sym (range_more k)) (zip_push (λ j. AreCirclesOf d f (with_deleted j places)) (range_with_len 0 k) each k more all (subst (λ them. AreCirclesOf d f them more) is here)),
  now ∙ ap (λ them. them ++ more) was ∙ sym (joined each more),
)
