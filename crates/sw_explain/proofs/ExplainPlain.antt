-- The values of explanations have no floats and are not deep.
use Rattle.std.proofs.Common.{ℕ, List, [], ◌∷◌, All, arith, map}
use Rattle.std.proofs.lemmas.List.Elements.{All-cons, All-nil}
use Rattle.sw_explain.specs.ExplainTexts.{slots_at}
use Rattle.sw_config.specs.Entries.{Declaration}
use Rattle.sw_config.specs.Limits.{limit_at}
use Rattle.sw_cycle.specs.Cycles.{CauseEntry, ByFlow, ByTarget}
use Rattle.sw_flow.specs.declared.fault.RouteFault.{RouteFault}
use Rattle.sw_flow.specs.declared.place.Place.{Place}
use Rattle.sw_search.specs.declared.tangle.Tangle.{Tangle}
use Rattle.sw_json.specs.Plain.{IsPlain, PlacesArePlain}
use Rattle.sw_json.specs.PlaceValues.{place_value}
use Rattle.sw_json.proofs.Plain.{count_or_null_plain, count_plain, list_plain, made_plain, no_more, null_plain, object_plain, plain_at_more, text_plain, texts_plain, with_member}
use Rattle.sw_explain.specs.ExplainValues.{limit_value, slots_value, step_value, step_values, tangle_value, tangles_value, target_value, wrong_value}
use Rattle.sw_explain.specs.ExplainLaws.{ExplanationsArePlain}
use Rattle.sw_explain.proofs.NamesPlain.{names_plain}

target_plain : (d : Declaration) (cause : CauseEntry) → IsPlain 1 (target_value d cause)
target_plain d (ByTarget node) = text_plain
target_plain d (ByFlow flow places) = null_plain

limit_plain : (d : Declaration) (cause : CauseEntry) → IsPlain 1 (limit_value d cause)
limit_plain d (ByTarget node) = count_or_null_plain (limit_at d node)
limit_plain d (ByFlow flow places) = null_plain

slots_plain : (d : Declaration) (cause : CauseEntry) → IsPlain 1 (slots_value d cause)
slots_plain d (ByTarget node) = count_or_null_plain (slots_at d node)
slots_plain d (ByFlow flow places) = null_plain

step_plain : (d : Declaration) (c : ℕ) (cause : CauseEntry) (flows : List ℕ) → IsPlain 2 (step_value d c cause flows)
step_plain d c cause flows =
    object_plain 1 (with_member count_plain (with_member text_plain (with_member (names_plain d flows) (with_member (limit_plain d cause)
    (with_member (slots_plain d cause) (with_member text_plain (with_member (target_plain d cause) no_more)))))))

steps_plain : (d : Declaration) (channels : List ℕ) (causes : List CauseEntry) (rows : List (List ℕ)) → All (IsPlain 2) (step_values d channels causes rows)
steps_plain d [] causes rows = All-nil (IsPlain 2)
steps_plain d (c ∷ channels) [] rows = All-nil (IsPlain 2)
steps_plain d (c ∷ channels) (cause ∷ causes) [] = All-nil (IsPlain 2)
steps_plain d (c ∷ channels) (cause ∷ causes) (flows ∷ rows) =
    All-cons (IsPlain 2) (step_value d c cause flows) (step_values d channels causes rows) (step_plain d c cause flows) (steps_plain d channels causes rows)

tangle_plain : (d : Declaration) (t : Tangle) → IsPlain 4 (tangle_value d t)
tangle_plain d t =
    object_plain 3 (with_member count_plain (with_member (list_plain 2 (step_values d t.cycle.channels t.cycle.causes (map (λ flows. flows.items) t.flows.items))
    (steps_plain d t.cycle.channels t.cycle.causes (map (λ flows. flows.items) t.flows.items))) no_more))

wrong_plain : PlacesArePlain → (d : Declaration) (lint : List (List ℕ)) (flow : ℕ) (place : Place) (fault : RouteFault) (way : List Place)
    → IsPlain 6 (wrong_value d lint flow place fault way)
wrong_plain places d lint flow place fault way =
    object_plain 5 (with_member (plain_at_more 1 5 _ (omega arith) (places.faults place fault)) (with_member text_plain (with_member text_plain
    (with_member (texts_plain 4 lint) (with_member (made_plain 4 (place_value d) (λ p. plain_at_more 1 4 _ (omega arith) (places.places d p)) way) no_more)))))

tangles_plain : (d : Declaration) (lint : List (List ℕ)) (tangles : List Tangle) → IsPlain 6 (tangles_value d lint tangles)
tangles_plain d lint tangles =
    object_plain 5 (with_member text_plain (with_member (texts_plain 4 lint) (with_member (made_plain 4 (tangle_value d) (tangle_plain d) tangles) no_more)))

pub explain_plain : PlacesArePlain → ExplanationsArePlain
explain_plain places = record { wrong = wrong_plain places; tangled = tangles_plain }
