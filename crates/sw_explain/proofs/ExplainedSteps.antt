-- What is read for a step of a cycle.
use Rattle.std.proofs.Common.{◌≡◌, ◌∙◌, ℕ, ◌+◌, ◌<◌, ◌%◌, Bool, List, [], ap, get_or, length, map, refl, sym}
use Rattle.std.specs.Prelude.{Some, slice_get}
use Rattle.std.specs.Option.{option_map, option_map_or}
use Rattle.std.proofs.lemmas.Option.{slice_get-map, slice_get_read}
use Rattle.sw_config.specs.Entries.{Declaration}
use Rattle.sw_cycle.proofs.Chosen.{as_round}
use Rattle.sw_cycle.specs.Cycles.{cause_of, round}
use Rattle.sw_cycle.specs.declared.cycle.Cause.{Cause}
use Rattle.sw_explain.specs.ExplainTexts.{step_text, step_words}

cause_read : (causes : List Cause) (i : ℕ) (cause : Cause) → i < length causes → cause ≡ get_or causes i cause → slice_get (map cause_of causes) i ≡ Some (cause_of cause)
cause_read causes i cause lt is = slice_get-map cause_of causes i ∙ ap (option_map cause_of) (slice_get_read causes (length causes) i cause refl lt is)

-- the words of channel i, of the next one, and of the cause that stands at its place
pub step_read : (d : Declaration) (all : Bool) (channels : List ℕ) (causes : List Cause) (i c e : ℕ) (cause : Cause) → i < length channels → i < length causes
    → c ≡ get_or channels i c → e ≡ get_or channels ((i + 1) % length channels) e → cause ≡ get_or causes i cause
    → step_words d all c e (cause_of cause) ≡ step_text d all (record { channels = channels; causes = map cause_of causes }) i
step_read d all channels causes i c e cause lt also c_is e_is cause_is =
    let words : List ℕ = step_words d all c e (cause_of cause) in
    let at = as_round d channels i c e lt c_is e_is (λ x y. words ≡ step_words d all x y (cause_of cause)) refl in
    at ∙ sym (ap (λ o. option_map_or (step_words d all (round channels i) (round channels (i + 1))) o []) (cause_read causes i cause also cause_is))
