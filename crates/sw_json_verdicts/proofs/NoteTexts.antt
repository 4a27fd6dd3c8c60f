-- The note on a flow as values.
use Rattle.std.proofs.Common.{◌≡◌, ◌∙◌, Global, List, Ok, Err, Option, Result, Some, String, Vec, [], ◌∷◌, IfOk, ap, map, string_bytes, ℕ}
use Rattle.std.specs.Option.{option_to_list}
use Rattle.std.specs.declared.alloc.AllocError.{AllocError}
use Rattle.serde_json.specs.Data.{string}
use Rattle.serde_json.specs.View.{view}
use Rattle.serde_json.specs.declared.value.Value.{Value}
use Rattle.sw_config.specs.Entries.{Declaration}
use Rattle.sw_linter.specs.CirclingTexts.{IsCirclingText}

-- of the one text that there is
pub one_text : (d : Declaration) (flow : ℕ) (text : String Global) (texts : List (String Global)) (r : Result (Vec Value Global) AllocError) → texts ≡ text ∷ []
    → IsCirclingText d flow (Some (string_bytes text)) → IfOk r (λ v. map view v.items ≡ map string (map string_bytes texts))
    → IfOk r (λ v. (told : Option (List ℕ)) × IsCirclingText d flow told × (map view v.items ≡ map string (option_to_list told)))
one_text d flow text texts (Ok v) one circling is =
    (Some (string_bytes text), circling, is ∙ ap (λ (them : List (String Global)). map string (map string_bytes them)) one)
one_text d flow text texts (Err none) one circling is = is
