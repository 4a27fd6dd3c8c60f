-- The refusal of one flow, by its number.
use Rattle.std.specs.Prelude.{ℕ, List, Option, Some, None, slice_get}
use Rattle.sw_config.specs.Entries.{FlowEntry}
use Rattle.sw_flow.specs.declared.place.Place.{Place}
use Rattle.sw_cert.specs.declared.refusal.Refusal.{Refusal}

-- the refusal of a flow and its list, where there are both
abbrev pub refusal_of_both : (FlowEntry → List Place → Option Refusal) → Option FlowEntry → Option (List Place) → Option Refusal
refusal_of_both refusal None listed = None
refusal_of_both refusal (Some f) None = None
refusal_of_both refusal (Some f) (Some listed) = refusal f listed

-- the refusal of the flow of number i and its list
abbrev pub refusal_at : (ℕ → FlowEntry → List Place → Option Refusal) → List FlowEntry → List (List Place) → ℕ → Option Refusal
refusal_at refusal flows lists i = refusal_of_both (refusal i) (slice_get flows i) (slice_get lists i)
