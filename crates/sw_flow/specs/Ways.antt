-- Ways of a flow, from its start over its steps.
use Rattle.std.specs.Prelude.{◌≡◌, List, [], ◌∷◌, ◌++◌, Option, Some, None}
use Rattle.sw_config.specs.Wiring.{out}
use Rattle.sw_config.specs.Entries.{FlowEntry, Declaration}
use Rattle.sw_flow.specs.declared.place.Place.{Place}
use Rattle.sw_flow.specs.Places.{ends_of, Follows, IsPlace}

-- the flow goes from the place p by one step to the place q
abbrev pub GoesTo : Declaration → FlowEntry → Place → Place → Type 0
GoesTo d f p q = Follows d f p.channel p.deleted q.channel q.deleted

-- from the place p the flow goes over these places, by one step to each
abbrev pub GoesOver : Declaration → FlowEntry → Place → List Place → Type 0
GoesOver d f p [] = Unit {0}
GoesOver d f p (q ∷ qs) = GoesTo d f p q × GoesOver d f q qs

-- the place is the flow's start: on the channel of its node, with no byte deleted
abbrev pub IsStart : Declaration → FlowEntry → Place → Type 0
IsStart d f p = (out (ends_of d) f.from ≡ Some p.channel) × (p.deleted ≡ 0)

-- the flow goes over these places from its start on
abbrev pub GoesFromStart : Declaration → FlowEntry → List Place → Type 0
GoesFromStart d f [] = ⊥
GoesFromStart d f (p ∷ ps) = IsStart d f p × GoesOver d f p ps

-- the flow goes over these places from its start on, the last of which is this one
pub record IsWayTo (d : Declaration) (f : FlowEntry) (place : Place) (places : List Place) : Type 0 where
  pub goes : GoesFromStart d f places
  pub before : List Place
  pub listed : places ≡ before ++ place ∷ []

-- a way to the place, or none where it is not one of the flow's
abbrev pub IsWayIfPlace : Declaration → FlowEntry → Place → Option (List Place) → Type 0
IsWayIfPlace d f place (Some places) = IsWayTo d f place places
IsWayIfPlace d f place None = IsPlace d f place.channel place.deleted → ⊥
