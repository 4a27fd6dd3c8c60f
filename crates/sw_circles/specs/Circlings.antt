-- The flows whose packets can come back to a place, and those of which no packet arrives.
use Rattle.std.specs.Prelude.{◌≡◌, ℕ, Bool, true, false, List, [], ◌∷◌, Option, None, Some, filter_map, length, slice_get}
use Rattle.std.specs.List.{AllZip, range_with_len}
use Rattle.sw_config.specs.Entries.{Declaration, FlowEntry, all_flows}
use Rattle.sw_flow.specs.Places.{IsPlaceList}
use Rattle.sw_flow.specs.declared.place.Place.{Place}
use Rattle.sw_circles.specs.Circles.{AreCircles, arrives}

-- what is told of a flow: its circles, and whether packets arrive
pub record CirclingView : Type 0 where
  pub flow : ℕ
  pub circles : List (List ℕ)
  pub arrives : Bool

-- it is told where it has circles, or none arrive
abbrev pub told_of : ℕ → List (List ℕ) → Bool → Option CirclingView
told_of flow [] true = None
told_of flow [] false = Some (record { flow = flow; circles = []; arrives = false })
told_of flow (c ∷ cs) arrives = Some (record { flow = flow; circles = c ∷ cs; arrives = arrives })

-- what is told of the flow of that number
pub record IsCirclingOf (d : Declaration) (flow : ℕ) (told : Option CirclingView) : Type 0 where
  pub entry : FlowEntry
  pub numbered : slice_get (all_flows d) flow ≡ Some entry
  pub places : List Place
  pub list : IsPlaceList d entry places
  pub circles : List (List ℕ)
  pub are : AreCircles d entry circles
  pub told_is : told ≡ told_of flow circles (arrives d entry places)

-- of all flows, reply flows too, in order
pub record AreCirclings (d : Declaration) (told : List CirclingView) : Type 0 where
  pub each : List (Option CirclingView)
  pub of_each : AllZip (IsCirclingOf d) (range_with_len 0 (length (all_flows d))) each
  pub told_is : told ≡ filter_map (λ o. o) each
