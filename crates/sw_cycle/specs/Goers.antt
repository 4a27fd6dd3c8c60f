-- All flows that go on from each channel of a round to the next one.
use Rattle.std.specs.Prelude.{◌≡◌, ◌≢◌, ℕ, ◌+◌, ◌<◌, Bool, Contains, true, List, Some, Vec, length, slice_get}
use Rattle.std.specs.declared.alloc.Global.{Global}
use Rattle.sw_config.specs.Entries.{Declaration}
use Rattle.sw_flow.specs.declared.place.Place.{Place}
use Rattle.sw_graph.specs.Reached.{IsListing}
use Rattle.sw_graph.specs.Rows.{row}
use Rattle.sw_cycle.specs.Causes.{GoesOn}
use Rattle.sw_cycle.specs.Cycles.{round}

-- for each of the channels the flows that go on from it to the next one, and from the last to the first
pub record AreFlows (d : Declaration) (channels : List ℕ) (flows : List (Vec ℕ Global)) : Type 0 where
  pub size : length flows ≡ length channels
  pub each : (i : ℕ) → i < length channels → IsListing (λ n. GoesOn d n (round channels i) (round channels (i + 1))) (row flows i)

-- the channels of the places are marked
abbrev pub AreMarked : List Place → List Bool → Type 0
AreMarked places marks = (p : Place) → Contains places p → slice_get marks p.channel ≡ Some true

-- those of the first n flows that go on from channel c to channel e
abbrev pub Below : Declaration → ℕ → ℕ → ℕ → List ℕ → Type 0
Below d n c e numbers = IsListing (λ i. (i < n) × GoesOn d i c e) numbers

-- for each of the channels those of the first n flows that go on from it to the next one
pub record AreBelow (d : Declaration) (channels : List ℕ) (n : ℕ) (flows : List (Vec ℕ Global)) : Type 0 where
  pub size : length flows ≡ length channels
  pub each : (i : ℕ) → i < length channels → Below d n (round channels i) (round channels (i + 1)) (row flows i)

-- flow n is taken into account at step i of the round, and the others are as they were
pub record IsTakenAt (d : Declaration) (channels : List ℕ) (n i : ℕ) (flows flows2 : List (Vec ℕ Global)) : Type 0 where
  pub size : length flows2 ≡ length flows
  pub here : Below d n (round channels i) (round channels (i + 1)) (row flows i) → Below d (n + 1) (round channels i) (round channels (i + 1)) (row flows2 i)
  pub others : (other : ℕ) → other ≢ i → row flows2 other ≡ row flows other
