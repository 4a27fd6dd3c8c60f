-- What holds of circles, in words of packets.
use Rattle.std.specs.Prelude.{◌≡◌, ◌↔◌, ℕ, All, IsTrue, List, [], Some, None, Option, slice_get}
use Rattle.sw_config.specs.Entries.{Declaration, FlowEntry, all_flows}
use Rattle.sw_config.specs.PlaceEnd.TheVariants.{Node}
use Rattle.sw_graph.specs.Laws.{IsCycle}
use Rattle.sw_flow.specs.Places.{Follows, IsPlace, IsPlaceList, end_of}
use Rattle.sw_flow.specs.declared.place.Place.{Place}
use Rattle.sw_circles.specs.Circles.{AreCircles, arrives}
use Rattle.sw_circles.specs.Circlings.{AreCirclings, CirclingView, IsCirclingOf}

-- by one or more steps packets of the flow go from channel c, with k address bytes deleted, to channel e, with m deleted
pub data Leads (d : Declaration) (f : FlowEntry) : ℕ → ℕ → ℕ → ℕ → Type 0 where
  one : {c k e m : ℕ} → Follows d f c k e m → Leads d f c k e m
  more : {c k b j e m : ℕ} → Leads d f c k b j → Follows d f b j e m → Leads d f c k e m

-- packets of the flow come to a place to which they can come back
pub record CanComeBack (d : Declaration) (f : FlowEntry) : Type 0 where
  pub channel : ℕ
  pub deleted : ℕ
  pub place : IsPlace d f channel deleted
  pub back : Leads d f channel deleted channel deleted

-- circles are told exactly of the flows whose packets can come back to a place
abbrev pub CirclesAreWherePacketsComeBack : Type 0
CirclesAreWherePacketsComeBack = (d : Declaration) (f : FlowEntry) (circles : List (List ℕ)) → AreCircles d f circles → (circles ≡ [] ↔ (CanComeBack d f → ⊥))

-- with so many address bytes deleted, packets of the flow come to channel c and go on to channel e
abbrev pub GoesOnWith : Declaration → FlowEntry → ℕ → ℕ → ℕ → Type 0
GoesOnWith d f k c e = IsPlace d f c k × Follows d f c k e k

-- over each circle that is told packets go from each channel to the next, and from the last to the first, with as many address bytes deleted
abbrev pub CirclesClose : Type 0
CirclesClose = (d : Declaration) (f : FlowEntry) (circles : List (List ℕ)) → AreCircles d f circles → All (λ circle. (k : ℕ) × IsCycle (GoesOnWith d f k) circle) circles

-- the circles of a flow are determined
abbrev pub CirclesAreDetermined : Type 0
CirclesAreDetermined = (d : Declaration) (f : FlowEntry) (told other : List (List ℕ)) → AreCircles d f told → AreCircles d f other → told ≡ other

-- packets of the flow come to where it ends
pub record Arrives (d : Declaration) (f : FlowEntry) : Type 0 where
  pub channel : ℕ
  pub deleted : ℕ
  pub place : IsPlace d f channel deleted
  pub ends : end_of d channel ≡ Some (Node f.to)

-- they do exactly where one of its places says so
abbrev pub ArrivesInWords : Type 0
ArrivesInWords = (d : Declaration) (f : FlowEntry) (places : List Place) → IsPlaceList d f places → (IsTrue (arrives d f places) ↔ Arrives d f)

-- of a flow nothing is told exactly where its packets can't come back to a place, and come to where it ends
abbrev pub ToldInWords : Type 0
ToldInWords =
    (d : Declaration) (flow : ℕ) (f : FlowEntry) (told : Option CirclingView) → slice_get (all_flows d) flow ≡ Some f → IsCirclingOf d flow told
    → (told ≡ None ↔ ((CanComeBack d f → ⊥) × Arrives d f))

-- what is told of all flows is determined
abbrev pub CirclingsAreDetermined : Type 0
CirclingsAreDetermined = (d : Declaration) (told other : List CirclingView) → AreCirclings d told → AreCirclings d other → told ≡ other
