-- What the way of a flow is, and what waits where replies go back over its links, in words.
use Rattle.std.specs.Prelude.{◌≡◌, ◌≢◌, ◌++◌, ◌∷◌, ◌⊎◌, ℕ, AllPairs, List, [], Some, slice_get}
use Rattle.sw_topo.specs.Wiring.{partner}
use Rattle.sw_config.specs.PlaceEnd.TheVariants.{Node}
use Rattle.sw_config.specs.Entries.{FlowEntry, Declaration}
use Rattle.sw_flow.specs.declared.place.Place.{Place}
use Rattle.sw_flow.specs.Places.{end_of, IsPlace}
use Rattle.sw_flow.specs.Followers.{followers_of}
use Rattle.sw_flow.specs.Ways.{GoesTo, IsStart, IsWayTo}

-- ---- ways

-- from the place p on the flow goes over these places, each time to the first of those that follow, until none follows
abbrev pub GoesByFirst : Declaration → FlowEntry → Place → List Place → Type 0
GoesByFirst d f p [] = followers_of d f p.channel p.deleted ≡ []
GoesByFirst d f p (q ∷ qs) = (slice_get (followers_of d f p.channel p.deleted) 0 ≡ Some q) × GoesByFirst d f q qs

-- so from its start on
abbrev pub IsFirstWay : Declaration → FlowEntry → List Place → Type 0
IsFirstWay d f [] = ⊥
IsFirstWay d f (p ∷ ps) = IsStart d f p × GoesByFirst d f p ps

-- the flow goes over these places, by one step to each, from its start to its node, and comes over no channel twice
pub record IsWholeWay (d : Declaration) (f : FlowEntry) (places : List Place) : Type 0 where
  pub last : Place
  pub goes : IsWayTo d f last places
  pub arrives : end_of d last.channel ≡ Some (Node f.to)
  pub once : AllPairs (λ p q. p.channel ≢ q.channel) places

-- the flow goes one way: from each of its places it goes on to one place at most (no group is on its way)
abbrev pub GoesOneWay : Declaration → FlowEntry → Type 0
GoesOneWay d f = (p q r : Place) → IsPlace d f p.channel p.deleted → GoesTo d f p q → GoesTo d f p r → q ≡ r

-- ---- channels

-- in the list y comes next after x
pub record ComesNext (xs : List ℕ) (x y : ℕ) : Type 0 where
  pub before : List ℕ
  pub after : List ℕ
  pub listed : xs ≡ before ++ x ∷ y ∷ after

-- the list ends with x
pub record ComesLast (xs : List ℕ) (x : ℕ) : Type 0 where
  pub before : List ℕ
  pub listed : xs ≡ before ++ x ∷ []

-- Where replies go back over the links of a way of these channels, x waits for y: on the way the other channel of x's link comes next after
-- that of y's, or the way ends with x, and y is the other channel of its link.
abbrev pub WaitsOnTheWayBack : List ℕ → ℕ → ℕ → Type 0
WaitsOnTheWayBack channels x y = ComesNext channels (partner y) (partner x) ⊎ (ComesLast channels x × (y ≡ partner x))
