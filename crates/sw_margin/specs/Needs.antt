-- The links that flows need, as they are found.
use Rattle.std.specs.Prelude.{◌≡◌, ◌↔◌, ◌⊎◌, ℕ, ◌/◌, ◌<◌, ◌==◌, ◌++◌, Bool, true, Contains, List, [], ◌∷◌, length, Option, Some, None, Vec, if◌then◌else◌}
use Rattle.std.specs.List.{list_all}
use Rattle.std.specs.declared.alloc.Global.{Global}
use Rattle.sw_config.specs.Entries.{FlowEntry, Declaration}
use Rattle.sw_graph.specs.Rounds.{is_marked}
use Rattle.sw_flow.specs.declared.place.Place.{Place}
use Rattle.sw_flow.specs.Followers.{followers_of}
use Rattle.sw_graph.specs.Reached.{IsListing}
use Rattle.sw_graph.specs.Rows.{row}
use Rattle.sw_margin.specs.Losses.{IsLost, NeedsLink}

-- the link on which all these places are, if there are some
abbrev pub only_link : List Place → Option ℕ
only_link [] = None
only_link (p ∷ ps) = if list_all (λ q. q.channel / 2 == p.channel / 2) ps then Some (p.channel / 2) else None

-- the link over which alone the flow goes on from that place
abbrev pub link_after : Declaration → FlowEntry → Place → Option ℕ
link_after d f p = only_link (followers_of d f p.channel p.deleted)

-- from one of these places the flow goes on over that link alone
pub record IsNeededAt (d : Declaration) (f : FlowEntry) (places : List Place) (link : ℕ) : Type 0 where
  pub place : Place
  pub listed : Contains places place
  pub alone : link_after d f place ≡ Some link

-- the links that the flow needs at these places are marked too
pub record AreMarked (d : Declaration) (f : FlowEntry) (places : List Place) (marks marks2 : List Bool) : Type 0 where
  pub size : length marks2 ≡ length marks
  pub each : (link : ℕ) → (is_marked marks2 link ≡ true) ↔ ((is_marked marks link ≡ true) ⊎ IsNeededAt d f places link)

-- a mark for each link: set exactly where the flow needs it
pub record AreNeeded (d : Declaration) (f : FlowEntry) (marks : List Bool) : Type 0 where
  pub size : length marks ≡ length d.links
  pub each : (link : ℕ) → (is_marked marks link ≡ true) ↔ NeedsLink d f link

-- the row of a link, and the flow behind it where the link is marked
abbrev pub row_after : List Bool → ℕ → List (Vec ℕ Global) → ℕ → List ℕ
row_after marks flow rows link = if is_marked marks link then row rows link ++ flow ∷ [] else row rows link

-- the flow is behind the rows of the marked ones of the first `count` links
pub record AreAdded (marks : List Bool) (flow count : ℕ) (rows rows2 : List (Vec ℕ Global)) : Type 0 where
  pub size : length rows2 ≡ length rows
  pub added : (link : ℕ) → link < count → row rows2 link ≡ row_after marks flow rows link
  pub others : (link : ℕ) → (link < count → ⊥) → row rows2 link ≡ row rows link

-- for each link the numbers of those of the first `count` flows that need it, rising
pub record AreLossesOf (d : Declaration) (count : ℕ) (told : List (Vec ℕ Global)) : Type 0 where
  pub size : length told ≡ length d.links
  pub each : (link : ℕ) → link < length d.links → IsListing (λ i. (i < count) × IsLost d link i) (row told link)
