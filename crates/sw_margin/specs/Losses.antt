-- The flows that are lost without a link.
use Rattle.std.specs.Prelude.{◌≡◌, ◌≢◌, ℕ, ◌/◌, ◌<◌, All, List, [], length, slice_get, Some, Vec}
use Rattle.std.specs.declared.alloc.Global.{Global}
use Rattle.sw_topo.specs.Wiring.{out}
use Rattle.sw_config.specs.Entries.{FlowEntry, Declaration, all_flows}
use Rattle.sw_flow.specs.declared.place.Place.{Place}
use Rattle.sw_flow.specs.Places.{ends_of, IsPlace}
use Rattle.sw_flow.specs.Followers.{followers_of}
use Rattle.sw_graph.specs.Reached.{IsListing}
use Rattle.sw_graph.specs.Rows.{row}

-- these places are on channels of that link
abbrev pub AreOnLink : ℕ → List Place → Type 0
AreOnLink link places = All (λ q. q.channel / 2 ≡ link) places

-- Packets of the flow begin on that link, or can come to a place from which they go on over that link alone.
pub data NeedsLink (d : Declaration) (f : FlowEntry) (link : ℕ) : Type 0 where
  AtStart : (c : ℕ) → out (ends_of d) f.from ≡ Some c → c / 2 ≡ link → NeedsLink d f link
  OnTheWay : (p : Place) → IsPlace d f p.channel p.deleted → followers_of d f p.channel p.deleted ≢ []
      → AreOnLink link (followers_of d f p.channel p.deleted) → NeedsLink d f link

-- the flow of that number, declared or of replies, needs that link
pub record IsLost (d : Declaration) (link i : ℕ) : Type 0 where
  pub flow : FlowEntry
  pub numbered : slice_get (all_flows d) i ≡ Some flow
  pub needs : NeedsLink d flow link

-- for each link the numbers of the flows that need it, rising
pub record AreLosses (d : Declaration) (told : List (Vec ℕ Global)) : Type 0 where
  pub size : length told ≡ length d.links
  pub each : (link : ℕ) → link < length d.links → IsListing (IsLost d link) (row told link)
