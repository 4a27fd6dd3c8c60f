-- Flows whose packets can come back to a place, and flows of which no packet arrives.
use Rattle.std.specs.Prelude.{◌≡◌, ◌==◌, ◌&&◌, ◌<◌, ℕ, AllPairs, Bool, false, List, Option, Some, filter, filter_map, length, map, option_map, position, slice_get}
use Rattle.std.specs.List.{AllZip, flat_map, list_any, range_with_len}
use Rattle.std.specs.Option.{option_map_or}
use Rattle.sw_config.specs.Entries.{Declaration, FlowEntry}
use Rattle.sw_config.specs.Wiring.{is_node}
use Rattle.sw_graph.specs.Components.{AreComponents}
use Rattle.sw_graph.specs.declared.component.Component.{Component}
use Rattle.sw_flow.specs.Followers.{followers_of}
use Rattle.sw_flow.specs.Places.{Follows, IsPlaceList, end_of}
use Rattle.sw_flow.specs.declared.place.Place.{Place}

-- the places with so many address bytes deleted, in order
abbrev pub with_deleted : ℕ → List Place → List Place
with_deleted k places = filter (λ p. p.deleted == k) places

-- from the i-th of these places packets of the flow go on to the j-th
pub record GoesOn (d : Declaration) (f : FlowEntry) (places : List Place) (i j : ℕ) : Type 0 where
  pub from : Place
  pub to : Place
  pub from_is : slice_get places i ≡ Some from
  pub to_is : slice_get places j ≡ Some to
  pub step : Follows d f from.channel from.deleted to.channel to.deleted

-- the channel of the i-th of these places
abbrev pub channel_at : List Place → ℕ → Option ℕ
channel_at places i = option_map (λ p. p.channel) (slice_get places i)

-- the channels of those of these numbers
abbrev pub channels_at : List Place → List ℕ → List ℕ
channels_at places numbers = filter_map (channel_at places) numbers

-- of these places: the channels of the shortest circle of each component, in which packets can come from each place to each other
pub record AreCirclesOf (d : Declaration) (f : FlowEntry) (places : List Place) (circles : List (List ℕ)) : Type 0 where
  pub components : List Component
  pub are : AreComponents (GoesOn d f places) components
  pub told : circles ≡ map (λ c. channels_at places c.cycle.items) components

-- of the places of the flow, those with fewer deleted address bytes first: where one more is deleted, no packet comes back
pub record AreCircles (d : Declaration) (f : FlowEntry) (circles : List (List ℕ)) : Type 0 where
  pub places : List Place
  pub list : IsPlaceList d f places
  pub each : List (List (List ℕ))
  pub of_each : AllZip (λ k. AreCirclesOf d f (with_deleted k places)) (range_with_len 0 (length f.address)) each
  pub told : circles ≡ flat_map (λ c. c) each

-- the place is on a channel that ends at the node where the flow ends
abbrev pub is_end : Declaration → FlowEntry → Place → Bool
is_end d f p = option_map_or (is_node f.to) (end_of d p.channel) false

-- one of these places is
abbrev pub arrives : Declaration → FlowEntry → List Place → Bool
arrives d f places = list_any (is_end d f) places

-- ---- as they are found

abbrev pub is_place : Place → Place → Bool
is_place p q = q.channel == p.channel && q.deleted == p.deleted

-- the channels of these places rise
abbrev pub ChannelsRise : List Place → Type 0
ChannelsRise places = AllPairs (λ p q. p.channel < q.channel) places

-- the numbers of those of these places that follow a place
abbrev pub row_from : Declaration → FlowEntry → List Place → Place → List ℕ
row_from d f places p = filter_map (λ q. position (is_place q) places) (followers_of d f p.channel p.deleted)
