-- A routing table as intervals of logical addresses with one answer each.
use Rattle.std.specs.Prelude.{◌≢◌, ℕ, ◌<◌, nat_le, List, length, map, find, Option, Some, None, AllPairs}
use Rattle.std.specs.List.{AllAdjacentBelow}
use Rattle.sw_route.specs.declared.look.Look.{Look}
use Rattle.sw_route.specs.declared.intervals.Interval.{Interval}
use Rattle.sw_route.specs.Looks.{no_look, look_by}

-- the look of an interval, or else that
abbrev pub look_or : Look → Option Interval → Look
look_or look None = look
look_or look (Some i) = i.look

-- An interval goes from the end of the one before it, or from 32, to its own `last`. So the interval of an address is the first
-- that does not end before it. Where there is none, that look.
abbrev pub interval_or : Look → List Interval → ℕ → Look
interval_or look intervals address = look_or look (find (λ i. nat_le address i.last) intervals)

-- what a byte names at a switch with these intervals
abbrev pub intervals_look : List Interval → ℕ → Look
intervals_look intervals byte = look_by (interval_or no_look intervals) byte

-- The intervals rise, and neighbours have different looks: there are no more than needed.
pub record IsIntervals (intervals : List Interval) : Type 0 where
  pub rising : AllPairs (λ i j. i.last < j.last) intervals
  pub merged : let looks = map (λ i. i.look) intervals in AllAdjacentBelow (λ look next. look ≢ next) looks (length looks)
