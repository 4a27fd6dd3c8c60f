-- The two representations of a switch's routing table.
use Rattle.std.specs.Prelude.{◌<◌, ◌≡◌, ◌≤◌, ℕ, List, length}
use Rattle.either.specs.declared.Either.{Either}
use Rattle.either.specs.Either.{MatchEither, either}
use Rattle.sw_route.specs.declared.look.Look.{Look}
use Rattle.sw_route.specs.declared.look.Route.{Route}
use Rattle.sw_route.specs.declared.intervals.Interval.{Interval}
use Rattle.sw_route.specs.Looks.{IsTable, look_of}
use Rattle.sw_route.specs.Intervals.{intervals_look}

-- what a byte names by a table or by intervals
abbrev pub routing_look : Either (List Route) (List Interval) → ℕ → Look
routing_look routing byte = either (λ table. look_of table byte) (λ intervals. intervals_look intervals byte) routing

-- the representation answers for each byte as the table does
abbrev pub AnswersAs : List Route → Either (List Route) (List Interval) → Type 0
AnswersAs routes routing = (byte : ℕ) → routing_look routing byte ≡ look_of routes byte

-- a table of at most 16 entries is searched from its first entry on, and a longer one by intervals (this project's choice)
abbrev pub IsChosenForm : List Route → Either (List Route) (List Interval) → Type 0
IsChosenForm routes routing = MatchEither routing (λ table. length routes ≤ 16) (λ intervals. 16 < length routes)

-- a routing table, and the representation of it that its length chooses
pub record IsRouting (routes : List Route) (routing : Either (List Route) (List Interval)) : Type 0 where
  pub table : IsTable routes
  pub answers : AnswersAs routes routing
  pub form : IsChosenForm routes routing
