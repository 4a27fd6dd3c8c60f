-- The routing table of a switch, as its network has it.
use Rattle.either.specs.declared.Either.{Either}
use Rattle.std.specs.Prelude.{List, refl, ℕ, ◌<◌, ◌≡◌}
use Rattle.sw_net.specs.declared.declared.SwitchRoutes.{SwitchRoutes}
use Rattle.sw_config.specs.Routings.{routing_look}
use Rattle.sw_route.specs.Intervals.{intervals_look}
use Rattle.sw_route.specs.Laws.{either_path, either_reserved, intervals_path, table_path}
use Rattle.sw_route.specs.Looks.{look_of, no_look, path_look}
use Rattle.sw_route.specs.declared.intervals.Interval.{Interval}
use Rattle.sw_route.specs.declared.look.Look.{Look}
use Rattle.sw_route.specs.declared.look.Route.{Route}

-- what a byte names by it
abbrev pub switch_look : SwitchRoutes → ℕ → Look
switch_look routes byte = routing_look routes.routing.now byte

pub routing_path : (e : Either (List Route) (List Interval)) (byte : ℕ) → byte < 32 → routing_look e byte ≡ path_look byte
routing_path e byte low = either_path look_of intervals_look (λ t byte low. table_path t byte low) (λ t byte low. intervals_path t byte low) e byte low

pub routing_reserved : (e : Either (List Route) (List Interval)) → routing_look e 255 ≡ no_look
routing_reserved e = either_reserved look_of intervals_look (λ t. refl) (λ t. refl) e
