use Rattle.std.proofs.Common.{◌≡◌, ◌++◌, map, take}
use Rattle.sw_circles.specs.Circles.{channels_at}
use Rattle.sw_circles.proofs.circling.add_circles.Given as goal

abbrev pub invariant-loop-component : goal.invariant-loop-component
invariant-loop-component l = map (λ c. c.items) l.circles.items ≡ map (λ c. c.items) l.initial.circles.items ++ map (λ c. channels_at l.places c.cycle.items) (take l.component-index l.component-items)
