use Rattle.std.proofs.Common.{◌≡◌, ◌/◌, ◌%◌, map, take}
use Rattle.sw_flow.proofs.routes.places_of.Given as goal

abbrev pub invariant-loop-number : goal.invariant-loop-number
invariant-loop-number l = l.places.items ≡ map (λ n. record { channel = n / l.width; deleted = n % l.width }) (take l.number-index l.numbers)
