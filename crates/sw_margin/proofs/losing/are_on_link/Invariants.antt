use Rattle.std.proofs.Common.{◌≡◌, ◌/◌, ◌==◌}
use Rattle.std.specs.List.{list_all}
use Rattle.sw_margin.proofs.losing.are_on_link.Given as goal

abbrev pub invariant-loop-place : goal.invariant-loop-place
invariant-loop-place l = list_all (λ q. q.channel / 2 == l.link) l.place-iterator ≡ list_all (λ q. q.channel / 2 == l.link) l.initial.place-iterator
