use Rattle.std.proofs.Common.{◌≡◌, map}
use Rattle.sw_cert.specs.Least.{lesser, least}
use Rattle.sw_cert.specs.Refusals.{is_not_above}
use Rattle.sw_cert.proofs.rising.not_rising_from.Given as goal

abbrev pub invariant-loop-next : goal.invariant-loop-next
invariant-loop-next l =
    lesser l.found (least (is_not_above l.numbers l.channel) (map (λ q. q.channel) l.next-iterator)) ≡ least (is_not_above l.numbers l.channel) (map (λ q. q.channel) l.initial.next-iterator)
