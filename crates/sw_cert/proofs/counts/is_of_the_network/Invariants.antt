use Rattle.std.proofs.Common.{◌≡◌, drop}
use Rattle.sw_config.specs.Entries.{all_flows}
use Rattle.sw_cert.specs.Refusals.{are_in_range}
use Rattle.sw_cert.proofs.counts.is_of_the_network.Given as goal

abbrev pub invariant-loop-number : goal.invariant-loop-number
invariant-loop-number l =
    are_in_range l.network (drop l.number (all_flows l.network)) (drop l.number l.certificate.places) ≡ are_in_range l.network (all_flows l.network) l.certificate.places
