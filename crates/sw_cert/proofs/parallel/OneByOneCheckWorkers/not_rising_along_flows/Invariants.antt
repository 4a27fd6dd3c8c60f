use Rattle.std.proofs.Common.{◌≡◌, drop}
use Rattle.sw_config.specs.Entries.{all_flows}
use Rattle.sw_cert.specs.Refusals.{by_flow, not_rising_along}
use Rattle.sw_cert.proofs.parallel.OneByOneCheckWorkers.not_rising_along_flows.Given as goal

abbrev pub invariant-loop-number : goal.invariant-loop-number
invariant-loop-number l =
    by_flow (not_rising_along l.network l.certificate.numbers) 0 (all_flows l.network) l.certificate.places
    ≡ by_flow (not_rising_along l.network l.certificate.numbers) l.number (drop l.number (all_flows l.network)) (drop l.number l.certificate.places)
