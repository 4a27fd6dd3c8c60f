use Rattle.std.proofs.Common.{◌≡◌, drop}
use Rattle.sw_config.specs.Entries.{all_flows}
use Rattle.sw_cert.specs.Refusals.{by_flow, refusal_of_flow}
use Rattle.sw_cert.proofs.parallel.OneByOneCheckWorkers.refusal_of_flows.Given as goal

abbrev pub invariant-loop-number : goal.invariant-loop-number
invariant-loop-number l =
    by_flow (refusal_of_flow l.network) 0 (all_flows l.network) l.certificate.places
    ≡ by_flow (refusal_of_flow l.network) l.number (drop l.number (all_flows l.network)) (drop l.number l.certificate.places)
