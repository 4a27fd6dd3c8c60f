use Rattle.sw_config.specs.Entries.{all_flows}
use Rattle.sw_cert.specs.Refusals.{refusal_of_flow}
use Rattle.sw_cert.proofs.Firsts.{is_by_flow}
use Rattle.sw_cert.proofs.parallel.SideBySideCheckWorkers.refusal_of_flows.Goals as goal

pub returns : goal.returns
returns g c = is_by_flow (refusal_of_flow c.args.network.now) (all_flows c.args.network.now) c.args.certificate.now.places c.first_found.result c.flows.result c.flows.ensures.count c.requires.lists c.first_found.ensures
