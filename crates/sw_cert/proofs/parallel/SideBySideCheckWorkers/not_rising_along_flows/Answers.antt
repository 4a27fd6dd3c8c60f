use Rattle.sw_config.specs.Entries.{all_flows}
use Rattle.sw_cert.specs.Refusals.{not_rising_along}
use Rattle.sw_cert.proofs.Firsts.{is_by_flow}
use Rattle.sw_cert.proofs.parallel.SideBySideCheckWorkers.not_rising_along_flows.Goals as goal

pub returns : goal.returns
returns g c = is_by_flow (not_rising_along c.args.network.now c.args.certificate.now.numbers) (all_flows c.args.network.now) c.args.certificate.now.places c.first_found.result c.flows.result c.flows.ensures.count c.requires.lists c.first_found.ensures
