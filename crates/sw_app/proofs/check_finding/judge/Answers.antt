use Rattle.sw_cert.proofs.Accepted.{not_refused_is_accepted}
use Rattle.sw_app.proofs.check_finding.judge.Goals as goal

pub returns-in-Ok-clause-accepted : goal.returns-in-Ok-clause-accepted
returns-in-Ok-clause-accepted g c = λ ended. (not_refused_is_accepted c.args.network.now c.args.certificate c.flows-flows.ensures.valid).0 c.in-Ok.ensures.exact.1
