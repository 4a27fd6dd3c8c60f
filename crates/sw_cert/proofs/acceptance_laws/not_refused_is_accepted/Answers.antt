use Rattle.sw_cert.proofs.Accepted.{not_refused_is_accepted}
use Rattle.sw_cert.proofs.acceptance_laws.not_refused_is_accepted.Goals as goal

pub returns : goal.returns
returns c = not_refused_is_accepted
