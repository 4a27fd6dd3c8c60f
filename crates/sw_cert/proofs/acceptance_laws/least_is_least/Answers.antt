use Rattle.sw_cert.proofs.Leasts.{least_is_least}
use Rattle.sw_cert.proofs.acceptance_laws.least_is_least.Goals as goal

pub returns : goal.returns
returns c = least_is_least
