use Rattle.std.proofs.Common.{subst}
use Rattle.sw_machine.specs.Certificate.{Certificate, IsAccepted}
use Rattle.sw_machine.specs.DeadlockFreedom.{IsFree}
use Rattle.sw_config.specs.Entries.{Declaration}
use Rattle.sw_machine.specs.Model.{network_of}
use Rattle.sw_cert.proofs.Headline.{is_free}
use Rattle.sw_cert.proofs.passed.Passed.is_deadlock_free.Goals as goal

pub returns : goal.returns
returns c =
    let d = c.self.inside.network.now in
    let accepted = c.self.invariant in
    subst (λ (n : Declaration). (certificate : Certificate) × IsAccepted (network_of n) certificate × IsFree (network_of n) certificate) c.self.view_is
    (accepted.0, accepted.1, is_free d accepted.0 c.flows-flows.ensures.valid accepted.1)
