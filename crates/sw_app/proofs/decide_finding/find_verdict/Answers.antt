use Rattle.sw_app.specs.VerdictAnswers.{verdict_text}
use Rattle.sw_app.proofs.ShownFree.{shown_free}
use Rattle.sw_app.proofs.decide_finding.find_verdict.Goals as goal

pub returns-clause-deadlock_free : goal.returns-clause-deadlock_free
returns-clause-deadlock_free g c = λ zero.
    let d = c.args.network.now in
    let verdict = c.in_ok-verdict.verdict in
    shown_free d verdict (verdict_text d verdict) c.topology-topology.ensures.valid c.in_ok-verdict.ensures.checked c.certificate_is_said.ensures zero
