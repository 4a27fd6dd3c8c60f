use Rattle.std.proofs.Common.{sym, ◌≡◌, ◌∙◌}
use Rattle.std.specs.Prelude.{None, Some}
use Rattle.sw_cert.specs.Contents.{certificate_of}
use Rattle.sw_cert.proofs.Headline.{is_free}
use Rattle.sw_cert.proofs.Accepted.{not_refused_is_accepted}
use Rattle.sw_cert.proofs.checker.check.Goals as goal

pub new-requires : goal.new-requires
new-requires g c = (not_refused_is_accepted c.args.network.now c.args.certificate.now c.flows-flows.ensures.valid).0 (sym c.in-None.ensures)

pub returns-in-None-clause-deadlock_free : goal.returns-in-None-clause-deadlock_free
returns-in-None-clause-deadlock_free g c =
    is_free c.args.network.now (certificate_of c.args.certificate.now) c.flows-flows.ensures.valid ((not_refused_is_accepted c.args.network.now c.args.certificate.now c.flows-flows.ensures.valid).0 (sym c.in-None.ensures))

pub returns-in-None-clause-accepted : goal.returns-in-None-clause-accepted
returns-in-None-clause-accepted g c = (not_refused_is_accepted c.args.network.now c.args.certificate.now c.flows-flows.ensures.valid).0 (sym c.in-None.ensures)

pub returns-in-Some-clause-accepted : goal.returns-in-Some-clause-accepted
returns-in-Some-clause-accepted g c = λ accepted.
    let none = (not_refused_is_accepted c.args.network.now c.args.certificate.now c.flows-flows.ensures.valid).1 accepted in
    absurd (let same : Some c.in-Some.refusal ≡ None = c.in-Some.ensures ∙ none in cc)
