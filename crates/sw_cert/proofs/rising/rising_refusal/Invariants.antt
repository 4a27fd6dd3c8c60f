use Rattle.std.proofs.Common.{◌≡◌, drop}
use Rattle.sw_cert.specs.Refusals.{first_refusal, not_rising_from}
use Rattle.sw_cert.proofs.rising.rising_refusal.Given as goal

abbrev pub invariant-loop-place : goal.invariant-loop-place
invariant-loop-place l =
    first_refusal (not_rising_from l.network l.certificate.numbers l.flow) (drop l.place-index l.place-items) ≡ first_refusal (not_rising_from l.network l.certificate.numbers l.flow) l.place-items
