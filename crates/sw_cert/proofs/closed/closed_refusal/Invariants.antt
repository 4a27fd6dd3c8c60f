use Rattle.std.proofs.Common.{◌≡◌, drop}
use Rattle.sw_cert.specs.Refusals.{first_refusal, refusal_of_place}
use Rattle.sw_cert.proofs.closed.closed_refusal.Given as goal

abbrev pub invariant-loop-place : goal.invariant-loop-place
invariant-loop-place l =
    first_refusal (refusal_of_place l.network l.number l.flow l.listed) (drop l.place-index l.listed) ≡ first_refusal (refusal_of_place l.network l.number l.flow l.listed) l.listed
