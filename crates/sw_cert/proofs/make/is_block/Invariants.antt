use Rattle.std.proofs.Common.{None, drop}
use Rattle.sw_cert.proofs.RisingPlaces.{Goes}
use Rattle.sw_cert.proofs.make.is_block.Given as goal

abbrev pub invariant-loop-place : goal.invariant-loop-place
invariant-loop-place l = record {
  on : Goes None l.places → Goes l.last (drop l.place-index l.places);
  back : Goes l.last (drop l.place-index l.places) → Goes None l.places;
}
