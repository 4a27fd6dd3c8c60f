use Rattle.std.proofs.Common.{◌≡◌, length, refl, rules}
use Rattle.std.proofs.lemmas.Option.{slice_get_past, slice_get_read}
use Rattle.sw_cert.specs.Refusals.{is_same}
use Rattle.sw_cert.proofs.listed.is_at.Goals as goal

pub returns-in-Some : goal.returns-in-Some
returns-in-Some c =
    let listed = c.args.listed.now in
    let found = c.in-Some.found.now in
    let same : c.eq.result ≡ is_same c.args.place.now found = search rules in
    rw (slice_get_read listed (length listed) c.args.index found refl c.in-Some.ensures.lookup.3.0 c.in-Some.ensures.lookup.1) same

pub returns-in-None : goal.returns-in-None
returns-in-None c = rw (slice_get_past c.args.listed.now c.args.index c.in-None.ensures.lookup.3) refl
