use Rattle.std.proofs.Common.{sym, arith}
use Rattle.std.proofs.lemmas.List.{take_all, length-take-le}
use Rattle.sw_machine.proofs.reply.front.Goals as goal

pub slice_bounds-result-end : goal.slice_bounds-result-end
slice_bounds-result-end c = sym (length-take-le 28 c.args.cargo.now (omega (arith, c.if-cargo-gt-MAX_HEADER.true)))

pub returns-then-cargo-gt-MAX_HEADER-clause-few : goal.returns-then-cargo-gt-MAX_HEADER-clause-few
returns-then-cargo-gt-MAX_HEADER-clause-few c = let e = length-take-le 28 c.args.cargo.now (omega (arith, c.if-cargo-gt-MAX_HEADER.true)) in omega (arith, e)

pub returns-else-cargo-gt-MAX_HEADER-clause-bytes : goal.returns-else-cargo-gt-MAX_HEADER-clause-bytes
returns-else-cargo-gt-MAX_HEADER-clause-bytes c = sym (take_all 28 c.args.cargo.now (omega (arith, c.if-cargo-gt-MAX_HEADER.false)))
