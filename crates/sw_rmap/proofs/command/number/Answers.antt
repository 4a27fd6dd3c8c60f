use Rattle.std.proofs.Common.{ℕ, ◌+◌, ◌*◌, ◌<◌, ◌≤◌, ◌^◌, arith, get_or}
use Rattle.std.proofs.Math.Nat.{pow-le-pow_right}
use Rattle.sw_rmap.proofs.command.number.Goals as goal

-- one more digit than fewer than eight
digit_fits : (n i k byte : ℕ) → n < 256 ^ i → i < k → k ≤ 8 → byte < 256 → 256 * n + byte < 2 ^ 64
digit_fits n i k byte below lt few low =
    let grows : 256 ^ i ≤ 256 ^ 7 = pow-le-pow_right {n = 256} (omega arith) {i = i} {j = 7} (omega arith) in
    omega arith

pub overflow_mul-number : goal.overflow_mul-number
overflow_mul-number c =
    let low : get_or c.args.bytes.now c.loop-byte.byte-index 0 < 256 = omega (arith, c.type_inv.bytes c.loop-byte.byte-index) in
    omega (arith, digit_fits _ _ _ _ c.loop-byte.invariant.fits c.loop-byte-test.true c.requires low)

pub overflow_add-number : goal.overflow_add-number
overflow_add-number c =
    let low : get_or c.args.bytes.now c.loop-byte.byte-index 0 < 256 = omega (arith, c.type_inv.bytes c.loop-byte.byte-index) in
    omega (arith, c.from.ensures, digit_fits _ _ _ _ c.loop-byte.invariant.fits c.loop-byte-test.true c.requires low)
