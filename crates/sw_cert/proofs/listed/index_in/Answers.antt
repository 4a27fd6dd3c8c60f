use Rattle.std.proofs.Common.{◌≡◌, ◌+◌, ◌-◌, ◌/◌, ◌<◌, ◌≤◌, ℕ, subst, arith}
use Rattle.sw_cert.specs.Ranks.{rank}
use Rattle.sw_cert.proofs.Ranks.{IsBetween, higher, lower, is_at_end}
use Rattle.sw_cert.proofs.listed.index_in.Goals as goal

pub loop-low-preserved-then-rank-wanted : goal.loop-low-preserved-then-rank-wanted
loop-low-preserved-then-rank-wanted c =
    let middle : ℕ = c.loop-low.low + (c.loop-low.high - c.loop-low.low) / 2 in
    let below : middle < c.loop-low.high = omega arith in
    let less : rank c.index-listed-middle.result < rank c.args.place.now = omega arith in
    higher c.args.listed.now c.args.place.now c.requires c.loop-low.low c.loop-low.high middle c.loop-low.invariant below c.index-listed-middle.result c.index-listed-middle.is less

pub loop-low-preserved : goal.loop-low-preserved
loop-low-preserved c =
    let middle : ℕ = c.loop-low.low + (c.loop-low.high - c.loop-low.low) / 2 in
    let below : middle < c.loop-low.high = omega arith in
    let above : c.loop-low.low ≤ middle = omega arith in
    let more : rank c.args.place.now ≤ rank c.index-listed-middle.result = omega arith in
    lower c.args.listed.now c.args.place.now c.requires c.loop-low.low c.loop-low.high middle c.loop-low.invariant below c.index-listed-middle.result c.index-listed-middle.is above more

pub returns : goal.returns
returns c =
    let same : c.loop-low.high ≡ c.loop-low.low = omega (arith, c.loop-low.invariant.ordered) in
    is_at_end c.args.listed.now c.args.place.now c.requires c.loop-low.low (subst (λ (h : ℕ). IsBetween c.args.listed.now c.args.place.now c.loop-low.low h) same c.loop-low.invariant)
