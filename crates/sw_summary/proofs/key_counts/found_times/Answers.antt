use Rattle.std.proofs.Common.{arith, replicate, sym, ◌+◌}
use Rattle.std.proofs.lemmas.List.{replicate_more}
use Rattle.sw_summary.proofs.Taken.{one_taken}
use Rattle.sw_summary.proofs.key_counts.found_times.Goals as goal

pub loop-turn-preserved : goal.loop-turn-preserved
loop-turn-preserved c =
    let i = c.loop-turn._turn in
    let p = c.args.key.now in
    let both = one_taken c.args.key_counts.now c.loop-turn.key_counts c.take-count.new.key_counts (replicate i p) (replicate (i + 1) p) p c.loop-turn.count c.take-count.result
    (sym (replicate_more i p)) c.loop-turn.invariant.count c.loop-turn.invariant.rest c.take-count.ensures.lowered c.take-count.ensures.fewer in
    let few = c.take-count.ensures.few in
    let were = c.loop-turn.invariant.few in
    record { count = both.0; rest = both.1; few = omega (arith, few, were); rising = c.take-count.ensures.rising }
