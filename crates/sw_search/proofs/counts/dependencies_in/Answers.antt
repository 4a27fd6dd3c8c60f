use Rattle.std.proofs.Common.{◌≡◌, ◌≤◌, length, map, arith, rules}
use Rattle.std.specs.Prelude.{sum}
use Rattle.std.proofs.lemmas.List.{take_all}
use Rattle.sw_flow.specs.Places.{ends_of}
use Rattle.sw_search.proofs.Counted.{dependencies_counted, short_rows}
use Rattle.sw_search.proofs.counts.dependencies_in.Goals as goal

pub loop-row-init : goal.loop-row-init
loop-row-init c =
    let few : length (ends_of c.args.network.now) ≤ 2048 = omega (arith, c.channels-channels.ensures.ends, c.channels-channels.ensures.few) in
    let size = c.requires.size in
    record {
      counted = search rules;
      small = search rules;
      few = omega (arith, few, size);
      short = short_rows c.args.network.now c.args.rows.now few c.requires;
    }

pub returns : goal.returns
returns c =
    let all : c.loop-row.count ≡ sum (map (λ v. length v.items) c.args.rows.now) = rw (take_all c.loop-row.row-index c.args.rows.now (omega (arith, c.loop-row-test.false))) at c.loop-row.invariant.counted in
    dependencies_counted c.args.network.now c.args.rows.now c.requires c.loop-row.count all
