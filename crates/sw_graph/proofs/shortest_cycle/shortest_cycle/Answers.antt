use Rattle.std.proofs.Common.{get_or, arith}
use Rattle.sw_graph.specs.Rows.{Leads}
use Rattle.sw_graph.proofs.Bettering.{bettered, bettering_first, bettering_more, is_best, kept}
use Rattle.sw_graph.proofs.shortest_cycle.shortest_cycle.Goals as goal

pub loop-c-init : goal.loop-c-init
loop-c-init c = bettering_first (Leads c.args.rows.now) c.args.members.now c.requires.rising c.args.first c.requires.begins.0 c.requires.begins.1 c.requires.first

pub loop-c-preserved-in_default : goal.loop-c-preserved-in_default
loop-c-preserved-in_default c =
    let dep = Leads c.args.rows.now in
    let i = c.loop-c.c-index in
    let known = c.loop-c.best in
    let b = c.loop-c.invariant in
    bettering_more dep c.args.members.now c.requires.rising i known known c.loop-c-test.true b (kept dep (get_or c.args.members.now i 0) known b.fewest (rw c.in_default.is at c.in_ok-length.ensures))

pub loop-c-preserved : goal.loop-c-preserved
loop-c-preserved c =
    let dep = Leads c.args.rows.now in
    let i = c.loop-c.c-index in
    let known = c.loop-c.best in
    let b = c.loop-c.invariant in
    let found = rw c.in-Some.is at c.in_ok-length.ensures in
    bettering_more dep c.args.members.now c.requires.rising i known _ c.loop-c-test.true b (bettered dep (get_or c.args.members.now i 0) _ known b.fewest found.0 found.1)

pub returns : goal.returns
returns c = is_best (Leads c.args.rows.now) c.args.members.now c.requires.rising c.loop-c.best c.loop-c.c-index (omega arith) c.loop-c.invariant
