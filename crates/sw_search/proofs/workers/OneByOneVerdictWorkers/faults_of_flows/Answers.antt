use Rattle.std.proofs.Common.{◌≡◌, length, arith}
use Rattle.std.specs.List.{range_with_len}
use Rattle.std.proofs.lemmas.Slice.Zip.{all_zipped_more}
use Rattle.sw_graph.proofs.Ranges.{range_more}
use Rattle.sw_config.specs.Entries.{all_flows}
use Rattle.sw_search.specs.Lists.{IsFirstFault}
use Rattle.sw_search.proofs.Faulty.{faults_are}
use Rattle.sw_search.proofs.workers.OneByOneVerdictWorkers.faults_of_flows.Goals as goal

pub loop-number-preserved : goal.loop-number-preserved
loop-number-preserved c =
    let n = c.loop-number.number in
    rw (c.in_ok-push.ensures.items, range_more n)
    (all_zipped_more (IsFirstFault c.args.network.now) (range_with_len 0 n) c.loop-number.faults.items n c.fault_of_flow.result c.loop-number.invariant c.fault_of_flow.ensures)

pub returns : goal.returns
returns c =
    let n = c.loop-number.number in
    let all : n ≡ length (all_flows c.args.network.now) = omega (arith, c.loop-number-test.false, c.loop-number.auto.number-end, c.flows-number-end.ensures.count) in
    faults_are c.args.network.now n c.loop-number.faults.items all c.loop-number.invariant
