use Rattle.std.proofs.Common.{arith}
use Rattle.std.proofs.lemmas.Bool.{both_ways}
use Rattle.sw_switch.specs.Cell.{end_at}
use Rattle.sw_switch.specs.Conditions.{Asks}
use Rattle.sw_switch.proofs.Asking.{gathered_to, gathered_with, gathered_without}
use Rattle.sw_switch.proofs.Waiting.{full_where_named}
use Rattle.sw_switch.proofs.cell.SwitchCell.asking.Goals as goal
use Rattle.sw_switch.proofs.cell.SwitchCell.asking.Goals.{then-asks_for, else-asks_for}

pub loop-input-preserved : goal.loop-input-preserved
loop-input-preserved g c =
    let now = c.args.self.now in
    let least = c.in-Some.ensures.least in
    let so_far = gathered_to (Asks g.R.Routing.answer c.args.self.now c.args.out) c.loop-input.asking c.loop-input.from c.in-Some.input c.loop-input.invariant.gathered least.reached
    (λ p le lt asks. least.least p le lt (c.waiting-waiting.ensures.all p asks.linked asks.idle (full_where_named g.R.Routing.answer now.routes (end_at now p).buffer c.args.out asks.names))) in
    rw c.number-from.ensures.value (record {
      within = omega (arith, least.port);
      gathered = elim c.if-asks_for.branch [
        | then-asks_for w ↦
            let asked = c.asks_for.ensures.0 w.if-asks_for.true in
            let asks : Asks g.R.Routing.answer c.args.self.now c.args.out c.in-Some.input = record { linked = c.waiting-waiting.ensures.linked c.in-Some.input least.member; idle = asked.0; names = asked.1 } in
            rw w.asking-is (gathered_with (Asks g.R.Routing.answer c.args.self.now c.args.out) c.loop-input.asking w.with-asking.result c.in-Some.input so_far asks w.with-asking.ensures.added w.with-asking.ensures.others)
        | else-asks_for w ↦
            rw w.asking-is (gathered_without (Asks g.R.Routing.answer c.args.self.now c.args.out) c.loop-input.asking c.in-Some.input so_far
            (λ asks. both_ways c.asks_for.result w.if-asks_for.false (c.asks_for.ensures.1 (asks.idle, asks.names))))
      ];
    })
