use Rattle.std.proofs.Common.{ap}
use Rattle.std.proofs.lemmas.Result.{IfOk-weaker}
use Rattle.sw_cycle.specs.Cycles.{cause_of}
use Rattle.sw_mend.proofs.Using.{way_added}
use Rattle.sw_mend.proofs.uses.add_uses.Goals as goal

pub returns-else-number-flows : goal.returns-else-number-flows
returns-else-number-flows c =
    IfOk-weaker c.add_flow.result _ _
    (λ _ more. way_added c.args.network.now c.args.uses.now _ c.add_flow.new.uses (cause_of c.args.cause.now) c.in-Flow.number c.in-Flow.places.items c.deref.result.now
    c.flow.result.now (ap cause_of c.in-Flow.is) c.deref.ensures.value c.flow.ensures.flow
    (record { flows = λ k there. there; answered = λ k there. there; limits = λ set. set; bytes = c.mark_bytes.ensures.stay }) c.mark_bytes.ensures.used more)
    c.add_flow.ensures
