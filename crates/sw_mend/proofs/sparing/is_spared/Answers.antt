use Rattle.std.proofs.Common.{List, subst}
use Rattle.sw_mend.specs.Spared.{SparesFlows, SparesLooks, SparesReplies}
use Rattle.sw_mend.proofs.sparing.is_spared.Goals as goal

pub returns : goal.returns
returns c told =
    let d = c.args.network.now in
    let change = c.args.change.now in
    let kept = subst (λ (l : List _). SparesFlows d change l × SparesReplies d change l) c.deref-2.ensures.value (c.spares_answered.ensures c.if-not-spares_answered.false) in
    record {
      flows = subst (SparesFlows d change) c.deref.ensures.value (c.spares_flows.ensures c.if-not-spares_flows.false);
      answered = kept.0;
      replies = kept.1;
      looks = subst (SparesLooks d change) c.deref-3.ensures.value (c.spares_looks.ensures told);
    }
