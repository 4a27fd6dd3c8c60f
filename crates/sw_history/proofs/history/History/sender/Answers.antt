use Rattle.std.proofs.Common.{Some, ap, refl, subst, sym, ◌∙◌}
use Rattle.std.proofs.lemmas.Bool.{false≢true}
use Rattle.std.proofs.lemmas.Option.{same_Some}
use Rattle.sw_history.specs.History.{HistoryView, Keeps, LeadsTo}
use Rattle.sw_history.specs.Next.{begin_of}
use Rattle.sw_history.proofs.Kept.{not_next, sender_from, undeclared}
use Rattle.sw_machine.specs.Begun.{Begun}
use Rattle.sw_history.proofs.history.History.sender.Goals as goal

pub returns-then-flow-declared_flows-clause-none : goal.returns-then-flow-declared_flows-clause-none
returns-then-flow-declared_flows-clause-none g c =
    let same = c.network-network.ensures.network ∙ ap (λ (k : HistoryView). k.declared) c.self.view_is in
    let leads = subst (λ (k : HistoryView). LeadsTo k c.self.invariant.0.state) c.self.view_is c.self.invariant.0.leads in
    undeclared c.args.self.now c.self.invariant.0.state leads c.network-network.result.now c.args.flow c.declared_flows.result c.args.cargo.now c.args.end same c.declared_flows.ensures.count c.if-flow-declared_flows.true

pub returns-then-is_same-clause-some : goal.returns-then-is_same-clause-some
returns-then-is_same-clause-some g c =
    let same = c.network-network.ensures.network ∙ ap (λ (k : HistoryView). k.declared) c.self.view_is in
    sender_from c.args.self.now.declared c.network-network.result.now c.args.flow c.from-node.result c.flow.result.now same c.flow.ensures.flow c.from-node.ensures

pub returns-then-is_same-clause-next : goal.returns-then-is_same-clause-next
returns-then-is_same-clause-next g c = c.in-Some.ensures.some ∙ ap Some (c.if-is_same.ensures.0 refl)

pub returns-then-is_same-clause-keeps : goal.returns-then-is_same-clause-keeps
returns-then-is_same-clause-keeps g c = subst (λ (b : Begun). Keeps c.args.self.now (begin_of b)) (c.if-is_same.ensures.0 refl) c.in-Some.ensures.keeps

pub returns-else-is_same-clause-none : goal.returns-else-is_same-clause-none
returns-else-is_same-clause-none g c =
    let same = c.network-network.ensures.network ∙ ap (λ (k : HistoryView). k.declared) c.self.view_is in
    let from = sender_from c.args.self.now.declared c.network-network.result.now c.args.flow c.from-node.result c.flow.result.now same c.flow.ensures.flow c.from-node.ensures in
    let leads = subst (λ (k : HistoryView). LeadsTo k c.self.invariant.0.state) c.self.view_is c.self.invariant.0.leads in
    not_next c.args.self.now c.self.invariant.0.state leads c.args.flow c.args.cargo.now c.args.end c.from-node.result from
    (λ next. absurd (false≢true (c.if-is_same.ensures.1 (same_Some _ _ (sym c.in-Some.ensures.some ∙ next)))))

pub returns-in-None-clause-none : goal.returns-in-None-clause-none
returns-in-None-clause-none g c =
    let same = c.network-network.ensures.network ∙ ap (λ (k : HistoryView). k.declared) c.self.view_is in
    let from = sender_from c.args.self.now.declared c.network-network.result.now c.args.flow c.from-node.result c.flow.result.now same c.flow.ensures.flow c.from-node.ensures in
    λ next. c.in-None.ensures.none (record { packet = record { flow = c.args.flow; cargo = c.args.cargo.now; end = c.args.end }; from = sym from; follows = next })
