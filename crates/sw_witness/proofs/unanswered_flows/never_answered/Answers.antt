use Rattle.std.proofs.Common.{◌<◌, ◌≡◌, ◌≤◌, ap, false, length, subst, true, ◌∙◌}
use Rattle.std.proofs.lemmas.List.{take_all}
use Rattle.sw_config.specs.Entries.{reply_flows}
use Rattle.sw_mend.specs.Changes.{by_number}
use Rattle.sw_witness.specs.Unanswered.{number_if}
use Rattle.sw_witness.proofs.Away.{number_left, number_pushed}
use Rattle.sw_witness.proofs.unanswered_flows.never_answered.Goals as goal

pub loop-number-preserved-then-not-can_not_be_answered : goal.loop-number-preserved-then-not-can_not_be_answered
loop-number-preserved-then-not-can_not_be_answered c =
    let flows = c.args.network.now.flows in
    let number = c.loop-number.number in
    let lt : number < length flows = subst (λ n. number < n) c.declared_flows-number-end.ensures.count c.loop-number-test.true in
    let none : c.can_not_be_answered.result ≡ false = c.if-not-can_not_be_answered.true in
    number_left flows (reply_flows flows) number c.flow.result.now c.can_not_be_answered.result lt c.flow.ensures.flow c.can_not_be_answered.ensures c.loop-number.numbers.items none
    c.loop-number.invariant

pub loop-number-preserved : goal.loop-number-preserved
loop-number-preserved c =
    let flows = c.args.network.now.flows in
    let number = c.loop-number.number in
    let lt : number < length flows = subst (λ n. number < n) c.declared_flows-number-end.ensures.count c.loop-number-test.true in
    let never : c.can_not_be_answered.result ≡ true = c.if-not-can_not_be_answered.false in
    number_pushed flows (reply_flows flows) number c.flow.result.now c.can_not_be_answered.result lt c.flow.ensures.flow c.can_not_be_answered.ensures c.loop-number.numbers.items
    c.push.new.self.items never c.loop-number.invariant c.in_ok-push.ensures.items

pub returns : goal.returns
returns c =
    let flows = c.args.network.now.flows in
    let number = c.loop-number.number in
    let past = subst (λ n. n ≤ number) c.declared_flows-number-end.ensures.count c.loop-number-test.false in
    c.loop-number.invariant ∙ ap (by_number number_if 0) (take_all number flows past)
