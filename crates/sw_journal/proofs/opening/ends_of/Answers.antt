use Rattle.std.proofs.Common.{[], ap, arith, false, length, subst, true, ◌++◌, ◌∷◌, ◌∙◌, ◌≡◌}
use Rattle.std.specs.List.{range_with_len}
use Rattle.sw_journal.proofs.Opened.{numbered_more, numbered_none, numbered_one, stood_at}
use Rattle.sw_journal.proofs.opening.ends_of.Goals as goal
use Rattle.sw_journal.specs.Opening.{numbered_of}
use Rattle.sw_machine.specs.State.{empty}
use Rattle.sw_machine.specs.Model.{network_of}
use Rattle.sw_net.proofs.Delivered.{channel_count}
use Rattle.sw_config.specs.Entries.{Declaration}

pub loop-number-preserved-then-not-stands_at : goal.loop-number-preserved-then-not-stands_at
loop-number-preserved-then-not-stands_at c =
    let net = network_of c.args.net.now.declared in
    let ends = c.loop-number.ends.items in
    let none = stood_at _ c.args.net.now.declared c.args.id c.new-end.result c.stands_at.result false c.network-in-loop-number.ensures.network c.stands_at.ensures c.if-not-stands_at.true in
    let next = subst (λ k. ends ≡ ends ++ numbered_of net (empty net) c.args.id (k ∷ [])) c.new-end.ensures (numbered_none net (empty net) c.args.id c.new-end.result ends none) in
    numbered_more net (empty net) c.args.id c.loop-number.number ends ends c.loop-number.invariant next

pub loop-number-preserved : goal.loop-number-preserved
loop-number-preserved c =
    let net = network_of c.args.net.now.declared in
    let ends = c.loop-number.ends.items in
    let after = c.push.new.self.items in
    let here = stood_at _ c.args.net.now.declared c.args.id c.new-end.result c.stands_at.result true c.network-in-loop-number.ensures.network c.stands_at.ensures c.if-not-stands_at.false in
    let one = numbered_one net (empty net) c.args.id c.new-end.result c.numbers.result ends after here (c.numbers.ensures (empty net) c.requires) c.in_ok-push.ensures.items in
    let next = subst (λ k. after ≡ ends ++ numbered_of net (empty net) c.args.id (k ∷ [])) c.new-end.ensures one in
    numbered_more net (empty net) c.args.id c.loop-number.number ends after c.loop-number.invariant next

pub returns : goal.returns
returns c =
    let net = network_of c.args.net.now.declared in
    let links = ap (λ (d : Declaration). length d.links) c.network.ensures.network in
    let count = channel_count c.args.net.now.declared in
    let all = c.channels-number-end.ensures.count in
    let test = c.loop-number-test.false in
    let most = c.loop-number.auto.number-end in
    let same : c.loop-number.number ≡ net.channels = omega arith in
    c.loop-number.invariant ∙ ap (λ n. numbered_of net (empty net) c.args.id (range_with_len 0 n)) same
