use Rattle.std.proofs.Common.{ap, arith, below_more, false, length, refl, subst, true, ◌∙◌, ◌≡◌}
use Rattle.std.specs.Prelude.{is_some}
use Rattle.std.proofs.lemmas.Bool.{false≢true}
use Rattle.sw_history.proofs.Whole.{mapped_told, not_whole, whole}
use Rattle.sw_history.proofs.history.History.is_whole.Goals as goal
use Rattle.sw_history.specs.History.{HistoryView, IsKept}
use Rattle.sw_load.specs.History.{next_packet, packet_of, packets_of}
use Rattle.sw_machine.specs.Model.{network_of}
use Rattle.sw_config.specs.Entries.{Declaration}
use Rattle.sw_config.specs.Valid.{IsValid}

pub returns-then-is_some : goal.returns-then-is_some
returns-then-is_some g c =
    let now = c.args.self.now in
    let some = mapped_told (λ p. packet_of p.now) c.next.result (next_packet (network_of now.declared) (packets_of now.load) now.steps c.loop-node.node) c.is_some.result true c.next.ensures c.is_some.ensures c.if-is_some.true in
    (λ t. absurd (false≢true t), λ all. absurd (not_whole now.declared now.load now.steps c.loop-node.node some all))

pub loop-node-preserved : goal.loop-node-preserved
loop-node-preserved g c =
    let now = c.args.self.now in
    let none = mapped_told (λ p. packet_of p.now) c.next.result (next_packet (network_of now.declared) (packets_of now.load) now.steps c.loop-node.node) c.is_some.result false c.next.ensures c.is_some.ensures c.if-is_some.false in
    below_more (λ k. is_some (next_packet (network_of now.declared) (packets_of now.load) now.steps k) ≡ false) c.loop-node.node c.loop-node.invariant none

pub returns : goal.returns
returns g c =
    let in_self = c.self.inside in
    let now = c.args.self.now in
    let kept = subst (λ (k : HistoryView). IsKept in_self.net k in_self.begun.items in_self.unanswered) c.self.view_is c.self.invariant.0 in
    let same = c.network.ensures.network ∙ kept.network in
    let count = c.nodes-node-end.ensures.count ∙ ap (λ (d : Declaration). length d.nodes) same in
    let test = c.loop-node-test.false in
    let valid = subst IsValid kept.network c.network.ensures.sound.valid in
    (λ t. whole now.declared valid now.load now.steps kept.state kept.leads kept.packets (λ k lt. c.loop-node.invariant k (omega arith)), λ all. refl)
