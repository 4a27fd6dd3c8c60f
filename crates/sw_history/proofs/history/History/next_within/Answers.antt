use Rattle.std.proofs.Common.{Some, ap, length, subst, sym, ◌<◌, ◌∙◌, ◌≡◌, ◌≤◌}
use Rattle.sw_config.specs.Entries.{Declaration}
use Rattle.sw_config.specs.Valid.{IsValid}
use Rattle.sw_history.proofs.Idle.{if_mapped, none_mapped}
use Rattle.sw_history.proofs.Noting.{same_senders}
use Rattle.sw_history.proofs.Within.{kept_none, kept_some, read_next}
use Rattle.sw_history.proofs.history.History.next_within.Goals as goal
use Rattle.sw_history.specs.History.{HistoryView, IsKept, Keeps}
use Rattle.sw_history.specs.Next.{begin_of}
use Rattle.sw_load.specs.History.{next_packet, packet_of, packets_of}
use Rattle.sw_load.specs.Load.{packet_count}
use Rattle.sw_machine.specs.Model.{network_of}

pub within_limit-requires : goal.within_limit-requires
within_limit-requires g c =
    let same = c.network.ensures.network ∙ ap (λ (k : HistoryView). k.declared) c.self.view_is in
    record {
      network = c.self.invariant.1 ∙ sym c.network.ensures.network;
      node = subst (λ (d : Declaration). c.args.node < length d.nodes) (sym same) c.requires;
    }

pub returns-clause-some : goal.returns-clause-some
returns-clause-some g c =
    let in_self = c.self.inside in
    let now = c.args.self.now in
    let node = c.args.node in
    let kept = subst (λ (k : HistoryView). IsKept in_self.net k in_self.begun.items in_self.unanswered) c.self.view_is c.self.invariant.0 in
    let same = c.network.ensures.network ∙ ap (λ (k : HistoryView). k.declared) c.self.view_is in
    let valid = subst IsValid kept.network c.network.ensures.sound.valid in
    let total = subst (λ k. k ≤ 65536) (c.total-total.ensures.count ∙ ap packet_count c.load.ensures ∙ ap (λ (k : HistoryView). packet_count k.load) c.self.view_is) c.total-total.ensures.few in
    let senders = same_senders in_self.senders in_self.net.declared now c.self.invariant.1 (ap (λ (k : HistoryView). k.declared) c.self.view_is) (ap (λ (k : HistoryView). k.load) c.self.view_is) in
    let read = read_next in_self.net now in_self.begun.items kept valid total node in_self.senders senders c.network.result.now same c.index.result.now c.requires c.index.ensures (λ p. packet_of p.now) c.within_limit.result c.within_limit.ensures in
    if_mapped (λ p. packet_of p.now) (λ b. next_packet (network_of now.declared) (packets_of now.load) now.steps node ≡ Some b) c.within_limit.result _ read (λ b is. (kept_some in_self.net now in_self.begun.items kept valid total node b is).0)

pub returns-clause-keeps : goal.returns-clause-keeps
returns-clause-keeps g c =
    let in_self = c.self.inside in
    let now = c.args.self.now in
    let node = c.args.node in
    let kept = subst (λ (k : HistoryView). IsKept in_self.net k in_self.begun.items in_self.unanswered) c.self.view_is c.self.invariant.0 in
    let same = c.network.ensures.network ∙ ap (λ (k : HistoryView). k.declared) c.self.view_is in
    let valid = subst IsValid kept.network c.network.ensures.sound.valid in
    let total = subst (λ k. k ≤ 65536) (c.total-total.ensures.count ∙ ap packet_count c.load.ensures ∙ ap (λ (k : HistoryView). packet_count k.load) c.self.view_is) c.total-total.ensures.few in
    let senders = same_senders in_self.senders in_self.net.declared now c.self.invariant.1 (ap (λ (k : HistoryView). k.declared) c.self.view_is) (ap (λ (k : HistoryView). k.load) c.self.view_is) in
    let read = read_next in_self.net now in_self.begun.items kept valid total node in_self.senders senders c.network.result.now same c.index.result.now c.requires c.index.ensures (λ p. packet_of p.now) c.within_limit.result c.within_limit.ensures in
    if_mapped (λ p. packet_of p.now) (λ b. Keeps now (begin_of b)) c.within_limit.result _ read (λ b is. (kept_some in_self.net now in_self.begun.items kept valid total node b is).1)

pub returns-clause-none : goal.returns-clause-none
returns-clause-none g c =
    let in_self = c.self.inside in
    let now = c.args.self.now in
    let node = c.args.node in
    let kept = subst (λ (k : HistoryView). IsKept in_self.net k in_self.begun.items in_self.unanswered) c.self.view_is c.self.invariant.0 in
    let same = c.network.ensures.network ∙ ap (λ (k : HistoryView). k.declared) c.self.view_is in
    let valid = subst IsValid kept.network c.network.ensures.sound.valid in
    let total = subst (λ k. k ≤ 65536) (c.total-total.ensures.count ∙ ap packet_count c.load.ensures ∙ ap (λ (k : HistoryView). packet_count k.load) c.self.view_is) c.total-total.ensures.few in
    let senders = same_senders in_self.senders in_self.net.declared now c.self.invariant.1 (ap (λ (k : HistoryView). k.declared) c.self.view_is) (ap (λ (k : HistoryView). k.load) c.self.view_is) in
    let read = read_next in_self.net now in_self.begun.items kept valid total node in_self.senders senders c.network.result.now same c.index.result.now c.requires c.index.ensures (λ p. packet_of p.now) c.within_limit.result c.within_limit.ensures in
    none_mapped (λ p. packet_of p.now) _ c.within_limit.result _ read (kept_none in_self.net now in_self.begun.items kept valid total node)
