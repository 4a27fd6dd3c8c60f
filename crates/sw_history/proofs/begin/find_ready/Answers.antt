use Rattle.std.proofs.Common.{Bor, Some, ap, below_more, false, length, refl, subst, sym, ℕ, ◌<◌, ◌∙◌, ◌≡◌}
use Rattle.std.proofs.lemmas.Option.{get_or_from_slice_get, slice_get_within}
use Rattle.std.specs.Prelude.{slice_get, slice_index}
use Rattle.sw_config.specs.Entries.{Declaration}
use Rattle.sw_history.proofs.Ready.{below_end, not_ready, read_ready, ready_if}
use Rattle.sw_history.proofs.begin.find_ready.Goals as goal
use Rattle.sw_history.specs.Way.{IsReady}
use Rattle.sw_load.specs.History.{packet_of}
use Rattle.sw_load.specs.declared.load.LoadPacket.{LoadPacket}
use Rattle.sw_net.specs.Possible.{TellsBeginning}

pub within_limit-requires : goal.within_limit-requires
within_limit-requires g c =
    let same = c.network-network.ensures.network in
    let count = c.nodes-node-end.ensures.count in
    record {
      network = c.requires.network ∙ sym same;
      node = subst (λ n. c.loop-node.node < n) count c.loop-node-test.true;
    }

pub loop-node-preserved-then-not-can_begin : goal.loop-node-preserved-then-not-can_begin
loop-node-preserved-then-not-can_begin g c =
    let v = c.args.net.now in
    let node = c.loop-node.node in
    below_more (λ n. (k : ℕ) → slice_get c.args.begun.now n ≡ Some k → IsReady c.args.senders.now.load v c.args.unanswered.now n k false) node c.loop-node.invariant
    (λ k h. not_ready c.args.senders.now.load v c.args.unanswered.now node k (subst (TellsBeginning v node) c.if-not-can_begin.true c.can_begin.ensures))

pub loop-node-preserved : goal.loop-node-preserved
loop-node-preserved g c =
    let load = c.args.senders.now.load in
    let v = c.args.net.now in
    let begun = c.args.begun.now in
    let node = c.loop-node.node in
    let packet = λ (p : Bor LoadPacket). packet_of p.now in
    let count = slice_index begun node in
    let counts = c.args.unanswered.now in
    let next = read_ready load v counts node count packet c.within_limit.result c.network-network.result.now c.args.senders.now c.network-network.ensures.network c.requires.network refl c.within_limit.ensures in
    let tells = subst (TellsBeginning v node) c.if-not-can_begin.false c.can_begin.ensures in
    let none = subst (IsReady load v counts node count) (sym c.is_some.ensures ∙ c.if-is_some.false) (ready_if load v counts node count packet c.within_limit.result next tells) in
    below_more (λ n. (k : ℕ) → slice_get begun n ≡ Some k → IsReady load v counts n k false) node c.loop-node.invariant
    (λ k h. subst (λ j. IsReady load v counts node j false) (get_or_from_slice_get begun node k 0 h) none)

pub returns-then-is_some-clause-ready : goal.returns-then-is_some-clause-ready
returns-then-is_some-clause-ready g c =
    let load = c.args.senders.now.load in
    let v = c.args.net.now in
    let begun = c.args.begun.now in
    let node = c.loop-node.node in
    let packet = λ (p : Bor LoadPacket). packet_of p.now in
    let count = slice_index begun node in
    let counts = c.args.unanswered.now in
    let next = read_ready load v counts node count packet c.within_limit.result c.network-network.result.now c.args.senders.now c.network-network.ensures.network c.requires.network refl c.within_limit.ensures in
    let tells = subst (TellsBeginning v node) c.if-not-can_begin.false c.can_begin.ensures in
    subst (IsReady load v counts node count) (sym c.is_some.ensures ∙ c.if-is_some.true) (ready_if load v counts node count packet c.within_limit.result next tells)

pub returns-clause-none : goal.returns-clause-none
returns-clause-none g c = λ n k h.
    let same = ap (λ (d : Declaration). length d.nodes) c.network-network.ensures.network in
    c.loop-node.invariant n (below_end n (length c.args.begun.now) c.nodes-node-end.result c.loop-node.node (slice_get_within c.args.begun.now n k h) (c.requires.nodes ∙ sym (c.nodes-node-end.ensures.count ∙ same)) c.loop-node-test.false) k h
