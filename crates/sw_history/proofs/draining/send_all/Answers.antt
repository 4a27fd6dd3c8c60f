use Rattle.std.proofs.Common.{List, [], ap, length, refl, subst, sym, ◌++◌, ◌∙◌, ◌∷◌, ◌≤◌}
use Rattle.sw_history.proofs.Loop.{finished, never_over, new_way, none_begin, one_moved, under_way}
use Rattle.sw_history.proofs.Ready.{all_counted}
use Rattle.sw_history.proofs.Turned.{begun_turn, moved_turn, no_turn, turned}
use Rattle.sw_history.proofs.Way.{one_longer}
use Rattle.sw_history.proofs.draining.send_all.Goals as goal
use Rattle.sw_history.specs.Next.{begin_of}
use Rattle.sw_history.specs.Way.{BeginsOne, CountsMove, MovesOne, MovesPicked, NoneMayBegin}
use Rattle.sw_load.specs.History.{packets_of}
use Rattle.sw_load.specs.Laws.{AreDeclared}
use Rattle.sw_load.specs.Load.{LoadEntry, packet_count}
use Rattle.sw_load.specs.Limit.{enough_limit}
use Rattle.sw_machine.specs.Certificate.{IsAccepted}
use Rattle.sw_machine.specs.DeadlockFreedom.{IsFree}
use Rattle.sw_machine.specs.Model.{network_of}
use Rattle.sw_machine.specs.Steps.{Step}
use Rattle.sw_net.specs.Net.{NetView}
use Rattle.sw_config.specs.Entries.{Declaration}
use Rattle.sw_config.specs.Valid.{IsValid}

pub loop-init : goal.loop-init
loop-init g c = (refl, [], refl, new_way c.args.senders.now.load c.args.net.now c.args.begun.now c.args.unanswered.now _ c.requires.begun c.requires.counts c.requires.empty refl, no_turn c.args.senders.now.load _ c.args.net.now c.args.pick.now)

pub loop-preserved-then-branch : goal.loop-preserved-then-branch
loop-preserved-then-branch g c =
    let load = c.args.senders.now.load in
    let v = c.loop.net in
    let u = c.begin_one.new.net in
    let steps = c.loop.invariant.1 in
    let begins = subst (λ k. BeginsOne load v c.loop.begun c.loop.unanswered k u c.begin_one.new.begun c.begin_one.new.unanswered) c.if-branch.true c.in_ok-begin_one.ensures.begins in
    let one = begins steps c.loop.moves c.loop.invariant.3 in
    let long = ap (λ (l : List Step). length l) (one.1).adds ∙ one_longer steps (begin_of (one.1).packet) c.loop.counter c.loop.invariant.2 in (
      c.begin_one.ensures.network ∙ c.loop.invariant.0,
      one.0,
      long,
      one.2,
      begun_turn load _ c.args.net.now c.args.pick.now v u steps one.0 c.loop.pick c.loop.invariant.4 one.1,
    )

pub loop-preserved : goal.loop-preserved
loop-preserved g c =
    let load = c.args.senders.now.load in
    let v = c.loop.net in
    let u = c.begin_one.new.net in
    let w = c.move_picked.new.net in
    let steps = c.loop.invariant.1 in
    let begins = subst (λ k. BeginsOne load v c.loop.begun c.loop.unanswered k u c.begin_one.new.begun c.begin_one.new.unanswered) c.if-branch.false c.in_ok-begin_one.ensures.begins in
    let d = c.args.net.now.declared in
    let valid = c.network.ensures.sound.valid in
    let shown = c.is_deadlock_free.ensures in
    let cert = shown.0 in
    let free = subst (λ (e : Declaration). IsFree (network_of e) cert) c.requires.passed shown.2 in
    let total = subst (λ n. n ≤ 65536) (c.total-total.ensures.count ∙ ap packet_count c.load.ensures) c.total-total.ensures.few in
    let yes = c.if-not-branch.false in
    let picked = c.in_ok-move_picked.ensures.moves in
    let moved = subst (λ k. (p : MovesPicked (goal.F-step g) u c.loop.pick k w c.move_picked.new.pick) × CountsMove u c.begin_one.new.unanswered p.index k w c.move_picked.new.unanswered p.moved) yes picked in
    let same = c.begin_one.ensures.network ∙ c.loop.invariant.0 in
    let none = none_begin load v u w c.loop.begun c.begin_one.new.begun c.loop.unanswered c.begin_one.new.unanswered c.move_picked.new.unanswered steps c.loop.moves begins c.loop.invariant.3 d c.loop.invariant.0 valid c.requires.packets total cert free.within_limits in
    let all_valid = subst IsValid (sym same) valid in
    let on = one_moved load v u w c.loop.begun c.begin_one.new.begun c.loop.unanswered c.begin_one.new.unanswered c.move_picked.new.unanswered steps c.loop.moves begins c.loop.invariant.3 (moved.0).index (moved.0).moved moved.1 c.move_picked.ensures.network all_valid total in
    let turns = moved_turn load (goal.F-step g) c.args.net.now c.args.pick.now u w steps c.loop.pick c.move_picked.new.pick (turned load (goal.F-step g) c.args.net.now c.args.pick.now v u steps c.loop.pick c.loop.invariant.4 begins.0) (subst (λ (k : NetView g.row.R.Denot g.row.A.Denot). NoneMayBegin load k steps) (sym begins.0) none) moved.0 in (
      c.move_picked.ensures.network ∙ same,
      steps ++ (((moved.0).moved).2).step ∷ [],
      one_longer steps (((moved.0).moved).2).step c.loop.counter c.loop.invariant.2,
      on,
      turns,
    )

pub returns-then-not-branch-clause-drained : goal.returns-then-not-branch-clause-drained
returns-then-not-branch-clause-drained g c =
    let load = c.args.senders.now.load in
    let v = c.loop.net in
    let u = c.begin_one.new.net in
    let w = c.move_picked.new.net in
    let steps = c.loop.invariant.1 in
    let begins = subst (λ k. BeginsOne load v c.loop.begun c.loop.unanswered k u c.begin_one.new.begun c.begin_one.new.unanswered) c.if-branch.false c.in_ok-begin_one.ensures.begins in
    let d = c.args.net.now.declared in
    let valid = c.network.ensures.sound.valid in
    let shown = c.is_deadlock_free.ensures in
    let cert = shown.0 in
    let free = subst (λ (e : Declaration). IsFree (network_of e) cert) c.requires.passed shown.2 in
    let total = subst (λ n. n ≤ 65536) (c.total-total.ensures.count ∙ ap packet_count c.load.ensures) c.total-total.ensures.few in
    let no = c.if-not-branch.true in
    let picked = c.in_ok-move_picked.ensures.moves.0 in
    let stops = subst (λ k. MovesOne u picked.index k w) no picked.moved in
    finished load v u w c.loop.begun c.begin_one.new.begun c.loop.unanswered c.begin_one.new.unanswered c.move_picked.new.unanswered steps c.loop.moves begins c.loop.invariant.3 d c.loop.invariant.0 valid c.requires.packets total cert free.within_limits
    (subst (λ (e : Declaration). IsAccepted (network_of e) cert) c.requires.passed shown.1) g.R.Routing.answer g.A.Arbiter.ports c.network-network.ensures.sound picked.index stops

pub begin_one-requires : goal.begin_one-requires
begin_one-requires g c =
    let load = c.args.senders.now.load in
    record {
      packets = subst (λ (e : Declaration). AreDeclared e load) (sym c.loop.invariant.0) c.requires.packets;
      network = c.requires.network ∙ sym c.loop.invariant.0;
      nodes = (c.loop.invariant.3).all_nodes;
    }

pub returns-in_err-begin_one-clause-refused : goal.returns-in_err-begin_one-clause-refused
returns-in_err-begin_one-clause-refused g c =
    under_way c.args.senders.now.load c.loop.net c.begin_one.new.net c.loop.begun c.loop.unanswered c.loop.invariant.1 c.loop.moves c.loop.invariant.3 c.in_err-begin_one.ensures.refused c.from_residual.result

pub returns-in_err-begin_one-clause-turns : goal.returns-in_err-begin_one-clause-turns
returns-in_err-begin_one-clause-turns g c =
    (c.loop.invariant.1, c.loop.pick, turned c.args.senders.now.load _ c.args.net.now c.args.pick.now c.loop.net c.begin_one.new.net c.loop.invariant.1 c.loop.pick c.loop.invariant.4 c.in_err-begin_one.ensures.refused)

pub returns-in_err-move_picked-clause-refused : goal.returns-in_err-move_picked-clause-refused
returns-in_err-move_picked-clause-refused g c =
    let load = c.args.senders.now.load in
    let v = c.loop.net in
    let u = c.begin_one.new.net in
    let w = c.move_picked.new.net in
    let steps = c.loop.invariant.1 in
    let begins = subst (λ k. BeginsOne load v c.loop.begun c.loop.unanswered k u c.begin_one.new.begun c.begin_one.new.unanswered) c.if-branch.false c.in_ok-begin_one.ensures.begins in
    under_way load v w c.loop.begun c.loop.unanswered steps c.loop.moves c.loop.invariant.3 (c.in_err-move_picked.ensures.refused ∙ begins.0) c.from_residual-in_err-move_picked.result

pub returns-in_err-move_picked-clause-turns : goal.returns-in_err-move_picked-clause-turns
returns-in_err-move_picked-clause-turns g c =
    let load = c.args.senders.now.load in
    let v = c.loop.net in
    let u = c.begin_one.new.net in
    let w = c.move_picked.new.net in
    let steps = c.loop.invariant.1 in
    let begins = subst (λ k. BeginsOne load v c.loop.begun c.loop.unanswered k u c.begin_one.new.begun c.begin_one.new.unanswered) c.if-branch.false c.in_ok-begin_one.ensures.begins in
    (steps, c.loop.pick, turned load _ c.args.net.now c.args.pick.now v w steps c.loop.pick c.loop.invariant.4 (c.in_err-move_picked.ensures.refused ∙ begins.0))

pub returns-then-not-branch-clause-turns : goal.returns-then-not-branch-clause-turns
returns-then-not-branch-clause-turns g c =
    let load = c.args.senders.now.load in
    let v = c.loop.net in
    let u = c.begin_one.new.net in
    let w = c.move_picked.new.net in
    let steps = c.loop.invariant.1 in
    let begins = subst (λ k. BeginsOne load v c.loop.begun c.loop.unanswered k u c.begin_one.new.begun c.begin_one.new.unanswered) c.if-branch.false c.in_ok-begin_one.ensures.begins in
    let no = c.if-not-branch.true in
    let picked = c.in_ok-move_picked.ensures.moves.0 in
    let stops = subst (λ k. MovesOne u picked.index k w) no picked.moved in
    (steps, c.loop.pick, turned load _ c.args.net.now c.args.pick.now v w steps c.loop.pick c.loop.invariant.4 (stops.0 ∙ begins.0))

pub unreachable-requires : goal.unreachable-requires
unreachable-requires g c =
    let load = c.args.senders.now.load in
    let d = c.args.net.now.declared in
    let valid = c.network.ensures.sound.valid in
    let shown = c.is_deadlock_free.ensures in
    let cert = shown.0 in
    let free = subst (λ (e : Declaration). IsFree (network_of e) cert) c.requires.passed shown.2 in
    let over = all_counted c.loop.counter c.enough_limit-end.result c.enough_limit-end.result c.loop-test.false c.loop.auto.counter-end refl in
    never_over load c.loop.net c.loop.begun c.loop.unanswered c.loop.invariant.1 c.loop.moves c.loop.invariant.3 d c.loop.invariant.0 valid c.requires.packets cert free.within_limits
    (c.loop.invariant.2 ∙ over ∙ c.enough_limit-end.ensures ∙ ap (λ l. enough_limit (network_of c.network.result.now) (packets_of l)) c.load-2.ensures ∙ ap (λ (e : Declaration). enough_limit (network_of e) (packets_of load)) c.network.ensures.network)

pub enough_limit-end-requires : goal.enough_limit-end-requires
enough_limit-end-requires g c =
    subst (λ (e : Declaration). AreDeclared e c.load-2.result.now) (sym c.network.ensures.network) (subst (λ (l : List LoadEntry). AreDeclared c.args.net.now.declared l) (sym c.load-2.ensures) c.requires.packets)

pub returns-in_err-begin_one-clause-network : goal.returns-in_err-begin_one-clause-network
returns-in_err-begin_one-clause-network g c = c.begin_one.ensures.network ∙ c.loop.invariant.0

pub returns-in_err-move_picked-clause-network : goal.returns-in_err-move_picked-clause-network
returns-in_err-move_picked-clause-network g c = c.move_picked.ensures.network ∙ c.begin_one.ensures.network ∙ c.loop.invariant.0

pub returns-then-not-branch-clause-network : goal.returns-then-not-branch-clause-network
returns-then-not-branch-clause-network g c = c.move_picked.ensures.network ∙ c.begin_one.ensures.network ∙ c.loop.invariant.0

pub returns-then-not-branch-clause-refused : goal.returns-then-not-branch-clause-refused
returns-then-not-branch-clause-refused g c = tt
