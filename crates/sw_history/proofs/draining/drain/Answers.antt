use Rattle.std.proofs.Common.{List, [], ap, length, refl, subst, sym, ◌∙◌}
use Rattle.std.specs.Prelude.{IfOk, OnErr, replicate}
use Rattle.sw_config.specs.Entries.{Declaration}
use Rattle.sw_history.proofs.Loop.{new_way, under_way}
use Rattle.sw_history.proofs.Turned.{no_turn}
use Rattle.sw_history.proofs.draining.drain.Goals as goal
use Rattle.sw_history.specs.Drained.{IsDrained, IsUnderWay}
use Rattle.sw_history.specs.Turns.{TurnsLead}
use Rattle.sw_load.specs.Laws.{AreDeclared}
use Rattle.sw_load.specs.Load.{LoadEntry}
use Rattle.sw_net.specs.Unanswered.{nothing_counted}

pub returns-in_err-begun-clause-refused : goal.returns-in_err-begun-clause-refused
returns-in_err-begun-clause-refused g c =
    let v = c.args.net.now in
    let nodes = length v.declared.nodes in
    under_way c.args.load.now v v (replicate nodes 0) (nothing_counted nodes) [] 0 (new_way c.args.load.now v (replicate nodes 0) (nothing_counted nodes) nodes refl refl c.requires.empty refl) refl c.from_residual.result

pub returns-in_err-begun-clause-turns : goal.returns-in_err-begun-clause-turns
returns-in_err-begun-clause-turns g c = ([], c.args.pick, no_turn c.args.load.now _ c.args.net.now c.args.pick)

pub returns-clause-drained : goal.returns-clause-drained
returns-clause-drained g c = subst (λ (l : List LoadEntry). IfOk c.send_all-sent.result (λ count. IsDrained l c.send_all-sent.new.net count)) c.in_ok-begun.ensures.load c.send_all-sent.ensures.drained

pub returns-clause-refused : goal.returns-clause-refused
returns-clause-refused g c = subst (λ (l : List LoadEntry). OnErr c.send_all-sent.result (IsUnderWay l c.send_all-sent.new.net)) c.in_ok-begun.ensures.load c.send_all-sent.ensures.refused

pub returns-clause-turns : goal.returns-clause-turns
returns-clause-turns g c =
    let turns = c.send_all-sent.ensures.turns in
    (turns.0, turns.1, subst (λ (l : List LoadEntry). TurnsLead l (goal.F-step g) c.args.net.now c.args.pick c.send_all-sent.new.net turns.0 turns.1) c.in_ok-begun.ensures.load turns.2)

pub nothing_begun-requires : goal.nothing_begun-requires
nothing_begun-requires g c = subst (λ (d : Declaration). AreDeclared d c.args.load.now) (sym c.network.ensures.network) c.requires.packets

pub send_all-sent-requires : goal.send_all-sent-requires
send_all-sent-requires g c = record {
  empty = c.requires.empty;
  passed = c.requires.passed;
  packets = subst (λ (l : List LoadEntry). AreDeclared c.args.net.now.declared l) (sym c.in_ok-begun.ensures.load) c.requires.packets;
  network = c.in_ok-begun.ensures.network ∙ c.network.ensures.network;
  begun = c.as_mut_slice.ensures.value ∙ c.in_ok-begun.ensures.begun ∙ ap (λ (d : Declaration). replicate (length d.nodes) 0) c.network.ensures.network;
  counts = c.in_ok-begun.ensures.unanswered ∙ ap (λ (d : Declaration). nothing_counted (length d.nodes)) c.network.ensures.network;
  pick = c.requires.pick;
}

pub returns-clause-network : goal.returns-clause-network
returns-clause-network g c = c.send_all-sent.ensures.network
