use Rattle.std.proofs.Common.{None, Some, ap, length, refl, subst, ◌∙◌, ◌≡◌}
use Rattle.std.specs.Prelude.{Err, slice_get}
use Rattle.sw_flow.specs.Places.{ends_of}
use Rattle.sw_machine.specs.StepValues.{machine_step}
use Rattle.sw_net.proofs.Making.{not_refused, not_undeclared, plain_moves, wants_room}
use Rattle.sw_net.proofs.Told.{start_at_switch}
use Rattle.sw_net.proofs.net.Net.step_of.Goals as goal
use Rattle.sw_net.specs.Making.{TellsReady}
use Rattle.sw_topo.specs.Checked.{IsIn}

pub returns-in-Ok-clause-moves : goal.returns-in-Ok-clause-moves
returns-in-Ok-clause-moves g c =
    plain_moves g.R.Routing.answer g.A.Arbiter.policy c.args.self.now c.step.new.self c.args.end (machine_step c.in-Some.step) c.in-Some.ensures.plain c.in-Some.ensures.belongs c.in-Ok.ensures.answers c.step.ensures.arbiters

pub returns-in-Memory-clause-moves : goal.returns-in-Memory-clause-moves
returns-in-Memory-clause-moves g c =
    wants_room c.args.self.now c.step.new.self c.args.end (machine_step c.in-Some.step) c.in-Some.ensures.plain c.in-Some.ensures.possible c.in-Some.ensures.belongs c.step.result c.step.ensures.answers c.step.ensures.refused (c.in-Err.is ∙ ap Err c.in-Memory.is)

pub unreachable-requires : goal.unreachable-requires
unreachable-requires g c = not_refused g.R.Routing.answer g.A.Arbiter.ports c.args.self.now c.place_of-place.ensures.sound (machine_step c.in-Some.step) c.in-Some.ensures.plain c.in-Some.ensures.possible c.step.result c.step.new.self c.step.ensures.answers (c.in-Err.is ∙ ap Err c.in-NotEnabled.is)

pub unreachable-requires-in-NotInFlow : goal.unreachable-requires-in-NotInFlow
unreachable-requires-in-NotInFlow g c = not_undeclared g.R.Routing.answer g.A.Arbiter.ports c.args.self.now c.place_of-place.ensures.sound (machine_step c.in-Some.step) c.in-Some.ensures.plain c.in-Some.ensures.possible c.step.result c.step.new.self c.step.ensures.answers (c.in-Err.is ∙ ap Err c.in-NotInFlow.is)

pub returns-in-Node-clause-moves : goal.returns-in-Node-clause-moves
returns-in-Node-clause-moves g c = (subst (TellsReady c.args.self.now c.args.end None) c.in-Node.is c.in-None.ensures, refl)

pub arbitrate-requires-clause-switch : goal.arbitrate-requires-clause-switch
arbitrate-requires-clause-switch g c = (subst (IsIn (length c.args.self.now.declared.nodes) (length c.args.self.now.declared.switches)) c.in-Switch.is c.place_of-place.ensures.inside).0

pub arbitrate-requires-clause-at : goal.arbitrate-requires-clause-at
arbitrate-requires-clause-at g c = start_at_switch c.args.self.now.declared c.args.end c.in-Switch.w c.in-Switch.field-1 (subst (λ p. slice_get (ends_of c.args.self.now.declared) c.args.end ≡ Some p) c.in-Switch.is c.place_of-place.ensures.starts)

pub arbitrate-requires-clause-no_other : goal.arbitrate-requires-clause-no_other
arbitrate-requires-clause-no_other g c = subst (TellsReady c.args.self.now c.args.end None) c.in-Switch.is c.in-None.ensures

pub returns-in-Switch-clause-network : goal.returns-in-Switch-clause-network
returns-in-Switch-clause-network g c = c.arbitrate.ensures.network

pub returns-in-Switch-clause-moves : goal.returns-in-Switch-clause-moves
returns-in-Switch-clause-moves g c = c.arbitrate.ensures.moves
