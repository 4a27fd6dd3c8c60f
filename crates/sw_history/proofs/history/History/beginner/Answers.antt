use Rattle.std.proofs.Common.{List, ap, subst, sym, ℕ, ◌∙◌}
use Rattle.sw_history.proofs.Adds.{no_beginner_of}
use Rattle.sw_history.proofs.Follows.{no_begin_keeps, no_begin_next}
use Rattle.sw_history.proofs.history.History.beginner.Goals as goal
use Rattle.sw_history.specs.History.{Keeps}
use Rattle.sw_load.specs.History.{packets_of}
use Rattle.sw_machine.specs.Model.{network_of}
use Rattle.sw_machine.specs.Steps.{Begin, Step, is_begin}
use Rattle.sw_machine.specs.declared.step.Step.{Step as CodeStep}
use Rattle.sw_net.proofs.Possibles.{no_beginning}
use Rattle.sw_machine.specs.StepValues.{machine_step}

pub returns-in-Some-clause-keeps : goal.returns-in-Some-clause-keeps
returns-in-Some-clause-keeps g c =
    let now = c.args.self.now in
    let keeps = subst (λ (l : List ℕ). Keeps now (Begin c.in-Begin.flow l c.in-Begin.end)) c.deref.ensures.value c.in-Some.ensures.keeps in
    subst (λ (k : Step). Keeps now k) (sym (ap machine_step c.in-Begin.is)) keeps

pub returns-in-Move-clause-next : goal.returns-in-Move-clause-next
returns-in-Move-clause-next g c =
    let now = c.args.self.now in
    let none = ap (λ (s : CodeStep). is_begin (machine_step s)) c.in-Move.is ∙ no_beginning c.in-Move.field-0 in
    no_begin_next (network_of now.declared) (packets_of now.load) now.steps (machine_step c.args.step.now) none

pub returns-in-Move-clause-keeps : goal.returns-in-Move-clause-keeps
returns-in-Move-clause-keeps g c =
    let now = c.args.self.now in
    let none = ap (λ (s : CodeStep). is_begin (machine_step s)) c.in-Move.is ∙ no_beginning c.in-Move.field-0 in
    λ s leads. no_begin_keeps (network_of now.declared) now.steps s (machine_step c.args.step.now) none

pub returns-in-Move-clause-node : goal.returns-in-Move-clause-node
returns-in-Move-clause-node g c =
    let none = ap (λ (s : CodeStep). is_begin (machine_step s)) c.in-Move.is ∙ no_beginning c.in-Move.field-0 in
    no_beginner_of (network_of c.args.self.now.declared) (machine_step c.args.step.now) none
