use Rattle.std.proofs.Common.{None, ap, refl, subst, ◌∙◌, ◌≡◌}
use Rattle.sw_config.specs.Entries.{Declaration}
use Rattle.sw_machine.specs.Model.{network_of}
use Rattle.sw_machine.specs.StepValues.{machine_move, machine_step}
use Rattle.sw_machine.specs.declared.step.Move.{Move}
use Rattle.sw_machine.specs.declared.step.Move.TheVariants.{Forward}
use Rattle.sw_machine.specs.declared.step.Step.{Step}
use Rattle.sw_net.proofs.ChangedNumbers.{both_only, one_only}
use Rattle.sw_net.proofs.net.Net.changed_ends.Goals as goal
use Rattle.sw_net.specs.Changing.{IsChanged, passed_from}
use Rattle.sw_topo.specs.declared.place.Chan.{Chan}

none_passed : (step : Move) → ((channel : Chan) → step ≡ Forward channel → ⊥) → passed_from (machine_move step) ≡ None
none_passed (Forward channel) other = absurd (other channel refl)
none_passed step other = refl

pub returns-in-Forward : goal.returns-in-Forward
returns-in-Forward g c =
    let step = machine_step c.args.step.now in
    let changed = subst (λ (d : Declaration). IsChanged (network_of d) step c.changed_end-end.result) c.network.ensures.network c.changed_end-end.ensures in
    let is = ap (λ (s : Step). passed_from (machine_step s)) c.in-Move.is ∙ ap (λ (m : Move). passed_from (machine_move m)) c.in-Forward.is in
    both_only c.args.self.now step c.changed_end-end.result c.in-Forward.channel c.held_output.result changed is c.held_output.ensures

pub returns-in_default : goal.returns-in_default
returns-in_default g c =
    let step = machine_step c.args.step.now in
    let changed = subst (λ (d : Declaration). IsChanged (network_of d) step c.changed_end-end.result) c.network.ensures.network c.changed_end-end.ensures in
    let none = ap (λ (s : Step). passed_from (machine_step s)) c.in-Move.is ∙ none_passed c.in-Move.step c.in_default.not-Forward in
    one_only c.args.self.now step c.changed_end-end.result changed none

pub returns-in-Begin : goal.returns-in-Begin
returns-in-Begin g c =
    let step = machine_step c.args.step.now in
    let changed = subst (λ (d : Declaration). IsChanged (network_of d) step c.changed_end-end.result) c.network.ensures.network c.changed_end-end.ensures in
    one_only c.args.self.now step c.changed_end-end.result changed (ap (λ (s : Step). passed_from (machine_step s)) c.in-Begin.is)
