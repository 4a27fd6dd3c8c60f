use Rattle.std.proofs.Common.{ap, arith, below_more, false, length, subst, sym, ℕ, ◌<◌, ◌∙◌}
use Rattle.sw_cell.proofs.Network.{channels_are}
use Rattle.sw_machine.specs.Model.{network_of}
use Rattle.sw_net.proofs.Told.{all_quiet}
use Rattle.sw_net.proofs.net.Net.first_enabled.Goals as goal
use Rattle.sw_net.specs.Asked.{CanStep}
use Rattle.sw_config.specs.Entries.{Declaration, wiring_of}

pub returns-then-can_step : goal.returns-then-can_step
returns-then-can_step g c =
    let v = c.args.self.now in
    let count = c.channels-number-end.ensures.ends ∙ ap (λ (k : Declaration). length (wiring_of k).ends) c.network.ensures.network ∙ sym (channels_are v.declared) in
    let e = c.new-end.ensures in
    let t = c.loop-number-test.true in
    let lt : c.new-end.result < (network_of v.declared).channels = omega arith in
    let below = subst (λ n. (k : ℕ) → k < n → CanStep v k false) (sym e) c.loop-number.invariant in
    (lt, subst (CanStep v c.new-end.result) c.if-can_step.true c.can_step.ensures, below)

pub loop-number-preserved : goal.loop-number-preserved
loop-number-preserved g c =
    let v = c.args.self.now in
    let here = subst (λ k. CanStep v k false) c.new-end.ensures (subst (CanStep v c.new-end.result) c.if-can_step.false c.can_step.ensures) in
    below_more (λ k. CanStep v k false) c.loop-number.number c.loop-number.invariant here

pub returns : goal.returns
returns g c =
    let v = c.args.self.now in
    let count = c.channels-number-end.ensures.ends ∙ ap (λ (k : Declaration). length (wiring_of k).ends) c.network.ensures.network ∙ sym (channels_are v.declared) in
    let t = c.loop-number-test.false in
    all_quiet v c.network.ensures.sound.valid (λ k lt. c.loop-number.invariant k (omega arith))
