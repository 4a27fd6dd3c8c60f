use Rattle.std.proofs.Common.{List, [], ap, arith, drop, false, length, map, replicate, rules, subst, take, true, ◌+◌, ◌<◌, ◌≤◌, ◌≡◌}
use Rattle.std.proofs.lemmas.List.{take_all, take_at}
use Rattle.sw_machine.specs.Model.{network_of}
use Rattle.sw_machine.specs.StepValues.{machine_step}
use Rattle.sw_machine.specs.declared.step.Step.{Step}
use Rattle.sw_net.proofs.Delivered.{channel_count}
use Rattle.sw_summary.proofs.FillLists.{steps_more, steps_split}
use Rattle.sw_summary.proofs.SoFar.{all_made, made_so_far, none_so_far, not_made, rewritten}
use Rattle.sw_summary.specs.Fills.{AreFills}
use Rattle.sw_summary.proofs.fills.noted_fills.Goals as goal

pub loop-step-init : goal.loop-step-init
loop-step-init c =
    let d = c.args.network.now in
    let all = channel_count d in
    let count = c.channels.ensures.count in
    let size = c.from.ensures in
    let items : c.in_ok-fills.fills.items ≡ replicate c.from.result 0 = c.in_ok-fills.ensures.items_if_clones_equal (λ y e. e) in
    rewritten d c.args.net.now [] (replicate c.from.result 0) c.in_ok-fills.fills.items (none_so_far d c.args.net.now c.from.result c.requires (omega (arith, all, count, size))) items

pub returns-then-not-branch : goal.returns-then-not-branch
returns-then-not-branch c =
    let steps = c.args.steps.now in
    let i = c.loop-step.step-index in
    let within : i < length steps = search rules in
    let refused : c.in_ok-make.field-0 ≡ false = search rules in
    not_made c.args.network.now c.loop-step.net c.make.new.net (map machine_step (take i steps)) (map machine_step (drop (i + 1) steps)) (map machine_step steps) (machine_step c.step-item.result)
    c.loop-step.fills.items c.deref_mut.result.now c.make.new.fills c.in_ok-make.field-0 c.loop-step.invariant c.deref_mut.ensures.value refused c.in_ok-make.ensures.made
    (steps_split steps i c.step-item.result within c.step-item.is)

pub loop-step-preserved : goal.loop-step-preserved
loop-step-preserved c =
    let steps = c.args.steps.now in
    let i = c.loop-step.step-index in
    let within : i < length steps = search rules in
    let made : c.in_ok-make.field-0 ≡ true = search rules in
    let long : length c.make.new.fills ≡ c.loop-step.fills.len =
    let kept = c.in_ok-make.ensures.long in let value = ap length c.deref_mut.ensures.value in let size = c.loop-step.fills.ok.0 in omega (arith, kept, value, size)
    in
    made_so_far c.args.network.now c.loop-step.net c.make.new.net (map machine_step (take i steps)) (map machine_step (take (i + 1) steps)) (machine_step c.step-item.result)
    c.loop-step.fills.items c.deref_mut.result.now c.make.new.fills _ c.in_ok-make.field-0 c.loop-step.invariant c.in_ok-make.ensures.network c.deref_mut.ensures.value made c.in_ok-make.ensures.made
    (steps_more steps i c.step-item.result within c.step-item.is) (take_at c.make.new.fills (drop (length c.make.new.fills) c.loop-step.fills.items) c.loop-step.fills.len long)

pub returns : goal.returns
returns c =
    let steps = c.args.steps.now in
    let d = c.args.network.now in
    let ended : length steps ≤ c.loop-step.step-index = search rules in
    subst (λ (l : List Step). AreFills (network_of d) (map machine_step l) c.loop-step.fills.items) (take_all c.loop-step.step-index steps ended)
    (all_made d c.loop-step.net (map machine_step (take c.loop-step.step-index steps)) c.loop-step.fills.items c.loop-step.invariant)
