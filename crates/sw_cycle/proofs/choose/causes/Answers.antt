use Rattle.std.proofs.Common.{◌≡◌, ◌<◌, ◌∙◌, Option, None, get_or, length, map, sym, subst, arith}
use Rattle.std.specs.Prelude.{MatchOption}
use Rattle.std.proofs.lemmas.List.{get_or_default}
use Rattle.sw_machine.specs.Places.{IsDependency}
use Rattle.sw_machine.specs.Model.{network_of}
use Rattle.sw_cycle.specs.declared.steps.PlaceStep.{PlaceStep}
use Rattle.sw_cycle.specs.Causes.{NoneGoesOn}
use Rattle.sw_cycle.specs.Cycles.{cause_of}
use Rattle.sw_cycle.specs.Firsts.{IsFirstStep}
use Rattle.sw_cycle.proofs.Chosen.{all_chosen, none_yet, pushed, read_for}
use Rattle.sw_cycle.proofs.Between.{round_within}
use Rattle.sw_cycle.proofs.choose.causes.Goals as goal

pub loop-place-init : goal.loop-place-init
loop-place-init c = rw c.new-causes.ensures.items (none_yet c.args.network.now c.args.channels.now)

pub cause_for-requires-clause-first : goal.cause_for-requires-clause-first
cause_for-requires-clause-first c =
    let d = c.args.network.now in
    let i = c.loop-place.place in
    let lt = c.loop-place-test.true in
    let from = c.index-channels-place-in-loop-place in
    let to = c.index-channels-place in
    let steps = c.in_ok-steps.steps.items in
    let first = c.in_ok-steps.ensures in
    let within : i < length steps = subst (λ n. i < n) (sym first.size) lt in
    let read =
    read_for d c.args.channels.now i from.result to.result lt from.is to.is (λ x y. MatchOption (get_or steps i None) (NoneGoesOn d x y) (IsFirstStep d x y)) (first.each i lt)
    in
    let was : get_or steps i None ≡ c.index.result.now = get_or_default steps i None c.index.result.now within ∙ sym c.index.ensures in
    subst (λ (o : Option PlaceStep). MatchOption o (NoneGoesOn d from.result to.result) (IsFirstStep d from.result to.result)) was read

pub cause_for-requires-clause-dependency : goal.cause_for-requires-clause-dependency
cause_for-requires-clause-dependency c =
    let i = c.loop-place.place in
    let lt = c.loop-place-test.true in
    let from = c.index-channels-place-in-loop-place in
    let to = c.index-channels-place in
    read_for c.args.network.now c.args.channels.now i from.result to.result lt from.is to.is (IsDependency (network_of c.args.network.now)) (c.requires.cycle i lt)

pub loop-place-preserved : goal.loop-place-preserved
loop-place-preserved c =
    let from = c.index-channels-place-in-loop-place in
    let to = c.index-channels-place in
    pushed c.args.network.now c.args.channels.now c.loop-place.place from.result to.result c.loop-place-test.true from.is to.is c.loop-place.causes.items c.push.new.self.items c.in_ok-cause.cause c.loop-place.invariant c.in_ok-cause.ensures
    c.in_ok-push.ensures.items

pub returns : goal.returns
returns c =
    all_chosen c.args.network.now c.args.channels.now c.loop-place.place (map cause_of c.loop-place.causes.items) (omega (arith, c.loop-place-test.false, c.loop-place.auto.place-end)) c.loop-place.invariant

pub first_steps-requires-clause-inside : goal.first_steps-requires-clause-inside
first_steps-requires-clause-inside c = round_within c.args.network.now c.topology-topology.ensures.valid c.args.channels.now c.requires.cycle
