use Rattle.std.proofs.Common.{◌<◌, ℕ, Some, length, ap, sym, ◌∙◌, subst}
use Rattle.std.specs.Prelude.{option_map, slice_get}
use Rattle.sw_topo.specs.Wiring.{Wiring, partner}
use Rattle.sw_cycle.specs.Cycles.{IsTargetCause}
use Rattle.sw_cycle.proofs.Found.{chosen_flow, first_of, missing, step_of}
use Rattle.sw_cycle.proofs.Between.{between, same_node}
use Rattle.sw_cycle.proofs.Extended.{flow_inside, shown_by_way, way_found}
use Rattle.sw_cycle.proofs.choose.cause_for.Goals as goal
use Rattle.sw_flow.proofs.Walked.{no_port}

pub way_to-requires : goal.way_to-requires
way_to-requires c =
    let d = c.args.network.now in
    let step = c.in-Some.step in
    flow_inside d step.flow c.args.from c.args.to step.last step.next (first_of d c.args.from c.args.to c.args.first step c.in-Some.is c.requires.first).step

pub unwrap-places-requires : goal.unwrap-places-requires
unwrap-places-requires c =
    let d = c.args.network.now in
    let step = c.in-Some.step in
    let is = first_of d c.args.from c.args.to c.args.first step c.in-Some.is c.requires.first in
    way_found (λ v. v.items) d step.flow c.args.from c.args.to step.last step.next c.in_ok-way_to.field-0 is.step c.in_ok-way_to.ensures

pub end_of-requires : goal.end_of-requires
end_of-requires c =
    let d = c.args.network.now in
    let none = missing d c.args.from c.args.to c.args.first c.in_default.is c.requires.first in
    let b = between d c.topology.ensures.valid c.args.from c.args.to c.requires.dependency none in
    subst (λ (w : Wiring). c.args.from < length w.ends) (sym c.topology.ensures.wiring) b.within

pub unreachable-requires : goal.unreachable-requires
unreachable-requires c =
    let d = c.args.network.now in
    let none = missing d c.args.from c.args.to c.args.first c.in_default.is c.requires.first in
    let b = between d c.topology.ensures.valid c.args.from c.args.to c.requires.dependency none in
    let there = ap (λ (w : Wiring). slice_get w.ends (partner c.args.from)) (sym c.topology.ensures.wiring) ∙ c.end_of.ensures.place ∙ ap Some c.in-Switch.is in
    no_port b.node c.in-Switch.field-0 c.in-Switch.field-1 (sym b.ends ∙ there)

pub returns : goal.returns
returns c =
    let d = c.args.network.now in
    let none = missing d c.args.from c.args.to c.args.first c.in_default.is c.requires.first in
    let b = between d c.topology.ensures.valid c.args.from c.args.to c.requires.dependency none in
    let there = ap (λ (w : Wiring). slice_get w.ends (partner c.args.from)) (sym c.topology.ensures.wiring) ∙ c.end_of.ensures.place ∙ ap Some c.in-Node.is in
    let same = same_node b.node c.in-Node.node (sym b.ends ∙ there) in
    record { shows = subst (λ (n : ℕ). IsTargetCause d n c.args.from c.args.to) same b.cause; first = none }

pub returns-in-Some : goal.returns-in-Some
returns-in-Some c =
    let d = c.args.network.now in
    let step = c.in-Some.step in
    let is = first_of d c.args.from c.args.to c.args.first step c.in-Some.is c.requires.first in
    let shown = shown_by_way d step.flow step.last step.next (option_map (λ v. v.items) c.in_ok-way_to.field-0) c.unwrap-places.result.items c.push.new.self.items (step_of d c.args.from c.args.to step is) c.in_ok-way_to.ensures
    (ap (option_map (λ v. v.items)) c.unwrap-places.ensures) c.in_ok-push.ensures.items in
    chosen_flow d c.args.from c.args.to step is c.push.new.self.items shown
