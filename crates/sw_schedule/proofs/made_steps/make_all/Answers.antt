use Rattle.std.proofs.Common.{List, ap, arith, drop, length, length-append, replicate, subst, take, ◌+◌, ◌∙◌}
use Rattle.std.proofs.lemmas.List.{length-replicate, take_all}
use Rattle.sw_schedule.proofs.Making.{steps_at, steps_more, within_all}
use Rattle.sw_schedule.proofs.NetSteps.{made_behind, stopped_behind}
use Rattle.sw_schedule.specs.Nets.{IsWithin, NetEnds}
use Rattle.sw_schedule.specs.declared.replayed.ReplayEnd.{ReplayEnd}
use Rattle.sw_schedule.specs.declared.replayed.ReplayEnd.TheVariants.{Made}
use Rattle.sw_schedule.specs.Lines.{Repeated}
use Rattle.sw_schedule.specs.Schedule.{steps_of}
use Rattle.sw_schedule.proofs.made_steps.make_all.Goals as goal

pub overflow_add-before : goal.overflow_add-before
overflow_add-before c =
    let entries = c.args.entries.now in
    let e = c.entry-item.result in
    let i = c.loop-entry.entry-index in
    let t = c.loop-entry-test.true in
    let parts = steps_at entries i (i + 1) e (omega arith) c.entry-item.is (omega arith) in
    let some = subst (IsWithin e.count) c.in-Made.is c.in_ok-count.ensures.within in
    let size = length-replicate e.count e.step in
    let fits = within_all (steps_of entries) (steps_of (take i entries)) (replicate e.count e.step) (steps_of (drop (i + 1) entries)) c.loop-entry.before c.in-Made.count parts c.loop-entry.invariant.within (omega arith) in
    let few = c.requires in
    omega arith

pub overflow_add-result : goal.overflow_add-result
overflow_add-result c =
    let entries = c.args.entries.now in
    let e = c.entry-item.result in
    let i = c.loop-entry.entry-index in
    let t = c.loop-entry-test.true in
    let parts = steps_at entries i (i + 1) e (omega arith) c.entry-item.is (omega arith) in
    let some = subst (IsWithin e.count) c.in-Refused.is c.in_ok-count.ensures.within in
    let size = length-replicate e.count e.step in
    let fits = within_all (steps_of entries) (steps_of (take i entries)) (replicate e.count e.step) (steps_of (drop (i + 1) entries)) c.loop-entry.before c.in-Refused.number parts c.loop-entry.invariant.within (omega arith) in
    let few = c.requires in
    omega arith

pub returns-in-Refused-clause-ends : goal.returns-in-Refused-clause-ends
returns-in-Refused-clause-ends c =
    let w = c.loop-entry.net in
    let u = c.make_entry.new.net in
    let entries = c.args.entries.now in
    let e = c.entry-item.result in
    let i = c.loop-entry.entry-index in
    let t = c.loop-entry-test.true in
    let parts = steps_at entries i (i + 1) e (omega arith) c.entry-item.is (omega arith) in
    let ends = subst (λ (o : ReplayEnd). NetEnds w c.loop-entry.unanswered (replicate e.count e.step) o u c.make_entry.new.unanswered) c.in-Refused.is c.in_ok-count.ensures.ends in
    stopped_behind c.args.net.now w u c.args.unanswered.now c.loop-entry.unanswered c.make_entry.new.unanswered c.loop-entry.invariant.network (steps_of entries) (steps_of (take i entries)) (replicate e.count e.step) (steps_of (drop (i + 1) entries)) c.loop-entry.before c.in-Refused.number c.in-Refused.refusal parts c.loop-entry.invariant.made ends

pub loop-entry-preserved : goal.loop-entry-preserved
loop-entry-preserved c =
    let w = c.loop-entry.net in
    let u = c.make_entry.new.net in
    let entries = c.args.entries.now in
    let e = c.entry-item.result in
    let i = c.loop-entry.entry-index in
    let t = c.loop-entry-test.true in
    let more = steps_more entries i e (omega arith) c.entry-item.is in
    let ends = subst (λ (o : ReplayEnd). NetEnds w c.loop-entry.unanswered (replicate e.count e.step) o u c.make_entry.new.unanswered) c.in-Made.is c.in_ok-count.ensures.ends in
    let some = subst (IsWithin e.count) c.in-Made.is c.in_ok-count.ensures.within in
    let size = length-replicate e.count e.step in
    let sum = length-append (steps_of (take i entries)) (replicate e.count e.step) in
    let whole = ap length more in
    let before = c.loop-entry.invariant.within in
    record {
      network = c.in_ok-count.ensures.network ∙ c.loop-entry.invariant.network;
      made = made_behind c.args.net.now w u c.args.unanswered.now c.loop-entry.unanswered c.make_entry.new.unanswered c.loop-entry.invariant.network (steps_of (take (i + 1) entries)) (steps_of (take i entries)) (replicate e.count e.step) c.loop-entry.before c.in-Made.count more c.loop-entry.invariant.made ends;
      within = omega arith;
    }

pub returns-clause-ends : goal.returns-clause-ends
returns-clause-ends c =
    let entries = c.args.entries.now in
    let least = c.loop-entry-test.false in
    let all = take_all c.loop-entry.entry-index entries (omega arith) in
    subst (λ (l : List Repeated). NetEnds c.args.net.now c.args.unanswered.now (steps_of l) (Made c.loop-entry.before) c.loop-entry.net c.loop-entry.unanswered) all c.loop-entry.invariant.made
