use Rattle.std.proofs.Common.{◌≡◌, ◌∙◌, ◌+◌, ◌<◌, sym, true, length, arith, ◌≤◌}
use Rattle.sw_schedule.specs.Lines.{is_skipped}
use Rattle.sw_schedule.proofs.LineSteps.{no_step, steps_added, too_many_steps}
use Rattle.sw_schedule.proofs.Reading.{skipped_line}
use Rattle.sw_schedule.proofs.schedule.add_line.Goals as goal

pub returns-then-is_skipped : goal.returns-then-is_skipped
returns-then-is_skipped c =
    let few : length c.args.schedule.now ≤ 1000000 = omega (arith, c.total-total.ensures.count, c.total-total.ensures.few) in
    let t : is_skipped c.args.line.now ≡ true = sym c.is_skipped.ensures ∙ c.if-is_skipped.true in
    skipped_line c.args.network.now c.args.number c.args.schedule.now c.args.line.now few t

pub returns-in_default : goal.returns-in_default
returns-in_default c =
    no_step c.args.network.now c.args.number c.args.line.now c.args.schedule.now (sym c.is_skipped.ensures ∙ c.if-is_skipped.false) (sym c.in_default.is ∙ c.in_ok-entry.ensures)

pub returns-then-count-total : goal.returns-then-count-total
returns-then-count-total c =
    let many : 1000000 < length c.args.schedule.now + c.in-Some.entry.count =
    omega (arith, c.if-count-total.true, c.count-count.ensures, c.total-total.ensures.count, c.total-total.ensures.few) in
    too_many_steps c.args.network.now c.args.number c.args.line.now c.args.schedule.now (sym c.is_skipped.ensures ∙ c.if-is_skipped.false) c.in-Some.entry
    (sym c.in-Some.is ∙ c.in_ok-entry.ensures) many

pub returns : goal.returns
returns c =
    let few : length c.args.schedule.now + c.in-Some.entry.count ≤ 1000000 =
    omega (arith, c.if-count-total.false, c.count-count.ensures, c.total-total.ensures.count, c.total-total.ensures.few) in
    steps_added c.args.network.now c.args.number c.args.line.now c.args.schedule.now (sym c.is_skipped.ensures ∙ c.if-is_skipped.false) c.in-Some.entry
    (sym c.in-Some.is ∙ c.in_ok-entry.ensures) c.schedule.inside.entries.items c.push.new.self.items (sym c.schedule.view_is) c.in_ok-push.ensures.items few
