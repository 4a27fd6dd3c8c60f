use Rattle.std.proofs.Common.{◌≡◌, ◌+◌, ◌-◌, ◌∙◌, [], append-nil, arith, drop, length, map, rules, string_bytes, sym, take}
use Rattle.sw_machine.specs.StepValues.{machine_step}
use Rattle.sw_schedule.specs.Runs.{schedule_text}
use Rattle.sw_schedule.proofs.TextSoFar.{all_written, entry_ends, once_again, readable, short_enough, text_from, too_long}
use Rattle.sw_schedule.proofs.writing.write_steps.Goals as goal
use Rattle.sw_schedule.proofs.writing.write_steps.Goals.{then-is_one_more, else-is_one_more+in_ok-add_entry+else-len-gt-MAX_TEXT}

pub returns-then-len-gt-MAX_TEXT : goal.returns-then-len-gt-MAX_TEXT
returns-then-len-gt-MAX_TEXT c =
    let d = c.args.network.now in
    let rest = take (length c.args.steps.now - 1) (drop 1 c.args.steps.now) in
    let whole = schedule_text d (map machine_step c.args.steps.now) in
    let after = string_bytes c.add_entry.new.text in
    let ended =
    entry_ends d rest whole (string_bytes c.loop-step.text) c.loop-step.last.now c.loop-step.count c.loop-step.step-index c.loop-step.invariant c.step-item.result after
    c.loop-step-test.true c.step-item.is (sym c.is_one_more.ensures ∙ c.if-is_one_more.false) c.in_ok-add_entry.ensures in
    let size : c.len.result ≡ length after = search rules in
    sym (too_long after (text_from d c.step-item.result 1 (drop (c.loop-step.step-index + 1) rest)) whole ended.goes (omega (arith, size, c.if-len-gt-MAX_TEXT.true)))
    ∙ readable d c.args.steps.now (omega (arith, c.if-steps.false))

pub loop-step-preserved : goal.loop-step-preserved
loop-step-preserved c =
    let d = c.args.network.now in
    let rest = take (length c.args.steps.now - 1) (drop 1 c.args.steps.now) in
    let whole = schedule_text d (map machine_step c.args.steps.now) in
    let text = string_bytes c.loop-step.text in
    let at = c.loop-step.step-index in
    elim c.if-is_one_more.branch [
      | then-is_one_more w ↦
          rw (w.text-is, w.last-is, w.count-is)
          (once_again d rest whole text c.loop-step.last.now c.loop-step.count at c.loop-step.invariant c.step-item.result c.loop-step-test.true c.step-item.is
          (sym c.is_one_more.ensures ∙ w.if-is_one_more.true))
      | else-is_one_more+in_ok-add_entry+else-len-gt-MAX_TEXT w ↦
          rw (w.text-is, w.last-is, w.count-is)
          (entry_ends d rest whole text c.loop-step.last.now c.loop-step.count at c.loop-step.invariant c.step-item.result (string_bytes w.add_entry.new.text) c.loop-step-test.true
          c.step-item.is (sym c.is_one_more.ensures ∙ w.if-is_one_more.false) w.in_ok-add_entry.ensures)
    ]

pub returns-then-len-gt-MAX_TEXT-2 : goal.returns-then-len-gt-MAX_TEXT-2
returns-then-len-gt-MAX_TEXT-2 c =
    let d = c.args.network.now in
    let rest = take (length c.args.steps.now - 1) (drop 1 c.args.steps.now) in
    let whole = schedule_text d (map machine_step c.args.steps.now) in
    let after = string_bytes c.add_entry-2.new.text in
    let is =
    all_written d rest whole (string_bytes c.loop-step.text) c.loop-step.last.now c.loop-step.count c.loop-step.step-index c.loop-step.invariant after c.loop-step-test.false
    c.in_ok-add_entry-2.ensures in
    let size : c.len-2.result ≡ length after = search rules in
    sym (too_long after [] whole (append-nil after ∙ is) (omega (arith, size, c.if-len-gt-MAX_TEXT-2.true)))
    ∙ readable d c.args.steps.now (omega (arith, c.if-steps.false))

pub returns-else-len-gt-MAX_TEXT-2 : goal.returns-else-len-gt-MAX_TEXT-2
returns-else-len-gt-MAX_TEXT-2 c =
    let d = c.args.network.now in
    let rest = take (length c.args.steps.now - 1) (drop 1 c.args.steps.now) in
    let whole = schedule_text d (map machine_step c.args.steps.now) in
    let after = string_bytes c.add_entry-2.new.text in
    let is =
    all_written d rest whole (string_bytes c.loop-step.text) c.loop-step.last.now c.loop-step.count c.loop-step.step-index c.loop-step.invariant after c.loop-step-test.false
    c.in_ok-add_entry-2.ensures in
    let size : c.len-2.result ≡ length after = search rules in
    short_enough after whole is (omega (arith, size, c.if-len-gt-MAX_TEXT-2.false))
    ∙ readable d c.args.steps.now (omega (arith, c.if-steps.false))
