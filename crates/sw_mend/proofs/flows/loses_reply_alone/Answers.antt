use Rattle.std.proofs.Common.{◌≤◌, ◌∙◌, Bool, None, Some, ap, arith, false, length, sym}
use Rattle.std.specs.Prelude.{if◌then◌else◌}
use Rattle.std.specs.List.{list_any}
use Rattle.sw_mend.specs.Changes.{loses_flow, loses_reply}
use Rattle.sw_config.proofs.Passes.{all_passed, any_read, none_read, one_read}
use Rattle.sw_mend.proofs.flows.loses_reply_alone.Goals as goal

pub returns-then-loses_flow : goal.returns-then-loses_flow
returns-then-loses_flow c =
    let silent : Bool = list_any (λ change. loses_reply change c.args.number c.args.flow.now) c.args.changes.now in
    ap (λ (b : Bool). if b then None else Some silent)
    (one_read (λ change. loses_flow change c.args.number c.args.flow.now) c.args.changes.now c.loop-change.change-index c.change-item.result c.loses_flow.result c.loop-change-test.true
    c.change-item.is c.loses_flow.ensures c.if-loses_flow.true)

pub loop-change-preserved : goal.loop-change-preserved
loop-change-preserved c = (
  none_read (λ change. loses_flow change c.args.number c.args.flow.now) c.args.changes.now c.loop-change.change-index c.change-item.result c.loses_flow.result c.loop-change-test.true
      c.change-item.is c.loop-change.invariant.0 c.loses_flow.ensures c.if-loses_flow.false,
  any_read (λ change. loses_reply change c.args.number c.args.flow.now) c.args.changes.now c.loop-change.change-index c.change-item.result c.loop-change.is_unanswered c.loses_reply-is_unanswered.result
      c.loop-change-test.true c.change-item.is c.loop-change.invariant.1 c.loses_reply-is_unanswered.ensures,
)

pub returns : goal.returns
returns c =
    let past : length c.args.changes.now ≤ c.loop-change.change-index = omega (arith, c.loop-change-test.false) in
    let silent : Bool = list_any (λ change. loses_reply change c.args.number c.args.flow.now) c.args.changes.now in
    let kept = all_passed (λ change. loses_flow change c.args.number c.args.flow.now) c.args.changes.now c.loop-change.change-index false past (sym c.loop-change.invariant.0) in
    ap Some (all_passed (λ change. loses_reply change c.args.number c.args.flow.now) c.args.changes.now c.loop-change.change-index c.loop-change.is_unanswered past c.loop-change.invariant.1)
    ∙ ap (λ (b : Bool). if b then None else Some silent) kept
