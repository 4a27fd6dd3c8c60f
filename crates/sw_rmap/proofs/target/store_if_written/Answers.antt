use Rattle.std.proofs.Common.{ap, sym, ◌∙◌}
use Rattle.std.proofs.lemmas.Bool.{and_left, and_right, cond-false}
use Rattle.sw_rmap.specs.Instruction.{is_write}
use Rattle.sw_rmap.proofs.target.store_if_written.Goals as goal
use Rattle.sw_rmap.proofs.target.store_if_written.Goals.{else-is_success-via-then-is_success+else-is_write, else-is_success-via-else-is_success}

pub returns-else-is_success : goal.returns-else-is_success
returns-else-is_success c = elim c.else-is_success.branch [
  | else-is_success-via-then-is_success+else-is_write w ↦ sym (cond-false _ _ c.args.memory.now (and_right _ _ (ap is_write (sym w.bits.ensures.value) ∙ sym w.is_write.ensures ∙ w.if-is_write.false)))
  | else-is_success-via-else-is_success w ↦ sym (cond-false _ _ c.args.memory.now (and_left _ _ (sym c.is_success.ensures ∙ w.if-is_success.false)))
]
