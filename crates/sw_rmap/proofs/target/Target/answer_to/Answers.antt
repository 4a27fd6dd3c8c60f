use Rattle.std.proofs.Common.{◌≡◌, ◌∙◌, ap, length, ℕ, List, Option, Some, None, refl, cond}
use Rattle.std.proofs.lemmas.List.{take_at}
use Rattle.sw_char.specs.declared.nchar.End.{End}
use Rattle.sw_rmap.specs.declared.config.TargetConfig.{TargetConfig}
use Rattle.sw_rmap.specs.declared.status.Status.{Status}
use Rattle.sw_rmap.specs.Answers.{answer_to, found_by, memory_after, status_of}
use Rattle.sw_rmap.specs.CommandView.{CommandView}
use Rattle.sw_rmap.specs.Replies.{is_answered, reply_of}
use Rattle.sw_rmap.proofs.Answering.{in_window, whole_body}
use Rattle.sw_rmap.proofs.target.Target.answer_to.Goals as goal

-- the answer by its parts
answer_to-parts : (t : TargetConfig) (memory : List ℕ) (c : CommandView) (body : List ℕ) (end : End) (status : Status) (found : List ℕ) (reply : Option (List ℕ)) (after : List ℕ) →
    status ≡ status_of t c body end → found ≡ found_by t c status memory → reply ≡ cond (is_answered c) (Some (reply_of c status found)) None → after ≡ memory_after t c status body memory →
    (reply, after) ≡ answer_to t memory c body end
unfolding answer_to
answer_to-parts t memory c body end status found reply after status_is found_is reply_is after_is = rw (reply_is, after_is, found_is, status_is) refl

pub returns-clause-answer : goal.returns-clause-answer
returns-clause-answer c =
    rw (← c.self.view_is) (
    answer_to-parts c.self.inside.config c.self.inside.memory.items c.args.command.now c.args.body.now c.args.end c.status-status.result c.reply_data-found.result.now _ _
    c.status-status.ensures (rw c.deref.ensures.value at c.reply_data-found.ensures.value) c.in_ok-reply.ensures
    (take_at _ _ _ (c.store_if_written.auto.memory ∙ c.deref_mut.ensures.len) ∙ rw c.deref_mut.ensures.value at c.store_if_written.ensures)
    )

pub invariant_of-self : goal.invariant_of-self
invariant_of-self c = (
  c.self.invariant.0,
  ap length (take_at c.store_if_written.new.memory _ _ (c.store_if_written.auto.memory ∙ c.deref_mut.ensures.len)) ∙ c.store_if_written.auto.memory ∙ ap length c.deref_mut.ensures.value ∙ c.self.invariant.1,
)

pub store_if_written-requires-clause-memory : goal.store_if_written-requires-clause-memory
store_if_written-requires-clause-memory c = ap length c.deref_mut.ensures.value ∙ c.self.invariant.1

pub reply_data-found-requires-clause-within : goal.reply_data-found-requires-clause-within
reply_data-found-requires-clause-within c = in_window c.self.inside.config c.args.command.now c.args.body.now c.args.end c.status-status.result c.status-status.ensures

pub store_if_written-requires-clause-within : goal.store_if_written-requires-clause-within
store_if_written-requires-clause-within c = in_window c.self.inside.config c.args.command.now c.args.body.now c.args.end c.status-status.result c.status-status.ensures

pub store_if_written-requires-clause-whole : goal.store_if_written-requires-clause-whole
store_if_written-requires-clause-whole c = whole_body c.self.inside.config c.args.command.now c.args.body.now c.args.end c.status-status.result c.status-status.ensures

pub reply_data-found-requires-clause-memory : goal.reply_data-found-requires-clause-memory
reply_data-found-requires-clause-memory c = ap length c.deref.ensures.value ∙ c.self.invariant.1
