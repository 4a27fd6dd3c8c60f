-- What a history chooses, told of its journal.
use Rattle.std.proofs.Common.{Err, List, None, Ok, Option, Some, ℕ}
use Rattle.std.specs.Prelude.{IfNone, IfOk, IfSome, Result}
use Rattle.std.specs.declared.alloc.AllocError.{AllocError}
use Rattle.atomic_table.specs.Seated.{TableId}
use Rattle.sw_history.specs.History.{HistoryView, IsNextAt}
use Rattle.sw_history.specs.Next.{IsIdle}
use Rattle.sw_journal.proofs.Commit.{view_of}
use Rattle.sw_journal.specs.Choices.{Chooses}
use Rattle.sw_load.specs.History.{packets_of}
use Rattle.sw_machine.specs.Model.{network_of}
use Rattle.sw_machine.specs.StepValues.{machine_step}
use Rattle.sw_machine.specs.declared.step.Step.{Step as CodeStep}

pub chosen : (name : TableId) (h : HistoryView) (limit : ℕ) (marks : List (Option ℕ)) (e : ℕ) (r : Result (Option CodeStep) AllocError) → IfOk r (λ o. IfSome o (λ step. IsNextAt h e (machine_step step)))
    → IfOk r (λ o. IfNone o (IsIdle (network_of h.declared) (packets_of h.load) h.steps e)) → IfOk r (λ o. Chooses (view_of name h limit marks) e o)
chosen name h limit marks e (Ok (Some step)) some none = record { belongs = some.belongs; next = some.next }
chosen name h limit marks e (Ok None) some none = none
chosen name h limit marks e (Err x) some none = tt
