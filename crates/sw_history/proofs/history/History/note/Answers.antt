use Rattle.std.proofs.Common.{Some, ap, arith, length, refl, subst, sym, ℕ, ◌<◌, ◌∙◌, ◌≡◌}
use Rattle.std.proofs.lemmas.Bool.{false≢true}
use Rattle.std.proofs.lemmas.Option.{slice_get_read}
use Rattle.std.specs.Prelude.{IfSome, slice_get}
use Rattle.sw_history.proofs.Adds.{no_beginner}
use Rattle.sw_history.proofs.Counts.{few_begun}
use Rattle.sw_history.proofs.Noting.{IsBeginning, begin_noted, read_below}
use Rattle.sw_history.proofs.history.History.note.Goals as goal
use Rattle.sw_history.specs.History.{HistoryView, IsKept}
use Rattle.sw_load.specs.Load.{packet_count}
use Rattle.sw_machine.specs.Model.{network_of}
use Rattle.sw_machine.specs.StepValues.{machine_step}
use Rattle.sw_machine.specs.Steps.{is_begin}
use Rattle.sw_machine.specs.declared.step.Step.{Step}

pub overflow_cast-result : goal.overflow_cast-result
overflow_cast-result g c =
    let in_self = c.self.inside in
    let now = c.args.self.now in
    let begun = in_self.begun.items in
    let kept = subst (λ (k : HistoryView). IsKept in_self.net k in_self.begun.items in_self.unanswered) c.self.view_is c.self.invariant.0 in
    let within = subst (λ o. IfSome o (λ n. n < length now.declared.nodes)) c.in-Some.is c.requires.within in
    let at : slice_get begun c.in-Some.node ≡ Some c.index.result.now = slice_get_read begun (length begun) c.in-Some.node c.index.result.now refl (subst (λ (k : ℕ). c.in-Some.node < k) (sym kept.all_nodes) within) c.index.ensures in
    let count = c.total-total.ensures.count ∙ ap packet_count c.load.ensures ∙ ap (λ (k : HistoryView). packet_count k.load) c.self.view_is in
    let few = c.total-total.ensures.few in
    let less = few_begun now.declared now.load now.steps begun kept.counted (machine_step c.args.step.now) c.args.beginner (length now.declared.nodes) 65536 kept.all_nodes (omega arith) c.requires.node c.requires.within c.requires.next in
    let below = read_below begun c.args.beginner c.in-Some.node c.index.result.now 65536 c.in-Some.is at less in
    omega (arith, below)

pub returns-in-Some-clause-step : goal.returns-in-Some-clause-step
returns-in-Some-clause-step g c =
    let in_self = c.self.inside in
    let now = c.args.self.now in
    let begun = in_self.begun.items in
    let kept = subst (λ (k : HistoryView). IsKept in_self.net k in_self.begun.items in_self.unanswered) c.self.view_is c.self.invariant.0 in
    let within = subst (λ o. IfSome o (λ n. n < length now.declared.nodes)) c.in-Some.is c.requires.within in
    let at : slice_get begun c.in-Some.node ≡ Some c.index.result.now = slice_get_read begun (length begun) c.in-Some.node c.index.result.now refl (subst (λ (k : ℕ). c.in-Some.node < k) (sym kept.all_nodes) within) c.index.ensures in
    let is : IsBeginning now (machine_step c.args.step.now) c.in-Some.node c.index.result.now = begin_noted now c.in-Some.node c.index.result.now (kept.counted c.in-Some.node c.index.result.now at) (machine_step c.args.step.now) (sym c.in-Some.is ∙ c.requires.node) c.requires.next in
    is.step_is

pub returns-in-Some-clause-sound : goal.returns-in-Some-clause-sound
returns-in-Some-clause-sound g c =
    let in_self = c.self.inside in
    let now = c.args.self.now in
    let begun = in_self.begun.items in
    let kept = subst (λ (k : HistoryView). IsKept in_self.net k in_self.begun.items in_self.unanswered) c.self.view_is c.self.invariant.0 in
    let within = subst (λ o. IfSome o (λ n. n < length now.declared.nodes)) c.in-Some.is c.requires.within in
    let at : slice_get begun c.in-Some.node ≡ Some c.index.result.now = slice_get_read begun (length begun) c.in-Some.node c.index.result.now refl (subst (λ (k : ℕ). c.in-Some.node < k) (sym kept.all_nodes) within) c.index.ensures in
    let is : IsBeginning now (machine_step c.args.step.now) c.in-Some.node c.index.result.now = begin_noted now c.in-Some.node c.index.result.now (kept.counted c.in-Some.node c.index.result.now at) (machine_step c.args.step.now) (sym c.in-Some.is ∙ c.requires.node) c.requires.next in
    (within, is.packet)

pub unreachable-requires : goal.unreachable-requires
unreachable-requires g c =
    let none = no_beginner (network_of c.args.self.now.declared) (machine_step c.args.step.now) (sym c.requires.node ∙ c.in-None.is) in
    false≢true (sym none ∙ ap (λ (s : Step). is_begin (machine_step s)) c.in-Begin.is)
