use Rattle.std.proofs.Common.{◌≡◌, ◌∙◌, ◌++◌, List, ap, map, ℕ}
use Rattle.std.specs.Prelude.{string_bytes}
use Rattle.std.proofs.lemmas.Result.{IfOk-weaker}
use Rattle.sw_machine.specs.StepValues.{machine_step}
use Rattle.sw_runs.specs.Summaries.{IsSummaryOf}
use Rattle.sw_runs.proofs.summaries.summary_text.Goals as goal

pub returns : goal.returns
returns c =
    let summed : List ℕ = string_bytes c.in_ok-summed.summed in
    let filled : List ℕ = string_bytes c.in_ok-filled.filled in
    IfOk-weaker c.format.result (λ s. string_bytes s ≡ summed ++ filled)
    (λ s. IsSummaryOf c.args.network.now c.args.load.now (map machine_step c.args.steps.now) (map (λ packets. packets.items) c.args.out.now) c.args.warned (string_bytes s))
    (λ s is. (filled, c.in_ok-filled.ensures, is ∙ ap (λ (l : List ℕ). l ++ filled) c.in_ok-summed.ensures)) c.format.ensures.ok
