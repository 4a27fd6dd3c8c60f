use Rattle.std.proofs.Common.{◌≡◌, ◌∙◌, List, ap, map, subst}
use Rattle.std.specs.Prelude.{string_bytes}
use Rattle.std.proofs.lemmas.Result.{IfOk-weaker}
use Rattle.sw_machine.specs.Packets.{Packet}
use Rattle.sw_machine.specs.Steps.{Step}
use Rattle.sw_machine.specs.StepValues.{machine_step}
use Rattle.sw_run.specs.Outcomes.{came_out_of, steps_of}
use Rattle.sw_runs.specs.Summaries.{IsSummary, IsSummaryOf}
use Rattle.sw_runs.proofs.summaries.summary.Goals as goal

pub returns : goal.returns
returns g c =
    let d = c.args.network.now in
    let load = c.args.load.now in
    let o = c.args.outcome.now in
    let warned = c.in_ok-warned.warned in
    let made : map machine_step c.deref.result.now ≡ steps_of o = ap (map machine_step) c.deref.ensures.value ∙ c.in_ok-steps.ensures in
    let out : map (λ packets. packets.items) c.as_slice.result.now ≡ came_out_of o = ap (map (λ packets. packets.items)) c.as_slice.ensures.value in
    IfOk-weaker c.summary_text.result
    (λ s. IsSummaryOf d load (map machine_step c.deref.result.now) (map (λ packets. packets.items) c.as_slice.result.now) warned (string_bytes s))
    (λ s. IsSummary d load o (string_bytes s))
    (λ s is. (
      warned,
      c.in_ok-warned.ensures,
      subst (λ (steps : List Step). IsSummaryOf d load steps (came_out_of o) warned (string_bytes s)) made
          (subst (λ (lists : List (List Packet)). IsSummaryOf d load (map machine_step c.deref.result.now) lists warned (string_bytes s)) out is),
    )) c.summary_text.ensures
