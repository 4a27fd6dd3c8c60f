use Rattle.std.proofs.Common.{◌∙◌, Option, ap, length, map, option_map, subst, ℕ, Vec, Global}
use Rattle.sw_summary.specs.Fills.{AreFills, AreFillsOrNone}
use Rattle.sw_machine.specs.Model.{network_of}
use Rattle.sw_machine.specs.StepValues.{machine_step}
use Rattle.sw_runs.proofs.Filled.{one_each}
use Rattle.sw_runs.proofs.summaries.fills_text.Goals as goal

pub fill_lines-requires : goal.fill_lines-requires
fill_lines-requires c =
    let d = c.args.network.now in
    let steps = map machine_step c.args.steps.now in
    let are : AreFills (network_of d) steps c.in-Some.fills.items =
    subst (λ (o : Option (Vec ℕ Global)). AreFillsOrNone (network_of d) steps (option_map (λ v. v.items) o)) c.in-Some.is c.in_ok-fills.ensures in
    ap length c.deref.ensures.value ∙ one_each d steps c.in-Some.fills.items are
