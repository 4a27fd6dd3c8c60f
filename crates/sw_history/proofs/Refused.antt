-- What a history answers to a step that it does not add.
use Rattle.std.proofs.Common.{◌≡◌, ℕ, Err, List, subst, sym}
use Rattle.sw_history.proofs.Follows.{follows_where_possible}
use Rattle.sw_history.specs.History.{Adds, HistoryView, IsKept, Keeps}
use Rattle.sw_history.specs.Makes.{Makes}
use Rattle.sw_history.specs.declared.fault.StepFault.{StepFault}
use Rattle.sw_history.specs.declared.fault.StepFault.TheVariants.{Memory, NotEnabled}
use Rattle.sw_load.specs.History.{BeginsNext, packets_of}
use Rattle.sw_machine.specs.Steps.{IsPossible, Step}
use Rattle.sw_machine.specs.Model.{network_of}
use Rattle.sw_net.specs.Net.{NetView}
use Rattle.sw_net.specs.Unanswered.{Counts}
use Rattle.sw_config.specs.Entries.{Declaration}

pub refused : {R A : Type 0} (net after : NetView R A) (h k : HistoryView) (begun : List ℕ) (step : Step) (fault : StepFault) {counts : Counts} → IsKept net h begun counts → BeginsNext (network_of h.declared) (packets_of h.load) h.steps step → Keeps h step
    → Makes net step (Err fault) after → k ≡ h → Adds h step (Err fault) k
refused net after h k begun step NotEnabled {counts} kept next keep makes same = (
  λ may.
      let is = (follows_where_possible (network_of h.declared) (packets_of h.load) h.steps kept.state kept.leads step).0 may in
      makes kept.state kept.in_net (subst (λ (d : Declaration). IsPossible (network_of d) kept.state step) (sym kept.network) is.0),
  same,
)
refused net after h k begun step Memory {counts} kept next keep makes same =
    let possible = subst (λ (d : Declaration). IsPossible (network_of d) kept.state step) kept.network (makes kept.state kept.in_net) in
    ((follows_where_possible (network_of h.declared) (packets_of h.load) h.steps kept.state kept.leads step).1 (possible, next, keep kept.state kept.leads), same)
