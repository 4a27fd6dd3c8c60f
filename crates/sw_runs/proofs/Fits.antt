-- What is found of a network has a list of packets for each of its nodes.
use Rattle.std.proofs.Common.{◌∙◌, ℕ, List, ap, length, subst, sym}
use Rattle.std.proofs.lemmas.List.{length-map}
use Rattle.std.specs.Prelude.{Err, None, Ok, Option, Result, Some}
use Rattle.sw_config.specs.Entries.{Declaration}
use Rattle.sw_load.specs.Load.{LoadEntry, load_text}
use Rattle.sw_machine.specs.Steps.{Step}
use Rattle.sw_schedule.specs.Schedule.{steps_of_text}
use Rattle.sw_text.specs.declared.fault.TextFault.{TextFault}
use Rattle.sw_runs.proofs.ReplayReports.{of_each_node}
use Rattle.sw_runs.specs.ReplayAnswers.{IsReplayFinding, IsReplayOf, IsScheduleFinding}
use Rattle.sw_runs.specs.RunAnswers.{IsFoundOfLoad, IsRunFinding, IsRunOf}
use Rattle.sw_runs.specs.declared.replay_finding.ReplayFinding.{ReplayFinding}
use Rattle.sw_runs.specs.declared.replay_finding.ReplayFinding.TheVariants as replay
use Rattle.sw_runs.specs.declared.run_finding.RunFinding.{RunFinding}
use Rattle.sw_runs.specs.declared.run_finding.RunFinding.TheVariants as run
use Rattle.sw_runs.specs.declared.run_finding.Wants.{Wants}

-- ---- a replay

of_steps : (d : Declaration) (r : Result (List Step) ℕ) (f : ReplayFinding) → IsScheduleFinding d r f → IsReplayOf d f
of_steps d (Ok steps) (replay.Replayed report) is = of_each_node d steps report.replayed is.replayed
of_steps d (Ok steps) (replay.WrongLine number) is = absurd is
of_steps d (Ok steps) replay.TooLong is = absurd is
of_steps d (Err number) f is = subst (λ (g : ReplayFinding). IsReplayOf d g) (sym is) tt

pub replay_fits : (second : Option (List ℕ)) (d : Declaration) (f : ReplayFinding) → IsReplayFinding second d f → IsReplayOf d f
replay_fits (Some bytes) d f is = of_steps d (steps_of_text d bytes) f is
replay_fits None d f is = subst (λ (g : ReplayFinding). IsReplayOf d g) (sym is) tt

-- ---- a run

of_load : (limit : ℕ) (wants : Wants) (d : Declaration) (r : Result (List LoadEntry) TextFault) (f : RunFinding) → IsFoundOfLoad limit wants d r f → IsRunOf d f
of_load limit wants d (Ok load) (run.Ran report) (o, is, told) =
    ap (λ out. length out.items) told.came_out ∙ (sym (length-map o.came_out.items (λ packets. packets.items)) ∙ is.came_out.all_nodes)
of_load limit wants d (Ok load) (run.Faulty fault) (o, is, told) = absurd told
of_load limit wants d (Ok load) run.TooLong (o, is, told) = absurd told
of_load limit wants d (Err fault) f is = subst (λ (g : RunFinding). IsRunOf d g) (sym is) tt

pub run_fits : (limit : ℕ) (wants : Wants) (second : Option (List ℕ)) (d : Declaration) (f : RunFinding) → IsRunFinding limit wants second d f → IsRunOf d f
run_fits limit wants (Some bytes) d f is = of_load limit wants d (load_text d bytes) f is
run_fits limit wants None d f is = subst (λ (g : RunFinding). IsRunOf d g) (sym is) tt
