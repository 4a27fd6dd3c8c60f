use Rattle.std.proofs.Common.{ap, sym, ◌∙◌}
use Rattle.std.specs.Prelude.{option_map}
use Rattle.sw_engine.proofs.Answered.{holds_less, holds_of_network, holds_of_none}
use Rattle.sw_engine.proofs.AnsweredTwo.{ends_by_text}
use Rattle.sw_engine.specs.Files.{network_of}
use Rattle.sw_engine.specs.Tellings.{HoldsOfFound}
use Rattle.sw_runs.proofs.Fits.{replay_fits}
use Rattle.sw_runs.specs.ReplayAnswers.{IsReplayFinding, IsReplayOf}
use Rattle.sw_runs.proofs.replay_finding.replay.Goals.{in-Some, in-None}
use Rattle.sw_runs.proofs.replay_finding.replay.Goals as goal

pub tell_found-requires-clause-fit : goal.tell_found-requires-clause-fit
tell_found-requires-clause-fit g c =
    let file = c.read_two_files-file.result.0 in
    let found = c.match-network.found in
    let text = option_map (λ s. s.now) c.second_bytes-text.result in
    let holds : HoldsOfFound (IsReplayFinding text) (network_of file) found = elim c.match-network.branch [
      | in-Some w ↦ holds_of_network (IsReplayFinding text) _ (network_of file) w.find.result found
          (sym c.network.ensures ∙ ap (option_map (λ n. n.now)) w.in-Some.is) w.found-is w.find.ensures
      | in-None w ↦ holds_of_none (IsReplayFinding text) (network_of file) found (sym c.network.ensures ∙ ap (option_map (λ n. n.now)) w.in-None.is)
    ] in
    holds_less (IsReplayFinding text) IsReplayOf (replay_fits text) (network_of file) found holds

pub returns-clause-ended : goal.returns-clause-ended
returns-clause-ended g c =
    let file = c.read_two_files-file.result.0 in
    let found = c.match-network.found in
    let text = option_map (λ s. s.now) c.second_bytes-text.result in
    let holds : HoldsOfFound (IsReplayFinding text) (network_of file) found = elim c.match-network.branch [
      | in-Some w ↦ holds_of_network (IsReplayFinding text) _ (network_of file) w.find.result found
          (sym c.network.ensures ∙ ap (option_map (λ n. n.now)) w.in-Some.is) w.found-is w.find.ensures
      | in-None w ↦ holds_of_none (IsReplayFinding text) (network_of file) found (sym c.network.ensures ∙ ap (option_map (λ n. n.now)) w.in-None.is)
    ] in
    ends_by_text IsReplayFinding (g.F.Form.tells c.args.form.now) (g.F.Form.faulty c.args.form.now) (g.F.Form.long c.args.form.now) _ _ _ _
    c.read_two_files-file.result.1 g.F.Form.memory _ _ text file found _ c.second_bytes-text.ensures c.read_two_files-file.ensures.files holds
    c.tell_found.ensures.told
