use Rattle.std.proofs.Common.{ap, sym, ◌∙◌}
use Rattle.std.specs.Prelude.{option_map}
use Rattle.sw_engine.proofs.Answered.{holds_of_network, holds_of_none}
use Rattle.sw_engine.proofs.AnsweredTwo.{ends_by_text}
use Rattle.sw_engine.proofs.Zero.{zero_found}
use Rattle.sw_engine.specs.Files.{network_of, second_given}
use Rattle.sw_engine.specs.Tellings.{HoldsOfFound}
use Rattle.sw_app.specs.CheckAnswers.{IsCheckFinding, check_status}
use Rattle.sw_app.proofs.Told.{ShowsByText, accepted_text}
use Rattle.sw_app.proofs.check_finding.check.Goals.{in-Some, in-None}
use Rattle.sw_app.proofs.check_finding.check.Goals as goal

pub returns-clause-ended : goal.returns-clause-ended
returns-clause-ended g c =
    let file = c.read_two_files-file.result.0 in
    let found = c.match-network.found in
    let text = option_map (λ s. s.now) c.second_bytes-text.result in
    let holds : HoldsOfFound (IsCheckFinding text) (network_of file) found = elim c.match-network.branch [
      | in-Some w ↦ holds_of_network (IsCheckFinding text) _ (network_of file) w.find.result found
          (sym c.network.ensures ∙ ap (option_map (λ n. n.now)) w.in-Some.is) w.found-is w.find.ensures.finding
      | in-None w ↦ holds_of_none (IsCheckFinding text) (network_of file) found (sym c.network.ensures ∙ ap (option_map (λ n. n.now)) w.in-None.is)
    ] in
    ends_by_text IsCheckFinding (g.F.Form.tells c.args.form.now) (g.F.Form.faulty c.args.form.now) (g.F.Form.long c.args.form.now) _ _ _ _
    c.read_two_files-file.result.1 g.F.Form.memory _ _ text file found _ c.second_bytes-text.ensures c.read_two_files-file.ensures.files holds
    c.tell_found.ensures.told

pub returns-clause-deadlock_free : goal.returns-clause-deadlock_free
returns-clause-deadlock_free g c = λ zero.
    let file = c.read_two_files-file.result.0 in
    let found = c.match-network.found in
    let form = c.args.form.now in
    let text = option_map (λ s. s.now) c.second_bytes-text.result in
    let given = second_given c.read_two_files-file.result.1 in
    let shows : HoldsOfFound (ShowsByText text) (network_of file) found = elim c.match-network.branch [
      | in-Some w ↦ holds_of_network (ShowsByText text) _ (network_of file) w.find.result found
          (sym c.network.ensures ∙ ap (option_map (λ n. n.now)) w.in-Some.is) w.found-is w.find.ensures.deadlock_free
      | in-None w ↦ holds_of_none (ShowsByText text) (network_of file) found (sym c.network.ensures ∙ ap (option_map (λ n. n.now)) w.in-None.is)
    ] in
    accepted_text _ _ _ _ _ c.read_two_files-file.result.1 text file found c.second_bytes-text.ensures c.read_two_files-file.ensures.files shows
    (zero_found check_status (g.F.Form.tells form given) (g.F.Form.faulty form given) (g.F.Form.long form given) (g.met.F.Form.finding_has_status form given)
    (g.met.F.Form.fault_has_status form given) (g.met.F.Form.long_has_status form given) g.F.Form.memory _ _ file found _ c.tell_found.ensures.told zero)
