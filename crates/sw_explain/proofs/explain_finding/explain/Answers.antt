use Rattle.std.proofs.Common.{ap, sym, ◌∙◌}
use Rattle.std.specs.Prelude.{option_map}
use Rattle.sw_engine.proofs.Answered.{ends_by_file, holds_of_network, holds_of_none}
use Rattle.sw_engine.specs.Files.{network_of}
use Rattle.sw_engine.specs.Tellings.{HoldsOfFound}
use Rattle.sw_explain.specs.ExplainAnswers.{IsExplainFinding}
use Rattle.sw_explain.proofs.explain_finding.explain.Goals.{in-Some, in-None}
use Rattle.sw_explain.proofs.explain_finding.explain.Goals as goal

pub returns : goal.returns
returns g c =
    let file = c.read_network_file-file.result in
    let Finds = IsExplainFinding c.args.all in
    let holds : HoldsOfFound Finds (network_of file) c.match-network.found = elim c.match-network.branch [
      | in-Some w ↦ holds_of_network Finds _ (network_of file) w.find.result c.match-network.found
          (sym c.network.ensures ∙ ap (option_map (λ n. n.now)) w.in-Some.is) w.found-is w.find.ensures
      | in-None w ↦ holds_of_none Finds (network_of file) c.match-network.found (sym c.network.ensures ∙ ap (option_map (λ n. n.now)) w.in-None.is)
    ] in
    record {
      ended = ends_by_file Finds _ _ _ _ _ _ _ _ file c.match-network.found _ c.read_network_file-file.ensures holds c.tell_found.ensures.told;
      read = rw c.tell_found.ensures.file c.read_network_file-file.ensures;
      found = rw (c.tell_found.ensures.file, c.tell_found.ensures.found) holds;
      told = rw (c.tell_found.ensures.file, c.tell_found.ensures.found) c.tell_found.ensures.told;
    }
