use Rattle.std.proofs.Common.{ap, sym, ◌∙◌}
use Rattle.std.specs.Prelude.{is_some}
use Rattle.sw_app.proofs.Decided.{ended_so, free_so, told_certificate}
use Rattle.sw_app.proofs.decide_finding.decide.Goals as goal

pub returns-in-Some : goal.returns-in-Some
returns-in-Some g c =
    let found = c.found_of_file-found in
    let told = told_certificate c.read_network_file-file.result found.result c.in-Some.certificate.now _ _ _
    (sym found.ensures.there ∙ ap is_some c.in-Some.ensures) c.in-Some.ensures c.tell_certificate-ended.ensures in
    record {
      ended = ended_so _ _ _ _ c.read_network_file-file.result found.result _ c.read_network_file-file.ensures told found.ensures.verdict;
      deadlock_free = free_so _ _ _ _ c.read_network_file-file.result found.result _ c.read_network_file-file.ensures told found.ensures.deadlock_free;
      read = c.read_network_file-file.ensures;
      found = found.ensures.verdict;
      told = told;
    }

pub returns-in-None : goal.returns-in-None
returns-in-None g c =
    let found = c.found_of_file-found in
    let told = c.tell_found.ensures.told in
    rw (c.tell_found.ensures.file, c.tell_found.ensures.found) (record {
      ended = ended_so _ _ _ _ c.read_network_file-file.result found.result _ c.read_network_file-file.ensures told found.ensures.verdict;
      deadlock_free = free_so _ _ _ _ c.read_network_file-file.result found.result _ c.read_network_file-file.ensures told found.ensures.deadlock_free;
      read = c.read_network_file-file.ensures;
      found = found.ensures.verdict;
      told = told;
    })
