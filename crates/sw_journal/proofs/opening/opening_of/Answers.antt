use Rattle.std.proofs.Common.{None, ap, length, replicate, rules, ◌*◌, ◌∙◌, ◌≡◌}
use Rattle.sw_config.specs.Entries.{Declaration}
use Rattle.sw_journal.proofs.opening.opening_of.Goals as goal

pub returns-clause-marks : goal.returns-clause-marks
returns-clause-marks c =
    let links = c.channels-channels.ensures.count ∙ ap (λ (d : Declaration). 2 * length d.links) c.network.ensures.network in
    let none : c.in_ok-marks.marks.items ≡ replicate c.channels-channels.result None = search rules in
    none ∙ ap (λ n. replicate n None) links
