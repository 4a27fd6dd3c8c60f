use Rattle.std.proofs.Common.{ap, ◌∙◌}
use Rattle.sw_margin.specs.Needs.{only_link}
use Rattle.sw_margin.proofs.Needing.{link_within}
use Rattle.sw_margin.proofs.losing.link_after.Goals as goal

pub returns-clause-within : goal.returns-clause-within
returns-clause-within c = link_within c.args.network.now c.args.flow.now c.args.place.now _ (c.only_link.ensures ∙ ap only_link c.followers_in.ensures)
