use Rattle.std.proofs.Common.{ap, ◌∙◌}
use Rattle.std.specs.Prelude.{replicate}
use Rattle.sw_history.proofs.packets.nothing_begun.Goals as goal

pub returns-clause-begun : goal.returns-clause-begun
returns-clause-begun c = c.in_ok-begun.ensures.items_if_clones_equal (λ y same. same) ∙ ap (λ n. replicate n 0) c.nodes-nodes.ensures.count
