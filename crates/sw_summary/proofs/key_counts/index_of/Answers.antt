use Rattle.std.proofs.Common.{rules}
use Rattle.sw_summary.specs.KeyCounts.{item_order}
use Rattle.sw_output.proofs.Order.{searched}
use Rattle.sw_summary.proofs.key_counts.index_of.Goals as goal

pub returns-clause-position : goal.returns-clause-position
returns-clause-position c =
    searched (λ t. item_order t.item c.args.key.now) c.args.key_counts.now c.binary_search_by.result c.binary_search_by.ensures.position (search rules)
