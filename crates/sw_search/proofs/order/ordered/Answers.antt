use Rattle.sw_search.proofs.Ordered.{carried}
use Rattle.sw_search.proofs.order.ordered.Goals as goal

pub returns : goal.returns
returns g c = carried c.args.network.now c.args.rows.now c.requires c.order.result c.order.ensures
