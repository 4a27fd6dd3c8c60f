-- Items are totally ordered.
use Rattle.std.specs.Cmp.{IsTotalOrder, nat_cmp_total, on_total, then_total}
use Rattle.sw_output.proofs.Order.{packet_order_total}
use Rattle.sw_summary.specs.Items.{Item}
use Rattle.sw_summary.specs.KeyCounts.{item_order}

pub item_order_total : IsTotalOrder item_order
item_order_total = then_total (on_total (λ (p : Item). p.node) nat_cmp_total) (on_total (λ (p : Item). p.packet) packet_order_total)
