use Rattle.std.proofs.Common.{◌≡◌, ◌≤◌}
use Rattle.sw_config.specs.Laws.{replies_before}
use Rattle.sw_mend.proofs.uses.answered_flow.Given as goal

abbrev pub invariant-loop-number : goal.invariant-loop-number
invariant-loop-number l = (l.replies ≡ replies_before l.network.flows l.number) × (l.replies ≤ l.reply)
