use Rattle.std.proofs.Common.{◌≡◌, ◌<◌, drop, length}
use Rattle.std.specs.Prelude.{IfSome}
use Rattle.sw_config.specs.Entries.{all_flows}
use Rattle.sw_cert.specs.Least.{lesser}
use Rattle.sw_cert.proofs.Leasts.{falling}
use Rattle.sw_cert.proofs.targets.least_falling.Given as goal

abbrev pub invariant-loop-number : goal.invariant-loop-number
invariant-loop-number l =
    (lesser l.found (falling l.network l.numbers (drop l.number (all_flows l.network))) ≡ falling l.network l.numbers (all_flows l.network))
    × IfSome l.found (λ n. n < length l.network.nodes)
