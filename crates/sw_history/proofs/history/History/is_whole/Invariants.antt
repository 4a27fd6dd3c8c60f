use Rattle.std.proofs.Common.{false, ℕ, ◌<◌, ◌≡◌}
use Rattle.std.specs.Prelude.{is_some}
use Rattle.sw_history.proofs.history.History.is_whole.Given as goal
use Rattle.sw_load.specs.History.{next_packet, packets_of}
use Rattle.sw_machine.specs.Model.{network_of}

abbrev pub invariant-loop-node : goal.invariant-loop-node
invariant-loop-node g l = (k : ℕ) → k < l.node → is_some (next_packet (network_of l.self.declared) (packets_of l.self.load) l.self.steps k) ≡ false
