use Rattle.std.proofs.Common.{◌≡◌, false, take}
use Rattle.std.specs.List.{list_any}
use Rattle.sw_config.specs.Entries.{is_answered_at}
use Rattle.sw_config.proofs.network.Network.is_answering.Given as goal

abbrev pub invariant-loop-number : goal.invariant-loop-number
invariant-loop-number l = list_any (is_answered_at l.node) (take l.number l.self.flows) ≡ false
