use Rattle.std.proofs.Common.{◌≡◌, ◌*◌, ◌≤◌, take}
use Rattle.std.specs.Prelude.{sum_by}
use Rattle.sw_load.specs.History.{packet_of}
use Rattle.sw_load.specs.Load.{packet_count}
use Rattle.sw_machine.specs.Begun.{length_with_reply}
use Rattle.sw_machine.specs.Model.{network_of}
use Rattle.sw_load.proofs.limit.enough_limit.Given as goal

abbrev pub invariant-loop-packet : goal.invariant-loop-packet
invariant-loop-packet l = record {
  sum : l.characters ≡ sum_by (λ p. p.count * length_with_reply (network_of l.network) (packet_of p)) (take l.packet-index l.load);
  few : l.characters ≤ packet_count (take l.packet-index l.load) * 67108864;
}
