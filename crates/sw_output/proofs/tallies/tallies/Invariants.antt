use Rattle.std.proofs.Common.{◌≡◌, take}
use Rattle.sw_output.specs.Tallies.{tallies}
use Rattle.sw_output.proofs.tallies.tallies.Given as goal

abbrev pub invariant-loop-packet : goal.invariant-loop-packet
invariant-loop-packet l = l.all.items ≡ tallies (take l.packet-index l.packets)
