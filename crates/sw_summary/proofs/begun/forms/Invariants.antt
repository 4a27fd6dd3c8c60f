use Rattle.std.proofs.Common.{◌≡◌, take}
use Rattle.sw_summary.specs.Counts.{forms}
use Rattle.sw_summary.proofs.begun.forms.Given as goal

abbrev pub invariant-loop-packet : goal.invariant-loop-packet
invariant-loop-packet l = l.all.items ≡ forms l.flow l.number (take l.packet-index l.begun)
