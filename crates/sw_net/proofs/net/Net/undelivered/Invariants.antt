use Rattle.sw_net.specs.Delivery.{IsAtNodes, IsInChannels}
use Rattle.sw_net.proofs.net.Net.undelivered.Given as goal

abbrev pub invariant-loop-number : goal.invariant-loop-number
invariant-loop-number g l = IsInChannels l.self l.number l.in_channels

abbrev pub invariant-loop-n : goal.invariant-loop-n
invariant-loop-n g l = IsAtNodes l.self l.n l.at_nodes
