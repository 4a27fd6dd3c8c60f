-- The partner of a channel of a network is one of its channels.
use Rattle.std.proofs.Common.{ℕ, ◌<◌, length, arith}
use Rattle.sw_config.specs.Entries.{Declaration}
use Rattle.sw_config.specs.Wiring.{partner}
use Rattle.sw_config.proofs.Steps.{length-link_ends}
use Rattle.sw_flow.specs.Places.{ends_of}

pub partner_within : (d : Declaration) (c : ℕ) → c < length (ends_of d) → partner c < length (ends_of d)
partner_within d c lt = let even = length-link_ends d.links in grind arith
