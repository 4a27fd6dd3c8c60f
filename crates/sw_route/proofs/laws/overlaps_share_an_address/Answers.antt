use Rattle.sw_route.proofs.Entries as entries
use Rattle.sw_route.proofs.laws.overlaps_share_an_address.Goals as goal

pub returns : goal.returns
returns c = entries.overlap_shared
