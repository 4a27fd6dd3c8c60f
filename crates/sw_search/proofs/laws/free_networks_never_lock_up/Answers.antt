use Rattle.sw_search.proofs.Rising.{free_is_certified, free_never_locks_up}
use Rattle.sw_search.proofs.laws.free_networks_never_lock_up.Goals as goal

pub returns : goal.returns
returns c = record { certified = free_is_certified; never_locks_up = free_never_locks_up }
