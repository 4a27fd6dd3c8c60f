-- Which configurations a target may have.
use Rattle.std.specs.Prelude.{◌+◌, ◌≤◌}
use Rattle.sw_rmap.specs.declared.config.TargetConfig.{TargetConfig}

-- logical addresses are 32 to 254; the window has 1 to 65536 of the 2^40 addresses; 1 to 64 replies may be owed
-- (the window's size and the number of replies owed are this project's choice)
pub record IsTargetConfig (c : TargetConfig) : Type 0 where
  pub low_logical : 32 ≤ c.logical
  pub high_logical : c.logical ≤ 254
  pub low_size : 1 ≤ c.size
  pub high_size : c.size ≤ 65536
  pub window : c.start + c.size ≤ 1099511627776
  pub low_slots : 1 ≤ c.slots
  pub high_slots : c.slots ≤ 64
