-- A packet as callers see it.
use Rattle.std.specs.Prelude.{ℕ, List}
use Rattle.sw_char.specs.declared.nchar.End.{End}

-- address bytes and cargo, and how the packet ends
pub record PacketView : Type 0 where
  pub bytes : List ℕ
  pub end : End
