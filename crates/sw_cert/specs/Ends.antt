-- Where a flow ends.
use Rattle.std.specs.Prelude.{ℕ, List, Option, Some, None, if◌then◌else◌}
use Rattle.sw_config.specs.Entries.{FlowEntry, Declaration}
use Rattle.sw_config.specs.Limits.{may_make_wait}
use Rattle.sw_cert.specs.Refusals.{is_falling_at}

-- the node where the flow ends, if what comes there may have to wait for a reply and the numbers do not rise
abbrev pub falling_end : Declaration → List ℕ → FlowEntry → Option ℕ
falling_end d numbers f = if may_make_wait d f.to then (if is_falling_at d numbers f.to then Some f.to else None) else None
