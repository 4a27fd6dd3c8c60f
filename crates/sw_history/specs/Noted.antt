-- The steps of a history, as they are kept.
use Rattle.std.specs.Prelude.{IsSome, None, Option, Some, [], if◌then◌else◌, length, slice_get, ℕ, ◌<◌}
use Rattle.sw_char.specs.declared.nchar.End.TheVariants.{Eop}
use Rattle.sw_config.specs.Entries.{Declaration}
use Rattle.sw_history.specs.History.{HistoryView}
use Rattle.sw_history.specs.Next.{begin_of}
use Rattle.sw_history.specs.declared.record.Noted.{Noted}
use Rattle.sw_history.specs.declared.record.Noted.TheVariants.{Begin, Move}
use Rattle.sw_load.specs.History.{packets_at, packets_of}
use Rattle.sw_load.specs.Senders.{SendersView}
use Rattle.sw_machine.specs.Begun.{Begun}
use Rattle.sw_machine.specs.Steps as machine
use Rattle.sw_machine.specs.Model.{network_of}
use Rattle.sw_machine.specs.StepValues.{machine_move}
use Rattle.sw_net.specs.Unanswered.{Counts, allows}

-- what the nodes send in a history
abbrev pub senders_of : HistoryView → SendersView
senders_of h = record { declared = h.declared; load = h.load }

-- the packet of node n in the load that has so many of its packets before it
abbrev pub packet_after : SendersView → ℕ → ℕ → Option Begun
packet_after s n before = slice_get (packets_at (network_of s.declared) n (packets_of s.load)) before

-- the packet, if there is one, where these counts of what is unanswered allow its beginning
abbrev pub within_limit : Declaration → Counts → Option Begun → Option Begun
within_limit d c None = None
within_limit d c (Some b) = if allows d c b.flow then Some b else None

-- the beginning of the packet (where there is none, of an empty one)
abbrev pub begin_or : Option Begun → machine.Step
begin_or (Some b) = begin_of b
begin_or None = machine.Begin 0 [] Eop

-- the step that is kept so
abbrev pub noted_step : SendersView → Noted → machine.Step
noted_step s (Move step) = machine_move step
noted_step s (Begin n before) = begin_or (packet_after s n before)

-- a beginning is that of a packet of the load
abbrev pub IsNoted : SendersView → Noted → Type 0
IsNoted s (Begin n before) = (n < length s.declared.nodes) × IsSome (packet_after s n before)
IsNoted s note = Unit {0}
