-- The text of `run` (this project's choice).
use Rattle.std.specs.Prelude.{ℕ, List, [], ◌∷◌, ◌++◌, codes, map}
use Rattle.sw_config.specs.Entries.{Declaration}
use Rattle.sw_output.specs.Tallies.{sent_text}
use Rattle.sw_run.specs.declared.outcome.Stop.{Stop}
use Rattle.sw_run.specs.declared.outcome.Stop.TheVariants.{Drained, Stuck, Waiting, JournalFull, Memory}
use Rattle.sw_output.specs.Lines.{line}
use Rattle.sw_char.specs.PacketView.{PacketView}
use Rattle.sw_runs.specs.declared.run_finding.RunReport.{RunReport}

-- why a run stopped
abbrev pub stop_word : Stop → List ℕ
stop_word Drained = codes "drained"
stop_word Stuck = codes "stuck"
stop_word Waiting = codes "waiting"
stop_word JournalFull = codes "journal-full"
stop_word Memory = codes "memory"

abbrev pub stop_status : Stop → ℕ
stop_status Drained = 0
stop_status Stuck = 4
stop_status Waiting = 4
stop_status JournalFull = 5
stop_status Memory = 5

-- the packets that came out, a list for each node
abbrev pub packets_of : RunReport → List (List PacketView)
packets_of r = map (λ packets. packets.items) r.came_out.items

-- why the run stopped, then how much was undelivered and which packets had come out
abbrev pub report_text : Declaration → RunReport → List ℕ
report_text d r = line (stop_word r.stop ∷ []) ++ sent_text d r.undelivered (packets_of r)
