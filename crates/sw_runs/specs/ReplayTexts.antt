-- The text of `replay` (this project's choice).
use Rattle.std.specs.Prelude.{ℕ, Bool, false, true, List, [], ◌∷◌, ◌++◌, codes}
use Rattle.std.specs.Fmt.{decimal}
use Rattle.sw_config.specs.Entries.{Declaration}
use Rattle.sw_schedule.specs.declared.replayed.ReplayEnd.{ReplayEnd}
use Rattle.sw_schedule.specs.declared.replayed.ReplayEnd.TheVariants.{Made, Refused}
use Rattle.sw_schedule.specs.declared.replayed.StepRefusal.{StepRefusal}
use Rattle.sw_schedule.specs.declared.replayed.StepRefusal.TheVariants.{NotEnabled, NotInFlow, OverLimit}
use Rattle.sw_schedule.specs.Reports.{Report}
use Rattle.sw_output.specs.PacketTexts.{by_node, node_line, packet_lines, undelivered_line}
use Rattle.sw_output.specs.Lines.{line}

abbrev pub refusal_text : StepRefusal → List ℕ
refusal_text NotEnabled = codes "N1 NotEnabled"
refusal_text NotInFlow = codes "N2 NotInFlow"
refusal_text OverLimit = codes "N4 OverLimit"

-- how many steps were made, or the number of the step that was refused, and why
abbrev pub made_line : ReplayEnd → List ℕ
made_line (Made count) = line (codes "replayed" ∷ decimal count ∷ [])
made_line (Refused number refusal) = line (codes "refused" ∷ decimal number ∷ refusal_text refusal ∷ [])

-- whether the network is locked up
abbrev pub stuck_line : Bool → List ℕ
stuck_line true = line (codes "stuck yes" ∷ [])
stuck_line false = line (codes "stuck no" ∷ [])

-- how far the steps were made, and what is true of the state then
abbrev pub state_lines : Report → List ℕ
state_lines r = made_line r.outcome ++ (undelivered_line r.remaining ++ stuck_line r.stuck)

-- then which packets came out: first how many at each node, then all
abbrev pub replay_text : Declaration → Report → List ℕ
replay_text d r = state_lines r ++ (by_node node_line d r.came_out ++ by_node packet_lines d r.came_out)

-- a refused step before a lock-up
abbrev pub replay_status : ReplayEnd → Bool → ℕ
replay_status (Refused number refusal) stuck = 1
replay_status (Made count) true = 4
replay_status (Made count) false = 0
