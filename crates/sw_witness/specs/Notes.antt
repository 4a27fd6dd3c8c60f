-- Lines of a schedule that a replay passes over (this project's choice).
use Rattle.std.specs.Prelude.{List, codes, ℕ, ◌++◌}
use Rattle.sw_config.specs.Entries.{Declaration}
use Rattle.sw_output.specs.ChannelTexts.{channel_text}
use Rattle.sw_witness.specs.declared.notes.Holder.{Holder}
use Rattle.sw_witness.specs.declared.notes.Holder.TheVariants.{Flow, Target}

-- a packet of the flow of that name is to hold the one and to wait for the other; or the target of that name is to take nothing from the one until its
-- reply has left on the other
abbrev pub line_of : Holder → List ℕ → List ℕ → List ℕ → List ℕ
line_of Flow name held wanted = codes "# a packet of " ++ (name ++ (codes " is to hold " ++ (held ++ (codes " and to wait for " ++ (wanted ++ codes "\n")))))
line_of Target name held wanted = codes "# " ++ (name ++ (codes " is to take nothing from " ++ (held ++ (codes " until its reply has left on " ++ (wanted ++ codes "\n")))))

-- the same of two channels
abbrev pub note_line : Declaration → Holder → List ℕ → ℕ → ℕ → List ℕ
note_line d holder name held wanted = line_of holder name (channel_text d held) (channel_text d wanted)
