-- The line that is written of a step (the format is that of a schedule; which of its spellings is this project's choice).
use Rattle.std.specs.Prelude.{ℕ, ◌==◌, List, [], ◌∷◌, ◌++◌, codes, length, if◌then◌else◌}
use Rattle.std.specs.Fmt.{decimal}
use Rattle.std.specs.List.{list_all}
use Rattle.hex.specs.Hex.{encode_upper}
use Rattle.sw_config.specs.Entries.{Declaration}
use Rattle.sw_machine.specs.Steps.{Step, Fct, FctIn, Arrive, Grant, Drop, Forward, Spill, Begin, Emit, Accept, Reply}
use Rattle.sw_output.specs.ChannelTexts.{node_name}
use Rattle.sw_output.specs.FlowTexts.{flow_name}
use Rattle.sw_output.specs.Lines.{spaced}
use Rattle.sw_output.specs.PacketTexts.{end_text}

-- all bytes as pairs of hexadecimal digits; where they are alike, one pair, `*` and how many they are
abbrev pub cargo_text : List ℕ → List ℕ
cargo_text [] = []
cargo_text (b ∷ bytes) =
    if list_all (λ c. c == b) bytes then encode_upper (b ∷ []) ++ (codes "*" ++ decimal (length (b ∷ bytes)))
    else encode_upper (b ∷ bytes)

abbrev pub step_words : Declaration → Step → List (List ℕ)
step_words d (Fct c) = codes "fct" ∷ decimal c ∷ []
step_words d (FctIn c) = codes "fctin" ∷ decimal c ∷ []
step_words d (Arrive c) = codes "arrive" ∷ decimal c ∷ []
step_words d (Grant o i) = codes "grant" ∷ decimal o ∷ decimal i ∷ []
step_words d (Drop c) = codes "drop" ∷ decimal c ∷ []
step_words d (Forward c) = codes "forward" ∷ decimal c ∷ []
step_words d (Spill c) = codes "spill" ∷ decimal c ∷ []
step_words d (Begin flow cargo end) = codes "begin" ∷ flow_name d flow ∷ end_text end ∷ cargo_text cargo ∷ []
step_words d (Emit n) = codes "emit" ∷ node_name d n ∷ []
step_words d (Accept n) = codes "accept" ∷ node_name d n ∷ []
step_words d (Reply n) = codes "reply" ∷ node_name d n ∷ []

-- the words of the step, with a space between each two
abbrev pub step_line : Declaration → Step → List ℕ
step_line d step = spaced (step_words d step)
