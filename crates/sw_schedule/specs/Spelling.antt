-- The line that writes a step once.
use Rattle.std.specs.Prelude.{◌≡◌, ℕ, ◌<◌, ◌≤◌, ◌*◌, ◌==◌, false, List, [], ◌∷◌, ◌++◌, length, All, codes, Some, Ok}
use Rattle.std.specs.Fmt.{decimal}
use Rattle.std.specs.List.{flat_map}
use Rattle.sw_char.specs.declared.nchar.End.{End}
use Rattle.sw_machine.specs.Steps.{Step, Fct, FctIn, Arrive, Grant, Drop, Forward, Spill, Begin, Emit, Accept, Reply}
use Rattle.sw_config.specs.Entries.{Declaration}
use Rattle.sw_load.specs.Cargo.{bytes_of}
use Rattle.sw_schedule.specs.Lines.{flow_of, node_of}
use Rattle.sw_schedule.specs.Schedule.{steps_of_text}
use Rattle.sw_output.specs.PacketTexts.{end_text}

-- neither a space nor LF stands in it
pub record IsWord (word : List ℕ) : Type 0 where
  pub no_space : All (λ b. (b == 32) ≡ false) word
  pub no_lf : All (λ b. (b == 10) ≡ false) word

-- a word, and the number of a channel of the network
pub record IsAtChannel (d : Declaration) (verb : List ℕ) (c : ℕ) (line : List ℕ) : Type 0 where
  pub in_net : c < 2 * length d.links
  pub few : c ≤ 65535
  pub written : line ≡ verb ++ decimal c

-- a word, and the name of a node
pub record IsAtNode (d : Declaration) (verb : List ℕ) (n : ℕ) (line : List ℕ) : Type 0 where
  pub name : List ℕ
  pub word : IsWord name
  pub node : node_of d name ≡ Some n
  pub written : line ≡ verb ++ name

pub record IsGrant (d : Declaration) (output input : ℕ) (line : List ℕ) : Type 0 where
  pub output_in_net : output < 2 * length d.links
  pub input_in_net : input < 2 * length d.links
  pub few : (output ≤ 65535) × (input ≤ 65535)
  pub written : line ≡ codes "grant " ++ (decimal output ++ (32 ∷ decimal input))

-- the name of the flow, how the packet ends, and a text of its cargo
pub record IsBegin (d : Declaration) (flow : ℕ) (cargo : List ℕ) (end : End) (line : List ℕ) : Type 0 where
  pub name : List ℕ
  pub text : List ℕ
  pub words : IsWord name × IsWord text
  pub named : flow_of d name ≡ Some flow
  pub spelled : bytes_of text ≡ Some cargo
  pub written : line ≡ codes "begin " ++ (name ++ (32 ∷ (end_text end ++ (32 ∷ text))))

-- the line writes the step
abbrev pub Writes : Declaration → Step → List ℕ → Type 0
Writes d (Fct c) line = IsAtChannel d (codes "fct ") c line
Writes d (FctIn c) line = IsAtChannel d (codes "fctin ") c line
Writes d (Arrive c) line = IsAtChannel d (codes "arrive ") c line
Writes d (Grant o i) line = IsGrant d o i line
Writes d (Drop c) line = IsAtChannel d (codes "drop ") c line
Writes d (Forward c) line = IsAtChannel d (codes "forward ") c line
Writes d (Spill c) line = IsAtChannel d (codes "spill ") c line
Writes d (Begin flow cargo end) line = IsBegin d flow cargo end line
Writes d (Emit n) line = IsAtNode d (codes "emit ") n line
Writes d (Accept n) line = IsAtNode d (codes "accept ") n line
Writes d (Reply n) line = IsAtNode d (codes "reply ") n line

-- line by line
abbrev pub AllWritten : Declaration → List Step → List (List ℕ) → Type 0
AllWritten d [] [] = Unit {0}
AllWritten d (step ∷ steps) (line ∷ lines) = Writes d step line × AllWritten d steps lines
AllWritten d steps lines = ⊥

-- Steps that are written line by line, each line with its LF, are read as these steps.
abbrev pub WrittenIsRead : Type 0
WrittenIsRead = (d : Declaration) (steps : List Step) (lines : List (List ℕ)) → AllWritten d steps lines → length steps ≤ 1000000 → steps_of_text d (flat_map (λ line. line ++ 10 ∷ []) lines) ≡ Ok steps
