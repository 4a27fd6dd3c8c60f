-- Runs of the small network that show what the steps do, to their ends.
use Rattle.std.specs.Prelude.{List, [], replicate, ℕ, ◌++◌, ◌∷◌, ◌≡◌}
use Rattle.sw_char.specs.declared.nchar.End.TheVariants.{Eop as ByEop}
use Rattle.sw_machine.specs.Packets.{Packet}
use Rattle.sw_machine.specs.Runs.{CameOut, Run, undelivered}
use Rattle.sw_machine.specs.Sample.{misrouted, of_capacity, sample}
use Rattle.sw_machine.specs.State.{State, empty}
use Rattle.sw_machine.specs.Steps.{Accept, Arrive, Begin, Drop, Emit, Fct, FctIn, Forward, Grant, IsPossible, Reply, Spill, Step}
use Rattle.sw_machine.specs.declared.input.InputState.TheVariants.{Idle}

-- with buffers of this size, so many FCTs can be sent on channel 0 at first, and not one more
abbrev pub SendsFcts : ℕ → ℕ → Type 0
SendsFcts capacity count = (s : State) × Run (of_capacity capacity) (empty (of_capacity capacity)) (replicate count (Fct 0)) s × (IsPossible (of_capacity capacity) s (Fct 0) → ⊥)

-- an FCT is sent for the channel, and arrives
abbrev pub fct : ℕ → List Step
fct c = Fct c ∷ FctIn c ∷ []

-- node 0 sends a command of one byte, by the group's channel d, and the target takes it
abbrev pub command : ℕ → ℕ → List Step
command byte d =
    Begin 0 (byte ∷ []) ByEop ∷ replicate 3 (Emit 0)
    ++ (replicate 3 (Arrive 0) ++ (Grant d 0 ∷ replicate 3 (Forward 0)
    ++ (replicate 3 (Arrive d) ++ (Grant 6 d ∷ replicate 3 (Forward d)
    ++ (replicate 3 (Arrive 6) ++ replicate 3 (Accept 1))))))

-- the target sends a reply, and node 0 takes it
abbrev pub reply : List Step
reply =
    Reply 1 ∷ replicate 5 (Emit 1)
    ++ (replicate 5 (Arrive 7) ++ (Grant 5 7 ∷ replicate 4 (Forward 7)
    ++ (replicate 4 (Arrive 5) ++ (Grant 1 5 ∷ replicate 3 (Forward 5)
    ++ (replicate 3 (Arrive 1) ++ replicate 3 (Accept 0))))))

abbrev pub commands : List Step
commands = fct 0 ++ (fct 2 ++ (fct 4 ++ (fct 6 ++ (command 7 2 ++ command 9 4))))

abbrev pub replies : List Step
replies = fct 7 ++ (fct 7 ++ (fct 5 ++ (fct 1 ++ (reply ++ reply))))

abbrev pub packet : List ℕ → Packet
packet bytes = record { bytes = bytes; end = ByEop }

-- two commands, over either link, are taken before the first is answered, and then answered: the address is kept, the memory changed, and all came out
pub record IsAnswered : Type 0 where
  pub mid : State
  pub asked : Run sample (empty sample) commands mid
  pub owed : mid.owed 1 ≡ 2
  pub memory : mid.memory 1 ≡ 9 ∷ []
  pub s : State
  pub answered : Run sample mid replies s
  pub settled : s.owed 1 ≡ 0
  pub at_target : CameOut s 1 (packet (40 ∷ 7 ∷ []) ∷ packet (40 ∷ 9 ∷ []) ∷ [])
  pub at_node : CameOut s 0 (packet (67 ∷ 7 ∷ []) ∷ packet (67 ∷ 9 ∷ []) ∷ [])
  pub delivered : undelivered sample s ≡ 0

-- a packet that is lost on its way: all of it is discarded, and not a character more
abbrev pub discards : List Step
discards = fct 0 ++ (Begin 0 (7 ∷ []) ByEop ∷ replicate 3 (Emit 0) ++ (replicate 3 (Arrive 0) ++ (Drop 0 ∷ replicate 3 (Spill 0))))

pub record IsDiscarded : Type 0 where
  pub s : State
  pub run : Run misrouted (empty misrouted) discards s
  pub idle : s.input 0 ≡ Idle
  pub delivered : undelivered misrouted s ≡ 0
  pub nothing : s.taken 1 ≡ []
  pub no_more : IsPossible misrouted s (Spill 0) → ⊥

-- a packet whose bytes lead it astray and are all deleted: its marker comes to a switch alone
abbrev pub strays : List Step
strays = fct 0 ++ (fct 2 ++ (fct 3 ++ (Begin 1 (2 ∷ []) ByEop ∷ replicate 3 (Emit 0)
    ++ (replicate 3 (Arrive 0) ++ (Grant 2 0 ∷ replicate 2 (Forward 0)
    ++ (replicate 2 (Arrive 2) ++ (Grant 3 2 ∷ Forward 2 ∷ Arrive 3 ∷ Drop 3 ∷ [])))))))

-- that marker is lost, and the input waits again
pub record IsDropped : Type 0 where
  pub s : State
  pub run : Run misrouted (empty misrouted) strays s
  pub idle : s.input 3 ≡ Idle
  pub delivered : undelivered misrouted s ≡ 0
