-- Two small networks whose dependencies are a cycle, and are none where few enough commands may be unanswered: how few is told sharply.
use Rattle.std.specs.Option.{option_map}
use Rattle.std.specs.Prelude.{List, None, Option, Some, [], false, if◌then◌else◌, is_some, nat_eq, nat_lt, replicate, suc, zero, ℕ, ◌&&◌, ◌++◌, ◌∷◌}
use Rattle.sw_char.specs.declared.nchar.End.TheVariants.{Eop as ByEop}
use Rattle.sw_machine.specs.Certificate.{Certificate}
use Rattle.sw_machine.specs.Limits.{KeepsLimits}
use Rattle.sw_machine.specs.Network.{AtNode, AtSwitch, Cell, Flow, Network}
use Rattle.sw_machine.specs.Runs.{IsLockedUp, Run}
use Rattle.sw_machine.specs.Sample.{Row, cell_at, look_in, place, row}
use Rattle.sw_machine.specs.State.{State, empty}
use Rattle.sw_machine.specs.Steps.{Accept, Arrive, Begin, Emit, Forward, Grant, Reply, Step}
use Rattle.sw_machine.specs.Witnesses.{fct}
use Rattle.sw_rmap.specs.Owing.{PendingReply}

-- a reply of eight bytes behind its address, which is longer than a buffer
abbrev pub long_reply : List ℕ → PendingReply
long_reply address = record { address = address; cargo = replicate 8 0 }

-- Two targets at the ends of one link, which send commands to each other: so replies end at both too.
abbrev pub duel_flow : ℕ → Flow
duel_flow zero = record { from = 0; to = 1; address = []; left = 0; reply = Some 2 }
duel_flow (suc zero) = record { from = 1; to = 0; address = []; left = 0; reply = Some 3 }
duel_flow (suc (suc zero)) = record { from = 1; to = 0; address = 67 ∷ []; left = 1; reply = None }
duel_flow (suc (suc (suc zero))) = record { from = 0; to = 1; address = 67 ∷ []; left = 1; reply = None }
duel_flow (suc (suc (suc (suc i)))) = record { from = 0; to = 0; address = []; left = 0; reply = None }

-- a packet is a command, unless it begins with the initiator logical address, as the replies do
abbrev pub duel_reply_to : List ℕ → Option (List ℕ)
duel_reply_to [] = None
duel_reply_to (byte ∷ bytes) = if nat_eq byte 67 then None else Some (67 ∷ [])

-- each target may owe so many replies, and so many commands may be unanswered at each, if that is limited
abbrev pub duel : ℕ → Option ℕ → Network
duel slots limit = record {
  channels = 2;
  start_of = λ c. AtNode c;
  end_of = λ c. AtNode (if nat_eq c 0 then 1 else 0);
  capacity = λ c. 8;
  nodes = 2;
  out = λ n. n;
  into = λ n. if nat_eq n 0 then 1 else 0;
  look = λ s h. [];
  deletes = λ s h. false;
  declared_flows = 2;
  flows = 4;
  flow = duel_flow;
  reply_to = λ n bytes. duel_reply_to bytes;
  answer = λ n memory bytes end. option_map long_reply (duel_reply_to bytes);
  longest = λ n. 8;
  slots = λ n. slots;
  limited = λ i. nat_lt i 2 && is_some limit;
  limit = λ n. limit;
  memory_after = λ n memory bytes end. memory;
  memory_at_first = λ n. [];
}

abbrev pub duel_certificate : Certificate
duel_certificate = record {
  numbers = 0 ∷ 0 ∷ [];
  places = (place 0 0 ∷ []) ∷ (place 1 0 ∷ []) ∷ (place 1 0 ∷ []) ∷ (place 0 0 ∷ []) ∷ [];
}

-- node n sends a command of one byte over the channel of that number
abbrev pub duel_command : ℕ → List Step
duel_command n = Begin n (1 ∷ []) ByEop ∷ replicate 2 (Emit n) ++ replicate 2 (Arrive n)

-- and begins a reply, of which four characters fit into the other's buffer
abbrev pub duel_reply : ℕ → List Step
duel_reply n = Reply n ∷ replicate 4 (Emit n) ++ replicate 4 (Arrive n)

-- each sends two commands and takes two, so it owes two replies, and takes no reply
abbrev pub duel_steps : List Step
duel_steps =
    fct 0 ++ (fct 1 ++ (duel_command 0 ++ (duel_command 1 ++ (duel_command 0 ++ (duel_command 1
    ++ (replicate 4 (Accept 0) ++ (replicate 4 (Accept 1) ++ (duel_reply 0 ++ duel_reply 1))))))))

-- Node 0 and target 1 at a switch, whose ports 1 and 2 they are at. The commands of node 0 and their replies pass a link that has both ends
-- at the switch, by its port 3. Only commands end at the target, which may owe one reply.
abbrev pub detour_starts : List Cell
detour_starts = AtNode 0 ∷ AtSwitch 0 ∷ AtNode 1 ∷ AtSwitch 0 ∷ AtSwitch 0 ∷ AtSwitch 0 ∷ []

abbrev pub detour_ends : List Cell
detour_ends = AtSwitch 0 ∷ AtNode 0 ∷ AtSwitch 0 ∷ AtNode 1 ∷ AtSwitch 0 ∷ AtSwitch 0 ∷ []

abbrev pub detour_table : List Row
detour_table = row 1 (1 ∷ []) ∷ row 2 (3 ∷ []) ∷ row 3 (4 ∷ []) ∷ []

abbrev pub detour_flow : ℕ → Flow
detour_flow zero = record { from = 0; to = 1; address = 3 ∷ 2 ∷ []; left = 0; reply = Some 1 }
detour_flow (suc zero) = record { from = 1; to = 0; address = 3 ∷ 1 ∷ 67 ∷ []; left = 1; reply = None }
detour_flow (suc (suc i)) = record { from = 0; to = 0; address = []; left = 0; reply = None }

-- target 1 answers each packet that is not empty
abbrev pub detour_reply_to : ℕ → List ℕ → Option (List ℕ)
detour_reply_to (suc zero) (byte ∷ bytes) = Some (3 ∷ 1 ∷ 67 ∷ [])
detour_reply_to n bytes = None

-- so many commands may be unanswered at the target, if that is limited
abbrev pub detour : Option ℕ → Network
detour limit = record {
  channels = 6;
  start_of = cell_at detour_starts;
  end_of = cell_at detour_ends;
  capacity = λ c. 8;
  nodes = 2;
  out = λ n. if nat_eq n 0 then 0 else 2;
  into = λ n. if nat_eq n 0 then 1 else 3;
  look = λ s h. if nat_eq s 0 then look_in detour_table h else [];
  deletes = λ s h. nat_lt h 32;
  declared_flows = 1;
  flows = 2;
  flow = detour_flow;
  reply_to = detour_reply_to;
  answer = λ n memory bytes end. option_map long_reply (detour_reply_to n bytes);
  longest = λ n. 8;
  slots = λ n. 1;
  limited = λ i. nat_eq i 0 && is_some limit;
  limit = λ n. if nat_eq n 1 then limit else None;
  memory_after = λ n memory bytes end. memory;
  memory_at_first = λ n. [];
}

abbrev pub detour_certificate : Certificate
detour_certificate = record {
  numbers = 0 ∷ 2 ∷ 0 ∷ 2 ∷ 1 ∷ 0 ∷ [];
  places = (place 0 0 ∷ place 4 1 ∷ place 3 2 ∷ []) ∷ (place 2 0 ∷ place 4 1 ∷ place 1 2 ∷ []) ∷ [];
}

-- a command of one byte, which the target takes
abbrev pub short_command : List Step
short_command =
    Begin 0 (7 ∷ []) ByEop ∷ replicate 4 (Emit 0) ++ (replicate 4 (Arrive 0) ++ (Grant 4 0 ∷ replicate 3 (Forward 0)
    ++ (replicate 3 (Arrive 4) ++ (Grant 3 4 ∷ replicate 2 (Forward 4) ++ (replicate 2 (Arrive 3) ++ replicate 2 (Accept 1))))))

-- A command of thirty bytes, which comes to the target, and waits there: it fills each buffer on its way, and holds the channel that the
-- reply needs.
abbrev pub waiting_command : List Step
waiting_command =
    Begin 0 (replicate 30 9) ByEop ∷ replicate 4 (Emit 0) ++ (replicate 4 (Arrive 0) ++ (Grant 4 0 ∷ replicate 3 (Forward 0)
    ++ (replicate 3 (Arrive 4) ++ (Grant 3 4 ∷ replicate 2 (Forward 4) ++ (replicate 2 (Arrive 3)
    ++ (fct 0 ++ (replicate 8 (Emit 0) ++ (replicate 8 (Arrive 0) ++ (replicate 2 (Forward 0)
    ++ (replicate 2 (Arrive 4) ++ (replicate 2 (Forward 4) ++ (replicate 2 (Arrive 3)
    ++ (fct 4 ++ (replicate 6 (Forward 0) ++ (replicate 6 (Arrive 4) ++ (replicate 2 (Forward 4) ++ (replicate 2 (Arrive 3)
    ++ (fct 0 ++ (replicate 8 (Emit 0) ++ (replicate 8 (Arrive 0) ++ (replicate 2 (Forward 0) ++ replicate 2 (Arrive 4))))))))))))))))))))))

-- two commands are unanswered, one of them owed: the target takes no more until its reply has gone, whose way the other one is in
abbrev pub detour_steps : List Step
detour_steps =
    fct 0 ++ (fct 1 ++ (fct 2 ++ (fct 3 ++ (fct 4 ++ (fct 5 ++ (short_command ++ (waiting_command
    ++ (Reply 1 ∷ replicate 8 (Emit 1) ++ replicate 8 (Arrive 2)))))))))

-- these steps keep the limits, and lead to a state that is locked up
pub record LocksUp (net : Network) (steps : List Step) : Type 0 where
  pub s : State
  pub run : Run net (empty net) steps s
  pub keeps : KeepsLimits net steps
  pub locked : IsLockedUp net s
