-- What a target answers, and what it stores. Which status each case has, their order, and the rule on increment are this project's choice.
use Rattle.std.specs.Prelude.{ℕ, ◌+◌, ◌-◌, ◌≤◌, Bool, true, false, not, ◌==◌, ◌&&◌, ◌||◌, nat_lt, List, [], ◌∷◌, ◌++◌, length, take, drop, slice_index, Option, Some, None, if◌then◌else◌}
use Rattle.sw_char.specs.declared.nchar.End.{End}
use Rattle.sw_char.specs.declared.nchar.End.TheVariants as ends
use Rattle.sw_rmap.specs.declared.config.TargetConfig.{TargetConfig}
use Rattle.sw_rmap.specs.declared.status.Status.{Status}
use Rattle.sw_rmap.specs.declared.status.Status.TheVariants.{Success, UnusedCode, InvalidKey, InvalidDataCrc, EarlyEop, TooMuchData, Eep, NotAuthorised, InvalidTarget}
use Rattle.sw_rmap.specs.Crc.{crc_of}
use Rattle.sw_rmap.specs.Instruction.{is_write, increments, is_read_modify_write, is_known}
use Rattle.sw_rmap.specs.CommandView.{CommandView}
use Rattle.sw_rmap.specs.Commands.{read, body_of}
use Rattle.sw_rmap.specs.Replies.{code_of, is_answered, reply_of}

abbrev pub is_error_end : End → Bool
is_error_end ends.Eop = false
is_error_end ends.Eep = true

-- no read-modify-write is done, no more than one byte without increment, and nothing outside the window
abbrev pub is_refused : TargetConfig → CommandView → Bool
is_refused t c =
    is_read_modify_write c.instruction
    || (nat_lt 1 c.data_length && not (increments c.instruction))
    || nat_lt c.address t.start
    || nat_lt (t.start + t.size) (c.address + c.data_length)

-- how many bytes stand behind the header of a right command: the data of a write and their CRC, and none else
abbrev pub body_len : CommandView → ℕ
body_len c = if is_write c.instruction then c.data_length + 1 else 0

abbrev pub is_corrupt : CommandView → List ℕ → Bool
is_corrupt c body = is_write c.instruction && not (crc_of (take c.data_length body) == slice_index body c.data_length)

-- the cases and their statuses, in order
abbrev pub cases_of : TargetConfig → CommandView → List ℕ → End → List (Bool × Status)
cases_of t c body end =
    (not (is_known c.instruction), UnusedCode)
    ∷ (not (c.key == t.key), InvalidKey)
    ∷ (not (c.logical == t.logical), InvalidTarget)
    ∷ (is_refused t c, NotAuthorised)
    ∷ (is_error_end end, Eep)
    ∷ (nat_lt (length body) (body_len c), EarlyEop)
    ∷ (nat_lt (body_len c) (length body), TooMuchData)
    ∷ (is_corrupt c body, InvalidDataCrc)
    ∷ []

-- the status of the first case that is so
abbrev pub first_of : List (Bool × Status) → Status
first_of [] = Success
first_of (case ∷ cases) = if case.0 then case.1 else first_of cases

unfoldable pub status_of : TargetConfig → CommandView → List ℕ → End → Status
status_of t c body end = first_of (cases_of t c body end)

abbrev pub is_success : Status → Bool
is_success status = code_of status == 0

-- all that the command is about lies in the window
pub record IsInWindow (t : TargetConfig) (c : CommandView) : Type 0 where
  pub low : t.start ≤ c.address
  pub high : c.address + c.data_length ≤ t.start + t.size

-- what a read finds
abbrev pub found_by : TargetConfig → CommandView → Status → List ℕ → List ℕ
found_by t c status memory = if is_success status && not (is_write c.instruction) then take c.data_length (drop (c.address - t.start) memory) else []

-- the memory with these data from place `at` on
abbrev pub stored : List ℕ → ℕ → List ℕ → List ℕ
stored memory at bytes = take at memory ++ bytes ++ drop (at + length bytes) memory

abbrev pub memory_after : TargetConfig → CommandView → Status → List ℕ → List ℕ → List ℕ
memory_after t c status body memory = if is_success status && is_write c.instruction then stored memory (c.address - t.start) (take c.data_length body) else memory

-- the reply to a command, if it gets one, and the memory after it
unfoldable pub answer_to : TargetConfig → List ℕ → CommandView → List ℕ → End → Option (List ℕ) × List ℕ
answer_to t memory c body end =
    let status = status_of t c body end in
    ((if is_answered c then Some (reply_of c status (found_by t c status memory)) else None), memory_after t c status body memory)

-- the reply to a packet, if it gets one, and the memory after it
abbrev pub answer_where : TargetConfig → List ℕ → List ℕ → End → Option CommandView → Option (List ℕ) × List ℕ
answer_where t memory bytes end None = (None, memory)
answer_where t memory bytes end (Some c) = answer_to t memory c (body_of bytes) end

unfoldable pub answer : TargetConfig → List ℕ → List ℕ → End → Option (List ℕ) × List ℕ
answer t memory bytes end = answer_where t memory bytes end (read bytes)

-- a target: its configuration, and what its window holds
pub record TargetView : Type 0 where
  pub config : TargetConfig
  pub memory : List ℕ
