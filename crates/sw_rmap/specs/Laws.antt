-- What holds of commands, replies and targets.
use Rattle.std.specs.Prelude.{◌≡◌, ◌≢◌, ℕ, ◌+◌, ◌≤◌, ◌<◌, true, false, List, [], ◌∷◌, ◌++◌, length, take, slice_index, Some, None, is_some, if◌then◌else◌}
use Rattle.sw_char.specs.declared.nchar.End.{End}
use Rattle.sw_rmap.specs.declared.config.TargetConfig.{TargetConfig}
use Rattle.sw_rmap.specs.declared.status.Status.TheVariants.{Success}
use Rattle.sw_rmap.specs.Crc.{crc_of, with_crc}
use Rattle.sw_rmap.specs.Instruction.{is_write, reply_address_len}
use Rattle.sw_rmap.specs.CommandView.{CommandView, IsCommand}
use Rattle.sw_rmap.specs.Commands.{instruction_of, header_of, body_of, read, written}
use Rattle.sw_rmap.specs.Replies.{is_answered, reply_of, reply_to}
use Rattle.sw_rmap.specs.Answers.{status_of, answer}

-- the code of a text followed by its code is 0
abbrev pub CodeOfWholeIsZero : Type 0
CodeOfWholeIsZero = (bytes : List ℕ) → crc_of (with_crc bytes) ≡ 0

-- a command that was written is read again, and its data stand behind it
abbrev pub WrittenIsRead : Type 0
WrittenIsRead = (c : CommandView) (body : List ℕ) → IsCommand c → (read (written c body) ≡ Some c) × (body_of (written c body) ≡ (if is_write c.instruction then with_crc body else []))

-- bytes that are read as a command begin as it is written
abbrev pub ReadIsWritten : Type 0
ReadIsWritten = (bytes : List ℕ) (c : CommandView) → ((i : ℕ) → slice_index bytes i < 256) → read bytes ≡ Some c → bytes ≡ with_crc (header_of c) ++ body_of bytes

-- whether there is a reply, and where it goes, is in the header: what comes behind it changes nothing
abbrev pub WayBackIsInHeader : Type 0
WayBackIsInHeader = (header body other : List ℕ) → 16 + reply_address_len (instruction_of header) ≤ length header → reply_to (header ++ body) ≡ reply_to (header ++ other)

-- whatever the memory and the end marker, a packet is answered exactly where it says a way back, and by that way
abbrev pub AnswersByTheWayBack : Type 0
AnswersByTheWayBack = (t : TargetConfig) (memory bytes : List ℕ) (end : End)
    → (is_some (answer t memory bytes end).0 ≡ is_some (reply_to bytes))
    × ((reply way : List ℕ) → (answer t memory bytes end).0 ≡ Some reply → reply_to bytes ≡ Some way → (left : List ℕ) × (reply ≡ way ++ left))

-- a reply that has come to its end, of which the initiator's address and what follows it are left, gets no reply
abbrev pub RepliesGetNoReply : Type 0
RepliesGetNoReply = (t : TargetConfig) (memory bytes : List ℕ) (end : End) (path left : List ℕ) (initiator : ℕ)
    → reply_to bytes ≡ Some (path ++ initiator ∷ []) → (answer t memory bytes end).0 ≡ Some (path ++ left) → reply_to left ≡ None

-- only a write whose status is success changes the memory
abbrev pub OnlySuccessStores : Type 0
OnlySuccessStores = (t : TargetConfig) (memory bytes : List ℕ) (end : End)
    → (read bytes ≡ None → (answer t memory bytes end).1 ≡ memory)
    × ((c : CommandView) → read bytes ≡ Some c → is_write c.instruction ≡ false → (answer t memory bytes end).1 ≡ memory)
    × ((c : CommandView) → read bytes ≡ Some c → status_of t c (body_of bytes) end ≢ Success → (answer t memory bytes end).1 ≡ memory)

-- the memory has as many bytes as the window, before and after
abbrev pub MemoryKeepsItsLength : Type 0
MemoryKeepsItsLength = (t : TargetConfig) (memory bytes : List ℕ) (end : End) → length memory ≡ t.size → length (answer t memory bytes end).1 ≡ t.size

-- what a write stored is what a read of the same place finds
abbrev pub WriteThenRead : Type 0
WriteThenRead = (t : TargetConfig) (memory first second : List ℕ) (first_end second_end : End) (w r : CommandView)
    → length memory ≡ t.size
    → read first ≡ Some w → is_write w.instruction ≡ true → status_of t w (body_of first) first_end ≡ Success
    → read second ≡ Some r → is_write r.instruction ≡ false → status_of t r (body_of second) second_end ≡ Success
    → r.address ≡ w.address → r.data_length ≡ w.data_length → is_answered r ≡ true
    → (answer t (answer t memory first first_end).1 second second_end).0 ≡ Some (reply_of r Success (take w.data_length (body_of first)))
