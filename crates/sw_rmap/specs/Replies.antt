-- Where replies go, and what they say (ECSS-E-ST-50-52C, the fields of write and read commands and of their replies).
use Rattle.std.specs.Prelude.{ℕ, Bool, not, ◌==◌, ◌&&◌, List, [], ◌∷◌, ◌++◌, length, Option, Some, None, option_and_then, if◌then◌else◌}
use Rattle.std.specs.List.{list_all}
use Rattle.std.specs.Int.{bytes_high_first}
use Rattle.sw_rmap.specs.declared.status.Status.{Status}
use Rattle.sw_rmap.specs.declared.status.Status.TheVariants.{Success, UnusedCode, InvalidKey, InvalidDataCrc, EarlyEop, TooMuchData, Eep, NotAuthorised, InvalidTarget}
use Rattle.sw_rmap.specs.Crc.{with_crc}
use Rattle.sw_rmap.specs.Instruction.{is_write, wants_reply, of_reply}
use Rattle.sw_rmap.specs.CommandView.{CommandView}
use Rattle.sw_rmap.specs.Commands.{read}

-- the leading zeros of a reply address fill it up, and are no part of the path
abbrev pub without_leading_zeros : List ℕ → List ℕ
without_leading_zeros [] = []
without_leading_zeros (b ∷ bytes) = if b == 0 then without_leading_zeros bytes else b ∷ bytes

-- a reply address of zeros alone leads nowhere; one of no bytes stands for a reply that goes by the initiator's address alone
-- (that such commands get no reply is this project's choice)
abbrev pub leads_nowhere : List ℕ → Bool
leads_nowhere bytes = not (length bytes == 0) && list_all (λ b. b == 0) bytes

abbrev pub is_answered : CommandView → Bool
is_answered c = wants_reply c.instruction && not (leads_nowhere c.reply_address)

-- the path back
abbrev pub path_of : CommandView → List ℕ
path_of c = without_leading_zeros c.reply_address

-- the address bytes that the reply to a command begins with: the path back, and the initiator's address
abbrev pub way_back : CommandView → Option (List ℕ)
way_back c = if is_answered c then Some (path_of c ++ c.initiator ∷ []) else None

-- the same of a packet's bytes; nothing where they are no command, or one that gets no reply
unfoldable pub reply_to : List ℕ → Option (List ℕ)
reply_to bytes = option_and_then way_back (read bytes)

-- the code of a status (ECSS-E-ST-50-52C, error and status codes)
abbrev pub code_of : Status → ℕ
code_of Success = 0
code_of UnusedCode = 2
code_of InvalidKey = 3
code_of InvalidDataCrc = 4
code_of EarlyEop = 5
code_of TooMuchData = 6
code_of Eep = 7
code_of NotAuthorised = 10
code_of InvalidTarget = 12

-- what each reply begins with behind the path: the target's logical address is the command's, whatever the status (this project's choice)
abbrev pub reply_head : CommandView → Status → List ℕ
reply_head c status = c.initiator ∷ 1 ∷ of_reply c.instruction ∷ code_of status ∷ c.logical ∷ bytes_high_first 2 c.transaction

-- a reply from the initiator's address on: that to a write has its header alone, and that to any other command the data too
abbrev pub left_form : CommandView → Status → List ℕ → List ℕ
left_form c status found =
    if is_write c.instruction then with_crc (reply_head c status) else with_crc (reply_head c status ++ 0 ∷ bytes_high_first 3 (length found)) ++ with_crc found

-- the CRC does not cover the path
unfoldable pub reply_of : CommandView → Status → List ℕ → List ℕ
reply_of c status found = path_of c ++ left_form c status found
