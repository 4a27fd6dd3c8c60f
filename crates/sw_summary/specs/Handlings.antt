-- Which packets to a target are answered, and why the others are not (ECSS-E-ST-50-52C, the fields of a command).
use Rattle.std.specs.Prelude.{List, Result, Ok, Err, if◌then◌else◌, ℕ, codes}
use Rattle.sw_rmap.specs.declared.no_command.NoCommand.{NoCommand}
use Rattle.sw_rmap.specs.declared.no_command.NoCommand.TheVariants as why
use Rattle.sw_rmap.specs.CommandView.{CommandView}
use Rattle.sw_rmap.specs.Unread.{try_read}
use Rattle.sw_rmap.specs.Instruction.{wants_reply}
use Rattle.sw_rmap.specs.Replies.{is_answered}
use Rattle.sw_summary.specs.declared.handling.Handling.{Handling}
use Rattle.sw_summary.specs.declared.handling.Handling.TheVariants.{Answered, TooShort, OtherProtocol, WrongCrc, IsReply, NotAsked, NoWay}

-- what becomes of bytes that are no command
abbrev pub unread_handling : NoCommand → Handling
unread_handling why.TooShort = TooShort
unread_handling why.OtherProtocol = OtherProtocol
unread_handling why.WrongCrc = WrongCrc
unread_handling why.IsReply = IsReply

-- whether a command is answered
abbrev pub read_handling : CommandView → Handling
read_handling c = if is_answered c then Answered else if wants_reply c.instruction then NoWay else NotAsked

abbrev pub handling_where : Result CommandView NoCommand → Handling
handling_where (Ok c) = read_handling c
handling_where (Err why) = unread_handling why

-- what becomes of a packet at a target; keys and windows that are wrong are answered, with a status
unfoldable pub handling_of : List ℕ → Handling
handling_of bytes = handling_where (try_read bytes)

-- the order in which handlings are told
abbrev pub handling_index : Handling → ℕ
handling_index Answered = 0
handling_index TooShort = 1
handling_index OtherProtocol = 2
handling_index WrongCrc = 3
handling_index IsReply = 4
handling_index NotAsked = 5
handling_index NoWay = 6

abbrev pub reason_text : Handling → List ℕ
reason_text Answered = codes "answered"
reason_text TooShort = codes "too short"
reason_text OtherProtocol = codes "another protocol"
reason_text WrongCrc = codes "header CRC"
reason_text IsReply = codes "a reply"
reason_text NotAsked = codes "no reply is asked for"
reason_text NoWay = codes "the reply address is of zeros"
