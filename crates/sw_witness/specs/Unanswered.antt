-- Replies that can't happen, and a network without them.
use Rattle.std.specs.Prelude.{◌≢◌, ℕ, Bool, false, not, ◌==◌, ◌||◌, ◌&&◌, nat_lt, List, [], ◌∷◌, length, slice_get, if◌then◌else◌}
use Rattle.std.specs.Option.{option_map_or}
use Rattle.sw_rmap.specs.Instruction.{packet_type, reply_address_len, wants_reply}
use Rattle.sw_config.specs.Entries.{FlowEntry, Declaration}
use Rattle.sw_config.specs.Limits.{HasNoLimits}
use Rattle.sw_machine.specs.DeclaredPackets.{left_bytes}
use Rattle.sw_search.specs.Laws.{RoutedAndFree}
use Rattle.sw_mend.specs.Changes.{by_number, changed}
use Rattle.sw_mend.specs.declared.change.Change.TheVariants.{WithoutReply}

-- The bytes that are left where a flow ends begin its packets at the target: 0 the target logical address, 1 the protocol identifier,
-- 2 the instruction (ECSS-E-ST-50-52C, the fields of write and read commands). What is not left there the cargo may choose.

-- the protocol identifier is left, and is not RMAP's, which is 1 (ECSS-E-ST-50-52C, the fields of a command)
abbrev pub has_other_protocol : List ℕ → Bool
has_other_protocol left = option_map_or (λ byte. not (byte == 1)) (slice_get left 1) false

-- the instruction is one of a command that wants a reply (a reserved packet type is answered too)
abbrev pub is_of_answered : ℕ → Bool
is_of_answered instruction = not (packet_type instruction == 0) && wants_reply instruction

-- the instruction is left, and is none of a command that wants a reply, or its reply address field is shorter than the path back
abbrev pub has_other_instruction : List ℕ → List ℕ → Bool
has_other_instruction left path =
    option_map_or (λ instruction. not (is_of_answered instruction) || nat_lt (reply_address_len instruction) (length path)) (slice_get left 2) false

-- the flow has replies, which no packet of it can ask for
abbrev pub can_not_be_answered : FlowEntry → Bool
can_not_be_answered f = option_map_or (λ r. has_other_protocol (left_bytes f) || has_other_instruction (left_bytes f) r.path) f.reply false

abbrev pub number_if : ℕ → FlowEntry → List ℕ
number_if number f = if can_not_be_answered f then number ∷ [] else []

-- the numbers of the flows whose replies can't happen
abbrev pub never_answered : Declaration → List ℕ
never_answered d = by_number number_if 0 d.flows

-- the network without the replies of these flows, which are taken away one after another
abbrev pub without_replies : Declaration → List ℕ → Declaration
without_replies d [] = d
without_replies d (flow ∷ flows) = without_replies (changed d (WithoutReply flow)) flows

-- there are replies that can't happen, and without these each flow is well routed and no channels can wait for one another in a circle; and no
-- commands are limited (else a flow of replies that can't happen might be what keeps a target from having a limit, which runs need not keep)
pub record IsFreeWithout (d : Declaration) : Type 0 where
  pub unlimited : HasNoLimits d
  pub some : never_answered d ≢ []
  pub free : RoutedAndFree (without_replies d (never_answered d))
