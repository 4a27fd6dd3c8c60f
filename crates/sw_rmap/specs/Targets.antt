-- What a node that may be a target answers and stores (ECSS-E-ST-50-52C: write and read commands, and their replies).
use Rattle.std.specs.Prelude.{List, None, Option, Some, [], drop, length, option_and_then, option_map, replicate, unwrap_or, ℕ, ◌+◌}
use Rattle.sw_char.specs.declared.nchar.End.{End}
use Rattle.sw_rmap.specs.Answers.{answer}
use Rattle.sw_rmap.specs.Owing.{PendingReply}
use Rattle.sw_rmap.specs.Replies.{reply_to}
use Rattle.sw_rmap.specs.declared.config.TargetConfig.{TargetConfig}

-- a reply's bytes, parted into the address that it goes to and what follows
abbrev pub parted : Option (List ℕ) → Option (List ℕ) → Option PendingReply
parted address reply = option_and_then (λ a. option_map (λ bytes. record { address = a; cargo = drop (length a) bytes }) reply) address

-- the reply to a packet, at a node that is a target
abbrev pub answer_of : Option TargetConfig → List ℕ → List ℕ → End → Option PendingReply
answer_of target memory bytes end = option_and_then (λ t. parted (reply_to bytes) (answer t memory bytes end).0) target

abbrev pub memory_after : Option TargetConfig → List ℕ → List ℕ → End → List ℕ
memory_after None memory bytes end = memory
memory_after (Some t) memory bytes end = (answer t memory bytes end).1

-- a target's memory holds zeros at first
abbrev pub memory_at_first : Option TargetConfig → List ℕ
memory_at_first None = []
memory_at_first (Some t) = replicate t.size 0

-- how many bytes a reply has behind its address, at most: its header and the data of its whole window
abbrev pub longest_reply : Option TargetConfig → ℕ
longest_reply None = 0
longest_reply (Some t) = 12 + t.size

-- a plain node takes what comes: it never owes a reply
abbrev pub slots_of : Option TargetConfig → ℕ
slots_of target = unwrap_or (option_map (λ t. t.slots) target) 1
