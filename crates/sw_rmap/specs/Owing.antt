-- The replies that a target owes: those that wait, the oldest first, and what is sent of each.
use Rattle.std.specs.Prelude.{List, None, Option, Some, [], length, map, sum_by, ℕ, ◌++◌, ◌+◌, ◌∷◌}
use Rattle.sw_char.specs.declared.nchar.NChar.{NChar}
use Rattle.sw_char.specs.declared.nchar.NChar.TheVariants.{Data, Eop}

-- a reply that a target is to send: the address that it goes to, and what follows
pub record PendingReply : Type 0 where
  pub address : List ℕ
  pub cargo : List ℕ

-- the replies that wait, after a packet with this answer came
abbrev pub pending_with : List PendingReply → Option PendingReply → List PendingReply
pending_with pending None = pending
pending_with pending (Some r) = pending ++ r ∷ []

abbrev pub owed_with : ℕ → Option PendingReply → ℕ
owed_with owed None = owed
owed_with owed (Some r) = owed + 1

-- how many replies a node owes after it sent a character and these remain: at a packet's end those that are pending
abbrev pub owed_after : List NChar → List PendingReply → ℕ → ℕ
owed_after (x ∷ remaining) pending owed = owed
owed_after [] pending owed = length pending

abbrev pub reply_packet : PendingReply → List NChar
reply_packet r = map Data (r.address ++ r.cargo) ++ Eop ∷ []

abbrev pub length_pending : List PendingReply → ℕ
length_pending pending = sum_by (λ r. length (reply_packet r)) pending
