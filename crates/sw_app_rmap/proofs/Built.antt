-- The command that is built for an order is a command, and its way back is that of the flow's replies.
use Rattle.std.proofs.Common.{◌≡◌, ℕ, suc, ◌+◌, ◌-◌, ◌*◌, ◌≤◌, Bool, true, false, ◌&&◌, ◌||◌, List, [], ◌∷◌, ◌++◌, length, Option, Some, None, refl, sym, ◌∙◌, arith, ne_eqb}
use Rattle.std.proofs.lemmas.Bool.{and_right}
use Rattle.std.specs.Prelude.{zero, ◌==◌, replicate, IfSome}
use Rattle.std.specs.List.{list_all}
use Rattle.sw_config.specs.Entries.{NodeEntry, ReplyEntry}
use Rattle.sw_config.specs.Valid.{IsReply, has_no_leading_zero}
use Rattle.sw_rmap.specs.declared.config.TargetConfig.{TargetConfig}
use Rattle.sw_rmap.specs.CommandView.{CommandView, IsCommand, command}
use Rattle.sw_rmap.specs.Commands.{written}
use Rattle.sw_rmap.specs.Instruction.{incrementing, increments, is_known, is_read_modify_write, is_write as is_write_bit, packet_type, reply_address_len, wants_reply as wants_reply_bit}
use Rattle.sw_rmap.specs.Replies.{is_answered, leads_nowhere, path_of, without_leading_zeros}
use Rattle.sw_app_rmap.specs.FlowCommands.{bytes_to, command_to, initiator_of, padded, path_back, units}
use Rattle.sw_app_rmap.specs.Orders.{Action, IsSmall, RmapOrder, data_of, is_write, length_of, reads, wants_reply, writes}

and_true : (b : Bool) → (b && true) ≡ b
and_true true = refl
and_true false = refl

-- ---- the instruction

-- the bits of an instruction that is built
pub record AreBits (write reply : Bool) (n : ℕ) : Type 0 where
  pub type : packet_type (incrementing write reply n) ≡ 1
  pub writes : is_write_bit (incrementing write reply n) ≡ write
  pub replies : wants_reply_bit (incrementing write reply n) ≡ reply
  pub rising : increments (incrementing write reply n) ≡ true
  pub address : reply_address_len (incrementing write reply n) ≡ 4 * n
  pub no_modify : is_read_modify_write (incrementing write reply n) ≡ false
  pub known : is_known (incrementing write reply n) ≡ true

-- a command writes or wants a reply: there are twelve instructions
pub are_bits : (write reply : Bool) (n : ℕ) → (write || reply) ≡ true → n ≤ 3 → AreBits write reply n
are_bits true true zero some few = record { type = refl; writes = refl; replies = refl; rising = refl; address = refl; no_modify = refl; known = refl }
are_bits true true (suc zero) some few = record { type = refl; writes = refl; replies = refl; rising = refl; address = refl; no_modify = refl; known = refl }
are_bits true true (suc (suc zero)) some few = record { type = refl; writes = refl; replies = refl; rising = refl; address = refl; no_modify = refl; known = refl }
are_bits true true (suc (suc (suc zero))) some few = record { type = refl; writes = refl; replies = refl; rising = refl; address = refl; no_modify = refl; known = refl }
are_bits true false zero some few = record { type = refl; writes = refl; replies = refl; rising = refl; address = refl; no_modify = refl; known = refl }
are_bits true false (suc zero) some few = record { type = refl; writes = refl; replies = refl; rising = refl; address = refl; no_modify = refl; known = refl }
are_bits true false (suc (suc zero)) some few = record { type = refl; writes = refl; replies = refl; rising = refl; address = refl; no_modify = refl; known = refl }
are_bits true false (suc (suc (suc zero))) some few = record { type = refl; writes = refl; replies = refl; rising = refl; address = refl; no_modify = refl; known = refl }
are_bits false true zero some few = record { type = refl; writes = refl; replies = refl; rising = refl; address = refl; no_modify = refl; known = refl }
are_bits false true (suc zero) some few = record { type = refl; writes = refl; replies = refl; rising = refl; address = refl; no_modify = refl; known = refl }
are_bits false true (suc (suc zero)) some few = record { type = refl; writes = refl; replies = refl; rising = refl; address = refl; no_modify = refl; known = refl }
are_bits false true (suc (suc (suc zero))) some few = record { type = refl; writes = refl; replies = refl; rising = refl; address = refl; no_modify = refl; known = refl }
are_bits true true (suc (suc (suc (suc n)))) some few = absurd (omega arith)
are_bits true false (suc (suc (suc (suc n)))) some few = absurd (omega arith)
are_bits false true (suc (suc (suc (suc n)))) some few = absurd (omega arith)
are_bits false false n some few = absurd cc

-- ---- the reply address

-- what a path back is like
pub record IsPath (path : List ℕ) : Type 0 where
  pub few : length path ≤ 12
  pub leading : has_no_leading_zero path ≡ true

pub is_path : (nodes : List NodeEntry) (to : ℕ) (reply : Option ReplyEntry) → IfSome reply (IsReply nodes to) → IsPath (path_back reply)
is_path nodes to None h = record { few = omega arith; leading = refl }
is_path nodes to (Some r) h = record { few = h.path; leading = h.leading }

pub few_units : (path : List ℕ) → length path ≤ 12 → units path ≤ 3
few_units path few = omega (arith, few)

length-zeros : (k : ℕ) (path : List ℕ) → length (replicate k 0 ++ path) ≡ k + length path
length-zeros zero path = let none : 0 + length path ≡ length path = omega arith in sym none
length-zeros (suc k) path = omega (arith, length-zeros k path)

pub length-padded : (path : List ℕ) → length (padded path) ≡ 4 * units path
length-padded path = omega (arith, length-zeros (4 * units path - length path) path)

zeros_fall : (k : ℕ) (path : List ℕ) → without_leading_zeros (replicate k 0 ++ path) ≡ without_leading_zeros path
zeros_fall zero path = refl
zeros_fall (suc k) path = zeros_fall k path

not_zero : (b : ℕ) → (suc b == 0) ≡ false
not_zero b = ne_eqb (suc b) 0 (λ e. omega (arith, e))

none_fall : (path : List ℕ) → has_no_leading_zero path ≡ true → without_leading_zeros path ≡ path
none_fall [] h = refl
none_fall (zero ∷ path) h = absurd cc
none_fall (suc b ∷ path) h = rw (not_zero b) refl

pub path-padded : (path : List ℕ) → has_no_leading_zero path ≡ true → without_leading_zeros (padded path) ≡ path
path-padded path h = zeros_fall (4 * units path - length path) path ∙ none_fall path h

not_all_zeros : (k b : ℕ) (path : List ℕ) → list_all (λ c. c == 0) (replicate k 0 ++ suc b ∷ path) ≡ false
not_all_zeros zero b path = rw (not_zero b) refl
not_all_zeros (suc k) b path = not_all_zeros k b path

pub leads_somewhere : (path : List ℕ) → has_no_leading_zero path ≡ true → leads_nowhere (padded path) ≡ false
leads_somewhere [] h = refl
leads_somewhere (zero ∷ path) h = absurd cc
leads_somewhere (suc b ∷ path) h = and_right _ _ (not_all_zeros (4 * units (suc b ∷ path) - length (suc b ∷ path)) b path)

-- ---- the command

-- what is not written is read, with a reply
is_sensible : (a : Action) → (is_write a || wants_reply a) ≡ true
is_sensible (reads count) = refl
is_sensible (writes bytes acknowledged) = refl

module _ (t : TargetConfig) (reply : Option ReplyEntry) (o : RmapOrder) (path : IsPath (path_back reply)) where
  pub bits : AreBits (is_write o.action) (wants_reply o.action) (units (path_back reply))
  bits = are_bits (is_write o.action) (wants_reply o.action) (units (path_back reply)) (is_sensible o.action) (few_units (path_back reply) path.few)

  pub is_command : IsSmall o → IsCommand (command_to t reply o)
  is_command small = record {
    type_of_command = λ none. let one = bits.type in omega (arith, one, none);
    reply_address = length-padded (path_back reply) ∙ sym bits.address;
    transaction = omega (arith, small.transaction);
    address = omega (arith, small.address);
    data_length = omega (arith, small.count);
  }

  pub answered_where_wanted : is_answered (command_to t reply o) ≡ wants_reply o.action
  answered_where_wanted = rw (bits.replies, leads_somewhere (path_back reply) path.leading) (and_true (wants_reply o.action))

  pub path_of_command : path_of (command_to t reply o) ≡ path_back reply
  path_of_command = path-padded (path_back reply) path.leading

-- what is built of the parts is the command's text in bytes
pub bytes_are : (t : TargetConfig) (reply : Option ReplyEntry) (o : RmapOrder) (write wants : Bool) (count n initiator size : ℕ) (path address body : List ℕ) (made : CommandView) → path ≡ path_back reply → address ≡ padded path
    → write ≡ is_write o.action → wants ≡ wants_reply o.action → count ≡ units path → n ≡ incrementing write wants count → initiator ≡ initiator_of reply → size ≡ length_of o.action
    → made ≡ command t.logical n t.key address initiator o.transaction o.address size → body ≡ data_of o.action → written made body ≡ bytes_to t reply o
bytes_are t reply o write wants count n initiator size path address body made path_is address_is write_is wants_is count_is n_is initiator_is size_is made_is body_is =
    rw (made_is, n_is, address_is, write_is, wants_is, count_is, path_is, initiator_is, size_is, body_is) refl
