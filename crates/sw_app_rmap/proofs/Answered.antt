-- What a target does with a command that was built for it.
use Rattle.std.proofs.Common.{◌≡◌, ℕ, ◌+◌, ◌-◌, Bool, true, false, not, ◌&&◌, ◌||◌, List, [], ◌∷◌, length, take, drop, get_or, Option, Some, None, refl, sym, ap, ◌∙◌, arith, eq-eqb, length-append}
use Rattle.std.specs.Prelude.{◌==◌, nat_le, nat_lt, if◌then◌else◌}
use Rattle.std.proofs.lemmas.Bool.{and_parts, and_right, leb-true, le-ltb}
use Rattle.std.proofs.lemmas.List.{take_at, get_or_at}
use Rattle.sw_char.specs.declared.nchar.End.{End}
use Rattle.sw_char.specs.declared.nchar.End.TheVariants.{Eop}
use Rattle.sw_config.specs.Entries.{ReplyEntry}
use Rattle.sw_rmap.specs.declared.config.TargetConfig.{TargetConfig}
use Rattle.sw_rmap.specs.Crc.{crc_of, with_crc}
use Rattle.sw_rmap.specs.CommandView.{CommandView}
use Rattle.sw_rmap.specs.Instruction.{increments, is_known, is_write as is_write_bit}
use Rattle.sw_rmap.specs.Answers.{answer, answer_to, body_len, first_of, is_corrupt, is_error_end, is_refused, status_of, stored}
use Rattle.sw_rmap.specs.Replies.{is_answered, reply_of}
use Rattle.sw_rmap.proofs.Answering.{answer-read}
use Rattle.sw_rmap.proofs.Parts.{written_is_read}
use Rattle.sw_app_rmap.specs.FlowCommands.{bytes_to, command_to, path_back}
use Rattle.sw_app_rmap.specs.Laws.{carried_out}
use Rattle.sw_app_rmap.specs.Orders.{Action, IsSmall, RmapOrder, data_of, length_of, reads, writes}
use Rattle.sw_app_rmap.specs.Packets.{is_in_window}
use Rattle.sw_app_rmap.proofs.Built.{IsPath, answered_where_wanted, bits, is_command}

none_applies : (t : TargetConfig) (c : CommandView) (body : List ℕ) (end : End) → is_known c.instruction ≡ true → (c.key == t.key) ≡ true → (c.logical == t.logical) ≡ true
    → is_refused t c ≡ false → is_error_end end ≡ false → nat_lt (length body) (body_len c) ≡ false → nat_lt (body_len c) (length body) ≡ false → is_corrupt c body ≡ false → status_of t c body end ≡ first_of []
unfolding status_of
none_applies t c body end a b e f g h i j = rw (a, b, e, f, g, h, i, j) refl

neither : (a b : Bool) → a ≡ false → b ≡ false → (a || b) ≡ false
neither a b e f = rw (e, f) refl

-- the bytes behind the header
abbrev body_for : Action → List ℕ
body_for (reads count) = []
body_for (writes bytes acknowledged) = with_crc bytes

module _ (t : TargetConfig) (reply : Option ReplyEntry) (o : RmapOrder) (path : IsPath (path_back reply)) (window : is_in_window t o ≡ true) where
  abbrev c : CommandView
  c = command_to t reply o

  not_refused : is_refused t c ≡ false
  not_refused =
      let b = bits t reply o path in
      let parts = and_parts (nat_le t.start o.address) (nat_le (o.address + length_of o.action) (t.start + t.size)) window in
      let rising : (nat_lt 1 (length_of o.action) && not (increments c.instruction)) ≡ false = and_right _ _ (ap not b.rising) in
      neither _ _
      (neither _ _ (neither _ _ b.no_modify rising) (le-ltb o.address t.start (leb-true t.start o.address parts.0)))
      (le-ltb (t.start + t.size) (o.address + length_of o.action) (leb-true _ _ parts.1))

  succeeds : (body : List ℕ) → length body ≡ body_len c → is_corrupt c body ≡ false → status_of t c body Eop ≡ first_of []
  succeeds body whole right =
      let b = bits t reply o path in
      none_applies t c body Eop b.known (eq-eqb t.key t.key refl) (eq-eqb t.logical t.logical refl) not_refused refl
      (le-ltb (length body) (body_len c) (omega (arith, whole))) (le-ltb (body_len c) (length body) (omega (arith, whole))) right

-- what the target answers where the status is success
module _ (t : TargetConfig) (c : CommandView) (memory body : List ℕ) (done : status_of t c body Eop ≡ first_of []) where
  answered_read : is_write_bit c.instruction ≡ false
      → answer_to t memory c body Eop ≡ ((if is_answered c then Some (reply_of c (first_of []) (take c.data_length (drop (c.address - t.start) memory))) else None), memory)
  unfolding answer_to
  answered_read read_only = rw (done, read_only) refl

  answered_write : is_write_bit c.instruction ≡ true
      → answer_to t memory c body Eop ≡ ((if is_answered c then Some (reply_of c (first_of []) []) else None), stored memory (c.address - t.start) (take c.data_length body))
  unfolding answer_to
  answered_write write = rw (done, write) refl

abbrev order : ℕ → ℕ → Action → RmapOrder
order address transaction action = record { address = address; action = action; transaction = transaction }

abbrev Carried : TargetConfig → Option ReplyEntry → RmapOrder → List ℕ → Type 0
Carried t reply o memory = answer_to t memory (command_to t reply o) (body_for o.action) Eop ≡ carried_out t reply o memory

by_action : (t : TargetConfig) (reply : Option ReplyEntry) (address transaction : ℕ) (action : Action) (memory : List ℕ) → IsPath (path_back reply)
    → is_in_window t (order address transaction action) ≡ true → Carried t reply (order address transaction action) memory
by_action t reply address transaction (reads count) memory path window =
    let o : RmapOrder = order address transaction (reads count) in
    let c : CommandView = command_to t reply o in
    let b = bits t reply o path in
    let whole : 0 ≡ body_len c = rw b.writes refl in
    let right : is_corrupt c [] ≡ false = rw b.writes refl in
    let done = succeeds t reply o path window [] whole right in
    answered_read t c memory [] done b.writes ∙ rw (answered_where_wanted t reply o path) refl
by_action t reply address transaction (writes bytes acknowledged) memory path window =
    let o : RmapOrder = order address transaction (writes bytes acknowledged) in
    let c : CommandView = command_to t reply o in
    let b = bits t reply o path in
    let body : List ℕ = with_crc bytes in
    let front : take (length bytes) body ≡ bytes = take_at bytes (crc_of bytes ∷ []) (length bytes) refl in
    let last : get_or body (length bytes) 0 ≡ crc_of bytes = get_or_at bytes (crc_of bytes) [] 0 (length bytes) refl in
    let whole : length body ≡ body_len c = length-append bytes (crc_of bytes ∷ []) ∙ rw b.writes refl in
    let same : (crc_of (take (length bytes) body) == get_or body (length bytes) 0) ≡ true = eq-eqb _ _ (ap crc_of front ∙ sym last) in
    let right : is_corrupt c body ≡ false = and_right _ _ (ap not same) in
    let done = succeeds t reply o path window body whole right in
    answered_write t c memory body done b.writes ∙ rw (answered_where_wanted t reply o path, front) refl

body_is : (t : TargetConfig) (reply : Option ReplyEntry) (address transaction : ℕ) (action : Action) → IsPath (path_back reply)
    → (if is_write_bit (command_to t reply (order address transaction action)).instruction then with_crc (data_of action) else []) ≡ body_for action
body_is t reply address transaction (reads count) path = let b = bits t reply (order address transaction (reads count)) path in rw b.writes refl
body_is t reply address transaction (writes bytes acknowledged) path = let b = bits t reply (order address transaction (writes bytes acknowledged)) path in rw b.writes refl

-- the target carries the command out, whatever its window holds
pub carries_out : (t : TargetConfig) (reply : Option ReplyEntry) (o : RmapOrder) (memory : List ℕ) → IsPath (path_back reply) → IsSmall o → is_in_window t o ≡ true
    → answer t memory (bytes_to t reply o) Eop ≡ carried_out t reply o memory
carries_out t reply o memory path small window =
    let c : CommandView = command_to t reply o in
    let again = written_is_read c (data_of o.action) (is_command t reply o path small) in
    answer-read t memory (bytes_to t reply o) Eop c again.0
    ∙ ap (λ body. answer_to t memory c body Eop) (again.1 ∙ body_is t reply o.address o.transaction o.action path)
    ∙ by_action t reply o.address o.transaction o.action memory path window
