-- The replies of the machine's targets.
use Rattle.std.proofs.Common.{◌≡◌, ℕ, ◌+◌, ◌-◌, ◌≤◌, Bool, true, false, not, ◌&&◌, ◌||◌, cond, List, [], ◌∷◌, ◌++◌, length, take, drop, Option, Some, None, refl, sym, ap, subst, ◌∙◌, append_assoc, arith, length-append, length-take, inl, inr}
use Rattle.std.specs.Prelude.{is_some, option_map, option_and_then, ◌==◌, nat_lt}
use Rattle.std.proofs.lemmas.Bool.{cases_Bool, false≢true, and_parts, or_parts, ltb-false, cond-true, cond-false}
use Rattle.std.proofs.lemmas.List.{drop_at, length-drop}
use Rattle.std.proofs.lemmas.Option.{cond_some, same_Some}
use Rattle.sw_char.specs.declared.nchar.End.{End}
use Rattle.sw_rmap.specs.declared.config.TargetConfig.{TargetConfig}
use Rattle.sw_rmap.specs.Crc.{with_crc, crc_of}
use Rattle.sw_rmap.specs.Instruction.{is_write, increments, is_read_modify_write, is_known}
use Rattle.sw_rmap.specs.CommandView.{CommandView}
use Rattle.sw_rmap.specs.Commands.{read, body_of}
use Rattle.sw_rmap.specs.Replies.{is_answered, path_of, way_back, reply_to, reply_head, left_form, reply_of}
use Rattle.sw_rmap.specs.Answers.{status_of, is_success, is_refused, found_by, answer_to, answer_where, answer}
use Rattle.sw_rmap.proofs.Answering.{answers_by_the_way_back, replies_get_no_reply}
use Rattle.sw_rmap.specs.Owing.{PendingReply}
use Rattle.sw_rmap.specs.Targets.{answer_of, longest_reply, parted}
use Rattle.sw_machine.specs.Rmap.{answered_to}

-- ---- where replies go

goes_where : (way reply : Option (List ℕ)) → is_some reply ≡ is_some way → option_map (λ (r : PendingReply). r.address) (parted way reply) ≡ way
goes_where None reply same = refl
goes_where (Some address) None same = absurd (false≢true same)
goes_where (Some address) (Some bytes) same = refl

pub reply_goes : (o : Option TargetConfig) (memory bytes : List ℕ) (end : End) → option_map (λ (r : PendingReply). r.address) (answer_of o memory bytes end) ≡ answered_to o bytes
reply_goes None memory bytes end = refl
reply_goes (Some t) memory bytes end = goes_where (reply_to bytes) (answer t memory bytes end).0 (answers_by_the_way_back t memory bytes end).0

-- ---- what a reply says

-- the reply r is these bytes, behind their way back
record IsParted (way reply : Option (List ℕ)) (r : PendingReply) : Type 0 where
  bytes : List ℕ
  to : way ≡ Some r.address
  whole : reply ≡ Some bytes
  cargo : r.cargo ≡ drop (length r.address) bytes

parted_is : (way reply : Option (List ℕ)) (r : PendingReply) → parted way reply ≡ Some r → IsParted way reply r
parted_is None reply r e = absurd cc
parted_is (Some address) None r e = absurd cc
parted_is (Some address) (Some bytes) r e =
    let mine : PendingReply = record { address = address; cargo = drop (length address) bytes } in
    subst (λ (x : PendingReply). IsParted (Some address) (Some bytes) x) (same_Some mine r e) (record { bytes = bytes; to = refl; whole = refl; cargo = refl })

-- a reply of the target p's own is no command to the target o
pub replies_end : (o p : Option TargetConfig) (memory bytes : List ℕ) (end : End) (r : PendingReply) (path : List ℕ) (initiator : ℕ)
    → answer_of p memory bytes end ≡ Some r → r.address ≡ path ++ initiator ∷ [] → answered_to o (initiator ∷ r.cargo) ≡ None
replies_end None p memory bytes end r path initiator e to = refl
replies_end (Some q) None memory bytes end r path initiator e to = absurd cc
replies_end (Some q) (Some t) memory bytes end r path initiator e to =
    let p = parted_is (reply_to bytes) (answer t memory bytes end).0 r e in
    let way : reply_to bytes ≡ Some (path ++ initiator ∷ []) = p.to ∙ ap Some to in
    let l = (answers_by_the_way_back t memory bytes end).1 p.bytes r.address p.whole p.to in
    let cargo : r.cargo ≡ l.0 = p.cargo ∙ ap (λ (x : List ℕ). drop (length r.address) x) l.1 ∙ drop_at r.address l.0 (length r.address) refl in
    let whole : (answer t memory bytes end).0 ≡ Some (path ++ initiator ∷ l.0) = p.whole ∙ ap Some (l.1 ∙ ap (λ (x : List ℕ). x ++ l.0) to ∙ append_assoc path (initiator ∷ []) l.0) in
    ap (λ (x : List ℕ). reply_to (initiator ∷ x)) cargo ∙ replies_get_no_reply t memory bytes end path (initiator ∷ l.0) initiator way whole

-- ---- how long replies are

-- the first of four cases is so, and fails
not_refused : {S : Type 0} (passes : S → Bool) (u v w x rest : S) → passes u ≡ false → passes v ≡ false → passes w ≡ false → passes x ≡ false
    → (a b c r : Bool) → passes (cond a u (cond b v (cond c w (cond r x rest)))) ≡ true → r ≡ false
not_refused passes u v w x rest fu fv fw fx true b c r h = absurd (false≢true (sym fu ∙ h))
not_refused passes u v w x rest fu fv fw fx false true c r h = absurd (false≢true (sym fv ∙ h))
not_refused passes u v w x rest fu fv fw fx false false true r h = absurd (false≢true (sym fw ∙ h))
not_refused passes u v w x rest fu fv fw fx false false false true h = absurd (false≢true (sym fx ∙ h))
not_refused passes u v w x rest fu fv fw fx false false false false h = refl

-- the data of a command that succeeds are no longer than the window
within : (t : TargetConfig) (c : CommandView) (body : List ℕ) (end : End) → is_success (status_of t c body end) ≡ true → c.data_length ≤ t.size
unfolding status_of
within t c body end h =
    let r : is_refused t c ≡ false = not_refused is_success _ _ _ _ _ refl refl refl refl (not (is_known c.instruction)) (not (c.key == t.key)) (not (c.logical == t.logical)) (is_refused t c) h in
    let p = or_parts (is_read_modify_write c.instruction || (nat_lt 1 c.data_length && not (increments c.instruction)) || nat_lt c.address t.start) _ r in
    let q = or_parts (is_read_modify_write c.instruction || (nat_lt 1 c.data_length && not (increments c.instruction))) _ p.0 in
    let low : t.start ≤ c.address = ltb-false _ _ q.1 in
    let high : c.address + c.data_length ≤ t.start + t.size = ltb-false _ _ p.1 in
    omega arith

found_few : (t : TargetConfig) (c : CommandView) (body memory : List ℕ) (end : End) → length (found_by t c (status_of t c body end) memory) ≤ t.size
found_few t c body memory end =
    let found = take c.data_length (drop (c.address - t.start) memory) in
    elim (cases_Bool (is_success (status_of t c body end) && not (is_write c.instruction))) [
      | inl reads ↦
          let few = within t c body end (and_parts _ _ reads).0 in
          rw (cond-true _ found [] reads) (omega (arith, length-take c.data_length (drop (c.address - t.start) memory)))
      | inr none ↦ rw (cond-false _ found [] none) (omega arith)
    ]

either_few : (write : Bool) (x y : List ℕ) (n : ℕ) → length x ≤ n → length y ≤ n → length (cond write x y) ≤ n
either_few true x y n short long = short
either_few false x y n short long = long

length-with_crc : (bytes : List ℕ) → length (with_crc bytes) ≡ length bytes + 1
length-with_crc bytes = length-append bytes (crc_of bytes ∷ [])

length-left : (t : TargetConfig) (c : CommandView) (body found : List ℕ) (end : End) → length (left_form c (status_of t c body end) found) ≤ 13 + length found
length-left t c body found end =
    either_few (is_write c.instruction) _ _ (13 + length found)
    (let e = length-with_crc (reply_head c (status_of t c body end)) in omega arith)
    (let e = length-with_crc found in omega arith)

answered_few : (t : TargetConfig) (memory bytes : List ℕ) (end : End) (o : Option CommandView) (reply way : List ℕ)
    → (answer_where t memory bytes end o).0 ≡ Some reply → option_and_then way_back o ≡ Some way → length reply ≤ length way + (12 + t.size)
unfolding answer_to reply_of
answered_few t memory bytes end None reply way h k = absurd cc
answered_few t memory bytes end (Some c) reply way h k =
    let status = status_of t c (body_of bytes) end in
    let found = found_by t c status memory in
    let left = left_form c status found in
    let r = cond_some (is_answered c) (path_of c ++ left) reply h in
    let w = cond_some (is_answered c) (path_of c ++ c.initiator ∷ []) way k in
    omega (arith, ap (λ (x : List ℕ). length x) r.1, ap (λ (x : List ℕ). length x) w.1, length-append (path_of c) left, length-append (path_of c) (c.initiator ∷ []), length-left t c (body_of bytes) found end, found_few t c (body_of bytes) memory end)

few_bytes : (t : TargetConfig) (memory bytes : List ℕ) (end : End) (reply way : List ℕ) → (answer t memory bytes end).0 ≡ Some reply → reply_to bytes ≡ Some way → length reply ≤ length way + (12 + t.size)
unfolding answer reply_to
few_bytes t memory bytes end reply way h k = answered_few t memory bytes end (read bytes) reply way h k

pub reply_length : (o : Option TargetConfig) (memory bytes : List ℕ) (r : PendingReply) (end : End) → answer_of o memory bytes end ≡ Some r → length r.cargo ≤ longest_reply o
reply_length None memory bytes r end e = absurd cc
reply_length (Some t) memory bytes r end e =
    let p = parted_is (reply_to bytes) (answer t memory bytes end).0 r e in
    let few = few_bytes t memory bytes end p.bytes r.address p.whole p.to in
    omega (arith, ap (λ (x : List ℕ). length x) p.cargo, length-drop (length r.address) p.bytes)
