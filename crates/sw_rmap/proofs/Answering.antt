-- What follows from the definitions of replies and answers.
use Rattle.std.proofs.Common.{◌≡◌, ℕ, ◌+◌, ◌-◌, ◌≤◌, Bool, true, false, not, ◌&&◌, ◌||◌, ltb, cond, List, [], ◌∷◌, ◌++◌, length, take, drop, Option, Some, None, refl, sym, ap, ◌∙◌, append_assoc, arith, length-append, length-take, length-drop, inl, inr}
use Rattle.std.specs.Prelude.{is_some, option_and_then}
use Rattle.std.specs.List.{AllByRecursion}
use Rattle.std.proofs.lemmas.Bool.{cases_Bool, both_ways, and_from, not_from_false, and_parts, and_right, and_left, eq-eqb, ltb-false, or_parts, cond-true, cond-false, not_from_true}
use Rattle.std.proofs.lemmas.List.{append_cancel_left, same_from_push, drop_at, take_at}
use Rattle.std.proofs.lemmas.Option.{cond_some}
use Rattle.sw_char.specs.declared.nchar.End.{End}
use Rattle.sw_rmap.specs.declared.config.TargetConfig.{TargetConfig}
use Rattle.sw_rmap.specs.declared.status.Status.{Status}
use Rattle.sw_rmap.specs.declared.status.Status.TheVariants.{Success, UnusedCode, InvalidKey, InvalidDataCrc, EarlyEop, TooMuchData, Eep, NotAuthorised, InvalidTarget}
use Rattle.sw_rmap.specs.Instruction.{packet_type, is_write, increments, is_read_modify_write, of_reply}
use Rattle.sw_rmap.specs.CommandView.{CommandView}
use Rattle.sw_rmap.specs.Commands.{instruction_of, is_command, fields_of, read, body_of}
use Rattle.sw_rmap.specs.Replies.{is_answered, path_of, way_back, reply_to, left_form, reply_of}
use Rattle.sw_rmap.specs.Answers.{IsInWindow, cases_of, first_of, status_of, is_success, body_len, found_by, stored, memory_after, answer_to, answer_where, answer}
use Rattle.sw_rmap.specs.Laws.{AnswersByTheWayBack, RepliesGetNoReply, OnlySuccessStores, MemoryKeepsItsLength, WriteThenRead}

pub answer-read : (t : TargetConfig) (memory bytes : List ℕ) (end : End) (c : CommandView) → read bytes ≡ Some c → answer t memory bytes end ≡ answer_to t memory c (body_of bytes) end
unfolding answer
answer-read t memory bytes end c h = ap (answer_where t memory bytes end) h

-- ---- the way back

-- the bytes of a reply from the initiator's address on begin with that address
headed : (write : Bool) (i : ℕ) (x y : List ℕ) → (rest : List ℕ) × (cond write (i ∷ x) (i ∷ y) ≡ i ∷ rest)
headed true i x y = (x, refl)
headed false i x y = (y, refl)

begins : (c : CommandView) (status : Status) (found way : List ℕ) → path_of c ++ c.initiator ∷ [] ≡ way → (left : List ℕ) × (reply_of c status found ≡ way ++ left)
unfolding reply_of
begins c status found way e =
    let h : (rest : List ℕ) × (left_form c status found ≡ c.initiator ∷ rest) = headed (is_write c.instruction) c.initiator _ _ in
    (h.0, ap (λ (l : List ℕ). path_of c ++ l) h.1 ∙ sym (append_assoc (path_of c) (c.initiator ∷ []) h.0) ∙ ap (λ (l : List ℕ). l ++ h.0) e)

same_some : (b : Bool) (x y : List ℕ) → is_some (cond b (Some x) None) ≡ is_some (cond b (Some y) None)
same_some true x y = refl
same_some false x y = refl

answered_where : (t : TargetConfig) (memory bytes : List ℕ) (end : End) (o : Option CommandView) → is_some (answer_where t memory bytes end o).0 ≡ is_some (option_and_then way_back o)
unfolding answer_to
answered_where t memory bytes end None = refl
answered_where t memory bytes end (Some c) = same_some (is_answered c) _ _

answered_by : (t : TargetConfig) (memory bytes : List ℕ) (end : End) (o : Option CommandView) (reply way : List ℕ)
    → (answer_where t memory bytes end o).0 ≡ Some reply → option_and_then way_back o ≡ Some way → (left : List ℕ) × (reply ≡ way ++ left)
unfolding answer_to
answered_by t memory bytes end None reply way h k = absurd cc
answered_by t memory bytes end (Some c) reply way h k =
    let status = status_of t c (body_of bytes) end in
    let found = found_by t c status memory in
    let r = cond_some (is_answered c) (reply_of c status found) reply h in
    let w = cond_some (is_answered c) (path_of c ++ c.initiator ∷ []) way k in
    let b = begins c status found way w.1 in
    (b.0, sym r.1 ∙ b.1)

pub answers_by_the_way_back : AnswersByTheWayBack
unfolding answer reply_to
answers_by_the_way_back t memory bytes end = (answered_where t memory bytes end (read bytes), answered_by t memory bytes end (read bytes))

-- ---- replies that come to their end

-- the instruction of a reply
third : (write : Bool) (a b i : ℕ) (x y : List ℕ) → instruction_of (cond write (a ∷ b ∷ i ∷ x) (a ∷ b ∷ i ∷ y)) ≡ i
third true a b i x y = refl
third false a b i x y = refl

reply_type : (i : ℕ) → packet_type (of_reply i) ≡ 0
reply_type i = omega arith

not_read : (bytes : List ℕ) → packet_type (instruction_of bytes) ≡ 0 → read bytes ≡ None
unfolding read
not_read bytes e =
    let refused : is_command bytes ≡ false = and_right _ _ (not_from_true _ (eq-eqb _ _ e)) in
    cond-false (is_command bytes) (Some (fields_of bytes)) None refused

left_is_no_command : (c : CommandView) (status : Status) (found : List ℕ) → reply_to (left_form c status found) ≡ None
unfolding reply_to
left_is_no_command c status found =
    let i : instruction_of (left_form c status found) ≡ of_reply c.instruction = third (is_write c.instruction) _ _ _ _ _ in
    ap (option_and_then way_back) (not_read (left_form c status found) (ap packet_type i ∙ reply_type c.instruction))

no_reply : (t : TargetConfig) (memory bytes : List ℕ) (end : End) (o : Option CommandView) (path left : List ℕ) (initiator : ℕ)
    → option_and_then way_back o ≡ Some (path ++ initiator ∷ []) → (answer_where t memory bytes end o).0 ≡ Some (path ++ left) → reply_to left ≡ None
unfolding answer_to reply_of
no_reply t memory bytes end None path left initiator k h = absurd cc
no_reply t memory bytes end (Some c) path left initiator k h =
    let status = status_of t c (body_of bytes) end in
    let found = found_by t c status memory in
    let r = cond_some (is_answered c) (path_of c ++ left_form c status found) (path ++ left) h in
    let w = cond_some (is_answered c) (path_of c ++ c.initiator ∷ []) (path ++ initiator ∷ []) k in
    let same = same_from_push (path_of c) path c.initiator initiator w.1 in
    let e : left_form c status found ≡ left = append_cancel_left path _ _ (ap (λ (p : List ℕ). p ++ left_form c status found) (sym same.0) ∙ r.1) in
    rw (← e) (left_is_no_command c status found)

pub replies_get_no_reply : RepliesGetNoReply
unfolding answer reply_to
replies_get_no_reply t memory bytes end path left initiator = no_reply t memory bytes end (read bytes) path left initiator

-- ---- the memory

success_is : (s : Status) → is_success s ≡ true → s ≡ Success
success_is Success e = refl
success_is UnusedCode e = absurd cc
success_is InvalidKey e = absurd cc
success_is InvalidDataCrc e = absurd cc
success_is EarlyEop e = absurd cc
success_is TooMuchData e = absurd cc
success_is Eep e = absurd cc
success_is NotAuthorised e = absurd cc
success_is InvalidTarget e = absurd cc

pub only_success_stores : OnlySuccessStores
unfolding answer answer_to
only_success_stores t memory bytes end = (
  λ h. ap (λ o. (answer_where t memory bytes end o).1) h,
  λ c h read_only.
      let status = status_of t c (body_of bytes) end in
      ap (λ o. (answer_where t memory bytes end o).1) h ∙ cond-false _ _ _ (and_right (is_success status) _ read_only),
  λ c h refused.
      let status = status_of t c (body_of bytes) end in
      ap (λ o. (answer_where t memory bytes end o).1) h ∙ elim (cases_Bool (is_success status)) [
        | inl done ↦ absurd (refused (success_is status done))
        | inr failed ↦ cond-false _ _ _ (and_left _ _ failed)
      ],
)

-- where the status is success, no case is so
none_applies : (cases : List (Bool × Status)) → AllByRecursion (λ case. is_success case.1 ≡ false) cases → is_success (first_of cases) ≡ true → AllByRecursion (λ case. case.0 ≡ false) cases
none_applies [] fail h = tt
none_applies (case ∷ cases) fail h =
    elim (cases_Bool case.0) [
      | inl is ↦ absurd (both_ways (is_success case.1) fail.0 (ap is_success (sym (cond-true case.0 case.1 (first_of cases) is)) ∙ h))
      | inr fails ↦ (fails, none_applies cases fail.1 (ap is_success (sym (cond-false case.0 case.1 (first_of cases) fails)) ∙ h))
    ]

-- what holds where the status is success
record IsRight (t : TargetConfig) (c : CommandView) (body : List ℕ) : Type 0 where
  low : t.start ≤ c.address
  high : c.address + c.data_length ≤ t.start + t.size
  whole : length body ≡ body_len c

right : (t : TargetConfig) (c : CommandView) (body : List ℕ) (end : End) → is_success (status_of t c body end) ≡ true → IsRight t c body
unfolding status_of
right t c body end h =
    let others = none_applies (cases_of t c body end) (refl, (refl, (refl, (refl, (refl, (refl, (refl, (refl, tt)))))))) h in
    let last = others.1.1.1 in
    let p = or_parts (is_read_modify_write c.instruction || (ltb 1 c.data_length && not (increments c.instruction)) || ltb c.address t.start) _ last.0 in
    let q = or_parts (is_read_modify_write c.instruction || (ltb 1 c.data_length && not (increments c.instruction))) _ p.0 in
    let least : body_len c ≤ length body = ltb-false _ _ last.1.1.0 in
    let most : length body ≤ body_len c = ltb-false _ _ last.1.1.1.0 in
    record { low = ltb-false _ _ q.1; high = ltb-false _ _ p.1; whole = omega arith }

-- what a status that is so found means where it is success
pub in_window : (t : TargetConfig) (c : CommandView) (body : List ℕ) (end : End) (status : Status) → status ≡ status_of t c body end → is_success status ≡ true → IsInWindow t c
in_window t c body end status is done = let r = right t c body end (ap is_success (sym is) ∙ done) in record { low = r.low; high = r.high }

pub whole_body : (t : TargetConfig) (c : CommandView) (body : List ℕ) (end : End) (status : Status) → status ≡ status_of t c body end → is_success status ≡ true → length body ≡ body_len c
whole_body t c body end status is done = (right t c body end (ap is_success (sym is) ∙ done)).whole

length-stored : (memory bytes : List ℕ) (at : ℕ) → at + length bytes ≤ length memory → length (stored memory at bytes) ≡ length memory
length-stored memory bytes at fits =
    omega (arith, length-append (take at memory ++ bytes) (drop (at + length bytes) memory), length-append (take at memory) bytes, length-take at memory, length-drop (at + length bytes) memory)

length-after : (t : TargetConfig) (c : CommandView) (body memory : List ℕ) (end : End) → length memory ≡ t.size → length (memory_after t c (status_of t c body end) body memory) ≡ t.size
length-after t c body memory end h =
    let status = status_of t c body end in
    let after = stored memory (c.address - t.start) (take c.data_length body) in
    elim (cases_Bool (is_success status && is_write c.instruction)) [
      | inl stores ↦
          let p = and_parts _ _ stores in
          let r = right t c body end p.0 in
          let len : length body ≡ c.data_length + 1 = r.whole ∙ cond-true (is_write c.instruction) _ _ p.1 in
          let part = length-take c.data_length body in
          let low = r.low in
          let high = r.high in
          let few : c.address - t.start + length (take c.data_length body) ≤ length memory = omega arith in
          rw (cond-true _ after memory stores, length-stored memory (take c.data_length body) (c.address - t.start) few) h
      | inr stays ↦ rw (cond-false _ after memory stays) h
    ]

length-answered : (t : TargetConfig) (memory bytes : List ℕ) (end : End) (o : Option CommandView) → length memory ≡ t.size → length (answer_where t memory bytes end o).1 ≡ t.size
unfolding answer_to
length-answered t memory bytes end None h = h
length-answered t memory bytes end (Some c) h = length-after t c (body_of bytes) memory end h

pub memory_keeps_its_length : MemoryKeepsItsLength
unfolding answer
memory_keeps_its_length t memory bytes end = length-answered t memory bytes end (read bytes)

-- ---- a write and then a read

found-stored : (memory bytes : List ℕ) (at n : ℕ) → at ≤ length memory → length bytes ≡ n → take n (drop at (stored memory at bytes)) ≡ bytes
found-stored memory bytes at n within len =
    let others = drop (at + length bytes) memory in
    ap (λ (x : List ℕ). take n (drop at x)) (append_assoc (take at memory) bytes others)
    ∙ ap (take n) (drop_at (take at memory) (bytes ++ others) at (omega (arith, length-take at memory)))
    ∙ take_at bytes others n len

-- a write that succeeds
after-write : (t : TargetConfig) (memory body : List ℕ) (end : End) (w : CommandView) → is_write w.instruction ≡ true → status_of t w body end ≡ Success
    → (answer_to t memory w body end).1 ≡ stored memory (w.address - t.start) (take w.data_length body)
unfolding answer_to
after-write t memory body end w writes done =
    cond-true (is_success (status_of t w body end) && is_write w.instruction) _ memory (and_from _ _ (ap is_success done) writes)

-- a read that succeeds
reply-read : (t : TargetConfig) (memory body : List ℕ) (end : End) (r : CommandView) → is_write r.instruction ≡ false → status_of t r body end ≡ Success → is_answered r ≡ true
    → (answer_to t memory r body end).0 ≡ Some (reply_of r Success (take r.data_length (drop (r.address - t.start) memory)))
unfolding answer_to
reply-read t memory body end r reads done answered =
    let status = status_of t r body end in
    let found : found_by t r status memory ≡ take r.data_length (drop (r.address - t.start) memory) =
    cond-true (is_success status && not (is_write r.instruction)) _ [] (and_from _ _ (ap is_success done) (not_from_false _ reads))
    in
    cond-true (is_answered r) (Some (reply_of r status (found_by t r status memory))) None answered
    ∙ ap (λ (s : Status). Some (reply_of r s (found_by t r status memory))) done
    ∙ ap (λ (x : List ℕ). Some (reply_of r Success x)) found

pub write_then_read : WriteThenRead
write_then_read t memory first second first_end second_end w r len w_read writes w_done r_read reads r_done same_address same_length answered =
    let right_write = right t w (body_of first) first_end (ap is_success w_done) in
    let low = right_write.low in
    let high = right_write.high in
    let body : length (body_of first) ≡ w.data_length + 1 = right_write.whole ∙ cond-true (is_write w.instruction) _ _ writes in
    let kept = take w.data_length (body_of first) in
    let data_len : length kept ≡ w.data_length = omega (arith, length-take w.data_length (body_of first)) in
    let at = w.address - t.start in
    let within : at ≤ length memory = omega arith in
    let after : (answer t memory first first_end).1 ≡ stored memory at kept =
    ap (λ (x : Option (List ℕ) × List ℕ). x.1) (answer-read t memory first first_end w w_read) ∙ after-write t memory (body_of first) first_end w writes w_done
    in
    let place : take r.data_length (drop (r.address - t.start) (stored memory at kept)) ≡ kept = rw (same_address, same_length) (found-stored memory kept at w.data_length within data_len) in
    ap (λ (x : List ℕ). (answer t x second second_end).0) after
    ∙ ap (λ (x : Option (List ℕ) × List ℕ). x.0) (answer-read t (stored memory at kept) second second_end r r_read)
    ∙ reply-read t (stored memory at kept) (body_of second) second_end r reads r_done answered
    ∙ ap (λ (x : List ℕ). Some (reply_of r Success x)) place
