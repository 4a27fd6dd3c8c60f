-- A packet's bytes by the parts of its header, and how they are read.
use Rattle.std.proofs.Common.{◌≡◌, ℕ, zero, suc, ◌+◌, ◌-◌, ◌<◌, ◌≤◌, Bool, true, false, not, ◌&&◌, ltb, eqb, cond, List, [], ◌∷◌, ◌++◌, length, take, drop, get_or, Some, None, refl, sym, ap, subst, ◌∙◌, append_assoc, arith, length-append, length-take, length-drop, inl, inr}
use Rattle.std.specs.Prelude.{option_and_then}
use Rattle.std.specs.Int.{bytes_high_first}
use Rattle.std.proofs.lemmas.Bool.{cases_lt, le-ltb, eq-eqb, ne_eqb, and_parts, eqb-true, cond-true}
use Rattle.std.proofs.lemmas.List.{take_at, drop_at, get_or_at, get_or_append_left, get_or-append-add, get_or-take, get_or-drop, get_or_past, take-append-le, drop-append-le, take-append-drop, take_all, drop-drop}
use Rattle.std.proofs.lemmas.Nat.{be_bytes_2, be_bytes_4, be_bytes_8, from_be_bytes-to_be_bytes_2, from_be_bytes-to_be_bytes_4, from_be_bytes-to_be_bytes_8}
use Rattle.std.proofs.lemmas.Option.{cond_some}
use Rattle.std.proofs.Math.Seq.{drop-cons}
use Rattle.sw_rmap.specs.Crc.{crc_of, with_crc}
use Rattle.sw_rmap.specs.Instruction.{packet_type, is_write, reply_address_len}
use Rattle.sw_rmap.specs.CommandView.{CommandView, IsCommand, command}
use Rattle.sw_rmap.specs.Commands.{number_of, instruction_of, from_initiator, is_command, fields_of, read, body_of, header_of, written}
use Rattle.sw_rmap.specs.Replies.{reply_to, way_back}
use Rattle.sw_rmap.proofs.Reading.{is_read}
use Rattle.sw_rmap.specs.Laws.{WrittenIsRead, ReadIsWritten, WayBackIsInHeader}

-- ---- numbers

pub number_of-two : (n : ℕ) → n < 65536 → number_of (bytes_high_first 2 n) ≡ n
number_of-two n lt = omega (arith, from_be_bytes-to_be_bytes_2 n lt)

number_of-three : (n : ℕ) → n < 16777216 → number_of (bytes_high_first 3 n) ≡ n
number_of-three n lt = omega (arith, from_be_bytes-to_be_bytes_4 n (omega arith))

number_of-five : (n : ℕ) → n < 1099511627776 → number_of (bytes_high_first 5 n) ≡ n
number_of-five n lt = omega (arith, from_be_bytes-to_be_bytes_8 n (omega arith))

-- ---- the parts of a packet's bytes

-- four bytes, the reply address, eleven bytes from the initiator's address on, the code of all these, and the body
abbrev joined : (l p i k : ℕ) (path back : List ℕ) (code : ℕ) (body : List ℕ) → List ℕ
joined l p i k path back code body = l ∷ p ∷ i ∷ k ∷ (path ++ (back ++ code ∷ body))

abbrev fields_from : (l i k : ℕ) (path back : List ℕ) → CommandView
fields_from l i k path back = command l i k path (get_or back 0 0) (number_of (take 2 (drop 1 back))) (number_of (take 5 (drop 3 back))) (number_of (take 3 (drop 8 back)))

abbrev is_right : (l p i k : ℕ) (path back : List ℕ) (code : ℕ) → Bool
is_right l p i k path back code = eqb p 1 && eqb (crc_of (l ∷ p ∷ i ∷ k ∷ (path ++ back))) code && not (eqb (packet_type i) 0)

module _ (l p i k : ℕ) (path back : List ℕ) (code : ℕ) (body : List ℕ) (path_len : length path ≡ reply_address_len i) (back_len : length back ≡ 11) where
  four : (n : ℕ) → 4 + n ≡ suc (suc (suc (suc n)))
  four n = omega arith

  from_initiator-joined : from_initiator (joined l p i k path back code body) ≡ back ++ code ∷ body
  from_initiator-joined = rw (four (reply_address_len i)) (drop_at path (back ++ code ∷ body) (reply_address_len i) path_len)

  head-joined : take (15 + reply_address_len i) (joined l p i k path back code body) ≡ l ∷ p ∷ i ∷ k ∷ (path ++ back)
  head-joined =
      let n : 15 + reply_address_len i ≡ suc (suc (suc (suc (11 + reply_address_len i)))) = omega arith in
      let len : length (path ++ back) ≡ 11 + reply_address_len i = omega (arith, length-append path back) in
      let front : take (11 + reply_address_len i) (path ++ (back ++ code ∷ body)) ≡ path ++ back = rw (← append_assoc path back (code ∷ body)) (take_at (path ++ back) (code ∷ body) _ len) in
      rw n (ap (λ (x : List ℕ). l ∷ p ∷ i ∷ k ∷ x) front)

  body_of-joined : body_of (joined l p i k path back code body) ≡ body
  body_of-joined =
      let n : 16 + reply_address_len i ≡ suc (suc (suc (suc (11 + reply_address_len i + 1)))) = omega arith in
      let whole : path ++ (back ++ code ∷ body) ≡ ((path ++ back) ++ code ∷ []) ++ body = sym (append_assoc (path ++ back) (code ∷ []) body ∙ append_assoc path back (code ∷ body)) in
      let len : length ((path ++ back) ++ code ∷ []) ≡ 11 + reply_address_len i + 1 = omega (arith, length-append path back, length-append (path ++ back) (code ∷ [])) in
      rw (n, whole) (drop_at ((path ++ back) ++ code ∷ []) body _ len)

  inner : (at n : ℕ) → at + n ≤ 11 → take n (drop at (back ++ code ∷ body)) ≡ take n (drop at back)
  inner at n fits =
      drop-part ∙ take-append-le n (drop at back) (code ∷ body) (omega (arith, length-drop at back))
    where
      drop-part : take n (drop at (back ++ code ∷ body)) ≡ take n (drop at back ++ code ∷ body)
      drop-part = ap (take n) (drop-append-le at back (code ∷ body) (omega arith))

  fields_of-joined : fields_of (joined l p i k path back code body) ≡ fields_from l i k path back
  unfolding fields_of
  fields_of-joined =
      ap (λ (x : List ℕ). fields_from l i k x (from_initiator (joined l p i k path back code body))) (take_at path (back ++ code ∷ body) (reply_address_len i) path_len)
      ∙ ap (λ (x : List ℕ). fields_from l i k path x) from_initiator-joined
      ∙ ap (λ (x : ℕ). command l i k path x (number_of (take 2 (drop 1 (back ++ code ∷ body)))) (number_of (take 5 (drop 3 (back ++ code ∷ body)))) (number_of (take 3 (drop 8 (back ++ code ∷ body))))) (get_or_append_left back (code ∷ body) 0 0 (omega arith))
      ∙ ap (λ (x : List ℕ). command l i k path (get_or back 0 0) (number_of x) (number_of (take 5 (drop 3 (back ++ code ∷ body)))) (number_of (take 3 (drop 8 (back ++ code ∷ body))))) (inner 1 2 (omega arith))
      ∙ ap (λ (x : List ℕ). command l i k path (get_or back 0 0) (number_of (take 2 (drop 1 back))) (number_of x) (number_of (take 3 (drop 8 (back ++ code ∷ body))))) (inner 3 5 (omega arith))
      ∙ ap (λ (x : List ℕ). command l i k path (get_or back 0 0) (number_of (take 2 (drop 1 back))) (number_of (take 5 (drop 3 back))) (number_of x)) (inner 8 3 (omega arith))

  is_command-joined : is_command (joined l p i k path back code body) ≡ is_right l p i k path back code
  is_command-joined =
      let long : ltb (length (joined l p i k path back code body)) (16 + reply_address_len i) ≡ false =
      le-ltb _ _ (omega (arith, length-append path (back ++ code ∷ body), length-append back (code ∷ body)))
      in
      let last : get_or (from_initiator (joined l p i k path back code body)) 11 0 ≡ code = ap (λ (x : List ℕ). get_or x 11 0) from_initiator-joined ∙ get_or_at back code body 0 11 back_len in
      rw (long, head-joined, last) refl

  read-joined : read (joined l p i k path back code body) ≡ cond (is_right l p i k path back code) (Some (fields_from l i k path back)) None
  unfolding read
  read-joined = rw (is_command-joined, fields_of-joined) refl

-- ---- what was written is read

abbrev back_of : CommandView → List ℕ
back_of c = (c.initiator ∷ bytes_high_first 2 c.transaction) ++ (bytes_high_first 5 c.address ++ bytes_high_first 3 c.data_length)

header_of-parts : (c : CommandView) → header_of c ≡ c.logical ∷ 1 ∷ c.instruction ∷ c.key ∷ (c.reply_address ++ back_of c)
header_of-parts c =
    let path = c.reply_address in
    let two = c.initiator ∷ bytes_high_first 2 c.transaction in
    ap (λ (x : List ℕ). c.logical ∷ 1 ∷ c.instruction ∷ c.key ∷ x) (append_assoc (path ++ two) (bytes_high_first 5 c.address) (bytes_high_first 3 c.data_length) ∙ append_assoc path two (bytes_high_first 5 c.address ++ bytes_high_first 3 c.data_length))

spelled-joined : (c : CommandView) (body : List ℕ) → with_crc (header_of c) ++ body ≡ joined c.logical 1 c.instruction c.key c.reply_address (back_of c) (crc_of (header_of c)) body
spelled-joined c body =
    append_assoc (header_of c) (crc_of (header_of c) ∷ []) body
    ∙ ap (λ (x : List ℕ). x ++ crc_of (header_of c) ∷ body) (header_of-parts c)
    ∙ ap (λ (x : List ℕ). c.logical ∷ 1 ∷ c.instruction ∷ c.key ∷ x) (append_assoc c.reply_address (back_of c) (crc_of (header_of c) ∷ body))

fields_from-back_of : (c : CommandView) → IsCommand c → fields_from c.logical c.instruction c.key c.reply_address (back_of c) ≡ c
fields_from-back_of c fits =
    ap (λ (n : ℕ). command c.logical c.instruction c.key c.reply_address c.initiator n (number_of (bytes_high_first 5 c.address)) (number_of (bytes_high_first 3 c.data_length))) (number_of-two c.transaction fits.transaction)
    ∙ ap (λ (n : ℕ). command c.logical c.instruction c.key c.reply_address c.initiator c.transaction n (number_of (bytes_high_first 3 c.data_length))) (number_of-five c.address fits.address)
    ∙ ap (λ (n : ℕ). command c.logical c.instruction c.key c.reply_address c.initiator c.transaction c.address n) (number_of-three c.data_length fits.data_length)

spelled_is_read : (c : CommandView) (body : List ℕ) → IsCommand c → (read (with_crc (header_of c) ++ body) ≡ Some c) × (body_of (with_crc (header_of c) ++ body) ≡ body)
spelled_is_read c body fits =
    let i = c.instruction in
    let code = crc_of (header_of c) in
    let same : eqb (crc_of (c.logical ∷ 1 ∷ i ∷ c.key ∷ (c.reply_address ++ back_of c))) code ≡ true = eq-eqb _ _ (ap crc_of (sym (header_of-parts c))) in
    let typed : eqb (packet_type i) 0 ≡ false = ne_eqb _ _ fits.type_of_command in
    let ok : is_right c.logical 1 i c.key c.reply_address (back_of c) code ≡ true = rw (same, typed) refl in (
      ap read (spelled-joined c body)
          ∙ read-joined c.logical 1 i c.key c.reply_address (back_of c) code body fits.reply_address refl
          ∙ cond-true _ _ _ ok
          ∙ ap (λ (x : CommandView). Some x) (fields_from-back_of c fits),
      ap body_of (spelled-joined c body)
          ∙ body_of-joined c.logical 1 i c.key c.reply_address (back_of c) code body fits.reply_address refl,
    )

pub written_is_read : WrittenIsRead
unfolding written
written_is_read c body fits = spelled_is_read c (cond (is_write c.instruction) (with_crc body) []) fits

-- ---- what is read was written so

record Parts (bytes : List ℕ) : Type 0 where
  l : ℕ
  p : ℕ
  i : ℕ
  k : ℕ
  path : List ℕ
  back : List ℕ
  code : ℕ
  body : List ℕ
  is : bytes ≡ joined l p i k path back code body
  path_len : length path ≡ reply_address_len i
  back_len : length back ≡ 11

parts_of : (bytes : List ℕ) → 16 + reply_address_len (instruction_of bytes) ≤ length bytes → Parts bytes
parts_of [] long = absurd (omega arith)
parts_of (l ∷ []) long = absurd (omega arith)
parts_of (l ∷ p ∷ []) long = absurd (omega arith)
parts_of (l ∷ p ∷ i ∷ []) long = absurd (omega arith)
parts_of (l ∷ p ∷ i ∷ k ∷ rest) long =
    let n = reply_address_len i in
    let tail = drop n rest in
    let tail_len : length tail ≡ length rest - n = length-drop n rest in
    let eleven : 11 < length tail = omega arith in
    let split : tail ≡ take 11 tail ++ get_or tail 11 0 ∷ drop 12 tail = sym (take-append-drop 11 tail) ∙ ap (λ (x : List ℕ). take 11 tail ++ x) (drop-cons tail 11 0 eleven) in
    record {
      l = l;
      p = p;
      i = i;
      k = k;
      path = take n rest;
      back = take 11 tail;
      code = get_or tail 11 0;
      body = drop 12 tail;
      is = ap (λ (x : List ℕ). l ∷ p ∷ i ∷ k ∷ x) (sym (take-append-drop n rest) ∙ ap (λ (x : List ℕ). take n rest ++ x) split);
      path_len = omega (arith, length-take n rest);
      back_len = omega (arith, length-take 11 tail);
    }

-- what comes behind the header changes nothing
read-behind : (header body other : List ℕ) → 16 + reply_address_len (instruction_of header) ≤ length header → read (header ++ body) ≡ read (header ++ other)
read-behind header body other long =
    let a = parts_of header long in
    let longer = λ (more : List ℕ).
    ap (λ (x : List ℕ). x ++ more) a.is
    ∙ ap (λ (x : List ℕ). a.l ∷ a.p ∷ a.i ∷ a.k ∷ x) (append_assoc a.path (a.back ++ a.code ∷ a.body) more ∙ ap (λ (x : List ℕ). a.path ++ x) (append_assoc a.back (a.code ∷ a.body) more)) in
    let reads = λ (more : List ℕ). ap read (longer more) ∙ read-joined a.l a.p a.i a.k a.path a.back a.code (a.body ++ more) a.path_len a.back_len in
    reads body ∙ sym (reads other)

pub way_back_is_in_header : WayBackIsInHeader
unfolding reply_to
way_back_is_in_header header body other long = ap (λ o. option_and_then way_back o) (read-behind header body other long)

abbrev IsBytes : List ℕ → Type 0
IsBytes bytes = (i : ℕ) → get_or bytes i 0 < 256

IsBytes-part : (at n : ℕ) (bytes : List ℕ) → IsBytes bytes → IsBytes (take n (drop at bytes))
IsBytes-part at n bytes h i =
    elim (cases_lt i n) [
      | inl lt ↦ rw (get_or-take n (drop at bytes) i 0 lt, get_or-drop at bytes i 0) (h (at + i))
      | inr le ↦ rw (get_or_past (take n (drop at bytes)) i 0 (omega (arith, length-take n (drop at bytes)))) (omega arith)
    ]

IsBytes-padded : (bytes : List ℕ) → IsBytes bytes → IsBytes (0 ∷ bytes)
IsBytes-padded bytes h zero = omega arith
IsBytes-padded bytes h (suc i) = h i

two_again : (xs : List ℕ) → length xs ≡ 2 → IsBytes xs → bytes_high_first 2 (number_of xs) ≡ xs
two_again [] len h = absurd (omega arith)
two_again (a ∷ []) len h = absurd (omega arith)
two_again (a ∷ b ∷ []) len h = be_bytes_2 (a ∷ b ∷ []) _ refl h (omega arith)
two_again (a ∷ b ∷ c ∷ xs) len h = absurd (omega arith)

three_again : (xs : List ℕ) → length xs ≡ 3 → IsBytes xs → bytes_high_first 3 (number_of xs) ≡ xs
three_again [] len h = absurd (omega arith)
three_again (a ∷ []) len h = absurd (omega arith)
three_again (a ∷ b ∷ []) len h = absurd (omega arith)
three_again (a ∷ b ∷ c ∷ []) len h = ap (drop 1) (be_bytes_4 (0 ∷ a ∷ b ∷ c ∷ []) _ refl (IsBytes-padded (a ∷ b ∷ c ∷ []) h) (omega arith))
three_again (a ∷ b ∷ c ∷ d ∷ xs) len h = absurd (omega arith)

five_again : (xs : List ℕ) → length xs ≡ 5 → IsBytes xs → bytes_high_first 5 (number_of xs) ≡ xs
five_again [] len h = absurd (omega arith)
five_again (a ∷ []) len h = absurd (omega arith)
five_again (a ∷ b ∷ []) len h = absurd (omega arith)
five_again (a ∷ b ∷ c ∷ []) len h = absurd (omega arith)
five_again (a ∷ b ∷ c ∷ d ∷ []) len h = absurd (omega arith)
five_again (a ∷ b ∷ c ∷ d ∷ e ∷ []) len h =
    let xs = a ∷ b ∷ c ∷ d ∷ e ∷ [] in
    ap (drop 3) (be_bytes_8 (0 ∷ 0 ∷ 0 ∷ a ∷ b ∷ c ∷ d ∷ e ∷ []) _ refl (IsBytes-padded (0 ∷ 0 ∷ xs) (IsBytes-padded (0 ∷ xs) (IsBytes-padded xs h))) (omega arith))
five_again (a ∷ b ∷ c ∷ d ∷ e ∷ f ∷ xs) len h = absurd (omega arith)

-- eleven bytes are their four fields
back_again : (back : List ℕ) → length back ≡ 11 → (get_or back 0 0 ∷ take 2 (drop 1 back)) ++ (take 5 (drop 3 back) ++ take 3 (drop 8 back)) ≡ back
back_again back len =
    let last : take 3 (drop 8 back) ≡ drop 8 back = take_all 3 (drop 8 back) (omega (arith, length-drop 8 back)) in
    let five : take 5 (drop 3 back) ++ drop 8 back ≡ drop 3 back = rw (← drop-drop 5 3 back) (take-append-drop 5 (drop 3 back)) in
    let two : take 2 (drop 1 back) ++ drop 3 back ≡ drop 1 back = rw (← drop-drop 2 1 back) (take-append-drop 2 (drop 1 back)) in
    let first : get_or back 0 0 ∷ drop 1 back ≡ back = sym (drop-cons back 0 0 (omega arith)) in
    ap (λ (x : List ℕ). (get_or back 0 0 ∷ take 2 (drop 1 back)) ++ (take 5 (drop 3 back) ++ x)) last
    ∙ ap (λ (x : List ℕ). (get_or back 0 0 ∷ take 2 (drop 1 back)) ++ x) five
    ∙ ap (λ (x : List ℕ). get_or back 0 0 ∷ x) two
    ∙ first

back_of-fields : (l i k : ℕ) (path back : List ℕ) → length back ≡ 11 → IsBytes back → back_of (fields_from l i k path back) ≡ back
back_of-fields l i k path back len h =
    let first = get_or back 0 0 in
    let two = take 2 (drop 1 back) in
    let five = take 5 (drop 3 back) in
    let three = take 3 (drop 8 back) in
    ap (λ (x : List ℕ). (first ∷ x) ++ (bytes_high_first 5 (number_of five) ++ bytes_high_first 3 (number_of three))) (two_again two (omega (arith, length-take 2 (drop 1 back), length-drop 1 back)) (IsBytes-part 1 2 back h))
    ∙ ap (λ (x : List ℕ). (first ∷ two) ++ (x ++ bytes_high_first 3 (number_of three))) (five_again five (omega (arith, length-take 5 (drop 3 back), length-drop 3 back)) (IsBytes-part 3 5 back h))
    ∙ ap (λ (x : List ℕ). (first ∷ two) ++ (five ++ x)) (three_again three (omega (arith, length-take 3 (drop 8 back), length-drop 8 back)) (IsBytes-part 8 3 back h))
    ∙ back_again back len

IsBytes-back : (l p i k : ℕ) (path back : List ℕ) (code : ℕ) (body : List ℕ) → IsBytes (joined l p i k path back code body) → IsBytes back
IsBytes-back l p i k path back code body h j =
    elim (cases_lt j (length back)) [
      | inl lt ↦
          let at : get_or (path ++ (back ++ code ∷ body)) (length path + j) 0 ≡ get_or back j 0 = get_or-append-add path (back ++ code ∷ body) j 0 ∙ get_or_append_left back (code ∷ body) 0 j lt in
          rw (← at) (h (suc (suc (suc (suc (length path + j))))))
      | inr le ↦ rw (get_or_past back j 0 le) (omega arith)
    ]

joined_again : (l p i k : ℕ) (path back : List ℕ) (code : ℕ) (body : List ℕ) → length back ≡ 11 → IsBytes back → is_right l p i k path back code ≡ true
    → joined l p i k path back code body ≡ with_crc (header_of (fields_from l i k path back)) ++ body
joined_again l p i k path back code body len h ok =
    let c = fields_from l i k path back in
    let same = back_of-fields l i k path back len h in
    let a = and_parts _ _ ok in
    let b = and_parts _ _ a.0 in
    let protocol : p ≡ 1 = eqb-true _ _ b.0 in
    let right : crc_of (l ∷ p ∷ i ∷ k ∷ (path ++ back)) ≡ code = eqb-true _ _ b.1 in
    let header : header_of c ≡ l ∷ p ∷ i ∷ k ∷ (path ++ back) = header_of-parts c ∙ ap (λ (x : List ℕ). l ∷ 1 ∷ i ∷ k ∷ (path ++ x)) same ∙ ap (λ (x : ℕ). l ∷ x ∷ i ∷ k ∷ (path ++ back)) (sym protocol) in
    ap (λ (x : ℕ). joined l p i k path back x body) (sym right ∙ ap crc_of (sym header))
    ∙ ap (λ (x : ℕ). joined l x i k path back (crc_of (header_of c)) body) protocol
    ∙ ap (λ (x : List ℕ). joined l 1 i k path x (crc_of (header_of c)) body) (sym same)
    ∙ sym (spelled-joined c body)

pub read_is_written : ReadIsWritten
read_is_written bytes c h e =
    let a = parts_of bytes (is_read bytes c e).long in
    let read_so = cond_some (is_right a.l a.p a.i a.k a.path a.back a.code) (fields_from a.l a.i a.k a.path a.back) c (sym (read-joined a.l a.p a.i a.k a.path a.back a.code a.body a.path_len a.back_len) ∙ ap read (sym a.is) ∙ e) in
    let low : IsBytes (joined a.l a.p a.i a.k a.path a.back a.code a.body) = subst IsBytes a.is h in
    let body : body_of bytes ≡ a.body = ap body_of a.is ∙ body_of-joined a.l a.p a.i a.k a.path a.back a.code a.body a.path_len a.back_len in
    a.is
    ∙ joined_again a.l a.p a.i a.k a.path a.back a.code a.body a.back_len (IsBytes-back a.l a.p a.i a.k a.path a.back a.code a.body low) read_so.0
    ∙ ap (λ (x : CommandView). with_crc (header_of x) ++ a.body) read_so.1
    ∙ ap (λ (x : List ℕ). with_crc (header_of c) ++ x) (sym body)
