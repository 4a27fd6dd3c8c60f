-- Bytes that are added to others part by part, and a header as such parts.
use Rattle.std.proofs.Common.{◌≡◌, ℕ, List, Bool, true, false, [], ◌∷◌, ◌++◌, ◌==◌, ◌&&◌, None, Some, ap, append-nil, cond, length, get_or, rules, Result, Ok, Err, refl, sym, ◌∙◌, append_assoc}
use Rattle.std.proofs.lemmas.Bool.{cond-false, cond-true}
use Rattle.std.specs.List.{list_all}
use Rattle.sw_rmap.specs.Replies.{code_of, is_answered, leads_nowhere, left_form, path_of, reply_head, reply_to, way_back, without_leading_zeros}
use Rattle.std.specs.Prelude.{option_and_then, OnOk}
use Rattle.std.specs.Int.{bytes_high_first}
use Rattle.sw_rmap.specs.Crc.{with_crc}
use Rattle.sw_rmap.specs.Instruction.{is_write, of_reply}
use Rattle.sw_rmap.specs.declared.status.Status.{Status}
use Rattle.sw_rmap.specs.CommandView.{CommandView}
use Rattle.sw_rmap.specs.Commands.{header_of, read}

-- a call that went well, with what follows from what it says
pub if_added : {E : Type 0} {P Q : Type 0} (r : Result (Unit {0}) E) → (P → Q) → OnOk r P → OnOk r Q
if_added (Ok u) follows is = follows is
if_added (Err e) follows is = tt

-- three parts joined are the whole
pub three_joined : (bytes one front middle two back whole : List ℕ) → bytes ≡ one ++ (middle ++ (two ++ [])) → one ≡ front → two ≡ back → front ++ (middle ++ back) ≡ whole → bytes ≡ whole
three_joined bytes one front middle two back whole joined first last all =
    joined ∙ ap (λ l. one ++ (middle ++ l)) (append-nil two ∙ last) ∙ ap (λ l. l ++ (middle ++ back)) first ∙ all

-- the path back, and the initiator's address behind it, are the way of the reply
pub way_is : (bytes way path last : List ℕ) (initiator : ℕ) (c : CommandView) → Some c ≡ read bytes → is_answered c ≡ true → way ≡ path ++ (last ++ []) → last ≡ initiator ∷ [] → path ≡ path_of c → initiator ≡ c.initiator
    → Some way ≡ reply_to bytes
unfolding reply_to
way_is bytes way path last initiator c here answered joined one back by =
    let made : way ≡ path_of c ++ c.initiator ∷ [] = joined ∙ ap (λ l. path ++ (l ++ [])) one ∙ ap (λ p. p ++ initiator ∷ []) back ∙ ap (λ i. path_of c ++ i ∷ []) by in
    ap (λ (w : List ℕ). Some w) made ∙ sym (cond-true (is_answered c) (Some (path_of c ++ c.initiator ∷ [])) None answered) ∙ ap (option_and_then way_back) here

-- what is taken from the bytes of the fields is the header
pub header_is : (c : CommandView) (logical instruction key initiator transaction address length : ℕ) (reply t a l : List ℕ) → logical ≡ c.logical → instruction ≡ c.instruction → key ≡ c.key → initiator ≡ c.initiator
    → transaction ≡ c.transaction → address ≡ c.address → length ≡ c.data_length → reply ≡ c.reply_address → t ≡ bytes_high_first 2 transaction → a ≡ bytes_high_first 8 address → l ≡ bytes_high_first 4 length
    → logical ∷ 1 ∷ instruction ∷ key ∷ (reply ++ (initiator ∷ get_or t 0 0 ∷ get_or t 1 0 ∷ get_or a 3 0 ∷ get_or a 4 0 ∷ get_or a 5 0 ∷ get_or a 6 0 ∷ get_or a 7 0 ∷ get_or l 1 0 ∷ get_or l 2 0 ∷ get_or l 3 0 ∷ [])) ≡ header_of c
header_is c logical instruction key initiator transaction address length reply t a l e1 e2 e3 e4 e5 e6 e7 e8 at al ll = rw (at, al, ll, e1, e2, e3, e4, e5, e6, e7, e8) (simp append_assoc)

-- what each reply begins with
pub head_is : (c : CommandView) (status : Status) (initiator bits instruction code logical transaction : ℕ) (t : List ℕ) → initiator ≡ c.initiator → bits ≡ c.instruction → instruction ≡ of_reply bits → code ≡ code_of status → logical ≡ c.logical
    → transaction ≡ c.transaction → t ≡ bytes_high_first 2 transaction → initiator ∷ 1 ∷ instruction ∷ code ∷ logical ∷ get_or t 0 0 ∷ get_or t 1 0 ∷ [] ≡ reply_head c status
head_is c status initiator bits instruction code logical transaction t e1 e2 e3 e4 e5 e6 at = rw (at, e6, e5, e4, e3, e2, e1) refl

-- the reply to a write has its head alone
pub without_data : (c : CommandView) (status : Status) (found head : List ℕ) → is_write c.instruction ≡ true → head ≡ reply_head c status → with_crc head ≡ left_form c status found
without_data c status found head writes is = ap (λ h. with_crc h) is ∙ sym (cond-true (is_write c.instruction) (with_crc (reply_head c status)) _ writes)

-- the reply to any other command has the length of its data behind the head, and then the data
pub with_data : (c : CommandView) (status : Status) (found head lengths : List ℕ) → is_write c.instruction ≡ false → head ≡ reply_head c status → lengths ≡ bytes_high_first 4 (length found)
    → with_crc (head ++ 0 ∷ get_or lengths 1 0 ∷ get_or lengths 2 0 ∷ get_or lengths 3 0 ∷ []) ++ with_crc found ≡ left_form c status found
with_data c status found head lengths reads is long =
    ap (λ h. with_crc (h ++ 0 ∷ get_or lengths 1 0 ∷ get_or lengths 2 0 ∷ get_or lengths 3 0 ∷ []) ++ with_crc found) is
    ∙ ap (λ l. with_crc (reply_head c status ++ 0 ∷ get_or l 1 0 ∷ get_or l 2 0 ∷ get_or l 3 0 ∷ []) ++ with_crc found) long
    ∙ sym (cond-false (is_write c.instruction) _ (with_crc (reply_head c status ++ 0 ∷ bytes_high_first 3 (length found)) ++ with_crc found) reads)

-- a reply address of zeros alone has no path
zeros_alone : (bytes : List ℕ) → list_all (λ b. b == 0) bytes ≡ (length (without_leading_zeros bytes) == 0)
zeros_alone [] = refl
zeros_alone (b ∷ bytes) = go (b == 0) (zeros_alone bytes)
  where
    go : (zero : Bool) → list_all (λ b. b == 0) bytes ≡ (length (without_leading_zeros bytes) == 0)
        → (zero && list_all (λ b. b == 0) bytes) ≡ (length (cond zero (without_leading_zeros bytes) (b ∷ bytes)) == 0)
    go true is = is
    go false is = search rules

-- where it has bytes, it leads nowhere exactly where it has no path
pub leads_nowhere_else : (bytes : List ℕ) → (length bytes == 0) ≡ false → leads_nowhere bytes ≡ (length (without_leading_zeros bytes) == 0)
leads_nowhere_else bytes some = rw some (zeros_alone bytes)
