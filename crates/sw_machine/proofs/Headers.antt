-- The first bytes of a packet say where its reply goes, and how many bytes its address has.
use Rattle.std.proofs.Common.{Bool, true, false, ◌∷◌, ◌≡◌, ℕ, ◌+◌, ◌≤◌, List, [], ◌++◌, length, take, drop, sym, ap, ◌∙◌, arith, append_assoc, append-nil, inl, inr}
use Rattle.std.proofs.lemmas.List.{take-append-drop, length-append, length-take, take_all}
use Rattle.std.proofs.lemmas.Bool.{cases_lt}
use Rattle.sw_rmap.specs.Instruction.{reply_address_len}
use Rattle.sw_rmap.specs.Commands.{instruction_of}
use Rattle.std.specs.Prelude.{◌==◌, if◌then◌else◌}
use Rattle.sw_rmap.specs.CommandView.{CommandView, IsCommand}
use Rattle.sw_rmap.specs.Replies.{reply_to, without_leading_zeros}
use Rattle.sw_rmap.proofs.Parts.{way_back_is_in_header}

pub way_in_first_bytes : (left cargo : List ℕ) → reply_to (left ++ take 28 cargo) ≡ reply_to (left ++ cargo)
way_in_first_bytes left cargo = elim (cases_lt (length cargo) 28) [
  | inl few ↦ ap (λ l. reply_to (left ++ l)) (take_all 28 cargo (omega arith))
  | inr many ↦
      let header = left ++ take 28 cargo in
      let taken = length-take 28 cargo in
      let long : 16 + reply_address_len (instruction_of header) ≤ length header = rw (length-append left (take 28 cargo)) (omega (arith, taken)) in
      let whole : header ++ drop 28 cargo ≡ left ++ cargo = append_assoc left (take 28 cargo) (drop 28 cargo) ∙ ap (λ l. left ++ l) (take-append-drop 28 cargo) in
      ap reply_to (sym (append-nil header)) ∙ way_back_is_in_header header [] (drop 28 cargo) long ∙ ap reply_to whole
]

shorter : (zero_first : Bool) (b : ℕ) (bytes : List ℕ) → length (without_leading_zeros bytes) ≤ length bytes → length (if zero_first then without_leading_zeros bytes else b ∷ bytes) ≤ length (b ∷ bytes)
shorter true b bytes le = omega arith
shorter false b bytes le = omega arith

pub length-path-le : (bytes : List ℕ) → length (without_leading_zeros bytes) ≤ length bytes
length-path-le [] = omega arith
length-path-le (b ∷ bytes) = shorter (b == 0) b bytes (length-path-le bytes)

pub length-reply_address-le : (c : CommandView) → IsCommand c → length c.reply_address ≤ 12
length-reply_address-le c is = let n = is.reply_address in omega arith
