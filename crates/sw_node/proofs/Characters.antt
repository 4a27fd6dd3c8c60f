-- The characters of packets.
use Rattle.std.proofs.Common.{◌≡◌, ◌∙◌, false, inl, inr, ℕ, zero, suc, ◌+◌, ◌<◌, ◌≤◌, ap, get_or, List, [], ◌∷◌, ◌++◌, map, drop, take, length, Some, None, refl, sym, arith}
use Rattle.std.proofs.lemmas.List.{drop-append-le, drop-map, length-map, take_more}
use Rattle.std.proofs.lemmas.Bool.{cases_lt, true≢false}
use Rattle.std.specs.Prelude.{◌==◌, slice_get}
use Rattle.sw_char.specs.PacketView.{PacketView}
use Rattle.sw_char.specs.Packets.{chars, chars_of}
use Rattle.sw_char.specs.declared.nchar.NChar.{NChar}
use Rattle.sw_char.specs.declared.nchar.NChar.TheVariants.{Data}
use Rattle.sw_char.proofs.Cuts.{chars-push}

pub next_byte : (bytes : List ℕ) (n b : ℕ) (end : NChar) → n < length bytes → b ≡ get_or bytes n b → slice_get (drop n (map Data bytes ++ end ∷ [])) 0 ≡ Some (Data b)
next_byte [] n b end lt e = absurd (omega arith)
next_byte (x ∷ bytes) zero b end lt e = ap (λ k. Some (Data k)) (sym e)
next_byte (x ∷ bytes) (suc n) b end lt e = next_byte bytes n b end (omega arith) e

pub next_marker : (bytes : List ℕ) (n : ℕ) (end : NChar) → slice_get bytes n ≡ None → n ≤ length bytes → slice_get (drop n (map Data bytes ++ end ∷ [])) 0 ≡ Some end
next_marker [] zero end e le = refl
next_marker [] (suc n) end e le = absurd (omega arith)
next_marker (x ∷ bytes) zero end e le = absurd (cc)
next_marker (x ∷ bytes) (suc n) end e le = next_marker bytes n end e (omega arith)

pub none_left : (bytes : List ℕ) (n : ℕ) (end : NChar) → suc (length bytes) ≤ n → slice_get (drop n (map Data bytes ++ end ∷ [])) 0 ≡ None
none_left [] zero end le = absurd (omega arith)
none_left [] (suc zero) end le = refl
none_left [] (suc (suc n)) end le = refl
none_left (x ∷ bytes) zero end le = absurd (omega arith)
none_left (x ∷ bytes) (suc n) end le = none_left bytes n end (omega arith)

-- ---- what is left of a packet, and what one packet more adds

rest_left : (bytes : List ℕ) (n : ℕ) (end : NChar) → n ≤ length bytes → map Data (drop n bytes) ++ end ∷ [] ≡ drop n (map Data bytes ++ end ∷ [])
rest_left bytes n end le =
    let within : n ≤ length (map Data bytes) = let all = length-map bytes Data in omega arith in
    ap (λ (x : List NChar). x ++ end ∷ []) (sym (drop-map Data n bytes)) ∙ sym (drop-append-le n (map Data bytes) (end ∷ []) within)

nothing_left : (bytes : List ℕ) (n : ℕ) (end : NChar) → length bytes < n → drop n (map Data bytes ++ end ∷ []) ≡ []
nothing_left [] zero end lt = absurd (omega arith)
nothing_left [] (suc zero) end lt = refl
nothing_left [] (suc (suc n)) end lt = refl
nothing_left (x ∷ bytes) zero end lt = absurd (omega arith)
nothing_left (x ∷ bytes) (suc n) end lt = nothing_left bytes n end (omega arith)

pub some_left : (bytes : List ℕ) (n : ℕ) (end : NChar) (left : List NChar) → left ≡ drop n (map Data bytes ++ end ∷ []) → (length left == 0) ≡ false → map Data (drop n bytes) ++ end ∷ [] ≡ left
some_left bytes n end left is some = elim (cases_lt (length bytes) n) [
  | inl past ↦ absurd (true≢false (ap (λ (l : List NChar). length l == 0) (sym (is ∙ nothing_left bytes n end past)) ∙ some))
  | inr within ↦ rest_left bytes n end within ∙ sym is
]

pub chars_more : (ps : List PacketView) (i : ℕ) (p : PacketView) → i < length ps → p ≡ get_or ps i p → chars (take (i + 1) ps) ≡ chars (take i ps) ++ chars_of p
chars_more ps i p lt is = ap chars (take_more ps i p lt ∙ ap (λ q. take i ps ++ q ∷ []) (sym is)) ∙ chars-push (take i ps) p
