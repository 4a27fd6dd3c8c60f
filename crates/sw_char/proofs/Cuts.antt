-- A list of characters is cut at its markers in one way.
use Rattle.std.proofs.Common.{◌≡◌, ℕ, ◌+◌, ◌<◌, List, [], ◌∷◌, ◌++◌, length, take, get_or, map, refl, sym, ap, ◌∙◌, append_assoc}
use Rattle.std.proofs.lemmas.List.{append-nil, take_more}
use Rattle.sw_char.specs.declared.nchar.NChar.{NChar}
use Rattle.sw_char.specs.declared.nchar.NChar.TheVariants.{Data, Eop, Eep}
use Rattle.sw_char.specs.declared.nchar.End.{End}
use Rattle.sw_char.specs.declared.nchar.End.TheVariants as ends
use Rattle.sw_char.specs.PacketView.{PacketView}
use Rattle.sw_char.specs.Packets.{marker_of, chars_of, chars, IsCut, HasOneCut}

-- a cut: packets, and the rest
record Cut : Type 0 where
  packets : List PacketView
  rest : List ℕ

abbrev pub packet : List ℕ → End → PacketView
packet bytes end = record { bytes = bytes; end = end }

-- the cut of a list with one more byte in front
abbrev with_byte : ℕ → List PacketView → List ℕ → Cut
with_byte b [] rest = record { packets = []; rest = b ∷ rest }
with_byte b (p ∷ ps) rest = record { packets = packet (b ∷ p.bytes) p.end ∷ ps; rest = rest }

-- the cut of a list with one more marker in front
abbrev with_end : End → Cut → Cut
with_end end c = record { packets = packet [] end ∷ c.packets; rest = c.rest }

abbrev cut : List NChar → Cut
cut [] = record { packets = []; rest = [] }
cut (Data b ∷ l) = with_byte b (cut l).packets (cut l).rest
cut (Eop ∷ l) = with_end ends.Eop (cut l)
cut (Eep ∷ l) = with_end ends.Eep (cut l)

byte_cuts : (b : ℕ) (l : List NChar) (ps : List PacketView) (rest : List ℕ) → IsCut l ps rest → IsCut (Data b ∷ l) (with_byte b ps rest).packets (with_byte b ps rest).rest
byte_cuts b l [] rest h = ap (λ (x : List NChar). Data b ∷ x) h
byte_cuts b l (p ∷ ps) rest h = ap (λ (x : List NChar). Data b ∷ x) h

cuts : (l : List NChar) → IsCut l (cut l).packets (cut l).rest
cuts [] = refl
cuts (Data b ∷ l) = byte_cuts b l (cut l).packets (cut l).rest (cuts l)
cuts (Eop ∷ l) = ap (λ (x : List NChar). Eop ∷ x) (cuts l)
cuts (Eep ∷ l) = ap (λ (x : List NChar). Eep ∷ x) (cuts l)

cut-data : (rest : List ℕ) → cut (map Data rest) ≡ record { packets = []; rest = rest }
cut-data [] = refl
cut-data (b ∷ rest) = ap (λ (c : Cut). with_byte b c.packets c.rest) (cut-data rest)

cut-packet : (bytes : List ℕ) (end : End) (l : List NChar) → cut (chars_of (packet bytes end) ++ l) ≡ record { packets = packet bytes end ∷ (cut l).packets; rest = (cut l).rest }
cut-packet [] ends.Eop l = refl
cut-packet [] ends.Eep l = refl
cut-packet (b ∷ bytes) end l = ap (λ (c : Cut). with_byte b c.packets c.rest) (cut-packet bytes end l)

cut-chars : (ps : List PacketView) (rest : List ℕ) → cut (chars ps ++ map Data rest) ≡ record { packets = ps; rest = rest }
cut-chars [] rest = cut-data rest
cut-chars (p ∷ ps) rest =
    ap cut (append_assoc (chars_of p) (chars ps) (map Data rest))
    ∙ cut-packet p.bytes p.end (chars ps ++ map Data rest)
    ∙ ap (λ (c : Cut). record { packets = p ∷ c.packets; rest = c.rest }) (cut-chars ps rest)

pub one_cut : (l : List NChar) → HasOneCut l
one_cut l = (
  (cut l).packets,
  (cut l).rest,
  cuts l,
  λ qs other h.
      let e : cut l ≡ record { packets = qs; rest = other } = ap cut h ∙ cut-chars qs other in
      (sym (ap (λ (c : Cut). c.packets) e), sym (ap (λ (c : Cut). c.rest) e)),
)

pub chars-push : (ps : List PacketView) (p : PacketView) → chars (ps ++ p ∷ []) ≡ chars ps ++ chars_of p
chars-push [] p = append-nil (chars_of p)
chars-push (q ∷ ps) p = ap (λ (x : List NChar). chars_of q ++ x) (chars-push ps p) ∙ sym (append_assoc (chars_of q) (chars ps) (chars_of p))

-- a marker makes the rest a packet
cut_end : (l : List NChar) (ps : List PacketView) (rest : List ℕ) (end : End) → IsCut l ps rest → IsCut (l ++ marker_of end ∷ []) (ps ++ packet rest end ∷ []) []
cut_end l ps rest end h =
    ap (λ (x : List NChar). x ++ marker_of end ∷ []) h
    ∙ append_assoc (chars ps) (map Data rest) (marker_of end ∷ [])
    ∙ sym (chars-push ps (packet rest end))
    ∙ sym (append-nil (chars (ps ++ packet rest end ∷ [])))

pub next_marker : (l : List NChar) (i : ℕ) (d : NChar) (ps : List PacketView) (rest : List ℕ) (end : End) → i < length l → get_or l i d ≡ marker_of end → IsCut (take i l) ps rest
    → IsCut (take (i + 1) l) (ps ++ packet rest end ∷ []) []
next_marker l i d ps rest end lt is h =
    let e : take (i + 1) l ≡ take i l ++ marker_of end ∷ [] = take_more l i d lt ∙ ap (λ (x : NChar). take i l ++ x ∷ []) is in
    rw e (cut_end (take i l) ps rest end h)
