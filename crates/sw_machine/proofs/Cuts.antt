-- Each list of characters is cut into packets in one way.
use Rattle.std.proofs.Common.{List, [], ap, append-nil, append_assoc, map, refl, sym, ℕ, ◌++◌, ◌∙◌, ◌∷◌, ◌≡◌}
use Rattle.std.proofs.lemmas.List.{map-append}
use Rattle.sw_char.specs.declared.nchar.End.{End}
use Rattle.sw_char.specs.declared.nchar.End.TheVariants.{Eep as ByEep, Eop as ByEop}
use Rattle.sw_char.specs.declared.nchar.NChar.{NChar}
use Rattle.sw_char.specs.declared.nchar.NChar.TheVariants.{Data, Eep, Eop}
use Rattle.sw_machine.specs.Packets.{IsCut, Packet, chars, chars_of, marker_of}

pub no_cons : {A : Type 0} (x : A) (l : List A) → x ∷ l ≡ [] → ⊥
no_cons x l e = cc

pub cons_tail : {A : Type 0} (x y : A) (a b : List A) → x ∷ a ≡ y ∷ b → a ≡ b
cons_tail x y a b e = cc

-- the front packets of two lists of characters
pub same_front : (a b : List ℕ) (m n : End) (k l : List NChar) → map Data a ++ marker_of m ∷ k ≡ map Data b ++ marker_of n ∷ l → (a ≡ b) × (m ≡ n) × (k ≡ l)
same_front [] [] ByEop ByEop k l e = (refl, refl, cc)
same_front [] [] ByEop ByEep k l e = absurd (cc)
same_front [] [] ByEep ByEop k l e = absurd (cc)
same_front [] [] ByEep ByEep k l e = (refl, refl, cc)
same_front [] (y ∷ b) ByEop n k l e = absurd (cc)
same_front [] (y ∷ b) ByEep n k l e = absurd (cc)
same_front (x ∷ a) [] m ByEop k l e = absurd (cc)
same_front (x ∷ a) [] m ByEep k l e = absurd (cc)
same_front (x ∷ a) (y ∷ b) m n k l e =
    let r = same_front a b m n k l (cons_tail (Data x) (Data y) (map Data a ++ marker_of m ∷ k) (map Data b ++ marker_of n ∷ l) e) in
    let xy : x ≡ y = cc in
    (ap (λ z. z ∷ a) xy ∙ ap (λ z. y ∷ z) r.0, r.1, r.2)

-- bytes alone are no packet
pub no_marker_in : (a b : List ℕ) (m : End) (l : List NChar) → map Data a ≡ map Data b ++ marker_of m ∷ l → ⊥
no_marker_in [] [] m l e = no_cons (marker_of m) l (sym e)
no_marker_in [] (y ∷ b) m l e = no_cons (Data y) (map Data b ++ marker_of m ∷ l) (sym e)
no_marker_in (x ∷ a) [] ByEop l e = cc
no_marker_in (x ∷ a) [] ByEep l e = cc
no_marker_in (x ∷ a) (y ∷ b) m l e = no_marker_in a b m l (cons_tail (Data x) (Data y) (map Data a) (map Data b ++ marker_of m ∷ l) e)

-- nothing is no packet
pub no_packet_in : (p : Packet) (l : List NChar) → chars_of p ++ l ≡ [] → ⊥
no_packet_in p l e = no_marker_in [] p.bytes p.end l (sym e ∙ append_assoc (map Data p.bytes) (marker_of p.end ∷ []) l)

pub front_of : (p : Packet) (ps : List Packet) (more : List NChar) → chars (p ∷ ps) ++ more ≡ map Data p.bytes ++ marker_of p.end ∷ (chars ps ++ more)
front_of p ps more = append_assoc (chars_of p) (chars ps) more ∙ append_assoc (map Data p.bytes) (marker_of p.end ∷ []) (chars ps ++ more)

-- a packet from its parts
pub packet_is : (p q : Packet) → p.bytes ≡ q.bytes → p.end ≡ q.end → p ≡ q
packet_is p q b m = ap (λ b. record { bytes = b; end = p.end }) b ∙ ap (λ m. record { bytes = q.bytes; end = m }) m

data_is : (a b : List ℕ) → map Data a ≡ map Data b → a ≡ b
data_is [] [] e = refl
data_is [] (y ∷ b) e = absurd (cc)
data_is (x ∷ a) [] e = absurd (cc)
data_is (x ∷ a) (y ∷ b) e =
    let r = data_is a b (cons_tail (Data x) (Data y) (map Data a) (map Data b) e) in
    let xy : x ≡ y = cc in
    ap (λ z. z ∷ a) xy ∙ ap (λ z. y ∷ z) r

pub cuts : (ps qs : List Packet) (a b : List ℕ) → chars ps ++ map Data a ≡ chars qs ++ map Data b → (ps ≡ qs) × (a ≡ b)
cuts [] [] a b e = (refl, data_is a b e)
cuts [] (q ∷ qs) a b e = absurd (no_marker_in a q.bytes q.end (chars qs ++ map Data b) (e ∙ front_of q qs (map Data b)))
cuts (p ∷ ps) [] a b e = absurd (no_marker_in b p.bytes p.end (chars ps ++ map Data a) (sym e ∙ front_of p ps (map Data a)))
cuts (p ∷ ps) (q ∷ qs) a b e =
    let f = same_front p.bytes q.bytes p.end q.end (chars ps ++ map Data a) (chars qs ++ map Data b) (sym (front_of p ps (map Data a)) ∙ e ∙ front_of q qs (map Data b)) in
    let r = cuts ps qs a b f.2 in
    (ap (λ x. x ∷ ps) (packet_is p q f.0 f.1) ∙ ap (λ x. q ∷ x) r.0, r.1)

pub cuts_are_equal : (l : List NChar) (ps qs : List Packet) (bytes more : List ℕ) → IsCut l ps bytes → IsCut l qs more → (ps ≡ qs) × (bytes ≡ more)
cuts_are_equal l ps qs a b p q = cuts ps qs a b (sym p ∙ q)

-- the same cut, with a byte before it
abbrev longer_cut : (b : ℕ) (l : List NChar) (ps : List Packet) (bytes : List ℕ) → IsCut l ps bytes → (qs : List Packet) × (more : List ℕ) × IsCut (Data b ∷ l) qs more
longer_cut b l [] bytes e = ([], b ∷ bytes, ap (λ l. Data b ∷ l) e)
longer_cut b l (p ∷ ps) bytes e = (record { bytes = b ∷ p.bytes; end = p.end } ∷ ps, bytes, ap (λ l. Data b ∷ l) e)

unfoldable pub cut_of : (l : List NChar) → (ps : List Packet) × (bytes : List ℕ) × IsCut l ps bytes
cut_of [] = ([], [], refl)
cut_of (Data b ∷ l) = let r = cut_of l in longer_cut b l r.0 r.1 r.2
cut_of (Eop ∷ l) = let r = cut_of l in (record { bytes = []; end = ByEop } ∷ r.0, r.1, ap (λ l. Eop ∷ l) r.2)
cut_of (Eep ∷ l) = let r = cut_of l in (record { bytes = []; end = ByEep } ∷ r.0, r.1, ap (λ l. Eep ∷ l) r.2)

-- a byte more
pub cut_byte : (l : List NChar) (ps : List Packet) (bytes : List ℕ) (b : ℕ) → IsCut l ps bytes → IsCut (l ++ Data b ∷ []) ps (bytes ++ b ∷ [])
cut_byte l ps bytes b e = ap (λ l. l ++ Data b ∷ []) e ∙ append_assoc (chars ps) (map Data bytes) (Data b ∷ []) ∙ ap (λ l. chars ps ++ l) (sym (map-append Data bytes (b ∷ [])))

-- packets after packets
chars_append : (ps qs : List Packet) → chars (ps ++ qs) ≡ chars ps ++ chars qs
chars_append [] qs = refl
chars_append (p ∷ ps) qs = ap (λ l. chars_of p ++ l) (chars_append ps qs) ∙ sym (append_assoc (chars_of p) (chars ps) (chars qs))

-- a marker more
pub cut_marker : (l : List NChar) (ps : List Packet) (bytes : List ℕ) (m : End) → IsCut l ps bytes → IsCut (l ++ marker_of m ∷ []) (ps ++ record { bytes = bytes; end = m } ∷ []) []
cut_marker l ps bytes m e =
    let p : Packet = record { bytes = bytes; end = m } in
    ap (λ l. l ++ marker_of m ∷ []) e ∙ append_assoc (chars ps) (map Data bytes) (marker_of m ∷ [])
    ∙ ap (λ l. chars ps ++ l) (sym (append-nil (chars_of p)))
    ∙ sym (chars_append ps (p ∷ []))
    ∙ sym (append-nil (chars (ps ++ p ∷ [])))
