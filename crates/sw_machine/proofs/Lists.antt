-- Lists of characters, and what holds at each number.
use Rattle.std.proofs.Common.{List, [], ap, append-nil, append_assoc, drop, eq-eqb, length, map, ne_eqb, refl, slice_index, subst, sym, true, ℕ, ⊎_elim, ◌++◌, ◌+◌, ◌<◌, ◌∙◌, ◌∷◌, ◌≡◌, ◌≢◌}
use Rattle.std.proofs.lemmas.Bool.{cases_eq}
use Rattle.std.proofs.lemmas.List.{drop_more, map-append}
use Rattle.std.specs.List.{AllByRecursion}
use Rattle.sw_char.specs.declared.nchar.End.{End}
use Rattle.sw_char.specs.declared.nchar.End.TheVariants.{Eep as ByEep, Eop as ByEop}
use Rattle.sw_char.specs.declared.nchar.NChar.{NChar}
use Rattle.sw_char.specs.declared.nchar.NChar.TheVariants.{Data, Eep, Eop}
use Rattle.sw_machine.proofs.Cuts.{cons_tail, cut_marker, cuts, no_cons}
use Rattle.sw_machine.proofs.Ghost.{Entry, IsEntry, IsRest, IsWhole, Stream, flat, form_of}
use Rattle.sw_machine.specs.Certificate.{Certificate}
use Rattle.sw_machine.specs.Network.{Network}
use Rattle.sw_machine.specs.Packets.{IsCut, Packet, chars, chars_of, is_marker, marker_of}
use Rattle.sw_machine.specs.State.{put}

-- what holds at c and at each other number
pub each_at : (P : ℕ → Type 0) (n c : ℕ) → (c < n → P c) → ((k : ℕ) → k < n → (k ≡ c → ⊥) → P k) → (k : ℕ) → k < n → P k
each_at P n c here others k lt = ⊎_elim (λ e. subst P (sym e) (here (subst (λ j. j < n) e lt))) (λ ne. others k lt ne) (cases_eq k c)

pub put_here : {A : Type 0} (f : ℕ → A) (c : ℕ) (x : A) → put f c x c ≡ x
put_here f c x = rw (eq-eqb c c refl)

pub put_there : {A : Type 0} (f : ℕ → A) (c : ℕ) (x : A) (k : ℕ) → (k ≡ c → ⊥) → put f c x k ≡ f k
put_there f c x k ne = rw (ne_eqb k c ne)

pub whole_cons : (l : List NChar) → IsWhole l → l ≢ []
whole_cons [] w e = w
whole_cons (x ∷ l) w e = no_cons x l e

pub rest_of_whole : (l : List NChar) → IsWhole l → IsRest l
rest_of_whole [] w = tt
rest_of_whole (x ∷ l) w = w

pub rest_after : (x : NChar) (l : List NChar) → IsWhole (x ∷ l) → IsRest l
rest_after (Data b) l w = rest_of_whole l w
rest_after Eop l w = subst IsRest (sym w) tt
rest_after Eep l w = subst IsRest (sym w) tt

-- bytes before a whole list
pub whole_data : (bytes : List ℕ) (l : List NChar) → IsWhole l → IsWhole (map Data bytes ++ l)
whole_data [] l w = w
whole_data (b ∷ bytes) l w = whole_data bytes l w

pub whole_marker : (m : NChar) → is_marker m ≡ true → IsWhole (m ∷ [])
whole_marker (Data b) e = absurd (cc)
whole_marker Eop e = refl
whole_marker Eep e = refl

pub marks : (end : End) → is_marker (marker_of end) ≡ true
marks ByEop = refl
marks ByEep = refl

pub whole_form : (net : Network) (e : Entry) → IsWhole (form_of net e)
whole_form net e = whole_data (drop e.deleted (net.flow e.flow).address) (map Data e.cargo ++ (marker_of e.end) ∷ []) (whole_data e.cargo (marker_of e.end ∷ []) (whole_marker (marker_of e.end) (marks e.end)))

pub flat_push : (net : Network) (q : List Entry) (e : Entry) → flat net (q ++ e ∷ []) ≡ flat net q ++ form_of net e
flat_push net [] e = append-nil (form_of net e)
flat_push net (x ∷ q) e = ap (λ l. form_of net x ++ l) (flat_push net q e) ∙ sym (append_assoc (form_of net x) (flat net q) (form_of net e))

pub all_push : {A : Type 0} (P : A → Type 0) (q : List A) (e : A) → AllByRecursion P q → P e → AllByRecursion P (q ++ e ∷ [])
all_push P [] e h p = (p, tt)
all_push P (x ∷ q) e h p = (h.0, all_push P q e h.1 p)

-- the first character of what is left is the front
pub record Next (x : NChar) (more rest all : List NChar) : Type 0 where
  pub tail : List NChar
  pub is : rest ≡ x ∷ tail
  pub left : more ≡ tail ++ all

pub next_of : (x : NChar) (more rest all : List NChar) → rest ≢ [] → x ∷ more ≡ rest ++ all → Next x more rest all
next_of x more [] all ne e = absurd (ne refl)
next_of x more (y ∷ rest) all ne e = record { tail = rest; is = cc; left = cc }

-- a packet more
pub more_comes : (net : Network) (cert : Certificate) (c : ℕ) (buffer wire coming rest : List NChar) (queue : List Entry) (e : Entry) → Stream net cert c buffer wire coming rest queue → coming ≡ [] → IsEntry net cert c e → Stream net cert c buffer wire (form_of net e) rest (queue ++ e ∷ [])
more_comes net cert c buffer wire coming rest queue e h none valid = record {
  content =
      ap (λ w. buffer ++ (w ++ form_of net e)) (sym (append-nil wire)) ∙ sym (append_assoc buffer (wire ++ []) (form_of net e))
      ∙ ap (λ l. (buffer ++ (wire ++ l)) ++ form_of net e) (sym none)
      ∙ ap (λ l. l ++ form_of net e) h.content
      ∙ append_assoc rest (flat net queue) (form_of net e)
      ∙ ap (λ l. rest ++ l) (sym (flat_push net queue e));
  queued = all_push (IsEntry net cert c) queue e h.queued valid;
  ends = h.ends;
}

pub drop_byte : (l : List ℕ) (k : ℕ) → k < length l → drop k l ≡ slice_index l k ∷ drop (k + 1) l
drop_byte l k lt = drop_more l k 0 lt

-- the bytes of a packet on a channel
abbrev pub bytes_of : Network → Entry → List ℕ
bytes_of net e = drop e.deleted (net.flow e.flow).address ++ e.cargo

pub form_is : (net : Network) (e : Entry) → form_of net e ≡ map Data (bytes_of net e) ++ (marker_of e.end) ∷ []
form_is net e = sym (append_assoc (map Data (drop e.deleted (net.flow e.flow).address)) (map Data e.cargo) ((marker_of e.end) ∷ [])) ∙ ap (λ l. l ++ (marker_of e.end) ∷ []) (sym (map-append Data (drop e.deleted (net.flow e.flow).address) e.cargo))

abbrev pub packet_of : Network → Entry → Packet
packet_of net e = record { bytes = bytes_of net e; end = e.end }

-- entries one after another are packets one after another
pub flat_chars : (net : Network) (es : List Entry) → flat net es ≡ chars (map (packet_of net) es)
flat_chars net [] = refl
flat_chars net (e ∷ es) = ap (λ l. l ++ flat net es) (form_is net e) ∙ ap (λ l. chars_of (packet_of net e) ++ l) (flat_chars net es)

-- what holds of each element holds of the last
last_of : {A B : Type 0} (P : A → Type 0) (f : A → B) (es : List A) (ps : List B) (p : B) → AllByRecursion P es → ps ++ p ∷ [] ≡ map f es → (e : A) × P e × (p ≡ f e)
last_of P f [] [] p all e = absurd (no_cons p [] e)
last_of P f [] (q ∷ ps) p all e = absurd (no_cons q (ps ++ p ∷ []) e)
last_of P f (x ∷ []) [] p all e = (x, all.0, cc)
last_of P f (x ∷ y ∷ es) [] p all e = absurd (no_cons (f y) (map f es) (sym (cons_tail p (f x) [] (map f (y ∷ es)) e)))
last_of P f (x ∷ es) (q ∷ ps) p all e = last_of P f es ps p all.1 (cons_tail q (f x) (ps ++ p ∷ []) (map f es) e)

-- the packet that a marker completes
pub completed : (net : Network) (cert : Certificate) (c : ℕ) (es : List Entry) (l : List NChar) (ps : List Packet) (bytes : List ℕ) (end : End) → IsCut l ps bytes → AllByRecursion (IsEntry net cert c) es → l ++ marker_of end ∷ [] ≡ flat net es → (e : Entry) × IsEntry net cert c e × (bytes ≡ bytes_of net e)
completed net cert c es l ps bytes end cut all h =
    let p : Packet = record { bytes = bytes; end = end } in
    let whole = cut_marker l ps bytes end cut in
    let same = cuts (ps ++ p ∷ []) (map (packet_of net) es) [] [] (sym whole ∙ h ∙ flat_chars net es ∙ sym (append-nil (chars (map (packet_of net) es)))) in
    let last = last_of (IsEntry net cert c) (packet_of net) es ps p all same.0 in
    (last.0, last.1, ap (λ (p : Packet). p.bytes) last.2)
