-- What is noted of the places of flows says what holds of them.
use Rattle.std.proofs.Common.{◌≡◌, ℕ, ◌+◌, ◌*◌, ◌<◌, ◌≤◌, All, Bool, true, false, ◌&&◌, not, List, [], ◌∷◌, ◌++◌, length, get_or, take, Bor, IfSome, MatchOption, Option, Some, None, refl, sym, ap, ap₂, ◌∙◌, subst, arith, ltb, ltb-true, append-nil, append_assoc}
use Rattle.std.specs.Prelude.{◌==◌, find, fold, is_some, option_and_then, option_map, slice_get, if◌then◌else◌}
use Rattle.std.specs.Option.{option_copied}
use Rattle.std.proofs.lemmas.Bool.{and_parts, eqb-true}
use Rattle.std.proofs.lemmas.List.{get_or-replicate, length-replicate, length-take-le, map-append, take_all, take_more}
use Rattle.std.proofs.lemmas.List.Elements.{Contains-get_or}
use Rattle.std.proofs.lemmas.List.Sums.{fold-append, fold_push}
use Rattle.std.proofs.lemmas.Option.{none-some, same_Some, slice_get_past, slice_get_read, slice_get_within}
use Rattle.std.proofs.lemmas.Slice.Zip.{AllZip-long, all_zipped_more}
use Rattle.sw_topo.specs.Checked.{first_of}
use Rattle.sw_config.specs.Entries.{FlowEntry, Declaration, all_flows}
use Rattle.sw_flow.specs.declared.place.Place.{Place}
use Rattle.sw_flow.specs.Places.{ends_of, IsPlaceList, IsPlacesOf}
use Rattle.sw_flow.proofs.Stepping.{places_are_in}
use Rattle.sw_linter.specs.declared.asking.Asking.{Asking}
use Rattle.sw_linter.specs.FlowPlaces.{FlowPlace, AreFlowPlaces, joined, places_of_flow}
use Rattle.sw_linter.specs.Lints.{asks_on}
use Rattle.sw_linter.specs.Marks.{AreNoted, IsFlowNoted, MarkLists, NodeLists, arrival_key, asker, asking_key, end_key, is_other, led_key, no_nodes, no_places, nodes_of, note_at, noted, other_key, start_key, with_flow, with_place}
use Rattle.sw_linter.proofs.Ranges.{take_one_more}
use Rattle.sw_linter.proofs.Waits.{elsewhere, itself, waits}
use Rattle.sw_linter.proofs.Tests.{find_push}
use Rattle.sw_linter.proofs.TableSteps.{Marked, Noted, is_key, length-marked, length-noted, mapped_first, marked_more, marked_none, noted_at, noted_more, noted_none}
use Rattle.sw_topo.proofs.TableSteps.{first_alone}

-- ---- nodes

abbrev pub from_key : FlowEntry → Option ℕ
from_key f = Some f.from

abbrev pub to_key : FlowEntry → Option ℕ
to_key f = Some f.to

pub record AreNodes (d : Declaration) (flows : List FlowEntry) (m : NodeLists) : Type 0 where
  pub long_from : length m.from ≡ length d.nodes
  pub long_to : length m.to ≡ length d.nodes
  pub from : Marked from_key flows m.from
  pub to : Marked to_key flows m.to

nodes_more : (d : Declaration) (flows : List FlowEntry) (f : FlowEntry) (m : NodeLists) → AreNodes d flows m → AreNodes d (flows ++ f ∷ []) (with_flow m f)
nodes_more d flows f m a = record {
  long_from = length-marked (from_key f) m.from ∙ a.long_from;
  long_to = length-marked (to_key f) m.to ∙ a.long_to;
  from = marked_more from_key flows f m.from a.from;
  to = marked_more to_key flows f m.to a.to;
}

all_nodes : (d : Declaration) (seen rest : List FlowEntry) (m : NodeLists) → AreNodes d seen m → AreNodes d (seen ++ rest) (fold with_flow m rest)
all_nodes d seen [] m a = subst (λ (l : List FlowEntry). AreNodes d l m) (sym (append-nil seen)) a
all_nodes d seen (f ∷ rest) m a =
    subst (λ (l : List FlowEntry). AreNodes d l (fold with_flow (with_flow m f) rest)) (append_assoc seen (f ∷ []) rest)
    (all_nodes d (seen ++ f ∷ []) rest (with_flow m f) (nodes_more d seen f m a))

pub nodes_noted : (d : Declaration) → AreNodes d d.flows (nodes_of d)
nodes_noted d = all_nodes d [] d.flows (no_nodes d) (record {
  long_from = length-replicate {A = Bool} (length d.nodes) false;
  long_to = length-replicate {A = Bool} (length d.nodes) false;
  from = marked_none from_key (length d.nodes);
  to = marked_none to_key (length d.nodes);
})

-- ---- switches and channels

abbrev pub number_of : FlowPlace → ℕ
number_of v = v.number

-- the first flow with a reply on channel c whose commands may have to wait elsewhere than the first one's
abbrev pub other_of : Declaration → List FlowPlace → ℕ → Option ℕ
other_of d all c = option_and_then (λ v. option_map number_of (find (λ w. asks_on c w && elsewhere d v w) all)) (find (asks_on c) all)

pub record AreMarks (d : Declaration) (all : List FlowPlace) (m : MarkLists) : Type 0 where
  pub long_starts : length m.starts ≡ length d.switches
  pub long_ends : length m.ends ≡ length d.switches
  pub long_arrivals : length m.arrivals ≡ 256 * length d.switches
  pub long_led : length m.led ≡ 256 * length (ends_of d)
  pub long_asking : length m.asking ≡ length (ends_of d)
  pub long_other : length m.other ≡ length (ends_of d)
  pub starts : Marked (start_key d) all m.starts
  pub ends : Marked (end_key d) all m.ends
  pub arrivals : Marked (arrival_key d) all m.arrivals
  pub led : Noted led_key number_of all m.led
  pub asking : (c : ℕ) → c < length (ends_of d) → note_at m.asking c ≡ option_map (asker d) (find (asks_on c) all)
  pub other : (c : ℕ) → c < length (ends_of d) → note_at m.other c ≡ other_of d all c

pub asks_key : (c : ℕ) (v : FlowPlace) → is_key c (asking_key v) ≡ asks_on c v
asks_key c v = by (is_some v.flow.reply)
  where
    by : (b : Bool) → is_key c (if b then Some v.place.channel else None) ≡ b && v.place.channel == c
    by true = refl
    by false = refl

-- ---- the first flow whose commands may have to wait elsewhere

on_same : {A B : Type 0} (f g : A → Option B) (o : Option A) → ((x : A) → f x ≡ g x) → option_and_then f o ≡ option_and_then g o
on_same f g None same = refl
on_same f g (Some x) same = same x

-- where none passes, none passes and something else
pub none_more : {X : Type 0} (p q : X → Bool) (xs : List X) → find p xs ≡ None → find (λ w. p w && q w) xs ≡ None
none_more p q [] none = refl
none_more {X} p q (x ∷ xs) none = by (p x) none (none_more p q xs)
  where
    by : (b : Bool) → (if b then Some x else find p xs) ≡ None → (find p xs ≡ None → find (λ w. p w && q w) xs ≡ None) → (if b && q x then Some x else find (λ w. p w && q w) xs) ≡ None
    by true e on = absurd (none-some x (sym e))
    by false e on = on e

pub key_given : (c ch : ℕ) (a b : Bool) → is_key c (if a && b then Some ch else None) ≡ (a && ch == c) && b
key_given c ch true true = by (ch == c)
  where
    by : (e : Bool) → e ≡ e && true
    by true = refl
    by false = refl
key_given c ch true false = by (ch == c)
  where
    by : (e : Bool) → false ≡ e && false
    by true = refl
    by false = refl
key_given c ch false b = refl

module _ (d : Declaration) (asking : List (Option Asking)) (other : List (Option ℕ)) (all : List FlowPlace) (v : FlowPlace) (c : ℕ) (lt : c < length other) (so_far : note_at other c ≡ other_of d all c) where
  abbrev later : List FlowPlace
  later = all ++ v ∷ []

  abbrev inner : FlowPlace → List FlowPlace → Option ℕ
  inner w vs = option_map number_of (find (λ x. asks_on c x && elsewhere d w x) vs)

  -- what is noted there then, by the test of the key
  noted_there : note_at (noted (other_key d asking v) v.number other) c ≡ first_of (other_of d all c) (if asks_on c v && is_other (note_at asking v.place.channel) (waits d v) then Some v.number else None)
  noted_there =
      noted_at (other_key d asking v) v.number other c lt ∙ ap (λ (o : Option ℕ). first_of o (if is_key c (other_key d asking v) then Some v.number else None)) so_far
      ∙ ap (λ b. first_of (other_of d all c) (if b then Some v.number else None)) (key_given c v.place.channel (is_some v.flow.reply) (is_other (note_at asking v.place.channel) (waits d v)))

  inner_push : (w : FlowPlace) → inner w later ≡ first_of (inner w all) (if asks_on c v && elsewhere d w v then Some v.number else None)
  inner_push w =
      let p : FlowPlace → Bool = λ x. asks_on c x && elsewhere d w x in
      ap (option_map number_of) (find_push p all v) ∙ sym (mapped_first number_of (find p all) v (p v))

  not_asking : asks_on c v ≡ false → note_at (noted (other_key d asking v) v.number other) c ≡ other_of d later c
  not_asking is =
      let gone : find (asks_on c) later ≡ find (asks_on c) all = find_push (asks_on c) all v ∙ ap (λ b. first_of (find (asks_on c) all) (if b then Some v else None)) is ∙ first_alone (find (asks_on c) all) in
      let each : (w : FlowPlace) → inner w later ≡ inner w all = λ w. inner_push w ∙ ap (λ b. first_of (inner w all) (if b && elsewhere d w v then Some v.number else None)) is ∙ first_alone (inner w all) in
      noted_there ∙ ap (λ b. first_of (other_of d all c) (if b && is_other (note_at asking v.place.channel) (waits d v) then Some v.number else None)) is ∙ first_alone (other_of d all c)
      ∙ sym (ap (option_and_then (λ w. inner w later)) gone ∙ on_same (λ w. inner w later) (λ w. inner w all) (find (asks_on c) all) each)

  differs_not : elsewhere d v v ≡ false
  differs_not = ap not (itself (waits d v))

  asking_too : asks_on c v ≡ true → (o : Option FlowPlace) → find (asks_on c) all ≡ o → note_at asking v.place.channel ≡ option_map (asker d) o → note_at (noted (other_key d asking v) v.number other) c ≡ other_of d later c
  asking_too is None found noted_one =
      let before : other_of d all c ≡ None = ap (option_and_then (λ w. inner w all)) found in
      let first : find (asks_on c) later ≡ Some v = find_push (asks_on c) all v ∙ ap₂ (λ (o : Option FlowPlace) b. first_of o (if b then Some v else None)) found is in
      let none : inner v all ≡ None = ap (option_map number_of) (none_more (asks_on c) (elsewhere d v) all found) in
      let inside : inner v later ≡ None = inner_push v ∙ ap₂ (λ (o : Option ℕ) b. first_of o (if asks_on c v && b then Some v.number else None)) none differs_not ∙ ap (λ b. if b && false then Some v.number else None) is in
      noted_there ∙ ap₂ (λ (o : Option ℕ) (a : Option Asking). first_of o (if asks_on c v && is_other a (waits d v) then Some v.number else None)) before noted_one ∙ ap (λ b. if b && false then Some v.number else None) is
      ∙ sym (ap (option_and_then (λ w. inner w later)) first ∙ inside)
  asking_too is (Some w) found noted_one =
      let before : other_of d all c ≡ inner w all = ap (option_and_then (λ u. inner u all)) found in
      let first : find (asks_on c) later ≡ Some w = find_push (asks_on c) all v ∙ ap (λ (o : Option FlowPlace). first_of o (if asks_on c v then Some v else None)) found in
      noted_there ∙ ap₂ (λ (o : Option ℕ) (a : Option Asking). first_of o (if asks_on c v && is_other a (waits d v) then Some v.number else None)) before noted_one
      ∙ sym (inner_push w) ∙ sym (ap (option_and_then (λ u. inner u later)) first)

  pub other_more : (v.place.channel ≡ c → note_at asking v.place.channel ≡ option_map (asker d) (find (asks_on v.place.channel) all)) → note_at (noted (other_key d asking v) v.number other) c ≡ other_of d later c
  other_more noted_one = by (asks_on c v) refl
    where
      here : asks_on c v ≡ true → v.place.channel ≡ c
      here is = eqb-true v.place.channel c (and_parts (is_some v.flow.reply) (v.place.channel == c) is).1

      by : (b : Bool) → asks_on c v ≡ b → note_at (noted (other_key d asking v) v.number other) c ≡ other_of d later c
      by false is = not_asking is
      by true is = asking_too is (find (asks_on c) all) refl (noted_one (here is) ∙ ap (λ k. option_map (asker d) (find (asks_on k) all)) (here is))

-- ---- one place more

marks_more : (d : Declaration) (all : List FlowPlace) (v : FlowPlace) (m : MarkLists) → AreMarks d all m → AreMarks d (all ++ v ∷ []) (with_place d m v)
marks_more d all v m a = record {
  long_starts = length-marked (start_key d v) m.starts ∙ a.long_starts;
  long_ends = length-marked (end_key d v) m.ends ∙ a.long_ends;
  long_arrivals = length-marked (arrival_key d v) m.arrivals ∙ a.long_arrivals;
  long_led = length-noted (led_key v) v.number m.led ∙ a.long_led;
  long_asking = length-noted (asking_key v) (asker d v) m.asking ∙ a.long_asking;
  long_other = length-noted (other_key d m.asking v) v.number m.other ∙ a.long_other;
  starts = marked_more (start_key d) all v m.starts a.starts;
  ends = marked_more (end_key d) all v m.ends a.ends;
  arrivals = marked_more (arrival_key d) all v m.arrivals a.arrivals;
  led = noted_more led_key number_of all v m.led a.led;
  asking = λ c lt.
      let p : FlowPlace → Bool = asks_on c in
      noted_at (asking_key v) (asker d v) m.asking c (omega (arith, a.long_asking)) ∙ ap₂ (λ (o : Option Asking) b. first_of o (if b then Some (asker d v) else None)) (a.asking c lt) (asks_key c v)
      ∙ mapped_first (asker d) (find p all) v (p v) ∙ ap (option_map (asker d)) (sym (find_push p all v));
  other = λ c lt. other_more d m.asking m.other all v c (omega (arith, a.long_other)) (a.other c lt) (λ here. a.asking v.place.channel (omega arith));
}

pub all_marks : (d : Declaration) (seen rest : List FlowPlace) (m : MarkLists) → AreMarks d seen m → AreMarks d (seen ++ rest) (fold (with_place d) m rest)
all_marks d seen [] m a = subst (λ (l : List FlowPlace). AreMarks d l m) (sym (append-nil seen)) a
all_marks d seen (v ∷ rest) m a =
    subst (λ (l : List FlowPlace). AreMarks d l (fold (with_place d) (with_place d m v) rest)) (append_assoc seen (v ∷ []) rest)
    (all_marks d (seen ++ v ∷ []) rest (with_place d m v) (marks_more d seen v m a))

no_marks : (d : Declaration) → AreMarks d [] (no_places d)
no_marks d = record {
  long_starts = length-replicate {A = Bool} (length d.switches) false;
  long_ends = length-replicate {A = Bool} (length d.switches) false;
  long_arrivals = length-replicate {A = Bool} (256 * length d.switches) false;
  long_led = length-replicate {A = Option ℕ} (256 * length (ends_of d)) None;
  long_asking = length-replicate {A = Option Asking} (length (ends_of d)) None;
  long_other = length-replicate {A = Option ℕ} (length (ends_of d)) None;
  starts = marked_none (start_key d) (length d.switches);
  ends = marked_none (end_key d) (length d.switches);
  arrivals = marked_none (arrival_key d) (256 * length d.switches);
  led = noted_none led_key number_of (256 * length (ends_of d));
  asking = λ c lt. get_or-replicate (length (ends_of d)) c None None lt;
  other = λ c lt. get_or-replicate (length (ends_of d)) c None None lt;
}

pub marks_of : (d : Declaration) (all : List FlowPlace) → AreMarks d all (fold (with_place d) (no_places d) all)
marks_of d all = all_marks d [] all (no_places d) (no_marks d)

-- ---- the places of one flow more

joined_more : (n m : ℕ) (fs : List FlowEntry) (lists : List (List Place)) (f : FlowEntry) (ps : List Place) → length lists ≡ length fs → n + length fs ≡ m
    → joined n (fs ++ f ∷ []) (lists ++ ps ∷ []) ≡ joined n fs lists ++ places_of_flow m f ps
joined_more n m [] [] f ps same e = let is : n ≡ m = omega arith in append-nil (places_of_flow n f ps) ∙ ap (λ k. places_of_flow k f ps) is
joined_more n m [] (qs ∷ lists) f ps same e = absurd (omega arith)
joined_more n m (g ∷ fs) [] f ps same e = absurd (omega arith)
joined_more n m (g ∷ fs) (qs ∷ lists) f ps same e =
    ap (λ l. places_of_flow n g qs ++ l) (joined_more (n + 1) m fs lists f ps (omega arith) (omega arith)) ∙ sym (append_assoc (places_of_flow n g qs) (joined (n + 1) fs lists) (places_of_flow m f ps))

pub places_more : (d : Declaration) (fs : List FlowEntry) (all : List FlowPlace) (f : FlowEntry) (ps : List Place) → AreFlowPlaces d fs all → IsPlaceList d f ps
    → AreFlowPlaces d (fs ++ f ∷ []) (all ++ places_of_flow (length fs) f ps)
places_more d fs all f ps a list = record {
  lists = a.lists ++ ps ∷ [];
  each = all_zipped_more (IsPlaceList d) fs a.lists f ps a.each list;
  listed =
      ap (λ l. l ++ places_of_flow (length fs) f ps) a.listed
      ∙ sym (joined_more 0 (length fs) fs a.lists f ps (AllZip-long (IsPlaceList d) fs a.lists a.each) (omega arith));
}

pub no_flow_places : (d : Declaration) → AreFlowPlaces d [] []
no_flow_places d = record { lists = []; each = tt; listed = refl }

-- ---- as loops note them

pub place_more : (d : Declaration) (number : ℕ) (f : FlowEntry) (places : List Place) (i : ℕ) (p : Place) → i < length places → p ≡ get_or places i p → (start before after : MarkLists)
    → before ≡ fold (with_place d) start (places_of_flow number f (take i places)) → after ≡ with_place d before (record { number = number; flow = f; place = p })
    → after ≡ fold (with_place d) start (places_of_flow number f (take (i + 1) places))
place_more d number f places i p lt at start before after so_far more =
    let of : Place → FlowPlace = λ q. record { number = number; flow = f; place = q } in
    let one : take (i + 1) places ≡ take i places ++ p ∷ [] = take_more places i p lt ∙ ap (λ q. take i places ++ q ∷ []) (sym at) in
    let mapped : places_of_flow number f (take (i + 1) places) ≡ places_of_flow number f (take i places) ++ of p ∷ [] = ap (places_of_flow number f) one ∙ map-append of (take i places) (p ∷ []) in
    more ∙ ap (λ m. with_place d m (of p)) so_far
    ∙ sym (ap (fold (with_place d) start) mapped ∙ fold_push (with_place d) start (places_of_flow number f (take i places)) (of p))

pub places_inside : (d : Declaration) (f : FlowEntry) (places items : List Place) → IsPlaceList d f items → places ≡ items → All (λ p. p.channel < length (ends_of d)) places
places_inside d f places items list same = subst (λ (l : List Place). All (λ p. p.channel < length (ends_of d)) l) (sym same) (λ i q lt.
    let p = get_or items i q in
    (places_are_in d f p.channel p.deleted ((list.member p).0 (Contains-get_or items i q lt))).0)

pub same_noted : (d : Declaration) (number : ℕ) (m after : MarkLists) (f : FlowEntry) (places items : List Place) → IsPlacesOf d number items → slice_get (all_flows d) number ≡ Some f → places ≡ items
    → after ≡ fold (with_place d) m (places_of_flow number f places) → IsFlowNoted d number m after
same_noted d number m after f places items is numbered same noted_them =
    let flow : is.flow ≡ f = same_Some is.flow f (sym is.numbered ∙ numbered) in
    record {
      flow = f;
      numbered = numbered;
      places = items;
      list = subst (λ (g : FlowEntry). IsPlaceList d g items) flow is.list;
      noted = noted_them ∙ ap (λ l. fold (with_place d) m (places_of_flow number f l)) same;
    }

pub noted_none_yet : (d : Declaration) (m : MarkLists) → AreNoted d [] m m
noted_none_yet d m = record { all = []; places = no_flow_places d; noted = refl }

pub noted_more_flows : (d : Declaration) (flows : List FlowEntry) (n : ℕ) (start before after : MarkLists) → flows ≡ all_flows d → AreNoted d (take n flows) start before → IsFlowNoted d n before after
    → AreNoted d (take (n + 1) flows) start after
noted_more_flows d flows n start before after same a f =
    let here : slice_get flows n ≡ Some f.flow = ap (λ (l : List FlowEntry). slice_get l n) same ∙ f.numbered in
    let long : length (take n flows) ≡ n = length-take-le n flows (let lt = slice_get_within flows n f.flow here in omega arith) in
    let more = places_more d (take n flows) a.all f.flow f.places a.places f.list in
    record {
      all = a.all ++ places_of_flow n f.flow f.places;
      places = subst (λ (l : List FlowEntry). AreFlowPlaces d l (a.all ++ places_of_flow n f.flow f.places)) (sym (take_one_more flows n f.flow here))
          (subst (λ (k : ℕ). AreFlowPlaces d (take n flows ++ f.flow ∷ []) (a.all ++ places_of_flow k f.flow f.places)) long more);
      noted =
          f.noted ∙ ap (λ m. fold (with_place d) m (places_of_flow n f.flow f.places)) a.noted
          ∙ sym (fold-append (with_place d) start a.all (places_of_flow n f.flow f.places));
    }

pub all_noted : (d : Declaration) (flows : List FlowEntry) (n : ℕ) (start after : MarkLists) → length flows ≤ n → AreNoted d (take n flows) start after → AreNoted d flows start after
all_noted d flows n start after le a = subst (λ (l : List FlowEntry). AreNoted d l start after) (take_all n flows le) a

-- ---- a byte of an address

pub read_byte : (Q : Bor ℕ → Type 0) (xs : List ℕ) (i : ℕ) (r : Option (Bor ℕ)) → is_some r ≡ ltb i (length xs) → IfSome r (λ x. x.now ≡ get_or xs i x.now) → MatchOption r (length xs ≤ i) Q
    → option_copied r ≡ slice_get xs i
read_byte Q xs i None is at past = sym (slice_get_past xs i past)
read_byte Q xs i (Some x) is at past = sym (slice_get_read xs (length xs) i x.now refl (ltb-true i (length xs) (sym is)) at)
