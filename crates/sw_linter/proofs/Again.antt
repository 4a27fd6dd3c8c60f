-- What was noted of a flow is nothing new of a flow like it.
use Rattle.std.proofs.Common.{◌≡◌, ℕ, zero, suc, ◌+◌, ◌<◌, Bool, true, false, ◌&&◌, not, List, [], ◌∷◌, ◌++◌, length, set, take, Contains, Option, Some, None, refl, sym, ap, ap₂, ◌∙◌, subst, inl, inr, arith, eq-eqb}
use Rattle.std.specs.Prelude.{◌==◌, find, fold, is_some, option_map, slice_get, IsSomeAnd, MatchOption, if◌then◌else◌}
use Rattle.std.specs.List.{AllZip}
use Rattle.std.proofs.lemmas.Bool.{and_parts, cases_lt, eqb-true, false≢true}
use Rattle.std.proofs.lemmas.List.{set-get_or, set_past}
use Rattle.std.proofs.lemmas.List.Sums.{fold-append}
use Rattle.std.proofs.lemmas.Option.{none-some}
use Rattle.std.proofs.lemmas.Slice.Zip.{AllZip-left}
use Rattle.sw_topo.specs.Checked.{first_of}
use Rattle.sw_topo.specs.Wiring.{out}
use Rattle.sw_config.specs.Entries.{FlowEntry, Declaration}
use Rattle.sw_flow.specs.declared.place.Place.{Place}
use Rattle.sw_flow.specs.Places.{end_of, ends_of, Follows, IsPlace, IsPlaceList}
use Rattle.sw_flow.specs.Places.IsPlace.{start, next}
use Rattle.sw_flow.proofs.Listed.{Contains-cases, Contains-from_map, Contains-head, Contains-later}
use Rattle.sw_linter.specs.Alike.{IsLikeLast}
use Rattle.sw_linter.specs.FlowPlaces.{FlowPlace, AreFlowPlaces, places_of_flow}
use Rattle.sw_linter.specs.Lints.{asks_on}
use Rattle.sw_linter.specs.Marks.{AreNoted, MarkLists, arrival_key, asker, asking_key, end_key, in_row, is_other, is_same_wait, led_key, marked, no_places, note_at, noted, other_key, start_key, switch_at, waits_at, with_place}
use Rattle.sw_graph.specs.Rounds.{is_marked}
use Rattle.sw_linter.specs.declared.asking.Asking.{Asking}
use Rattle.sw_linter.proofs.Ranges.{take_one_more}
use Rattle.sw_linter.proofs.Tests.{any_passes}
use Rattle.sw_linter.proofs.TableSteps.{Marked, Noted, is_key}
use Rattle.sw_linter.proofs.Noting.{AreMarks, asks_key, key_given, marks_of, number_of, other_of, places_more}
use Rattle.sw_linter.proofs.Members.{joined_has}
use Rattle.sw_linter.proofs.Waits.{elsewhere, waits}
use Rattle.sw_topo.proofs.Lists.{is_some-map}

-- ---- tables

nothing_marked : (o : Option ℕ) (marks : List Bool) → ((k : ℕ) → k < length marks → is_key k o ≡ true → is_marked marks k ≡ true) → marked o marks ≡ marks
nothing_marked None marks is = refl
nothing_marked (Some k) marks is = elim (cases_lt k (length marks)) [
  | inl lt ↦ ap (set marks k) (sym (is k lt (eq-eqb k k refl))) ∙ set-get_or marks k false
  | inr past ↦ set_past marks k true past
]

nothing_noted : {A : Type 0} (o : Option ℕ) (x : A) (notes : List (Option A)) → ((k : ℕ) → k < length notes → is_key k o ≡ true → is_some (note_at notes k) ≡ true) → noted o x notes ≡ notes
nothing_noted None x notes is = refl
nothing_noted {A} (Some k) x notes is = elim (cases_lt k (length notes)) [
  | inl lt ↦ ap (set notes k) (stays (note_at notes k) (is k lt (eq-eqb k k refl))) ∙ set-get_or notes k None
  | inr past ↦ set_past notes k (first_of (note_at notes k) (Some x)) past
]
  where
    stays : (o : Option A) → is_some o ≡ true → first_of o (Some x) ≡ o
    stays None never = absurd (false≢true never)
    stays (Some y) is = refl

find_some : {X : Type 0} (p : X → Bool) (xs : List X) (x : X) → Contains xs x → p x ≡ true → is_some (find p xs) ≡ true
find_some p [] x h is = absurd (omega (arith, h.1))
find_some {X} p (y ∷ ys) x h is = by (p y) refl (λ later. find_some p ys x later is)
  where
    by : (b : Bool) → p y ≡ b → (Contains ys x → is_some (find p ys) ≡ true) → is_some (if b then Some y else find p ys) ≡ true
    by true e on = refl
    by false e on = elim (Contains-cases y x ys h) [
      | inl same ↦ absurd (false≢true (sym e ∙ ap p same ∙ is))
      | inr later ↦ on later
    ]

module _ {X : Type 0} (all : List X) (w v : X) (has : Contains all w) where
  marked_again : (key : X → Option ℕ) (marks : List Bool) → Marked key all marks → key w ≡ key v → marked (key v) marks ≡ marks
  marked_again key marks a same = nothing_marked (key v) marks (λ k lt is. a k lt ∙ any_passes (λ x. is_key k (key x)) all w has (ap (is_key k) same ∙ is))

  noted_again : {A : Type 0} (key : X → Option ℕ) (value : X → A) (notes : List (Option A)) → Noted key value all notes → key w ≡ key v → noted (key v) (value v) notes ≡ notes
  noted_again key value notes a same = nothing_noted (key v) (value v) notes (λ k lt is.
      let hits : X → Bool = λ x. is_key k (key x) in
      ap is_some (a k lt) ∙ is_some-map value (find hits all) ∙ find_some hits all w has (ap (is_key k) same ∙ is))

-- ---- one place

-- of both places the same is noted, but for the numbers of their flows
record SameNotes (w v : FlowPlace) : Type 0 where
  pub place : w.place ≡ v.place
  pub address : w.flow.address ≡ v.flow.address
  pub to : w.flow.to ≡ v.flow.to
  pub replies : is_some w.flow.reply ≡ is_some v.flow.reply

module _ (d : Declaration) (all : List FlowPlace) (m : MarkLists) (a : AreMarks d all m) (w v : FlowPlace) (has : Contains all w) (same : SameNotes w v) where
  asks_same : (c : ℕ) → asks_on c w ≡ asks_on c v
  asks_same c = ap₂ (λ b (p : Place). b && p.channel == c) same.replies same.place

  asked_there : (c : ℕ) → asks_on c v ≡ true → asks_on c w ≡ true
  asked_there c is = asks_same c ∙ is

  asking_again : noted (asking_key v) (asker d v) m.asking ≡ m.asking
  asking_again = nothing_noted (asking_key v) (asker d v) m.asking (λ k lt is.
      ap is_some (a.asking k (omega (arith, lt, a.long_asking))) ∙ is_some-map (asker d) (find (asks_on k) all)
      ∙ find_some (asks_on k) all w has (asked_there k (sym (asks_key k v) ∙ is)))

  -- the first flow whose commands may have to wait elsewhere is there, where those of this one may
  other_there : (c : ℕ) → asks_on c v ≡ true → (o : Option FlowPlace) → find (asks_on c) all ≡ o → is_other (option_map (asker d) o) (waits d v) ≡ true → is_some (other_of d all c) ≡ true
  other_there c asks None found never = absurd (false≢true never)
  other_there c asks (Some u) found other =
      let p : FlowPlace → Bool = λ x. asks_on c x && elsewhere d u x in
      let passes : p w ≡ true = ap₂ (λ b (t : ℕ). b && not (is_same_wait (waits_at d t) (waits d u))) (asked_there c asks) same.to ∙ other in
      ap (λ (o : Option FlowPlace). is_some (option_map_then c o)) found ∙ is_some-map number_of (find p all) ∙ find_some p all w has passes
    where
      option_map_then : ℕ → Option FlowPlace → Option ℕ
      option_map_then k None = None
      option_map_then k (Some x) = option_map number_of (find (λ y. asks_on k y && elsewhere d x y) all)

  other_again : noted (other_key d m.asking v) v.number m.other ≡ m.other
  other_again = nothing_noted (other_key d m.asking v) v.number m.other (λ k lt is.
      let parts = and_parts (asks_on k v) (is_other (note_at m.asking v.place.channel) (waits d v)) (sym (key_given k v.place.channel (is_some v.flow.reply) (is_other (note_at m.asking v.place.channel) (waits d v))) ∙ is) in
      let here : v.place.channel ≡ k = eqb-true v.place.channel k (and_parts (is_some v.flow.reply) (v.place.channel == k) parts.0).1 in
      let inside : k < length (ends_of d) = omega (arith, lt, a.long_other) in
      let other : is_other (option_map (asker d) (find (asks_on k) all)) (waits d v) ≡ true =
      ap (λ (o : Option Asking). is_other o (waits d v)) (sym (a.asking k inside) ∙ ap (note_at m.asking) (sym here)) ∙ parts.1 in
      ap is_some (a.other k inside) ∙ other_there k parts.0 (find (asks_on k) all) refl other)

  place_again : with_place d m v ≡ m
  place_again =
      let begin : start_key d w ≡ start_key d v = ap (λ (p : Place). switch_at (slice_get (ends_of d) p.channel)) same.place in
      let end : end_key d w ≡ end_key d v = ap (λ (p : Place). switch_at (end_of d p.channel)) same.place in
      let arrival : arrival_key d w ≡ arrival_key d v = ap₂ (λ (p : Place) (l : List ℕ). in_row (switch_at (end_of d p.channel)) (slice_get l p.deleted)) same.place same.address in
      let led : led_key w ≡ led_key v = ap₂ (λ (p : Place) (l : List ℕ). in_row (Some p.channel) (slice_get l p.deleted)) same.place same.address in
      let starts = marked_again all w v has (start_key d) m.starts a.starts begin in
      let ends = marked_again all w v has (end_key d) m.ends a.ends end in
      let arrivals = marked_again all w v has (arrival_key d) m.arrivals a.arrivals arrival in
      let leds = noted_again all w v has led_key number_of m.led a.led led in
      λ i. record { starts = starts i; ends = ends i; arrivals = arrivals i; led = leds i; asking = asking_again i; other = other_again i }

all_again : (d : Declaration) (m : MarkLists) (vs : List FlowPlace) → ((v : FlowPlace) → Contains vs v → with_place d m v ≡ m) → fold (with_place d) m vs ≡ m
all_again d m [] each = refl
all_again d m (v ∷ vs) each = ap (λ (l : MarkLists). fold (with_place d) l vs) (each v (Contains-head v vs)) ∙ all_again d m vs (λ u h. each u (Contains-later v u vs h))

-- ---- one flow

place_too : (d : Declaration) (f g : FlowEntry) → f.from ≡ g.from → f.address ≡ g.address → (c k : ℕ) → IsPlace d f c k → IsPlace d g c k
place_too d f g from address c k (start at) = start (subst (λ (n : ℕ). out (ends_of d) n ≡ Some c) from at)
place_too d f g from address c k (next {c = b} {k = j} p h) =
    let same = subst (λ (l : List ℕ). Follows d (record f { address = l }) b j c k) address h in
    next (place_too d f g from address b j p) (record { switch = same.switch; port = same.port; ends = same.ends; bytes_left = same.bytes_left; named = same.named; deleted = same.deleted })

list_too : (d : Declaration) (f g : FlowEntry) (places : List Place) → f.from ≡ g.from → f.address ≡ g.address → IsPlaceList d f places → IsPlaceList d g places
list_too d f g places from address l = record {
  in_order = l.in_order;
  member = λ p. (
    λ h. place_too d f g from address p.channel p.deleted ((l.member p).0 h),
    λ q. (l.member p).1 (place_too d g f (sym from) (sym address) p.channel p.deleted q),
  );
}

take_keeps : {X : Type 0} (xs : List X) (n k : ℕ) (x : X) → k < n → slice_get xs k ≡ Some x → slice_get (take n xs) k ≡ Some x
take_keeps [] n k x lt at = absurd (none-some x at)
take_keeps (y ∷ ys) zero k x lt at = absurd (omega (arith, lt))
take_keeps (y ∷ ys) (suc n) zero x lt at = at
take_keeps (y ∷ ys) (suc n) (suc k) x lt at = take_keeps ys n k x (omega (arith, lt)) at

-- the list of the places of a flow that is among these
record ListOf (d : Declaration) (f : FlowEntry) : Type 0 where
  pub places : List Place
  pub list : IsPlaceList d f places

list_among : (d : Declaration) (flows : List FlowEntry) (lists : List (List Place)) (k : ℕ) (f : FlowEntry) → AllZip (IsPlaceList d) flows lists → slice_get flows k ≡ Some f → ListOf d f
list_among d flows lists k f zip at = by (slice_get lists k) (subst (λ (o : Option FlowEntry). MatchOption o (Unit {0}) (λ x. IsSomeAnd (slice_get lists k) (IsPlaceList d x))) at (AllZip-left (IsPlaceList d) flows lists zip k))
  where
    by : (o : Option (List Place)) → IsSomeAnd o (IsPlaceList d f) → ListOf d f
    by None never = absurd never
    by (Some places) list = record { places = places; list = list }

pub like_last : (d : Declaration) (flows : List FlowEntry) (n : ℕ) (m : MarkLists) → IsLikeLast flows n → AreNoted d (take n flows) (no_places d) m → AreNoted d (take (n + 1) flows) (no_places d) m
like_last d flows n m is a =
    let before : slice_get (take n flows) is.last ≡ Some is.before = take_keeps flows n is.last is.before (omega (arith, is.next)) is.listed_before in
    let found = list_among d (take n flows) a.places.lists is.last is.before a.places.each before in
    let places = found.places in
    let count = length (take n flows) in
    let list : IsPlaceList d is.flow places = list_too d is.before is.flow places (sym is.alike.from) (sym is.alike.address) found.list in
    let marks : AreMarks d a.all m = subst (AreMarks d a.all) (sym a.noted) (marks_of d a.all) in
    let again : fold (with_place d) m (places_of_flow count is.flow places) ≡ m = all_again d m (places_of_flow count is.flow places) (λ v h.
    let of = Contains-from_map (λ p. record { number = count; flow = is.flow; place = p }) places v h in
    let w : FlowPlace = record { number = is.last; flow = is.before; place = of.0 } in
    let has : Contains a.all w = subst (λ (l : List FlowPlace). Contains l w) (sym a.places.listed) (joined_has d 0 is.last (take n flows) a.places.lists w a.places.each (omega arith) before ((found.list.member of.0).0 of.1)) in
    subst (λ (u : FlowPlace). with_place d m u ≡ m) of.2
    (place_again d a.all m marks w (record { number = count; flow = is.flow; place = of.0 }) has (record { place = refl; address = sym is.alike.address; to = sym is.alike.to; replies = sym is.alike.replies }))) in
    record {
      all = a.all ++ places_of_flow count is.flow places;
      places = subst (λ (l : List FlowEntry). AreFlowPlaces d l (a.all ++ places_of_flow count is.flow places)) (sym (take_one_more flows n is.flow is.listed)) (places_more d (take n flows) a.all is.flow places a.places list);
      noted = sym again ∙ ap (λ (l : MarkLists). fold (with_place d) l (places_of_flow count is.flow places)) a.noted ∙ sym (fold-append (with_place d) (no_places d) a.all (places_of_flow count is.flow places));
    }
