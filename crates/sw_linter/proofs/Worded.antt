-- What is told, in words.
use Rattle.std.proofs.Common.{◌≡◌, ◌≢◌, ℕ, ◌+◌, ◌*◌, Bool, true, false, not, ◌&&◌, ◌||◌, leb, List, [], ◌∷◌, Contains, Option, Some, None, filter, refl, sym, ap, ◌∙◌, ◌⊎◌, inl, inr, eq-eqb, ◌≤◌}
use Rattle.std.specs.Prelude.{◌↔◌, ◌==◌, find, is_some, option_map, slice_get, if◌then◌else◌}
use Rattle.std.specs.List.{list_any}
use Rattle.std.specs.Option.{option_map_or}
use Rattle.std.proofs.lemmas.Bool.{and_from, and_parts, eqb-true, false≢true, leb-true, le-leb, ne_eqb, not-true, or_cases, or_left, or_right}
use Rattle.sw_topo.specs.Checked.{first_of}
use Rattle.sw_topo.specs.Ports.{ports_of}
use Rattle.sw_topo.specs.Wiring.{is_at_switch, is_port}
use Rattle.sw_topo.specs.declared.place.PlaceEnd.{PlaceEnd}
use Rattle.sw_topo.specs.declared.place.PlaceEnd.TheVariants.{Switch}
use Rattle.sw_topo.proofs.Ends.{port_is, switch_is}
use Rattle.sw_route.specs.declared.look.Route.{Route}
use Rattle.sw_route.specs.Looks.{covers}
use Rattle.sw_config.specs.Entries.{Declaration, is_answering}
use Rattle.sw_config.specs.Limits.{HasNoLimits, always_takes, may_make_wait}
use Rattle.sw_config.specs.Valid.{IsValid}
use Rattle.sw_config.proofs.AnsweringNodes.{answers}
use Rattle.sw_config.proofs.Limits.{never_takes}
use Rattle.sw_flow.specs.Places.{end_of, ends_of}
use Rattle.sw_linter.specs.declared.lint.Lint.{Lint}
use Rattle.sw_linter.specs.declared.lint.Lint.TheVariants.{LeadsBack, Opposed}
use Rattle.sw_linter.specs.FlowPlaces.{FlowPlace, AreAllPlaces, leading_byte}
use Rattle.sw_linter.specs.Lints.{addresses, asks_on, back_by, comes_by, comes_to, first_back, first_by, first_made, first_opposed, first_pair, is_matched, is_used_entry, is_used_switch, can_block, starts_at}
use Rattle.sw_linter.specs.InWords.{AreOpposed, Asks, ComeTo, ComesFor, IsGoneOver, ToldInWords}
use Rattle.sw_linter.proofs.Keys.{leads, matched}
use Rattle.sw_linter.proofs.Members.{all_listed}
use Rattle.sw_linter.proofs.Tests.{any_passes, passing}
use Rattle.sw_topo.proofs.Lists.{is_some-map}

-- the end is at the switch
at_switch : (s : ℕ) (o : Option PlaceEnd) → option_map_or (is_at_switch s) o false ≡ true → (port : ℕ) × (o ≡ Some (Switch s port))
at_switch s None is = absurd (false≢true is)
at_switch s (Some e) is = let there = switch_is s e is in (there.port, ap Some there.is)

switch_at : (s port : ℕ) (o : Option PlaceEnd) → o ≡ Some (Switch s port) → option_map_or (is_at_switch s) o false ≡ true
switch_at s port o is = ap (λ (p : Option PlaceEnd). option_map_or (is_at_switch s) p false) is ∙ eq-eqb s s refl

at_port : (s port : ℕ) (o : Option PlaceEnd) → option_map_or (is_port s port) o false ≡ true → o ≡ Some (Switch s port)
at_port s port None is = absurd (false≢true is)
at_port s port (Some e) is = ap Some (port_is s port e is)

port_at : (s port : ℕ) (o : Option PlaceEnd) → o ≡ Some (Switch s port) → option_map_or (is_port s port) o false ≡ true
port_at s port o is = ap (λ (p : Option PlaceEnd). option_map_or (is_port s port) p false) is ∙ and_from (s == s) (port == port) (eq-eqb s s refl) (eq-eqb port port refl)

-- the byte that leads is one of the addresses
matched_byte : (r : Route) (o : Option ℕ) → option_map_or (λ b. covers b r) o false ≡ true → (b : ℕ) × (o ≡ Some b) × (r.first ≤ b) × (b ≤ r.last)
matched_byte r None is = absurd (false≢true is)
matched_byte r (Some b) is =
    let both = and_parts (leb r.first b) (leb b r.last) is in
    (b, refl, leb-true r.first b both.0, leb-true b r.last both.1)

byte_matched : (r : Route) (b : ℕ) (o : Option ℕ) → o ≡ Some b → r.first ≤ b → b ≤ r.last → option_map_or (λ x. covers x r) o false ≡ true
byte_matched r b o is low high = ap (λ (p : Option ℕ). option_map_or (λ x. covers x r) p false) is ∙ and_from (leb r.first b) (leb b r.last) (le-leb r.first b low) (le-leb b r.last high)

-- ---- where there is a first

some_first : {A : Type 0} (a b : Option A) → is_some (first_of a b) ≡ is_some a || is_some b
some_first None b = refl
some_first (Some x) b = refl

pub some_made : {A B : Type 0} (make : A → Option B) (xs : List A) → is_some (first_made make xs) ≡ list_any (λ x. is_some (make x)) xs
some_made make [] = refl
some_made make (x ∷ xs) = some_first (make x) (first_made make xs) ∙ ap (λ b. is_some (make x) || b) (some_made make xs)

some_found : {X : Type 0} (p : X → Bool) (xs : List X) → is_some (find p xs) ≡ list_any p xs
some_found p [] = refl
some_found {X} p (x ∷ xs) = by (p x) (some_found p xs)
  where
    by : (b : Bool) → is_some (find p xs) ≡ list_any p xs → is_some (if b then Some x else find p xs) ≡ b || list_any p xs
    by true on = refl
    by false on = on

any_filter : {X : Type 0} (p q : X → Bool) (xs : List X) → list_any q (filter p xs) ≡ list_any (λ x. p x && q x) xs
any_filter p q [] = refl
any_filter {X} p q (x ∷ xs) = by (p x) (any_filter p q xs)
  where
    by : (b : Bool) → list_any q (filter p xs) ≡ list_any (λ y. p y && q y) xs → list_any q (if b then x ∷ filter p xs else filter p xs) ≡ (b && q x) || list_any (λ y. p y && q y) xs
    by true on = ap (λ e. q x || e) on
    by false on = on

-- ----

module _ (d : Declaration) (all : List FlowPlace) (a : AreAllPlaces d all) where
  come : (v : FlowPlace) → Contains all v → ComeTo d v
  come v h = (all_listed d all v a).0 h

  listed : (v : FlowPlace) → ComeTo d v → Contains all v
  listed v c = (all_listed d all v a).1 c

  switches : (s : ℕ) → (is_used_switch d all s ≡ true) ↔ IsGoneOver d s
  switches s = (λ is. to (or_cases (list_any (starts_at d s) all) (list_any (comes_to d s) all) is), back)
    where
      to : (list_any (starts_at d s) all ≡ true) ⊎ (list_any (comes_to d s) all ≡ true) → IsGoneOver d s
      to (inl starts) =
          let v = passing (starts_at d s) all starts in
          let there = at_switch s (slice_get (ends_of d) v.element.place.channel) v.passes in
          record { at = v.element; come = come v.element v.listed; port = there.0; there = inl there.1 }
      to (inr ends) =
          let v = passing (comes_to d s) all ends in
          let there = at_switch s (end_of d v.element.place.channel) v.passes in
          record { at = v.element; come = come v.element v.listed; port = there.0; there = inr there.1 }

      back : IsGoneOver d s → is_used_switch d all s ≡ true
      back g = elim g.there [
        | inl starts ↦ or_left (list_any (starts_at d s) all) (list_any (comes_to d s) all)
            (any_passes (starts_at d s) all g.at (listed g.at g.come) (switch_at s g.port (slice_get (ends_of d) g.at.place.channel) starts))
        | inr ends ↦ or_right (list_any (starts_at d s) all) (list_any (comes_to d s) all)
            (any_passes (comes_to d s) all g.at (listed g.at g.come) (switch_at s g.port (end_of d g.at.place.channel) ends))
      ]

  entries : (s : ℕ) (r : Route) → (is_used_entry d all s r ≡ true) ↔ ((port : ℕ) × ComesFor d s port r)
  entries s r = (
    λ is.
        let v = passing (λ x. comes_to d s x && is_matched r x) all is in
        let both = and_parts (comes_to d s v.element) (is_matched r v.element) v.passes in
        let there = at_switch s (end_of d v.element.place.channel) both.0 in
        let byte = matched_byte r (leading_byte v.element) both.1 in
        (there.0, record { at = v.element; come = come v.element v.listed; ends = there.1; byte = byte.0; leads = byte.1; first = byte.2; last = byte.3 }),
    λ c.
        let f = c.1 in
        any_passes (λ x. comes_to d s x && is_matched r x) all f.at (listed f.at f.come)
        (and_from (comes_to d s f.at) (is_matched r f.at) (switch_at s c.0 (end_of d f.at.place.channel) f.ends) (byte_matched r f.byte (leading_byte f.at) f.leads f.first f.last)),
  )

  -- packets of the entry come by that port
  by_port : (s port : ℕ) (r : Route) → (is_some (back_by d all s r port) ≡ true) ↔ ComesFor d s port r
  by_port s port r = (
    λ is.
        let at = passing (λ b. is_some (first_by d all s port b)) (addresses r) (sym (some_made (first_by d all s port) (addresses r)) ∙ is) in
        let v = passing (comes_by d s port at.element) all (sym (is_some-map (λ (x : FlowPlace). x.number) (find (comes_by d s port at.element) all) ∙ some_found (comes_by d s port at.element) all) ∙ at.passes) in
        let both = and_parts (option_map_or (is_port s port) (end_of d v.element.place.channel) false) (leads at.element v.element) v.passes in
        let byte = matched_byte r (leading_byte v.element) (sym (matched r v.element) ∙ any_passes (λ b. leads b v.element) (addresses r) at.element at.listed both.1) in
        record { at = v.element; come = come v.element v.listed; ends = at_port s port (end_of d v.element.place.channel) both.0; byte = byte.0; leads = byte.1; first = byte.2; last = byte.3 },
    λ f.
        let at = passing (λ b. leads b f.at) (addresses r) (matched r f.at ∙ byte_matched r f.byte (leading_byte f.at) f.leads f.first f.last) in
        some_made (first_by d all s port) (addresses r)
        ∙ any_passes (λ b. is_some (first_by d all s port b)) (addresses r) at.element at.listed
        (is_some-map (λ (x : FlowPlace). x.number) (find (comes_by d s port at.element) all) ∙ some_found (comes_by d s port at.element) all
        ∙ any_passes (comes_by d s port at.element) all f.at (listed f.at f.come)
        (and_from (option_map_or (is_port s port) (end_of d f.at.place.channel) false) (leads at.element f.at) (port_at s port (end_of d f.at.place.channel) f.ends) at.passes)),
  )

  backs : (s e : ℕ) (r : Route) → (is_some (first_back d all s e r) ≡ true) ↔ ((port : ℕ) × Contains (ports_of r.ports) port × ComesFor d s port r)
  backs s e r = (
    λ is.
        let at = passing (λ port. is_some (made port)) (ports_of r.ports) (sym (some_made made (ports_of r.ports)) ∙ is) in
        (at.element, at.listed, (by_port s at.element r).0 (sym (is_some-map (λ flow. LeadsBack s e at.element flow) (back_by d all s r at.element)) ∙ at.passes)),
    λ c.
        some_made made (ports_of r.ports)
        ∙ any_passes (λ port. is_some (made port)) (ports_of r.ports) c.0 c.1 (is_some-map (λ flow. LeadsBack s e c.0 flow) (back_by d all s r c.0) ∙ (by_port s c.0 r).1 c.2),
  )
    where
      made : ℕ → Option Lint
      made port = option_map (λ flow. LeadsBack s e port flow) (back_by d all s r port)

  asks : (c : ℕ) (v : FlowPlace) → Contains all v → asks_on c v ≡ true → Asks d c v
  asks c v h is =
      let both = and_parts (is_some v.flow.reply) (v.place.channel == c) is in
      record { come = come v h; replied = both.0; there = eqb-true v.place.channel c both.1 }

  asked : (c : ℕ) (v : FlowPlace) → Asks d c v → asks_on c v ≡ true
  asked c v k = and_from (is_some v.flow.reply) (v.place.channel == c) k.replied (eq-eqb v.place.channel c k.there)

  -- what comes to a target may have to wait where that does not always take
  not_always : (n : ℕ) → may_make_wait d n ≡ true → always_takes d n ≡ false
  not_always n is = not-true (always_takes d n) (and_parts (is_answering d n) (not (always_takes d n)) is).1

  may_wait : (c : ℕ) (v : FlowPlace) → Asks d c v → always_takes d v.flow.to ≡ false → may_make_wait d v.flow.to ≡ true
  may_wait c v k waits = and_from (is_answering d v.flow.to) (not (always_takes d v.flow.to)) (answers d v.flow.to v.number v.flow k.come.numbered k.replied refl) (ap not waits)

  links : (link : ℕ) → (is_some (first_pair d all link) ≡ true) ↔ ((v w : FlowPlace) × Asks d (2 * link) v × Asks d (2 * link + 1) w × AreOpposed d v w)
  links link = (
    λ is.
        let v = passing (λ x. asks_on (2 * link) x && is_some (first_opposed d all link (2 * link + 1) x)) all (sym known ∙ is) in
        let both = and_parts (asks_on (2 * link) v.element) (is_some (first_opposed d all link (2 * link + 1) v.element)) v.passes in
        let w = passing (λ x. asks_on (2 * link + 1) x && can_block d v.element x) all (sym (found v.element) ∙ both.1) in
        let other = and_parts (asks_on (2 * link + 1) w.element) (can_block d v.element w.element) w.passes in
        (v.element, w.element, asks (2 * link) v.element v.listed both.0, asks (2 * link + 1) w.element w.listed other.0, to v.element w.element other.1),
    λ c.
        known
        ∙ any_passes (λ x. asks_on (2 * link) x && is_some (first_opposed d all link (2 * link + 1) x)) all c.0 (listed c.0 c.2.come)
        (and_from (asks_on (2 * link) c.0) (is_some (first_opposed d all link (2 * link + 1) c.0)) (asked (2 * link) c.0 c.2)
        (found c.0 ∙ any_passes (λ x. asks_on (2 * link + 1) x && can_block d c.0 x) all c.1 (listed c.1 c.3.come)
        (and_from (asks_on (2 * link + 1) c.1) (can_block d c.0 c.1) (asked (2 * link + 1) c.1 c.3) (back c.0 c.1 c.2 c.3 c.4)))),
  )
    where
      known : is_some (first_pair d all link) ≡ list_any (λ x. asks_on (2 * link) x && is_some (first_opposed d all link (2 * link + 1) x)) all
      known =
          some_made (first_opposed d all link (2 * link + 1)) (filter (asks_on (2 * link)) all)
          ∙ any_filter (asks_on (2 * link)) (λ x. is_some (first_opposed d all link (2 * link + 1) x)) all

      found : (v : FlowPlace) → is_some (first_opposed d all link (2 * link + 1) v) ≡ list_any (λ x. asks_on (2 * link + 1) x && can_block d v x) all
      found v =
          is_some-map (λ (w : FlowPlace). Opposed link v.number w.number) (find (λ x. asks_on (2 * link + 1) x && can_block d v x) all) ∙ some_found (λ x. asks_on (2 * link + 1) x && can_block d v x) all

      to : (v w : FlowPlace) → can_block d v w ≡ true → AreOpposed d v w
      to v w is =
          let both = and_parts (not (w.flow.to == v.flow.to)) (may_make_wait d v.flow.to || may_make_wait d w.flow.to) is in
          record {
            apart = λ same. false≢true (sym (ap not (eq-eqb w.flow.to v.flow.to (sym same))) ∙ both.0);
            waits = elim (or_cases (may_make_wait d v.flow.to) (may_make_wait d w.flow.to) both.1) [
              | inl one ↦ inl (not_always v.flow.to one)
              | inr other ↦ inr (not_always w.flow.to other)
            ];
          }

      back : (v w : FlowPlace) → Asks d (2 * link) v → Asks d (2 * link + 1) w → AreOpposed d v w → can_block d v w ≡ true
      back v w one other o =
          and_from (not (w.flow.to == v.flow.to)) (may_make_wait d v.flow.to || may_make_wait d w.flow.to) (ap not (ne_eqb w.flow.to v.flow.to (λ e. o.apart (sym e))))
          (elim o.waits [
            | inl waits ↦ or_left (may_make_wait d v.flow.to) (may_make_wait d w.flow.to) (may_wait (2 * link) v one waits)
            | inr waits ↦ or_right (may_make_wait d v.flow.to) (may_make_wait d w.flow.to) (may_wait (2 * link + 1) w other waits)
          ])

  unlimited : IsValid d → HasNoLimits d → (v w : FlowPlace) → v.flow.to ≢ w.flow.to → AreOpposed d v w
  unlimited valid none v w apart = record { apart = apart; waits = inl (never_takes d none valid.flows v.flow.to) }

pub told_in_words : ToldInWords
told_in_words d all a = record { switches = switches d all a; entries = entries d all a; backs = backs d all a; links = links d all a; unlimited = unlimited d all a }
