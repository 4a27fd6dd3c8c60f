-- The keys of places: at which switch, on which channel, with which byte in front.
use Rattle.std.proofs.Common.{◌≡◌, ℕ, ◌+◌, ◌*◌, ◌-◌, ◌<◌, ◌≤◌, Bool, true, false, ◌&&◌, leb, List, [], ◌∷◌, Contains, Option, Some, None, refl, sym, ap, ◌∙◌, inl, inr, arith, eq-eqb}
use Rattle.std.specs.Prelude.{◌==◌, slice_get}
use Rattle.std.specs.List.{list_any, range_with_len}
use Rattle.std.specs.Option.{option_map_or}
use Rattle.std.proofs.lemmas.Bool.{and_from, and_parts, cases_lt, eqb-true, false_from_ne_true, false≢true, leb-true, le-leb, lt-ltb, le-ltb, ne_eqb}
use Rattle.std.proofs.lemmas.Bool.Decides.{nat_tests}
use Rattle.std.proofs.lemmas.List.FromFn.{length-range_with_len, get_or-range_with_len}
use Rattle.std.proofs.lemmas.Option.{none-some, same_Some}
use Rattle.sw_topo.specs.declared.place.PlaceEnd.{PlaceEnd}
use Rattle.sw_topo.specs.declared.place.PlaceEnd.TheVariants.{Node, Switch}
use Rattle.sw_topo.specs.Wiring.{is_at_switch, is_port, out_of, partner}
use Rattle.sw_topo.specs.Checked.{IsSound}
use Rattle.sw_topo.proofs.Ends.{partner_back, port_found, port_is, port_starts}
use Rattle.sw_route.specs.declared.look.Route.{Route}
use Rattle.sw_route.specs.Looks.{covers}
use Rattle.sw_config.specs.Entries.{Declaration, wiring_of}
use Rattle.sw_flow.specs.Places.{end_of, ends_of}
use Rattle.sw_linter.specs.FlowPlaces.{FlowPlace, leading_byte}
use Rattle.sw_linter.specs.Lints.{addresses, comes_by, comes_to, is_matched, starts_at}
use Rattle.sw_linter.specs.Marks.{arrival_key, end_key, in_row, led_key, start_key, switch_at}
use Rattle.sw_linter.proofs.TableSteps.{is_key}
use Rattle.sw_linter.proofs.Tests.{any_passes, passing}
use Rattle.sw_topo.proofs.Lists.{same_bool}

at_switch : (s : ℕ) (o : Option PlaceEnd) → is_key s (switch_at o) ≡ option_map_or (is_at_switch s) o false
at_switch s None = refl
at_switch s (Some (Node n)) = refl
at_switch s (Some (Switch t p)) = refl

pub starts_key : (d : Declaration) (s : ℕ) (v : FlowPlace) → is_key s (start_key d v) ≡ starts_at d s v
starts_key d s v = at_switch s (slice_get (ends_of d) v.place.channel)

pub ends_key : (d : Declaration) (s : ℕ) (v : FlowPlace) → is_key s (end_key d v) ≡ comes_to d s v
ends_key d s v = at_switch s (end_of d v.place.channel)

-- that byte leads
abbrev pub leads : ℕ → FlowPlace → Bool
leads b v = option_map_or (λ x. x == b) (leading_byte v) false

-- a number in a row of 256
row_apart : (r s x b : ℕ) → x < 255 → b < 255 → (256 * r + x == 256 * s + b) ≡ (r == s && x == b)
row_apart r s x b small low = grind (arith, nat_tests)

pub row_key : (r : Option ℕ) (o : Option ℕ) (s b : ℕ) → b < 255 → is_key (256 * s + b) (in_row r o) ≡ is_key s r && option_map_or (λ x. x == b) o false
row_key None o s b low = refl
row_key (Some r) None s b low = no (r == s)
  where
    no : (e : Bool) → false ≡ e && false
    no true = refl
    no false = refl
row_key (Some r) (Some x) s b low = elim (cases_lt x 255) [
  | inl small ↦ rw (lt-ltb x 255 small) (row_apart r s x b small low)
  | inr big ↦ rw (le-ltb x 255 big, ne_eqb x b (λ e. omega arith)) (no (r == s))
]
  where
    no : (e : Bool) → false ≡ e && false
    no true = refl
    no false = refl

pub arrives_key : (d : Declaration) (s b : ℕ) (v : FlowPlace) → b < 255 → is_key (256 * s + b) (arrival_key d v) ≡ comes_to d s v && leads b v
arrives_key d s b v low = row_key (end_key d v) (leading_byte v) s b low ∙ ap (λ e. e && leads b v) (ends_key d s v)

pub led_at : (c b : ℕ) (v : FlowPlace) → b < 255 → is_key (256 * c + b) (led_key v) ≡ (v.place.channel == c && leads b v)
led_at c b v low = row_key (Some v.place.channel) (leading_byte v) c b low

-- ---- the channel that ends at a port

module _ (d : Declaration) (sound : IsSound (wiring_of d)) where
  pub ends_there : (s port c : ℕ) → out_of (ends_of d) s port ≡ Some c → (k : ℕ) → option_map_or (is_port s port) (end_of d k) false ≡ (k == partner c)
  ends_there s port c out k = same_bool _ _ (λ is. to (end_of d k) refl is) back
    where
      to : (o : Option PlaceEnd) → end_of d k ≡ o → option_map_or (is_port s port) o false ≡ true → (k == partner c) ≡ true
      to None e is = absurd (false≢true is)
      to (Some at) e is =
          let found = port_found (wiring_of d) sound s port (partner k) (e ∙ ap Some (port_is s port at is)) in
          let same : partner k ≡ c = same_Some (partner k) c (sym found ∙ out) in
          eq-eqb k (partner c) (sym (partner_back k) ∙ ap partner same)

      back : (k == partner c) ≡ true → option_map_or (is_port s port) (end_of d k) false ≡ true
      back is =
          let same : partner k ≡ c = ap partner (eqb-true k (partner c) is) ∙ partner_back c in
          let at : end_of d k ≡ Some (Switch s port) = ap (slice_get (ends_of d)) same ∙ port_starts (wiring_of d) s port c out in
          ap (λ (o : Option PlaceEnd). option_map_or (is_port s port) o false) at ∙ and_from (s == s) (port == port) (eq-eqb s s refl) (eq-eqb port port refl)

  pub none_there : (s port : ℕ) → out_of (ends_of d) s port ≡ None → (k : ℕ) → option_map_or (is_port s port) (end_of d k) false ≡ false
  none_there s port out k = to (end_of d k) refl
    where
      to : (o : Option PlaceEnd) → end_of d k ≡ o → option_map_or (is_port s port) o false ≡ false
      to None e = refl
      to (Some at) e = false_from_ne_true (is_port s port at) (λ is.
          let found = port_found (wiring_of d) sound s port (partner k) (e ∙ ap Some (port_is s port at is)) in
          none-some (partner k) (sym out ∙ found))

  pub comes_key : (s port c b : ℕ) (v : FlowPlace) → out_of (ends_of d) s port ≡ Some c → b < 255 → is_key (256 * partner c + b) (led_key v) ≡ comes_by d s port b v
  comes_key s port c b v out low = led_at (partner c) b v low ∙ ap (λ e. e && leads b v) (sym (ends_there s port c out v.place.channel))

  pub comes_not : (s port b : ℕ) (v : FlowPlace) → out_of (ends_of d) s port ≡ None → comes_by d s port b v ≡ false
  comes_not s port b v out = ap (λ e. e && leads b v) (none_there s port out v.place.channel)

-- ---- the addresses of an entry

pub in_range : (a n k : ℕ) → a ≤ k → k < a + n → Contains (range_with_len a n) k
in_range a n k low high =
    let i : ℕ = k - a in
    (i, omega (arith, length-range_with_len a n), get_or-range_with_len a n i k (omega arith) ∙ omega arith)

pub from_range : (a n k : ℕ) → Contains (range_with_len a n) k → (a ≤ k) × (k < a + n)
from_range a n k (i, lt, is) =
    let inside : i < n = omega (arith, length-range_with_len a n) in
    let here : a + i ≡ k = sym (get_or-range_with_len a n i k inside) ∙ is in
    (omega arith, omega arith)

module _ (r : Route) where
  -- some address of the entry leads
  pub matched : (v : FlowPlace) → list_any (λ b. leads b v) (addresses r) ≡ is_matched r v
  matched v = by (leading_byte v)
    where
      none : (xs : List ℕ) → list_any (λ b. false) xs ≡ false
      none [] = refl
      none (x ∷ xs) = none xs

      by : (o : Option ℕ) → list_any (λ b. option_map_or (λ x. x == b) o false) (addresses r) ≡ option_map_or (λ b. covers b r) o false
      by None = none (addresses r)
      by (Some x) = same_bool _ _ (λ any.
          let p = passing (λ b. x == b) (addresses r) any in
          let same : x ≡ p.element = eqb-true x p.element p.passes in
          let inside = from_range r.first (r.last + 1 - r.first) p.element p.listed in
          and_from (leb r.first x) (leb x r.last) (le-leb r.first x (omega (arith, inside.0))) (le-leb x r.last (omega (arith, inside.0, inside.1)))) (λ is.
          let both = and_parts (leb r.first x) (leb x r.last) is in
          let low = leb-true r.first x both.0 in
          let high = leb-true x r.last both.1 in
          any_passes (λ b. x == b) (addresses r) x (in_range r.first (r.last + 1 - r.first) x low (omega arith)) (eq-eqb x x refl))
