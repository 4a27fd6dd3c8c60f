-- The steps of a flow, and those between the numbers of its places.
use Rattle.std.proofs.Common.{◌≡◌, ℕ, ◌+◌, ◌*◌, ◌/◌, ◌%◌, ◌<◌, ◌≤◌, Bool, true, false, cond, Option, Some, None, List, length, position, All, Contains, refl, sym, ap, ◌∙◌, subst, ◌⊎◌, inl, inr, arith}
use Rattle.std.proofs.lemmas.Bool.{cases_lt, lt-ltb, le-ltb}
use Rattle.std.proofs.lemmas.Nat.{div-mul-add, mod-mul-add, mul-add-lt}
use Rattle.std.proofs.lemmas.List.Elements.{Contains-get_or}
use Rattle.std.proofs.lemmas.List.Quantifiers.{position-Some}
use Rattle.sw_config.specs.PlaceEnd.{PlaceEnd}
use Rattle.sw_config.specs.PlaceEnd.TheVariants.{Node, Switch}
use Rattle.sw_config.specs.Wiring.{Wiring, out, is_node, is_port}
use Rattle.sw_config.specs.Look.{Look}
use Rattle.sw_config.specs.Entries.{FlowEntry, Declaration, wiring_of}
use Rattle.sw_graph.specs.Reached.{Reached}
use Rattle.sw_graph.specs.Reached.Reached.{begin, step}
use Rattle.sw_flow.specs.Places.{ends_of, end_of, look_after, deleted_behind, Follows, IsPlace}
use Rattle.sw_flow.specs.Places.IsPlace.{start, next}
use Rattle.sw_flow.specs.Numbers.{width, number_bound, outputs, next_at_switch, next_at_end, next_numbers}
use Rattle.sw_flow.specs.Laws.{PlacesAreIn, PlacesAreLeast}
use Rattle.sw_flow.proofs.Listed.{Contains-map, Contains-from_map}
use Rattle.sw_flow.proofs.Outputs.{outputs_are}

-- x is the number of a place that follows the one on channel c with k bytes deleted
pub record Leads (d : Declaration) (f : FlowEntry) (c k x : ℕ) : Type 0 where
  pub channel : ℕ
  pub deleted : ℕ
  pub follows : Follows d f c k channel deleted
  pub number : x ≡ channel * width f + deleted

deleted_few : (look : Look) (k n : ℕ) → k < n → deleted_behind look k < n + 1
deleted_few look k n lt = by look.delete
  where
    by : (b : Bool) → cond b (k + 1) k < n + 1
    by true = omega arith
    by false = omega arith

pub few_deleted : (d : Declaration) (f : FlowEntry) (c k e m : ℕ) → Follows d f c k e m → m < width f
few_deleted d f c k e m h = subst (λ (x : ℕ). x < width f) (sym h.deleted) (deleted_few (look_after d f h.switch k) k (length f.address) h.bytes_left)

out_below : (ends : List PlaceEnd) (test : PlaceEnd → Bool) (c : ℕ) → position test ends ≡ Some c → c < length ends
out_below ends test c at = (position-Some test ends c (Node 0) at).0

module _ (d : Declaration) (f : FlowEntry) where
  at_switch : (c k s p x : ℕ) → end_of d c ≡ Some (Switch s p) → Contains (next_at_switch d f s k) x → Leads d f c k x
  at_switch c k s p x at h = by (cases_lt k (length f.address))
    where
      by : (k < length f.address) ⊎ (length f.address ≤ k) → Leads d f c k x
      by (inl lt) =
          let m = Contains-from_map (λ e. e * width f + deleted_behind (look_after d f s k) k) (outputs (ends_of d) s (look_after d f s k)) x (rw (lt-ltb k (length f.address) lt) at h) in
          record {
            channel = m.0;
            deleted = deleted_behind (look_after d f s k) k;
            follows = record { switch = s; port = p; ends = at; bytes_left = lt; named = (outputs_are (ends_of d) s (look_after d f s k) m.0).0 m.1; deleted = refl };
            number = sym m.2;
          }
      by (inr le) = let none = rw (le-ltb k (length f.address) le) at h in absurd (omega (arith, none.1))

  at_end : (c k x : ℕ) (o : Option PlaceEnd) → end_of d c ≡ o → Contains (next_at_end d f k o) x → Leads d f c k x
  at_end c k x None at h = absurd (omega (arith, h.1))
  at_end c k x (Some (Switch s p)) at h = at_switch c k s p x at h
  at_end c k x (Some (Node n)) at h = absurd (omega (arith, h.1))

  pub leads : (n x : ℕ) → Contains (next_numbers d f n) x → Leads d f (n / width f) (n % width f) x
  leads n x h = at_end (n / width f) (n % width f) x (end_of d (n / width f)) refl h

  led : (c k e m : ℕ) → Follows d f c k e m → Contains (next_at_end d f k (end_of d c)) (e * width f + m)
  led c k e m h =
      rw (h.ends, lt-ltb k (length f.address) h.bytes_left, h.deleted)
      (Contains-map (λ x. x * width f + deleted_behind (look_after d f h.switch k) k) (outputs (ends_of d) h.switch (look_after d f h.switch k)) e ((outputs_are (ends_of d) h.switch (look_after d f h.switch k) e).1 h.named))

  place_at : (e m x : ℕ) → m < width f → x ≡ e * width f + m → IsPlace d f e m → IsPlace d f (x / width f) (x % width f)
  place_at e m x lt is p = rw (is, div-mul-add e (width f) m lt, mod-mul-add e (width f) m lt) p

  pub place_from_reached : (c : ℕ) → out (ends_of d) f.from ≡ Some c → (x : ℕ) → Reached (next_numbers d f) (c * width f) x → IsPlace d f (x / width f) (x % width f)
  place_from_reached c at x begin = place_at c 0 (c * width f) (omega arith) (omega arith) (start at)
  place_from_reached c at x (step {n = n} r h) =
      let l = leads n x h in
      place_at l.channel l.deleted x (few_deleted d f _ _ l.channel l.deleted l.follows) l.number (next (place_from_reached c at n r) l.follows)

  led_number : (b j c k : ℕ) → j < width f → Follows d f b j c k → Contains (next_numbers d f (b * width f + j)) (c * width f + k)
  led_number b j c k lt h = rw (div-mul-add b (width f) j lt, mod-mul-add b (width f) j lt) (led b j c k h)

  pub reached_from_place : (s : ℕ) → out (ends_of d) f.from ≡ Some s → (c k : ℕ) → IsPlace d f c k → (k < width f) × Reached (next_numbers d f) (s * width f) (c * width f + k)
  reached_from_place s at c k (start here) =
      let same : s ≡ c = let e : Some s ≡ Some c = sym at ∙ here in cc in
      let number : s * width f ≡ c * width f + 0 = ap (λ x. x * width f) same ∙ omega arith in
      (omega arith, subst (λ (x : ℕ). Reached (next_numbers d f) (s * width f) x) number begin)
  reached_from_place s at c k (next {c = b} {k = j} p h) =
      let before = reached_from_place s at b j p in
      (few_deleted d f b j c k h, step before.1 (led_number b j c k before.0 h))

  pub next_below : (n x : ℕ) → Contains (next_numbers d f n) x → x < number_bound d f
  next_below n x h =
      let l = leads n x h in
      let e : l.channel < length (ends_of d) = out_below (ends_of d) (is_port l.follows.switch l.follows.named.port) l.channel l.follows.named.linked in
      let few = few_deleted d f _ _ l.channel l.deleted l.follows in
      let low = mul-add-lt l.channel (width f) l.deleted (length (ends_of d)) e few in
      subst (λ (y : ℕ). y < number_bound d f) (sym l.number) (omega arith)

  pub all_below : (n : ℕ) → All (λ x. x < number_bound d f) (next_numbers d f n)
  all_below n = λ k x lt. next_below n _ (Contains-get_or (next_numbers d f n) k x lt)

pub places_are_in : PlacesAreIn
places_are_in d f c k (start at) = (out_below (ends_of d) (is_node f.from) c at, omega arith)
places_are_in d f c k (next {c = b} {k = j} p h) =
    let few = few_deleted d f b j c k h in
    (out_below (ends_of d) (is_port h.switch h.named.port) c h.named.linked, omega arith)

pub places_are_least : PlacesAreLeast
places_are_least d f test first on c k (start at) = first c at
places_are_least d f test first on c k (next {c = b} {k = j} p h) = on b j c k (places_are_least d f test first on b j p) h

-- the bound as the code has it
pub bound_is : (d : Declaration) (f : FlowEntry) (channels : ℕ) (w : Wiring) (address : List ℕ) → channels ≡ length w.ends → w ≡ wiring_of d → address ≡ f.address → channels * (length address + 1) ≡ number_bound d f
bound_is d f channels w address counted wired same =
    ap (λ n. n * (length address + 1)) (counted ∙ ap (λ (v : Wiring). length v.ends) wired) ∙ ap (λ (a : List ℕ). length (ends_of d) * (length a + 1)) same
