-- Ways of a flow, from those over the numbers of its places.
use Rattle.std.proofs.Common.{◌≡◌, ℕ, ◌+◌, ◌*◌, ◌/◌, ◌%◌, ◌<◌, ◌≤◌, Option, Some, None, List, [], ◌∷◌, ◌++◌, length, map, All, Contains, refl, sym, ap, ◌∙◌, subst, arith}
use Rattle.std.proofs.Math.Nat.{mul-le-mul_right}
use Rattle.std.proofs.lemmas.Nat.{div-mul-add, mod-mul-add, mul-add-lt}
use Rattle.std.proofs.lemmas.List.Elements.{All-nil, All-cons, All-weaker}
use Rattle.sw_config.specs.Wiring.{Wiring, out}
use Rattle.sw_config.specs.Entries.{FlowEntry, Declaration, wiring_of}
use Rattle.sw_graph.specs.Ways.{EndsAt, IsWay, IsWayIfReached}
use Rattle.sw_flow.specs.declared.place.Place.{Place}
use Rattle.sw_flow.specs.Places.{ends_of, IsPlace}
use Rattle.sw_flow.specs.Numbers.{width, number_bound, place_of, next_numbers}
use Rattle.sw_flow.specs.Ways.{GoesTo, GoesOver, IsWayTo}
use Rattle.sw_flow.proofs.Stepping.{leads, few_deleted, next_below, reached_from_place}

module _ (d : Declaration) (f : FlowEntry) where
  abbrev next : ℕ → List ℕ
  next = next_numbers d f

  abbrev at : ℕ → Place
  at = place_of f

  place_is : (e m x : ℕ) → m < width f → x ≡ e * width f + m → at x ≡ record { channel = e; deleted = m }
  place_is e m x lt is = rw (is, div-mul-add e (width f) m lt, mod-mul-add e (width f) m lt) refl

  goes_to : (n m : ℕ) → Contains (next n) m → GoesTo d f (at n) (at m)
  goes_to n m h =
      let l = leads d f n m h in
      subst (λ (q : Place). GoesTo d f (at n) q) (sym (place_is l.channel l.deleted m (few_deleted d f (n / width f) (n % width f) l.channel l.deleted l.follows) l.number)) l.follows

  goes_over : (goal n : ℕ) (more : List ℕ) → EndsAt next goal (n ∷ more) → GoesOver d f (at n) (map at more)
  goes_over goal n [] e = tt
  goes_over goal n (m ∷ more) e = (goes_to n m e.0, goes_over goal m more e.1)

  -- what stands before the goal
  ends : (goal n : ℕ) (more : List ℕ) → EndsAt next goal (n ∷ more) → (before : List Place) × (map at (n ∷ more) ≡ before ++ at goal ∷ [])
  ends goal n [] e = ([], ap (λ x. at x ∷ []) e)
  ends goal n (m ∷ more) e = let rest = ends goal m more e.1 in (at n ∷ rest.0, ap (λ l. at n ∷ l) rest.1)

  below : (goal n : ℕ) (more : List ℕ) → n < number_bound d f → EndsAt next goal (n ∷ more) → All (λ x. x < number_bound d f) (n ∷ more)
  below goal n [] lt e = All-cons (λ x. x < number_bound d f) n [] lt (All-nil (λ x. x < number_bound d f))
  below goal n (m ∷ more) lt e = All-cons (λ x. x < number_bound d f) n (m ∷ more) lt (below goal m more (next_below d f n m e.0) e.1)

  pub numbers_below : (start goal : ℕ) (numbers : List ℕ) → start < number_bound d f → IsWay next start goal numbers → All (λ x. x < number_bound d f) numbers
  numbers_below start goal [] lt w = absurd w.goes
  numbers_below start goal (n ∷ more) lt w = let same : Some n ≡ Some start = w.begins in below goal n more (let e : n ≡ start = cc in omega arith) w.goes

  -- a way over numbers, from the start's to that of the place
  pub way_of_numbers : (s : ℕ) (place : Place) (numbers : List ℕ) → out (ends_of d) f.from ≡ Some s → place.deleted < width f → IsWay next (s * width f) (place.channel * width f + place.deleted) numbers → IsWayTo d f place (map at numbers)
  way_of_numbers s place [] starts few w = absurd w.goes
  way_of_numbers s place (n ∷ more) starts few w =
      let goal : ℕ = place.channel * width f + place.deleted in
      let first : Some n ≡ Some (s * width f) = w.begins in
      let number : n ≡ s * width f + 0 = let e : n ≡ s * width f = cc in omega arith in
      let begin : at n ≡ record { channel = s; deleted = 0 } = place_is s 0 n (omega arith) number in
      let last : at goal ≡ place = place_is place.channel place.deleted goal few refl in
      let rest = ends goal n more w.goes in
      record {
        goes = ((starts ∙ ap (λ (p : Place). Some p.channel) (sym begin), ap (λ (p : Place). p.deleted) begin), goes_over goal n more w.goes);
        before = rest.0;
        listed = rest.1 ∙ ap (λ p. rest.0 ++ p ∷ []) last;
      }

  -- what the walk over numbers found is what is asked for, with the parts as the code has them
  module _ (w : Wiring) (s number from channel : ℕ) (place : Place) (address : List ℕ) (wired : w ≡ wiring_of d) (origin : from ≡ f.from) (out_at : out w.ends from ≡ Some s) (same : address ≡ f.address) (first : number ≡ s) (last : channel ≡ place.channel) (few : place.deleted < length address + 1) where
    abbrev Walked : Option (List ℕ) → Type 0
    Walked found = IsWayIfReached next (number * (length address + 1)) (channel * (length address + 1) + place.deleted) found

    starts : out (ends_of d) f.from ≡ Some s
    starts = ap (λ (v : Wiring). out v.ends f.from) (sym wired) ∙ ap (out w.ends) (sym origin) ∙ out_at

    in_width : place.deleted < width f
    in_width = subst (λ (a : List ℕ). place.deleted < length a + 1) same few

    walked : (found : Option (List ℕ)) → Walked found → IsWayIfReached next (s * width f) (place.channel * width f + place.deleted) found
    walked found is =
        subst (λ (n : ℕ). IsWayIfReached next (n * width f) (place.channel * width f + place.deleted) found) first
        (subst (λ (n : ℕ). IsWayIfReached next (number * width f) (n * width f + place.deleted) found) last
        (subst (λ (a : List ℕ). IsWayIfReached next (number * (length a + 1)) (channel * (length a + 1) + place.deleted) found) same is))

    pub no_place : (found : Option (List ℕ)) → found ≡ None → Walked found → IsPlace d f place.channel place.deleted → ⊥
    no_place found none is at = subst (λ (o : Option (List ℕ)). IsWayIfReached next (s * width f) (place.channel * width f + place.deleted) o) none (walked found is) (reached_from_place d f s starts place.channel place.deleted at).1

    found_way : (found : Option (List ℕ)) (numbers : List ℕ) → found ≡ Some numbers → Walked found → IsWay next (s * width f) (place.channel * width f + place.deleted) numbers
    found_way found numbers some is = subst (λ (o : Option (List ℕ)). IsWayIfReached next (s * width f) (place.channel * width f + place.deleted) o) some (walked found is)

    pub all_few : s < length w.ends → length w.ends ≤ 2048 → (found : Option (List ℕ)) (numbers : List ℕ) → found ≡ Some numbers → Walked found → All (λ x. x < 2048 * (length address + 1)) numbers
    all_few within few_ends found numbers some is =
        let inside : s < length (ends_of d) = subst (λ (v : Wiring). s < length v.ends) wired within in
        let low = mul-add-lt s (width f) 0 (length (ends_of d)) inside (omega arith) in
        let all = numbers_below (s * width f) (place.channel * width f + place.deleted) numbers (omega arith) (found_way found numbers some is) in
        let ends_few : length (ends_of d) ≤ 2048 = subst (λ (v : Wiring). length v.ends ≤ 2048) wired few_ends in
        let high : length (ends_of d) * width f ≤ 2048 * width f = mul-le-mul_right (width f) ends_few in
        subst (λ (a : List ℕ). All (λ x. x < 2048 * (length a + 1)) numbers) (sym same)
        (All-weaker (λ x. x < number_bound d f) (λ x. x < 2048 * width f) (λ x lt. omega (arith, high, lt)) numbers all)

    pub is_way : (found : Option (List ℕ)) (numbers : List ℕ) (places : List Place) → found ≡ Some numbers → Walked found → places ≡ map (λ n. record { channel = n / (length address + 1); deleted = n % (length address + 1) }) numbers → IsWayTo d f place places
    is_way found numbers places some is made =
        let list : places ≡ map at numbers = made ∙ ap (λ (a : List ℕ). map (λ n. record { channel = n / (length a + 1); deleted = n % (length a + 1) }) numbers) same in
        subst (IsWayTo d f place) (sym list) (way_of_numbers s place numbers starts in_width (found_way found numbers some is))
