-- The intervals of the answers so far, one address on.
use Rattle.std.proofs.Common.{◌≡◌, ◌≢◌, AllPairs, length, length-append, map, ℕ, suc, ◌+◌, ◌-◌, ◌<◌, ◌≤◌, true, leb, List, [], ◌∷◌, ◌++◌, Option, Some, None, refl, sym, ap, ◌∙◌, inl, inr, arith, All}
use Rattle.std.specs.Prelude.{find}
use Rattle.std.specs.List.{AllAdjacentBelow}
use Rattle.std.specs.Option.{option_or}
use Rattle.std.proofs.lemmas.Bool.{cases_lt, lt-ltb, le-ltb}
use Rattle.std.proofs.lemmas.Bool.Decides.{nat_tests}
use Rattle.std.proofs.lemmas.List.{map_push, get_or_append_left, get_or_at}
use Rattle.std.proofs.lemmas.List.Elements.{All-push}
use Rattle.std.proofs.lemmas.List.Folds.{find-append}
use Rattle.std.proofs.lemmas.List.Quantifiers.{all_pairs_push}
use Rattle.sw_route.proofs.Entries.{not_at_most}
use Rattle.sw_route.specs.declared.look.Look.{Look}
use Rattle.sw_route.specs.declared.intervals.Interval.{Interval}
use Rattle.sw_route.specs.Looks.{no_look, look_by}
use Rattle.sw_route.specs.Intervals.{look_or, interval_or, intervals_look, IsIntervals}

-- no two neighbours are equal
abbrev IsChanging : {X : Type 0} → List X → Type 0
IsChanging xs = AllAdjacentBelow (λ x y. x ≢ y) xs (length xs)

changing_push : {X : Type 0} (xs : List X) (y z : X) → IsChanging (xs ++ y ∷ []) → y ≢ z → IsChanging ((xs ++ y ∷ []) ++ z ∷ [])
changing_push xs y z before differ = λ k d lt.
    let n = length xs in
    let whole : length (xs ++ y ∷ []) ≡ n + 1 = omega (arith, length-append xs (y ∷ [])) in
    let last : length ((xs ++ y ∷ []) ++ z ∷ []) ≡ n + 2 = omega (arith, length-append (xs ++ y ∷ []) (z ∷ []), whole) in
    elim (cases_lt k n) [
      | inl low ↦ rw (get_or_append_left (xs ++ y ∷ []) (z ∷ []) d k (omega arith), get_or_append_left (xs ++ y ∷ []) (z ∷ []) d (k + 1) (omega arith)) (before k d (omega arith))
      | inr high ↦
          let e : k ≡ n = omega arith in
          rw (e, get_or_append_left (xs ++ y ∷ []) (z ∷ []) d n (omega arith), get_or_at xs y [] d n refl, get_or_at (xs ++ y ∷ []) z [] d (n + 1) whole) differ
    ]

-- the intervals have the answers to the addresses below b, of which the last ones, that no interval has, are `look`
pub record IsRun (answer : ℕ → Look) (b : ℕ) (look : Look) (is : List Interval) : Type 0 where
  pub rising : AllPairs (λ i j. i.last < j.last) is
  pub merged : IsChanging (map (λ i. i.look) is ++ look ∷ [])
  pub ended : All (λ i. i.last + 1 < b) is
  pub agree : (k : ℕ) → 32 ≤ k → k < b → interval_or look is k ≡ answer k

or_else : (look : Look) (o p : Option Interval) → look_or look (option_or o p) ≡ look_or (look_or look p) o
or_else look None p = refl
or_else look (Some i) p = refl

interval_or_push : (look : Look) (is : List Interval) (i : Interval) (k : ℕ) → interval_or look (is ++ i ∷ []) k ≡ interval_or (interval_or look (i ∷ []) k) is k
interval_or_push look is i k = ap (look_or look) (find-append (λ i. leb k i.last) is (i ∷ [])) ∙ or_else look (find (λ i. leb k i.last) is) (find (λ i. leb k i.last) (i ∷ []))

is_reached : (k last : ℕ) → k ≤ last → leb k last ≡ true
is_reached k last le = grind (arith, nat_tests)

-- an address past all intervals is in none
past_all : (b : ℕ) (look : Look) (is : List Interval) → All (λ i. i.last + 1 < b) is → interval_or look is b ≡ look
past_all b look [] ended = refl
past_all b look (i ∷ is) ended =
    let first = ended 0 i (omega arith) in
    rw (not_at_most i.last b (omega arith)) (past_all b look is (λ k d lt. ended (suc k) d (omega arith)))

module _ (answer : ℕ → Look) (b : ℕ) (look : Look) (is : List Interval) (run : IsRun answer b look is) where
  -- the same answer goes on
  pub run_kept : answer b ≡ look → IsRun answer (b + 1) look is
  run_kept same = record {
    rising = run.rising;
    merged = run.merged;
    ended = λ k d lt. let e = run.ended k d lt in omega arith;
    agree = λ k low high. elim (cases_lt k b) [
      | inl below ↦ run.agree k low below
      | inr past ↦ let e : k ≡ b = omega arith in rw e (past_all b look is run.ended ∙ sym same)
    ];
  }

  -- the interval of `look` ends before b
  abbrev ends_here : Interval
  ends_here = record { last = b - 1; look = look }

  abbrev with_here : List Interval
  with_here = is ++ ends_here ∷ []

  here_ended : 0 < b → All (λ i. i.last + 1 < b + 1) with_here
  here_ended pos = All-push (λ i. i.last + 1 < b + 1) is ends_here (λ k d lt. let e = run.ended k d lt in omega arith) (omega arith)

  pub here_intervals : 0 < b → IsIntervals with_here
  here_intervals pos = record {
    rising = all_pairs_push (λ i j. i.last < j.last) is ends_here run.rising (λ k d lt. let e = run.ended k d lt in omega arith);
    merged = rw (map_push (λ i. i.look) is ends_here) run.merged;
  }

  pub here_agree : (other : Look) (k : ℕ) → 0 < b → 32 ≤ k → k < b → interval_or other with_here k ≡ answer k
  here_agree other k pos low high =
      let reached : leb k (b - 1) ≡ true = is_reached k (b - 1) (omega arith) in
      interval_or_push other is ends_here k ∙ rw reached (run.agree k low high)

  -- another answer begins
  pub run_pushed : 0 < b → look ≢ answer b → IsRun answer (b + 1) (answer b) with_here
  run_pushed pos differ = record {
    rising = (here_intervals pos).rising;
    merged = rw (map_push (λ i. i.look) is ends_here) (changing_push (map (λ i. i.look) is) look (answer b) run.merged differ);
    ended = here_ended pos;
    agree = λ k low high. elim (cases_lt k b) [
      | inl below ↦ here_agree (answer b) k pos low below
      | inr past ↦ let e : k ≡ b = omega arith in rw e (interval_or_push (answer b) is ends_here b ∙ rw (not_at_most (b - 1) b (omega arith)) (past_all b (answer b) is run.ended))
    ];
  }

-- the answers are those of the table, where the last of them ends at 254
pub finished : (logical : ℕ → Look) (look : Look) (is : List Interval) → IsRun (look_by logical) 255 look is → (byte : ℕ)
    → intervals_look (is ++ record { last = 254; look = look } ∷ []) byte ≡ look_by logical byte
finished logical look is run byte =
    elim (cases_lt byte 32) [
      | inl path ↦ rw (lt-ltb byte 32 path) refl
      | inr past ↦ elim (cases_lt byte 255) [
        | inl low ↦ rw (le-ltb byte 32 past, lt-ltb byte 255 low) (rw (le-ltb byte 32 past, lt-ltb byte 255 low) at (here_agree (look_by logical) 255 look is run no_look byte (omega arith) past low))
        | inr high ↦ rw (le-ltb byte 32 past, le-ltb byte 255 high) refl
      ]
    ]
