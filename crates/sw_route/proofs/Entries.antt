-- The entry of an address in a table.
use Rattle.std.proofs.Common.{◌≡◌, ℕ, Bool, ◌+◌, leb, suc, ◌<◌, ◌≤◌, true, false, true≢false, max, List, [], ◌∷◌, ◌++◌, length, get_or, Some, None, refl, sym, ap, ◌∙◌, inl, inr, arith, All}
use Rattle.std.specs.Prelude.{find}
use Rattle.std.specs.List.{list_any}
use Rattle.std.proofs.lemmas.List.Folds.{list_any_at, list_any_none}
use Rattle.std.proofs.lemmas.Bool.{cases_lt, lt-ltb, le-ltb}
use Rattle.std.proofs.lemmas.Bool.Decides.{nat_tests}
use Rattle.std.proofs.lemmas.Option.{slice_get_read}
use Rattle.std.proofs.lemmas.List.{get_or_default}
use Rattle.std.proofs.lemmas.List.Elements.{All-get_or, All-push}
use Rattle.std.proofs.lemmas.List.Quantifiers.{all_pairs_push}
use Rattle.sw_route.specs.declared.look.Look.{Look}
use Rattle.sw_route.specs.declared.look.Route.{Route}
use Rattle.sw_route.specs.Looks.{covers, overlaps, look_by, route_look, IsRoute, IsTable}
use Rattle.sw_route.specs.TableLaws.{EntriesAnswer, OthersNameNoPort, OverlapsShareAnAddress}
use Rattle.sw_route.proofs.Halving.{find_here}

-- a logical address is looked up
look_by_logical : (logical : ℕ → Look) (address : ℕ) → 32 ≤ address → address < 255 → look_by logical address ≡ logical address
look_by_logical logical address low high = rw (le-ltb address 32 low, lt-ltb address 255 high) refl

within : (address : ℕ) (r : Route) → covers address r ≡ true → (r.first ≤ address) × (address ≤ r.last)
within address r is = grind (arith, nat_tests)

covered : (address : ℕ) (r : Route) → r.first ≤ address → address ≤ r.last → covers address r ≡ true
covered address r low high = grind (arith, nat_tests)

other_fails : (address : ℕ) (a r : Route) → overlaps a r ≡ false → covers address r ≡ true → covers address a ≡ false
other_fails address a r apart is = grind (arith, nat_tests)

overlap_parts : (r q : Route) → overlaps r q ≡ true → (q.first ≤ r.last) × (r.first ≤ q.last)
overlap_parts r q both = grind (arith, nat_tests)

parts_overlap : (r q : Route) → q.first ≤ r.last → r.first ≤ q.last → overlaps r q ≡ true
parts_overlap r q low high = grind (arith, nat_tests)

-- an entry for addresses above the highest that another has is for none of its addresses
pub none_above : (highest : ℕ) (r q : Route) → highest < r.first → q.last ≤ highest → overlaps r q ≡ false
none_above highest r q above low = grind (arith, nat_tests)

pub not_at_most : (m n : ℕ) → m < n → leb n m ≡ false
not_at_most m n lt = grind (arith, nat_tests)

pub entries_answer : EntriesAnswer
entries_answer routes table r here address is =
    let k = here.0 in
    let at : get_or routes k r ≡ r = here.2 in
    let there : (d : Route) → get_or routes k d ≡ r = λ d. get_or_default routes k d r here.1 ∙ at in
    let inside = within address r is in
    let valid : IsRoute r = rw at at (All-get_or IsRoute routes k r here.1 table.valid) in
    let before : (i : ℕ) (d : Route) → i < k → covers address (get_or routes i d) ≡ false = λ i d lt. other_fails address (get_or routes i d) r (rw (there d) at (table.apart i k d lt here.1)) is in
    let found : find (covers address) routes ≡ Some r =
    find_here (covers address) routes k before (λ d lt. rw (there d) is) (omega (arith, here.1)) ∙ slice_get_read routes (length routes) k r refl here.1 (sym at) in
    look_by_logical (λ a. route_look (find (covers a) routes)) address (omega (arith, valid.first)) (omega (arith, valid.last)) ∙ ap route_look found

-- none of so many entries passes
abbrev pub NonePasses : (Route → Bool) → List Route → ℕ → Type 0
NonePasses test routes count = (k : ℕ) (d : Route) → k < count → test (get_or routes k d) ≡ false

pub none_more : (test : Route → Bool) (routes : List Route) (i : ℕ) (r : Route) → i < length routes → r ≡ get_or routes i r → NonePasses test routes i
    → test r ≡ false → NonePasses test routes (i + 1)
none_more test routes i r lt is before fails = λ k d below.
    elim (cases_lt k i) [
      | inl low ↦ before k d low
      | inr high ↦ let e : k ≡ i = omega arith in rw (e, get_or_default routes i d r lt, sym is) fails
    ]

-- the first that passes
pub first_passes : (test : Route → Bool) (routes : List Route) (i : ℕ) (r : Route) → i < length routes → r ≡ get_or routes i r → NonePasses test routes i
    → test r ≡ true → find test routes ≡ Some r
first_passes test routes i r lt is before passes =
    find_here test routes i before (λ d within. rw (get_or_default routes i d r lt, sym is) passes) (omega (arith, lt))
    ∙ slice_get_read routes (length routes) i r refl lt is

-- one that passes
pub any_passes : (test : Route → Bool) (routes : List Route) (i : ℕ) (r : Route) → i < length routes → r ≡ get_or routes i r → test r ≡ true
    → list_any test routes ≡ true
any_passes test routes i r lt is passes = list_any_at test routes i r lt (ap test (sym is) ∙ passes)

pub overlaps_turned : (r q : Route) → overlaps r q ≡ false → overlaps q r ≡ false
overlaps_turned r q apart = grind (arith, nat_tests)

none_of : (test : Route → Bool) (routes : List Route) → list_any test routes ≡ false → All (λ r. test r ≡ false) routes
none_of test routes none k d lt = go (test (get_or routes k d)) refl
  where
    go : (passes : Bool) → test (get_or routes k d) ≡ passes → test (get_or routes k d) ≡ false
    go true is = absurd (true≢false (sym (list_any_at test routes k d lt is) ∙ none))
    go false is = is

-- an entry that no other overlaps makes a table of a table
pub with_route : (routes : List Route) (highest after : ℕ) (r : Route) → IsTable routes × All (λ q. q.last ≤ highest) routes → IsRoute r
    → list_any (overlaps r) routes ≡ false → highest ≤ after → r.last ≤ after → IsTable (routes ++ r ∷ []) × All (λ q. q.last ≤ after) (routes ++ r ∷ [])
with_route routes highest after r table is none rises last = (
  record {
    valid = All-push IsRoute routes r table.0.valid is;
    apart = all_pairs_push (λ a b. overlaps a b ≡ false) routes r table.0.apart (λ k d lt. overlaps_turned r (get_or routes k d) (none_of (overlaps r) routes none k d lt));
  },
  All-push (λ q. q.last ≤ after) routes r (λ k d lt. let low = table.1 k d lt in omega arith) last,
)

none_found : (test : Route → Bool) (routes : List Route) → All (λ r. test r ≡ false) routes → find test routes ≡ None
none_found test [] none = refl
none_found test (r ∷ routes) none = rw (none 0 r (omega arith)) (none_found test routes (λ k d lt. none (suc k) d (omega arith)))

pub none_passes : (test : Route → Bool) (routes : List Route) (count : ℕ) → length routes ≤ count → NonePasses test routes count → find test routes ≡ None
none_passes test routes count whole none = none_found test routes (λ k d lt. none k d (omega (arith, lt, whole)))

pub any_passes_not : (test : Route → Bool) (routes : List Route) (count : ℕ) → length routes ≤ count → NonePasses test routes count → list_any test routes ≡ false
any_passes_not test routes count whole none = list_any_none test routes (λ k d lt. none k d (omega (arith, lt, whole)))

pub others_none : OthersNameNoPort
others_none routes address low none =
    elim (cases_lt address 255) [
      | inl high ↦ look_by_logical (λ a. route_look (find (covers a) routes)) address low high ∙ ap route_look (none_found (covers address) routes none)
      | inr past ↦ rw (le-ltb address 32 low, le-ltb address 255 past) refl
    ]

pub overlap_shared : OverlapsShareAnAddress
overlap_shared r q r_rises q_rises = (
  λ both.
      let ends = overlap_parts r q both in
      (max r.first q.first, covered (max r.first q.first) r (omega arith) (omega arith), covered (max r.first q.first) q (omega arith) (omega arith)),
  λ shared.
      let in_r = within shared.0 r shared.1 in
      let in_q = within shared.0 q shared.2 in
      parts_overlap r q (omega arith) (omega arith),
)
