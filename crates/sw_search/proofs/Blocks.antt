-- Lists of places have a text in a certificate.
use Rattle.std.proofs.Common.{◌≡◌, ℕ, zero, suc, ◌+◌, ◌*◌, ◌<◌, ◌≤◌, true, List, [], ◌∷◌, map, length, get_or, Some, None, Vec, Global, refl, inl, inr, arith, All}
use Rattle.std.specs.Prelude.{AllPairs}
use Rattle.std.specs.List.{AllByRecursion}
use Rattle.std.proofs.lemmas.Bool.{eq-eqb, lt-ltb, le-ltb}
use Rattle.std.proofs.lemmas.List.Elements.{All-append, recursion_from_All, All-contains_itself}
use Rattle.sw_config.specs.Entries.{FlowEntry, Declaration, all_flows, reply_flows}
use Rattle.sw_config.specs.Valid.{IsFlow, IsValid}
use Rattle.sw_config.proofs.Flows.{reply_flows_are_flows}
use Rattle.sw_flow.specs.declared.place.Place.{Place}
use Rattle.sw_flow.specs.Places.{ends_of, IsBefore, IsPlaceList}
use Rattle.sw_flow.proofs.Stepping.{places_are_in}
use Rattle.sw_cert.specs.Grammar.{Fits, IsBlock, Rises, stands_before}
use Rattle.sw_cert.specs.Reading.{items_of}
use Rattle.sw_search.specs.Lists.{AreListed}
use Rattle.sw_search.proofs.Zips.{zip_all}

-- ---- strictly rising numbers below n are at most n

module _ {X : Type 0} (rank : X → ℕ) (xs : List X) (rising : (i j : ℕ) (d : X) → i < j → j < length xs → rank (get_or xs i d) < rank (get_or xs j d)) where
  at_least : (k : ℕ) (d : X) → k < length xs → k ≤ rank (get_or xs k d)
  at_least zero d lt = omega arith
  at_least (suc k) d lt =
      let before = at_least k d (omega arith) in
      let step = rising k (suc k) d (omega arith) lt in
      omega arith

pub few_below : {X : Type 0} (rank : X → ℕ) (n : ℕ) (xs : List X) → ((i j : ℕ) (d : X) → i < j → j < length xs → rank (get_or xs i d) < rank (get_or xs j d)) → ((i : ℕ) (d : X) → i < length xs → rank (get_or xs i d) < n) → length xs ≤ n
few_below rank n [] rising below = omega arith
few_below rank n (x ∷ xs) rising below =
    let last = at_least rank (x ∷ xs) rising (length xs) x (omega arith) in
    let in_it = below (length xs) x (omega arith) in
    omega arith

-- ---- places in order

stands : (p q : Place) → IsBefore p q → stands_before (Some p) q ≡ true
stands p q (inl lt) = rw (lt-ltb p.channel q.channel lt) refl
stands p q (inr both) = rw (le-ltb p.channel q.channel (let e = both.0 in omega arith), eq-eqb p.channel q.channel both.0, lt-ltb p.deleted q.deleted both.1) refl

rises_from : (p : Place) (xs : List Place) → AllPairs IsBefore (p ∷ xs) → Rises (Some p) xs
rises_from p [] h = tt
rises_from p (q ∷ xs) h = (stands p q (h 0 1 p (omega arith) (omega arith)), rises_from q xs (λ i j d ij lt. h (suc i) (suc j) d (omega arith) (omega arith)))

rises : (xs : List Place) → AllPairs IsBefore xs → Rises None xs
rises [] h = tt
rises (p ∷ xs) h = (refl, rises_from p xs h)

-- the place's number, of a channel and at most 32 deleted bytes
abbrev number_of : Place → ℕ
number_of p = 33 * p.channel + p.deleted

before_number : (p q : Place) → p.deleted ≤ 32 → IsBefore p q → number_of p < number_of q
before_number p q few (inl lt) = omega arith
before_number p q few (inr both) = let e = both.0 in let lt = both.1 in omega arith

-- ---- the places of a flow

pub all_are_flows : (d : Declaration) → IsValid d → All (IsFlow d.nodes) (all_flows d)
all_are_flows d valid = All-append (IsFlow d.nodes) d.flows (reply_flows d.flows) valid.flows (reply_flows_are_flows d.nodes d.flows valid.flows)

module _ (d : Declaration) (f : FlowEntry) (few : length (ends_of d) ≤ 2048) (short : length f.address ≤ 32) (places : List Place) (list : IsPlaceList d f places) where
  in_it : (i : ℕ) (e : Place) → i < length places → ((get_or places i e).channel < 2048) × ((get_or places i e).deleted ≤ 32)
  in_it i e lt =
      let p : Place = get_or places i e in
      let both = places_are_in d f p.channel p.deleted ((list.member p).0 (All-contains_itself places i e lt)) in
      let channel = both.0 in
      let deleted = both.1 in
      (omega arith, omega arith)

  fits : All Fits places
  fits i e lt = let both = in_it i e lt in let channel = both.0 in (omega arith, both.1)

  short_list : length places ≤ 67584
  short_list =
      few_below number_of 67584 places
      (λ i j e ij lt. before_number (get_or places i e) (get_or places j e) (in_it i e (omega arith)).1 (list.in_order i j e ij lt))
      (λ i e lt. let both = in_it i e lt in let channel = both.0 in let deleted = both.1 in omega arith)

  pub is_block : IsBlock places
  is_block = (short_list, recursion_from_All Fits places fits, rises places list.in_order)

pub are_blocks : (d : Declaration) (lists : List (Vec Place Global)) → IsValid d → length (ends_of d) ≤ 2048 → AreListed d lists → AllByRecursion IsBlock (map items_of lists)
are_blocks d lists valid few listed =
    zip_all (λ (f : FlowEntry) (v : Vec Place Global). IsPlaceList d f v.items) items_of (IsFlow d.nodes) IsBlock (λ f v ok list. is_block d f few ok.address v.items list) (all_flows d) lists
    (recursion_from_All (IsFlow d.nodes) (all_flows d) (all_are_flows d valid)) listed
