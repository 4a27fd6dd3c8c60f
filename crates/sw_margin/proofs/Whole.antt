-- The way of a flow of a free network: it goes on until it comes to the flow's node, over no channel twice.
use Rattle.std.proofs.Common.{◌≡◌, ◌≢◌, Bool, true, not, ℕ, zero, suc, ◌<◌, ◌≤◌, ◌⊎◌, List, [], ◌∷◌, ◌++◌, length, map, get_or, AllPairs, Contains, Option, Some, None, refl, sym, ap, ◌∙◌, subst, inl, inr, arith}
use Rattle.std.specs.List.{list_all}
use Rattle.std.specs.Prelude.{is_some, slice_get}
use Rattle.std.specs.Option.{option_map_or}
use Rattle.std.proofs.lemmas.Bool.{and_parts}
use Rattle.std.proofs.lemmas.List.Elements.{All-contains, All-contains_itself}
use Rattle.std.proofs.lemmas.List.Kept.{AllPairs-cons}
use Rattle.std.proofs.lemmas.Option.{get_or_from_slice_get, same_Some, slice_get_read, slice_get_within}
use Rattle.sw_topo.specs.Wiring.{out, partner}
use Rattle.sw_topo.proofs.Ends.{node_only}
use Rattle.sw_topo.proofs.Lists.{none_in}
use Rattle.sw_config.specs.PlaceEnd.TheVariants.{Node}
use Rattle.sw_config.specs.Entries.{FlowEntry, Declaration, all_flows, wiring_of}
use Rattle.sw_config.specs.Valid.{IsFlow, IsValid}
use Rattle.sw_config.proofs.Flows.{All-at}
use Rattle.sw_config.proofs.FlowLaws.{valid_flows}
use Rattle.sw_flow.specs.declared.place.Place.{Place}
use Rattle.sw_flow.specs.Faults.{IsWellRouted}
use Rattle.sw_flow.specs.Followers.{followers_of}
use Rattle.sw_flow.specs.Places.{ends_of, end_of, IsPlace}
use Rattle.sw_flow.specs.Places.IsPlace.{start, next}
use Rattle.sw_flow.specs.Ways.{GoesTo, GoesOver}
use Rattle.sw_flow.proofs.Faulty.{faultless_go_on}
use Rattle.sw_flow.proofs.Listed.{Contains-cases, Contains-head, Contains-later}
use Rattle.sw_flow.proofs.Partners.{partner_within}
use Rattle.sw_flow.proofs.Stepping.{places_are_in}
use Rattle.sw_flow.proofs.Walked.{followers_are_listed}
use Rattle.sw_machine.specs.Places.IsDependency.{ByFlow}
use Rattle.sw_machine.specs.Model.{network_of}
use Rattle.sw_machine.proofs.Flows.{some_at}
use Rattle.sw_machine.proofs.Steps.{steps_agree}
use Rattle.sw_graph.specs.Levels.{Chain, HasCycle}
use Rattle.sw_graph.proofs.Pigeons.{chain_join, pigeons}
use Rattle.sw_graph.proofs.Transfers.{cycle_map}
use Rattle.sw_search.specs.Verdicts.{depends}
use Rattle.sw_margin.specs.Answers.{GoesOnTo}
use Rattle.sw_margin.specs.Bends.{first_way, goes_on_to_one, goes_one_way, start_on, way_of}
use Rattle.sw_margin.specs.Laws.{WaysAreWays, WaysHaveAllPlaces}
use Rattle.sw_margin.specs.Ways.{ComesNext, GoesByFirst, GoesOneWay, IsFirstWay, IsWholeWay}

module _ (d : Declaration) (f : FlowEntry) where
  abbrev after : Place → List Place
  after p = followers_of d f p.channel p.deleted

  abbrev first_of : Place → Option Place
  first_of p = slice_get (after p) 0

  abbrev IsIn : Place → Type 0
  IsIn p = IsPlace d f p.channel p.deleted

  abbrev channels : List Place → List ℕ
  channels ps = map (λ (p : Place). p.channel) ps

  -- ---- the first that follows

  first_follows : (p q : Place) → first_of p ≡ Some q → GoesTo d f p q
  first_follows p q e = (followers_are_listed d f p.channel p.deleted q).0 (0, slice_get_within (after p) 0 q e, get_or_from_slice_get (after p) 0 q q e)

  no_first : (ps : List Place) → slice_get ps 0 ≡ None → ps ≡ []
  no_first [] e = refl
  no_first (p ∷ ps) e = absurd cc

  a_first : (ps : List Place) (q : Place) → Contains ps q → (p : Place) × (slice_get ps 0 ≡ Some p)
  a_first [] q h = absurd (none_in q h)
  a_first (p ∷ ps) q h = (p, refl)

  -- where it goes on, it goes to the first
  goes_first : (p q : Place) → GoesTo d f p q → (r : Place) × (first_of p ≡ Some r)
  goes_first p q goes = a_first (after p) q ((followers_are_listed d f p.channel p.deleted q).1 goes)

  -- ---- the way, as long as it is

  goes_over : (n : ℕ) (p : Place) → GoesOver d f p (first_way d f n p)
  goes_over zero p = tt
  goes_over (suc n) p = by (first_of p) refl (goes_over n)
    where
      by : (o : Option Place) → first_of p ≡ o → ((q : Place) → GoesOver d f q (first_way d f n q)) → GoesOver d f p (option_map_or (λ q. q ∷ first_way d f n q) o [])
      by None e rest = tt
      by (Some q) e rest = (first_follows p q e, rest q)

  -- it goes on until none follows, or is as long as it may be
  ends_or_full : (n : ℕ) (p : Place) → GoesByFirst d f p (first_way d f n p) ⊎ (length (first_way d f n p) ≡ n)
  ends_or_full zero p = inr refl
  ends_or_full (suc n) p = by (first_of p) refl (ends_or_full n)
    where
      by : (o : Option Place) → first_of p ≡ o → ((q : Place) → GoesByFirst d f q (first_way d f n q) ⊎ (length (first_way d f n q) ≡ n))
          → GoesByFirst d f p (option_map_or (λ q. q ∷ first_way d f n q) o []) ⊎ (length (option_map_or (λ q. q ∷ first_way d f n q) o []) ≡ suc n)
      by None e rest = inl (no_first (after p) e)
      by (Some q) e rest = elim (rest q) [ inl ends ↦ inl (e, ends) | inr full ↦ inr (ap suc full) ]

  -- ---- places on it

  one_step : (p q : Place) → IsIn p → GoesTo d f p q → Chain (GoesOnTo d f) 1 p.channel q.channel
  one_step p q at goes = (p.channel, refl, record { before = p.deleted; after = q.deleted; place = at; step = goes })

  -- each is a place of the flow, to which steps lead
  reaches : (p : Place) (qs : List Place) → IsIn p → GoesOver d f p qs → (q : Place) → Contains qs q → IsIn q × ((n : ℕ) × Chain (GoesOnTo d f) (suc n) p.channel q.channel)
  reaches p [] at goes q h = absurd (none_in q h)
  reaches p (r ∷ qs) at goes q h = by (Contains-cases r q qs h) (reaches r qs (next at goes.0) goes.1 q)
    where
      by : (r ≡ q) ⊎ Contains qs q → (Contains qs q → IsIn q × ((n : ℕ) × Chain (GoesOnTo d f) (suc n) r.channel q.channel))
          → IsIn q × ((n : ℕ) × Chain (GoesOnTo d f) (suc n) p.channel q.channel)
      by (inl same) rest =
          subst (λ (x : Place). IsIn x × ((n : ℕ) × Chain (GoesOnTo d f) (suc n) p.channel x.channel)) same (next at goes.0, (0, one_step p r at goes.0))
      by (inr later) rest =
          let more = rest later in
          let n : ℕ = more.1.0 in
          (more.0, (suc n, chain_join (GoesOnTo d f) 1 (suc n) p.channel r.channel q.channel (one_step p r at goes.0) more.1.1 (suc (suc n)) (omega arith)))

  all_in : (p : Place) (qs : List Place) → IsIn p → GoesOver d f p qs → (q : Place) → Contains (p ∷ qs) q → IsIn q
  all_in p qs at goes q h = elim (Contains-cases p q qs h) [ inl same ↦ subst IsIn same at | inr later ↦ (reaches p qs at goes q later).0 ]

  abbrev Apart : Place → Place → Type 0
  Apart p q = p.channel ≢ q.channel

  module _ (free : HasCycle (GoesOnTo d f) → ⊥) where
    comes_no_more : (p : Place) (qs : List Place) → IsIn p → GoesOver d f p qs → (q : Place) → Contains qs q → Apart p q
    comes_no_more p qs at goes q h same =
        let to = (reaches p qs at goes q h).1 in
        free (to.0, p.channel, subst (λ (x : ℕ). Chain (GoesOnTo d f) (suc to.0) p.channel x) (sym same) to.1)

    -- no channel comes twice
    once : (p : Place) (qs : List Place) → IsIn p → GoesOver d f p qs → AllPairs Apart (p ∷ qs)
    once p [] at goes = AllPairs-cons Apart p [] (λ k x lt. absurd (omega arith)) (λ i j x lt within. absurd (omega arith))
    once p (q ∷ qs) at goes =
        AllPairs-cons Apart p (q ∷ qs) (λ k x lt. comes_no_more p (q ∷ qs) at goes (get_or (q ∷ qs) k x) (All-contains_itself (q ∷ qs) k x lt)) (once q qs (next at goes.0) goes.1)

    -- so there are no more places on it than channels
    too_many : (p : Place) (ps : List Place) → AllPairs Apart ps → ((q : Place) → Contains ps q → IsIn q) → length (ends_of d) < length ps → ⊥
    too_many p ps apart within many =
        let at : ℕ → ℕ = λ k. (get_or ps k p).channel in
        let inside : (k : ℕ) → k ≤ length (ends_of d) → at k < length (ends_of d) = λ k le.
        (places_are_in d f (get_or ps k p).channel (get_or ps k p).deleted (within (get_or ps k p) (All-contains_itself ps k p (omega (arith, le, many))))).0 in
        let two = pigeons (length (ends_of d)) at inside in
        apart two.0 two.1 p two.2 (omega (arith, two.3, many)) two.4

    -- the way goes on until none follows
    enough : (p : Place) → IsIn p → GoesByFirst d f p (first_way d f (length (ends_of d)) p)
    enough p at =
        let qs : List Place = first_way d f (length (ends_of d)) p in
        let over : GoesOver d f p qs = goes_over (length (ends_of d)) p in
        elim (ends_or_full (length (ends_of d)) p) [
          | inl ends ↦ ends
          | inr full ↦ absurd (too_many p (p ∷ qs) (once p qs at over) (all_in p qs at over) (omega (arith, full)))
        ]

  -- ---- its end

  last_of : (p : Place) (qs : List Place) → IsIn p → GoesByFirst d f p qs → (last : Place) × (before : List Place) × (p ∷ qs ≡ before ++ last ∷ []) × IsIn last × (after last ≡ [])
  last_of p [] at goes = (p, [], refl, at, goes)
  last_of p (q ∷ qs) at goes =
      let rest = last_of q qs (next at (first_follows p q goes.0)) goes.1 in
      (rest.0, p ∷ rest.1, ap (λ (l : List Place). p ∷ l) rest.2, rest.3, rest.4)

  -- where none follows, a well routed flow is at its node
  arrives : IsWellRouted d f → (p : Place) → IsIn p → after p ≡ [] → end_of d p.channel ≡ Some (Node f.to)
  arrives well p at none =
      let here = some_at (ends_of d) (partner p.channel) (partner_within d p.channel (places_are_in d f p.channel p.deleted at).0) in
      elim (faultless_go_on d f p.channel p.deleted here.0 here.1 (well p.channel p.deleted at)) [
        | inl goes ↦
            let q : Place = record { channel = goes.0; deleted = goes.1 } in
            absurd (none_in q (subst (λ (l : List Place). Contains l q) none ((followers_are_listed d f p.channel p.deleted q).1 goes.2)))
        | inr ended ↦ here.1 ∙ ap Some ended.0
      ]

  -- ---- one place after the other

  -- from a place on it that something follows it goes on to the first of what follows
  goes_on : (p : Place) (qs : List Place) → GoesByFirst d f p qs → (x y : Place) → Contains (p ∷ qs) x → first_of x ≡ Some y
      → ComesNext (channels (p ∷ qs)) x.channel y.channel × Contains (p ∷ qs) y
  goes_on p [] goes x y h e =
      elim (Contains-cases p x [] h) [
        | inl same ↦ absurd (
            let none : slice_get (after x) 0 ≡ None = ap (λ (z : Place). slice_get (after z) 0) (sym same) ∙ ap (λ (l : List Place). slice_get l 0) goes in
            let bad : None ≡ Some y = sym none ∙ e in
            cc
            )
        | inr later ↦ absurd (none_in x later)
      ]
  goes_on p (q ∷ qs) goes x y h e = by (Contains-cases p x (q ∷ qs) h) (goes_on q qs goes.1 x y)
    where
      by : (p ≡ x) ⊎ Contains (q ∷ qs) x → (Contains (q ∷ qs) x → first_of x ≡ Some y → ComesNext (channels (q ∷ qs)) x.channel y.channel × Contains (q ∷ qs) y)
          → ComesNext (channels (p ∷ q ∷ qs)) x.channel y.channel × Contains (p ∷ q ∷ qs) y
      by (inl same) rest =
          let to : q ≡ y = same_Some q y (sym goes.0 ∙ ap first_of same ∙ e) in (
            record { before = []; after = channels qs; listed = λ t. (same t).channel ∷ (to t).channel ∷ channels qs },
            Contains-later p y (q ∷ qs) (subst (Contains (q ∷ qs)) to (Contains-head q qs)),
          )
      by (inr later) rest =
          let more = rest later e in (
            record { before = p.channel ∷ more.0.before; after = more.0.after; listed = ap (λ (l : List ℕ). p.channel ∷ l) more.0.listed },
            Contains-later p y (q ∷ qs) more.1,
          )

-- ---- in a free network

-- the way, from its start on
pub record OnTheWay (d : Declaration) (f : FlowEntry) : Type 0 where
  pub channel : ℕ
  pub rest : List Place
  pub starts : out (ends_of d) f.from ≡ Some channel
  pub way : way_of d f ≡ start_on channel ∷ rest
  pub first : GoesByFirst d f (start_on channel) rest
  pub over : GoesOver d f (start_on channel) rest
  pub once : AllPairs (λ p q. p.channel ≢ q.channel) (start_on channel ∷ rest)

-- what is in a list is at some place of it
pub place_in : {X : Type 0} (xs : List X) (x : X) → Contains xs x → (i : ℕ) × (i < length xs) × (slice_get xs i ≡ Some x)
place_in xs x h = (h.0, h.1, slice_get_read xs (length xs) h.0 x refl h.1 (sym h.2))

pub flow_count : (d : Declaration) → length (all_flows d) ≡ (network_of d).flows
unfolding network_of
flow_count d = refl

-- where a flow goes on from channel c to channel e, a packet on c may wait for e
pub steps_depend : (d : Declaration) (f : FlowEntry) → IsValid d → Contains (all_flows d) f → (c e : ℕ) → GoesOnTo d f c e → depends d c e
steps_depend d f valid among c e goes =
    let at = place_in (all_flows d) f among in
    let same = steps_agree d valid at.0 f at.2 in
    ByFlow at.0 c goes.before e goes.after (subst (λ (n : ℕ). at.0 < n) (flow_count d) at.1) ((same.place c goes.before).1 goes.place) ((same.step c goes.before e goes.after).1 goes.step)

-- what a test says of all it says of each
pass_at : {X : Type 0} (test : X → Bool) (xs : List X) (i : ℕ) (x : X) → slice_get xs i ≡ Some x → list_all test xs ≡ true → test x ≡ true
pass_at test [] i x here all = absurd (cc)
pass_at test (y ∷ ys) zero x here all = let same = same_Some y x here in subst (λ z. test z ≡ true) same (and_parts _ _ all).0
pass_at test (y ∷ ys) (suc i) x here all = pass_at test ys i x here (and_parts _ _ all).1

-- a list without a second element has one at most
same_of_one : (ps : List Place) (q r : Place) → not (is_some (slice_get ps 1)) ≡ true → Contains ps q → Contains ps r → q ≡ r
same_of_one [] q r none at other = let i = place_in [] q at in absurd (let bad : None ≡ Some q = i.2 in cc)
same_of_one (p ∷ []) q r none at other = sym (only p q at) ∙ only p r other
  where
    only : (p q : Place) → Contains (p ∷ []) q → p ≡ q
    only p q (zero, lt, is) = is
    only p q (suc i, lt, is) = absurd (omega arith)
same_of_one (p ∷ s ∷ ps) q r none at other = absurd (cc)

module _ (d : Declaration) (f : FlowEntry) (valid : IsValid d) (free : HasCycle (depends d) → ⊥) (among : Contains (all_flows d) f) where
  never_round : HasCycle (GoesOnTo d f) → ⊥
  never_round round = free (cycle_map (GoesOnTo d f) (depends d) (steps_depend d f valid among) round)

  pub on_the_way : OnTheWay d f
  on_the_way =
      let at = place_in (all_flows d) f among in
      let is : IsFlow d.nodes f = All-at (IsFlow d.nodes) (all_flows d) at.0 f at.2 (valid_flows d valid).0 in
      let only = node_only (wiring_of d) valid.sound f.from is.from in
      let p : Place = start_on only.0 in
      let over : GoesOver d f p (first_way d f (length (ends_of d)) p) = goes_over d f (length (ends_of d)) p in
      record {
        channel = only.0;
        rest = first_way d f (length (ends_of d)) p;
        starts = only.1.first;
        way = ap (λ (o : Option ℕ). option_map_or (λ c. start_on c ∷ first_way d f (length (ends_of d)) (start_on c)) o []) only.1.first;
        first = enough d f never_round p (start only.1.first);
        over = over;
        once = once d f never_round p (first_way d f (length (ends_of d)) p) (start only.1.first) over;
      }

  pub is_first_way : IsFirstWay d f (way_of d f)
  is_first_way = subst (IsFirstWay d f) (sym on_the_way.way) ((on_the_way.starts, refl), on_the_way.first)

  pub is_whole_way : IsWellRouted d f → IsWholeWay d f (way_of d f)
  is_whole_way well =
      let w = on_the_way in
      let end = last_of d f (start_on w.channel) w.rest (start w.starts) w.first in
      subst (IsWholeWay d f) (sym w.way) (record {
        last = end.0;
        goes = record { goes = ((w.starts, refl), w.over); before = end.1; listed = end.2 };
        arrives = arrives d f well end.0 end.3 end.4;
        once = w.once;
      })

  -- where a place is on the way and another follows, so is the first of those that follow, next after it
  pub goes_on_there : (x y : Place) → Contains (way_of d f) x → GoesTo d f x y
      → (z : Place) × GoesTo d f x z × ComesNext (map (λ (p : Place). p.channel) (way_of d f)) x.channel z.channel × Contains (way_of d f) z
  goes_on_there x y at goes =
      let w = on_the_way in
      let to = goes_first d f x y goes in
      let found = goes_on d f (start_on w.channel) w.rest w.first x to.0 (subst (λ (l : List Place). Contains l x) w.way at) to.1 in
      let there = subst (λ (l : List Place). ComesNext (map (λ (p : Place). p.channel) l) x.channel to.0.channel × Contains l to.0) (sym w.way) found in
      (to.0, first_follows d f x to.0 to.1, there.0, there.1)

  on_it : (p : Place) → Contains (way_of d f) p → IsPlace d f p.channel p.deleted
  on_it p h =
      let w = on_the_way in
      all_in d f (start_on w.channel) w.rest (start w.starts) w.over p (subst (λ (l : List Place). Contains l p) w.way h)

  -- where one place at most follows each that is on the way, all places of the flow are
  on_way : ((x q r : Place) → Contains (way_of d f) x → GoesTo d f x q → GoesTo d f x r → q ≡ r) → (c k : ℕ) → IsPlace d f c k → Contains (way_of d f) (record { channel = c; deleted = k })
  on_way single c k (start at) =
      let w = on_the_way in
      let same : w.channel ≡ c = same_Some w.channel c (sym w.starts ∙ at) in
      subst (λ (l : List Place). Contains l (start_on c)) (sym w.way) (subst (λ (x : ℕ). Contains (start_on w.channel ∷ w.rest) (start_on x)) same (Contains-head (start_on w.channel) w.rest))
  on_way single c k (next {c = b} {k = j} p step) =
      let x : Place = record { channel = b; deleted = j } in
      let y : Place = record { channel = c; deleted = k } in
      let there = on_way single b j p in
      let on = goes_on_there x y there step in
      subst (Contains (way_of d f)) (single x on.0 y there on.1 step) on.3

  -- a flow that goes one way has all its places on it
  pub all_on_it : GoesOneWay d f → (c k : ℕ) → IsPlace d f c k → Contains (way_of d f) (record { channel = c; deleted = k })
  all_on_it single = on_way (λ x q r on. single x q r (on_it x on))

  -- and where the test says so of each place of the way, the flow goes one way
  pub one_way : goes_one_way d f ≡ true → GoesOneWay d f
  one_way all p q r at to other = single p q r (on_way single p.channel p.deleted at) to other
    where
      single : (x q r : Place) → Contains (way_of d f) x → GoesTo d f x q → GoesTo d f x r → q ≡ r
      single x q r on to other =
          let i = place_in (way_of d f) x on in
          let alone = pass_at (goes_on_to_one d f) (way_of d f) i.0 x i.2 all in
          same_of_one (followers_of d f x.channel x.deleted) q r alone ((followers_are_listed d f x.channel x.deleted q).1 to) ((followers_are_listed d f x.channel x.deleted r).1 other)

pub ways_are_ways : WaysAreWays
ways_are_ways d f valid free among =
    (is_first_way d f valid free.1 among, is_whole_way d f valid free.1 among (All-contains (IsWellRouted d) (all_flows d) f free.0 among))

pub ways_have_all_places : WaysHaveAllPlaces
ways_have_all_places d f valid free among single p = (on_it d f valid free.1 among p, all_on_it d f valid free.1 among single p.channel p.deleted)
