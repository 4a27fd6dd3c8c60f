-- What circles are, in words of packets.
use Rattle.std.proofs.Common.{◌≡◌, ◌∙◌, ◌⊎◌, ℕ, zero, suc, ◌+◌, ◌<◌, ◌≤◌, All, AllPairs, Bool, Contains, List, [], ◌∷◌, ◌++◌, None, Option, Some, ap, arith, eq-eqb, eqb-true, false, filter, inl, inr, length, map, option_map, refl, subst, sym, true, ◌↔◌, get_or}
use Rattle.std.specs.Prelude.{◌==◌, ◌||◌, if◌then◌else◌, slice_get, unwrap_or, filter_map, IfSome}
use Rattle.std.specs.List.{AllZip, flat_map, range_with_len}
use Rattle.std.specs.Option.{option_map_or}
use Rattle.std.proofs.lemmas.Bool.{false≢true}
use Rattle.std.proofs.lemmas.List.Elements.{All-append, All-cons, All-contains, All-filter, All-contains_itself, filter_passes}
use Rattle.std.proofs.lemmas.Option.{get_or_from_slice_get, same_Some, slice_get-get_or, slice_get_within, none-some}
use Rattle.sw_config.specs.Entries.{Declaration, FlowEntry, all_flows}
use Rattle.sw_config.specs.PlaceEnd.{PlaceEnd}
use Rattle.sw_config.specs.PlaceEnd.TheVariants.{Node, Switch}
use Rattle.sw_config.specs.Wiring.{is_node}
use Rattle.sw_flow.proofs.Listed.{Contains-cases, Contains-head, Contains-later}
use Rattle.sw_flow.proofs.Sorted.{same_places}
use Rattle.sw_flow.proofs.Stepping.{places_are_in}
use Rattle.sw_flow.specs.Places.{Follows, IsBefore, IsPlace, IsPlaceList, end_of, look_after, ends_of}
use Rattle.sw_flow.specs.Places.IsPlace.{next}
use Rattle.sw_flow.specs.declared.place.Place.{Place}
use Rattle.sw_graph.proofs.Marked.{in_range}
use Rattle.sw_graph.specs.Components.{IsComponent, LeadsTo}
use Rattle.sw_graph.specs.Laws.{IsChain, IsCycle}
use Rattle.sw_graph.specs.Levels.{Chain}
use Rattle.sw_graph.specs.declared.component.Component.{Component}
use Rattle.sw_circles.specs.Circles.{AreCirclesOf, GoesOn, arrives, channel_at, channels_at, is_end, with_deleted, AreCircles}
use Rattle.sw_circles.specs.Circlings.{CirclingView, IsCirclingOf, told_of, AreCirclings}
use Rattle.sw_circles.specs.Laws.{Arrives, ArrivesInWords, CanComeBack, CirclesAreDetermined, CirclesAreWherePacketsComeBack, CirclesClose, CirclingsAreDetermined, GoesOnWith, Leads, ToldInWords}
use Rattle.sw_circles.specs.Laws.Leads.{one, more}
use Rattle.sw_circles.proofs.OneList.{chain_of, one_list_of_components, seen}
use Rattle.sw_circles.proofs.Told.{alike_in_order, number_is}

-- ---- places with so many deleted bytes

still_there : {X : Type 0} (p : X → Bool) (xs : List X) (x : X) → Contains (filter p xs) x → Contains xs x
still_there p xs x there = All-contains (Contains xs) (filter p xs) x (All-filter p (Contains xs) xs (All-contains_itself xs)) there

passes : {X : Type 0} (p : X → Bool) (xs : List X) (x : X) → Contains (filter p xs) x → p x ≡ true
passes p xs x there = All-contains (λ y. p y ≡ true) (filter p xs) x (filter_passes p xs) there

stays : {X : Type 0} (p : X → Bool) (xs : List X) (x : X) → Contains xs x → p x ≡ true → Contains (filter p xs) x
stays p [] x there is = absurd (omega (arith, there.1))
stays {X} p (y ∷ ys) x there is = by (Contains-cases y x ys there) (p y) refl (λ later. stays p ys x later is)
  where
    by : (y ≡ x) ⊎ Contains ys x → (b : Bool) → p y ≡ b → (Contains ys x → Contains (filter p ys) x) → Contains (filter p (y ∷ ys)) x
    by (inl same) true h rest = rw h (subst (λ z. Contains (y ∷ filter p ys) z) same (Contains-head y (filter p ys)))
    by (inl same) false h rest = absurd (false≢true (sym h ∙ ap p same ∙ is))
    by (inr later) true h rest = rw h (Contains-later y x (filter p ys) (rest later))
    by (inr later) false h rest = rw h (rest later)

pub Contains-at : {X : Type 0} (xs : List X) (i : ℕ) (x : X) → slice_get xs i ≡ Some x → Contains xs x
Contains-at xs i x is = (i, slice_get_within xs i x is, get_or_from_slice_get xs i x x is)

no_fewer : (d : Declaration) (f : FlowEntry) (c k e m : ℕ) → Follows d f c k e m → k ≤ m
no_fewer d f c k e m step = by (look_after d f step.switch k).delete step.deleted
  where
    by : (delete : Bool) → m ≡ (if delete then k + 1 else k) → k ≤ m
    by true is = omega (arith, is)
    by false is = omega (arith, is)

module _ (d : Declaration) (f : FlowEntry) (places : List Place) (list : IsPlaceList d f places) (k : ℕ) where
  abbrev alike : List Place
  alike = with_deleted k places

  is_alike : (i : ℕ) (p : Place) → slice_get alike i ≡ Some p → (p.deleted ≡ k) × IsPlace d f p.channel k
  is_alike i p is =
      let there = Contains-at alike i p is in
      let same : p.deleted ≡ k = eqb-true p.deleted k (passes (λ q. q.deleted == k) places p there) in
      (same, subst (IsPlace d f p.channel) same ((list.member p).0 (still_there (λ q. q.deleted == k) places p there)))

  abbrev With : ℕ → ℕ → Type 0
  With = GoesOnWith d f k

  abbrev chan : ℕ → ℕ
  chan i = unwrap_or (channel_at alike i) 0

  chan_is : (i : ℕ) (p : Place) → slice_get alike i ≡ Some p → channel_at alike i ≡ Some p.channel
  chan_is i p is = ap (option_map (λ q. q.channel)) is

  carried : (i j : ℕ) → GoesOn d f alike i j → With (chan i) (chan j)
  carried i j goes =
      let from = is_alike i goes.from goes.from_is in
      let to = is_alike j goes.to goes.to_is in
      let at_i : chan i ≡ goes.from.channel = ap (λ o. unwrap_or o 0) (chan_is i goes.from goes.from_is) in
      let at_j : chan j ≡ goes.to.channel = ap (λ o. unwrap_or o 0) (chan_is j goes.to goes.to_is) in
      rw (at_i, at_j) (from.1, subst (λ m. Follows d f goes.from.channel k goes.to.channel m) to.0 (subst (λ m. Follows d f goes.from.channel m goes.to.channel goes.to.deleted) from.0 goes.step))

  -- what goes on or comes is a place
  known : (i : ℕ) (p : Place) → slice_get alike i ≡ Some p → channel_at alike i ≡ Some (chan i)
  known i p is = chan_is i p is ∙ ap Some (sym (ap (λ o. unwrap_or o 0) (chan_is i p is)))

  chained : (c : ℕ) (cs : List ℕ) (e : ℕ) → IsChain (GoesOn d f alike) c cs e → IsChain With (chan c) (channels_at alike cs) (chan e)
  chained c [] e goes = carried c e goes
  chained c (b ∷ bs) e goes =
      rw (known b goes.0.to goes.0.to_is) (carried c b goes.0, chained b bs e goes.1)

  closed : (cycle : List ℕ) → IsCycle (GoesOn d f alike) cycle → IsCycle With (channels_at alike cycle)
  closed [] is = absurd is
  closed (c ∷ cs) is = rw (known c (first cs is).0 (first cs is).1) (chained c cs c is)
    where
      first : (cs : List ℕ) → IsChain (GoesOn d f alike) c cs c → (p : Place) × (slice_get alike c ≡ Some p)
      first [] goes = (goes.from, goes.from_is)
      first (b ∷ bs) goes = (goes.0.from, goes.0.from_is)

  -- every circle of these places closes
  of_all : (components : List Component) → All (IsComponent (GoesOn d f alike)) components → All (IsCycle With) (map (λ c. channels_at alike c.cycle.items) components)
  of_all [] each = λ i e lt. absurd (omega (arith, lt))
  of_all (p ∷ ps) each =
      All-cons (IsCycle With) (channels_at alike p.cycle.items) (map (λ c. channels_at alike c.cycle.items) ps)
      (closed p.cycle.items (each 0 p (omega arith)).shortest.closed)
      (of_all ps (λ j q within. each (suc j) q (omega (arith, within))))

  pub all_close : (circles : List (List ℕ)) → AreCirclesOf d f alike circles → All (IsCycle With) circles
  all_close circles are = subst (All (IsCycle With)) (sym are.told) (of_all are.components are.are.each)

-- ---- what is told of the whole flow

-- what holds of each circle of each count holds of each circle
each_of : (d : Declaration) (f : FlowEntry) (places : List Place) → IsPlaceList d f places → (ks : List ℕ) (each : List (List (List ℕ)))
    → AllZip (λ k. AreCirclesOf d f (with_deleted k places)) ks each → All (λ circle. (k : ℕ) × IsCycle (GoesOnWith d f k) circle) (flat_map (λ c. c) each)
each_of d f places list [] [] all = λ i e lt. absurd (omega (arith, lt))
each_of d f places list [] (m ∷ ms) all = absurd all
each_of d f places list (k ∷ ks) [] all = absurd all
each_of d f places list (k ∷ ks) (m ∷ ms) all =
    All-append (λ circle. (j : ℕ) × IsCycle (GoesOnWith d f j) circle) m (flat_map (λ c. c) ms)
    (λ i e lt. (k, all_close d f places list k m all.0 i e lt))
    (each_of d f places list ks ms all.1)

pub circles_close : CirclesClose
circles_close d f circles are =
    subst (All (λ circle. (k : ℕ) × IsCycle (GoesOnWith d f k) circle)) (sym are.told) (each_of d f are.places are.list (range_with_len 0 (length f.address)) are.each are.of_each)

-- ---- where packets come back

module _ (d : Declaration) (f : FlowEntry) (places : List Place) (list : IsPlaceList d f places) (k : ℕ) where
  abbrev these : List Place
  these = with_deleted k places

  abbrev on : ℕ → Place
  on c = record { channel = c; deleted = k }

  -- a place has a number
  numbered : (c : ℕ) → IsPlace d f c k → (i : ℕ) × (slice_get these i ≡ Some (on c))
  numbered c place =
      let there : Contains these (on c) = stays (λ q. q.deleted == k) places (on c) ((list.member (on c)).1 place) (eq-eqb k k refl) in
      (there.0, slice_get-get_or these there.0 (on c) there.1 ∙ ap Some there.2)

  -- and only one
  one_number : (i j : ℕ) (p : Place) → slice_get these i ≡ Some p → slice_get these j ≡ Some p → i ≡ j
  one_number i j p at_i at_j =
      let order : AllPairs IsBefore these = alike_in_order k places list.in_order in
      same_Some i j (sym (number_is these i p order at_i) ∙ number_is these j p order at_j)

  pub record Walked (c e : ℕ) : Type 0 where
    pub place : IsPlace d f e k
    pub from : ℕ
    pub to : ℕ
    pub from_is : slice_get these from ≡ Some (on c)
    pub to_is : slice_get these to ≡ Some (on e)
    pub leads : LeadsTo (GoesOn d f these) from to

  fewest : (c j e m : ℕ) → Leads d f c j e m → j ≤ m
  fewest c j e m (one step) = no_fewer d f c j e m step
  fewest c j e m (more {b = b} {j = i} h step) = omega (arith, fewest c j b i h, no_fewer d f b i e m step)

  walked : (c j e m : ℕ) → IsPlace d f c j → Leads d f c j e m → j ≡ k → m ≡ k → Walked c e
  walked c j e m place (one step) from to =
      let here : IsPlace d f c k = subst (IsPlace d f c) from place in
      let goes : Follows d f c k e k = subst (λ n. Follows d f c k e n) to (subst (λ n. Follows d f c n e m) from step) in
      let there : IsPlace d f e k = next here goes in
      let i = numbered c here in
      let at = numbered e there in
      record {
        place = there;
        from = i.0;
        to = at.0;
        from_is = i.1;
        to_is = at.1;
        leads = (0, (i.0, refl, record { from = on c; to = on e; from_is = i.1; to_is = at.1; step = goes }));
      }
  walked c j e m place (more {b = b} {j = i} h step) from to =
      let between : i ≡ k = omega (arith, fewest c j b i h, no_fewer d f b i e m step, from, to) in
      let before = walked c j b i place h from between in
      let goes : Follows d f b k e k = subst (λ n. Follows d f b k e n) to (subst (λ n. Follows d f b n e m) between step) in
      let there : IsPlace d f e k = next before.place goes in
      let at = numbered e there in
      record {
        place = there;
        from = before.from;
        to = at.0;
        from_is = before.from_is;
        to_is = at.1;
        leads = (suc before.leads.0, (before.to, before.leads.1, record { from = on b; to = on e; from_is = before.to_is; to_is = at.1; step = goes }));
      }

  pub no_circle : (circles : List (List ℕ)) → AreCirclesOf d f these circles → circles ≡ [] → (c : ℕ) → IsPlace d f c k → Leads d f c k c k → ⊥
  no_circle circles are none c place leads =
      let way = walked c k c k place leads refl refl in
      let same : way.to ≡ way.from = one_number way.to way.from (on c) way.to_is way.from_is in
      let found = are.are.every way.from (subst (λ i. LeadsTo (GoesOn d f these) way.from i) same way.leads) in
      some are.components found.0 found.1 (sym are.told ∙ none)
    where
      some : (components : List Component) (p : Component) → Contains components p → map (λ (it : Component). channels_at these it.cycle.items) components ≡ [] → ⊥
      some [] p there is = absurd (omega (arith, there.1))
      some (q ∷ qs) p there is = cc

  -- from one number on to another packets go from the one place to the other
  gone : (n i j : ℕ) → Chain (GoesOn d f these) (suc n) i j → (p q : Place) × (slice_get these i ≡ Some p) × (slice_get these j ≡ Some q) × Leads d f p.channel p.deleted q.channel q.deleted
  gone zero i j way =
      let goes : GoesOn d f these i j = subst (λ b. GoesOn d f these b j) (sym way.1) way.2 in
      (goes.from, goes.to, goes.from_is, goes.to_is, one goes.step)
  gone (suc n) i j way =
      let before = gone n i way.0 way.1 in
      let goes : GoesOn d f these way.0 j = way.2 in
      let same : before.1 ≡ goes.from = same_Some before.1 goes.from (sym before.3 ∙ goes.from_is) in
      (before.0, goes.to, before.2, goes.to_is, more (subst (λ (q : Place). Leads d f before.0.channel before.0.deleted q.channel q.deleted) same before.4) goes.step)

  pub none_told : (circles : List (List ℕ)) → AreCirclesOf d f these circles → (CanComeBack d f → ⊥) → circles ≡ []
  none_told circles are never = are.told ∙ by are.components are.are.each
    where
      on_cycle : (cycle : List ℕ) → IsCycle (GoesOn d f these) cycle → ⊥
      on_cycle [] is = is
      on_cycle (c ∷ cs) is =
          let way = gone (length cs) c c (chain_of (GoesOn d f these) c cs c is) in
          let same : way.1 ≡ way.0 = same_Some way.1 way.0 (sym way.3 ∙ way.2) in
          let there = is_alike d f places list k c way.0 way.2 in
          never (record {
            channel = way.0.channel;
            deleted = way.0.deleted;
            place = subst (IsPlace d f way.0.channel) (sym there.0) there.1;
            back = subst (λ (q : Place). Leads d f way.0.channel way.0.deleted q.channel q.deleted) same way.4;
          })

      by : (components : List Component) → All (IsComponent (GoesOn d f these)) components → map (λ (it : Component). channels_at these it.cycle.items) components ≡ []
      by [] each = refl
      by (p ∷ ps) each = absurd (on_cycle p.cycle.items (each 0 p (omega arith)).shortest.closed)

none_of : (d : Declaration) (f : FlowEntry) (places : List Place) → IsPlaceList d f places → (CanComeBack d f → ⊥) → (ks : List ℕ) (each : List (List (List ℕ)))
    → AllZip (λ k. AreCirclesOf d f (with_deleted k places)) ks each → flat_map (λ c. c) each ≡ []
none_of d f places list never [] [] all = refl
none_of d f places list never [] (m ∷ ms) all = absurd all
none_of d f places list never (k ∷ ks) [] all = absurd all
none_of d f places list never (k ∷ ks) (m ∷ ms) all =
    rw (none_told d f places list k m all.0 never) (none_of d f places list never ks ms all.1)

empty : {X : Type 0} (xs ys : List X) → xs ++ ys ≡ [] → (xs ≡ []) × (ys ≡ [])
empty [] ys is = (refl, is)
empty (x ∷ xs) ys is = cc

of_count : (d : Declaration) (f : FlowEntry) (places : List Place) (ks : List ℕ) (each : List (List (List ℕ)))
    → AllZip (λ k. AreCirclesOf d f (with_deleted k places)) ks each → flat_map (λ c. c) each ≡ [] → (k : ℕ) → Contains ks k
    → (m : List (List ℕ)) × AreCirclesOf d f (with_deleted k places) m × (m ≡ [])
of_count d f places [] each all none k there = absurd (omega (arith, there.1))
of_count d f places (j ∷ ks) [] all none k there = absurd all
of_count d f places (j ∷ ks) (m ∷ ms) all none k there = by (Contains-cases j k ks there) (of_count d f places ks ms all.1 (empty m (flat_map (λ c. c) ms) none).1 k)
  where
    by : (j ≡ k) ⊎ Contains ks k → (Contains ks k → (m : List (List ℕ)) × AreCirclesOf d f (with_deleted k places) m × (m ≡ [])) → (m : List (List ℕ)) × AreCirclesOf d f (with_deleted k places) m × (m ≡ [])
    by (inl same) rest = (m, subst (λ n. AreCirclesOf d f (with_deleted n places) m) same all.0, (empty m (flat_map (λ c. c) ms) none).0)
    by (inr later) rest = rest later

left_of : (d : Declaration) (f : FlowEntry) (c k e m : ℕ) → Leads d f c k e m → k < length f.address
left_of d f c k e m (one step) = step.bytes_left
left_of d f c k e m (more {b = b} {j = j} h step) = left_of d f c k b j h

pub circles_are_where : CirclesAreWherePacketsComeBack
circles_are_where d f circles are = (
  λ none back.
      let told = of_count d f are.places (range_with_len 0 (length f.address)) are.each are.of_each (sym are.told ∙ none) back.deleted
      (in_range (length f.address) back.deleted (left_of d f back.channel back.deleted back.channel back.deleted back.back)) in
      no_circle d f are.places are.list back.deleted told.0 told.1 told.2 back.channel back.place back.back,
  λ never. are.told ∙ none_of d f are.places are.list never (range_with_len 0 (length f.address)) are.each are.of_each,
)

-- ---- where packets arrive

or_true : (b : Bool) → (b || true) ≡ true
or_true true = refl
or_true false = refl

node_is : (d : Declaration) (f : FlowEntry) (p : Place) → is_end d f p ≡ true → end_of d p.channel ≡ Some (Node f.to)
node_is d f p is = by (end_of d p.channel) is
  where
    by : (o : Option PlaceEnd) → option_map_or (is_node f.to) o false ≡ true → o ≡ Some (Node f.to)
    by None h = absurd (false≢true h)
    by (Some (Node n)) h = ap (λ m. Some (Node m)) (eqb-true n f.to h)
    by (Some (Switch s p)) h = absurd (false≢true h)

arrives_at : (d : Declaration) (f : FlowEntry) (places : List Place) → arrives d f places ≡ true → (p : Place) × Contains places p × (is_end d f p ≡ true)
arrives_at d f [] is = absurd (false≢true is)
arrives_at d f (p ∷ ps) is = by (is_end d f p) refl is (arrives_at d f ps)
  where
    by : (b : Bool) → is_end d f p ≡ b → (b || arrives d f ps) ≡ true → (arrives d f ps ≡ true → (q : Place) × Contains ps q × (is_end d f q ≡ true)) → (q : Place) × Contains (p ∷ ps) q × (is_end d f q ≡ true)
    by true h all rest = (p, Contains-head p ps, h)
    by false h all rest = let later = rest all in (later.0, Contains-later p later.0 ps later.1, later.2)

at_arrives : (d : Declaration) (f : FlowEntry) (places : List Place) (p : Place) → Contains places p → is_end d f p ≡ true → arrives d f places ≡ true
at_arrives d f [] p there is = absurd (omega (arith, there.1))
at_arrives d f (q ∷ ps) p there is = by (Contains-cases q p ps there) (λ later. at_arrives d f ps p later is)
  where
    by : (q ≡ p) ⊎ Contains ps p → (Contains ps p → arrives d f ps ≡ true) → arrives d f (q ∷ ps) ≡ true
    by (inl same) rest = rw (ap (is_end d f) same ∙ is) refl
    by (inr later) rest = rw (rest later) (or_true (is_end d f q))

pub arrives_in_words : ArrivesInWords
arrives_in_words d f places list = (
  λ yes.
      let at = arrives_at d f places yes in
      record { channel = at.0.channel; deleted = at.0.deleted; place = (list.member at.0).0 at.1; ends = node_is d f at.0 at.2 },
  λ at.
      let p : Place = record { channel = at.channel; deleted = at.deleted } in
      at_arrives d f places p ((list.member p).1 at.place) (ap (λ o. option_map_or (is_node f.to) o false) at.ends ∙ eq-eqb f.to f.to refl),
)

-- ---- one value

told_once : (d : Declaration) (f : FlowEntry) (places : List Place) (a b : List (List ℕ)) → AreCirclesOf d f places a → AreCirclesOf d f places b → a ≡ b
told_once d f places a b h k =
    h.told ∙ by_seen h.components
    ∙ ap (map (λ (v : List ℕ × List ℕ). channels_at places v.1)) (one_list_of_components (GoesOn d f places) h.components k.components h.are k.are)
    ∙ sym (by_seen k.components) ∙ sym k.told
  where
    by_seen : (components : List Component) → map (λ (c : Component). channels_at places c.cycle.items) components ≡ map (λ (v : List ℕ × List ℕ). channels_at places v.1) (map seen components)
    by_seen [] = refl
    by_seen (p ∷ ps) = let rest = by_seen ps in λ i. channels_at places p.cycle.items ∷ rest i

same_each : (d : Declaration) (f : FlowEntry) (places other : List Place) → places ≡ other → (ks : List ℕ) (a b : List (List (List ℕ)))
    → AllZip (λ k. AreCirclesOf d f (with_deleted k places)) ks a → AllZip (λ k. AreCirclesOf d f (with_deleted k other)) ks b → a ≡ b
same_each d f places other same [] [] [] h k = refl
same_each d f places other same [] [] (y ∷ b) h k = absurd k
same_each d f places other same [] (x ∷ a) b h k = absurd h
same_each d f places other same (n ∷ ks) [] b h k = absurd h
same_each d f places other same (n ∷ ks) (x ∷ a) [] h k = absurd k
same_each d f places other same (n ∷ ks) (x ∷ a) (y ∷ b) h k =
    let first : x ≡ y = told_once d f (with_deleted n places) x y h.0 (subst (λ them. AreCirclesOf d f (with_deleted n them) y) (sym same) k.0) in
    let rest : a ≡ b = same_each d f places other same ks a b h.1 k.1 in
    λ i. first i ∷ rest i

pub circles_are_determined : CirclesAreDetermined
circles_are_determined d f told other h k =
    h.told ∙ ap (flat_map (λ c. c)) (same_each d f h.places k.places (same_places d f h.places k.places h.list k.list) (range_with_len 0 (length f.address)) h.each k.each h.of_each k.of_each) ∙ sym k.told

-- ---- what is told of flows

none_is_told : (flow : ℕ) (circles : List (List ℕ)) (arrives : Bool) → told_of flow circles arrives ≡ None → (circles ≡ []) × (arrives ≡ true)
none_is_told flow [] true is = (refl, refl)
none_is_told flow [] false is = absurd (none-some _ (sym is))
none_is_told flow (c ∷ cs) arrives is = absurd (none-some _ (sym is))

pub told_in_words : ToldInWords
told_in_words d flow f told here is =
    let same : is.entry ≡ f = same_Some is.entry f (sym is.numbered ∙ here) in
    subst (λ g. told ≡ None ↔ ((CanComeBack d g → ⊥) × Arrives d g)) same (
      λ none.
          let both = none_is_told flow is.circles (arrives d is.entry is.places) (sym is.told_is ∙ none) in
          ((circles_are_where d is.entry is.circles is.are).0 both.0, (arrives_in_words d is.entry is.places is.list).0 both.1),
      λ both.
          let no_circles = (circles_are_where d is.entry is.circles is.are).1 both.0 in
          let arrived = (arrives_in_words d is.entry is.places is.list).1 both.1 in
          is.told_is ∙ ap (λ them. told_of flow them (arrives d is.entry is.places)) no_circles ∙ ap (told_of flow []) arrived,
    )

pub one_told : (d : Declaration) (flow : ℕ) (a b : Option CirclingView) → IsCirclingOf d flow a → IsCirclingOf d flow b → a ≡ b
one_told d flow a b h k =
    let entry : h.entry ≡ k.entry = same_Some h.entry k.entry (sym h.numbered ∙ k.numbered) in
    let list : IsPlaceList d h.entry k.places = subst (λ f. IsPlaceList d f k.places) (sym entry) k.list in
    let places : h.places ≡ k.places = same_places d h.entry h.places k.places h.list list in
    let are : AreCircles d h.entry k.circles = subst (λ f. AreCircles d f k.circles) (sym entry) k.are in
    let circles : h.circles ≡ k.circles = circles_are_determined d h.entry h.circles k.circles h.are are in
    h.told_is
    ∙ ap (λ them. told_of flow them (arrives d h.entry h.places)) circles
    ∙ ap (λ them. told_of flow k.circles (arrives d h.entry them)) places
    ∙ ap (λ f. told_of flow k.circles (arrives d f k.places)) entry
    ∙ sym k.told_is

all_told : (d : Declaration) (flows : List ℕ) (a b : List (Option CirclingView)) → AllZip (IsCirclingOf d) flows a → AllZip (IsCirclingOf d) flows b → a ≡ b
all_told d [] [] [] h k = refl
all_told d [] [] (y ∷ b) h k = absurd k
all_told d [] (x ∷ a) b h k = absurd h
all_told d (n ∷ flows) [] b h k = absurd h
all_told d (n ∷ flows) (x ∷ a) [] h k = absurd k
all_told d (n ∷ flows) (x ∷ a) (y ∷ b) h k =
    let first : x ≡ y = one_told d n x y h.0 k.0 in
    let rest : a ≡ b = all_told d flows a b h.1 k.1 in
    λ i. first i ∷ rest i

pub circlings_are_determined : CirclingsAreDetermined
circlings_are_determined d told other h k =
    h.told_is ∙ ap (filter_map (λ o. o)) (all_told d (range_with_len 0 (length (all_flows d))) h.each k.each h.of_each k.of_each) ∙ sym k.told_is

-- ---- channels of circles

from_within : (R : ℕ → ℕ → Type 0) (n : ℕ) → ((c e : ℕ) → R c e → c < n) → (c : ℕ) (cs : List ℕ) (e : ℕ) → IsChain R c cs e → All (λ x. x < n) (c ∷ cs)
from_within R n low c [] e goes = All-cons (λ x. x < n) c [] (low c e goes) (λ i d lt. absurd (omega (arith, lt)))
from_within R n low c (b ∷ bs) e goes = All-cons (λ x. x < n) c (b ∷ bs) (low c b goes.0) (from_within R n low b bs e goes.1)

cycle_within : (R : ℕ → ℕ → Type 0) (n : ℕ) → ((c e : ℕ) → R c e → c < n) → (cycle : List ℕ) → IsCycle R cycle → All (λ x. x < n) cycle
cycle_within R n low [] is = absurd is
cycle_within R n low (c ∷ cs) is = from_within R n low c cs c is

channels_within : (d : Declaration) (f : FlowEntry) (circles : List (List ℕ)) → AreCircles d f circles → All (All (λ channel. channel < length (ends_of d))) circles
channels_within d f circles are i none lt =
    let closed = circles_close d f circles are i none lt in
    cycle_within (GoesOnWith d f closed.0) (length (ends_of d)) (λ c e goes. (places_are_in d f c closed.0 goes.0).0) (get_or circles i none) closed.1

-- the circles that are told go over channels of the network
abbrev pub IsWithin : Declaration → CirclingView → Type 0
IsWithin d c = All (All (λ channel. channel < length (ends_of d))) c.circles

pub one_within : (d : Declaration) (flow : ℕ) (told : Option CirclingView) → IsCirclingOf d flow told → IfSome told (IsWithin d)
one_within d flow told is = subst (λ o. IfSome o (IsWithin d)) (sym is.told_is) (by is.circles (arrives d is.entry is.places) (channels_within d is.entry is.circles is.are))
  where
    by : (circles : List (List ℕ)) (arrives : Bool) → All (All (λ channel. channel < length (ends_of d))) circles → IfSome (told_of flow circles arrives) (IsWithin d)
    by [] true all = tt
    by [] false all = all
    by (c ∷ cs) arrives all = all

each_within : (d : Declaration) (flows : List ℕ) (each : List (Option CirclingView)) → AllZip (IsCirclingOf d) flows each → All (IsWithin d) (filter_map (λ o. o) each)
each_within d [] [] all = λ i c lt. absurd (omega (arith, lt))
each_within d [] (o ∷ each) all = absurd all
each_within d (n ∷ flows) [] all = absurd all
each_within d (n ∷ flows) (None ∷ each) all = each_within d flows each all.1
each_within d (n ∷ flows) (Some c ∷ each) all = All-cons (IsWithin d) c (filter_map (λ o. o) each) (one_within d n (Some c) all.0) (each_within d flows each all.1)

pub all_within : (d : Declaration) (told : List CirclingView) → AreCirclings d told → All (IsWithin d) told
all_within d told are = subst (All (IsWithin d)) (sym are.told_is) (each_within d (range_with_len 0 (length (all_flows d))) are.each are.of_each)
