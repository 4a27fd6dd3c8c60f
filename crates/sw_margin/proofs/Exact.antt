-- Where a reply without a limit goes back over the links of a flow's way, the network is free with it only where it stays free with its waits.
use Rattle.std.proofs.Common.{◌≡◌, ◌≢◌, ℕ, ◌+◌, ◌<◌, ◌==◌, ◌&&◌, ◌||◌, ◌⊎◌, Bool, true, false, List, [], ◌∷◌, ◌++◌, filter, length, map, get_or, AllPairs, Contains, Option, Some, None, option_map, refl, sym, ap, ◌∙◌, subst, inl, inr, arith, append_assoc, eq-eqb, length-append, ltb-true, eqb-true}
use Rattle.std.specs.Prelude.{is_some, nat_lt, not, slice_get, unwrap_or, if◌then◌else◌}
use Rattle.std.specs.List.{list_any, range_with_len}
use Rattle.std.specs.Option.{option_map_or}
use Rattle.std.proofs.lemmas.Bool.{and_parts, cases_Bool, cases_eq, cases_lt}
use Rattle.std.proofs.lemmas.List.{get_or-map, length-map, map-append, same_from_push}
use Rattle.std.proofs.lemmas.List.FromFn.{get_or-map-range_with_len, length-map-range_with_len}
use Rattle.std.proofs.lemmas.List.Elements.{All-contains, Contains-append_cases, Contains-append_left, Contains-append_right, Contains-get_or, filter-append}
use Rattle.std.proofs.lemmas.List.Sums.{AllPass-from_list_all, list_all-from_AllPass}
use Rattle.std.proofs.lemmas.Option.{get_or_from_slice_get, same_Some, slice_get_within}
use Rattle.sw_topo.specs.Wiring.{out, partner}
use Rattle.sw_topo.proofs.Ends.{node_only, partner_back, port_starts}
use Rattle.sw_topo.proofs.Lists.{none_in}
use Rattle.sw_rmap.specs.Targets.{slots_of}
use Rattle.sw_config.specs.PlaceEnd.TheVariants.{Node, Switch}
use Rattle.sw_config.specs.Entries.{FlowEntry, ReplyEntry, Declaration, all_flows, is_answered_at, is_answering, replies_of, reply_flow, reply_flows, target_of, wiring_of}
use Rattle.sw_config.specs.Limits.{all_limited_at, always_takes, commands_from, flow_outstanding, is_limited, lesser, limit_at, limit_from, sum_of_limits}
use Rattle.sw_config.specs.Valid.{IsFlow, IsValid}
use Rattle.sw_config.proofs.Flows.{All-at, slice_get-append_right}
use Rattle.sw_config.proofs.FlowLaws.{valid_flows}
use Rattle.sw_flow.specs.declared.place.Place.{Place}
use Rattle.sw_flow.specs.Faults.{IsWellRouted}
use Rattle.sw_flow.specs.Places.{ends_of, end_of, IsPlace}
use Rattle.sw_flow.specs.Places.IsPlace.{start, next}
use Rattle.sw_flow.specs.Ways.{GoesOver}
use Rattle.sw_flow.proofs.Faulty.{faultless_go_on}
use Rattle.sw_flow.proofs.Listed.{Contains-cases, Contains-head, Contains-later, Contains-map}
use Rattle.sw_machine.specs.Network.{Flow}
use Rattle.sw_machine.specs.Places.{AlwaysTakes}
use Rattle.sw_machine.specs.Places.IsDependency.{ByFlow, ByTarget}
use Rattle.sw_machine.specs.Model.{flow_of, network_of, reply_number}
use Rattle.sw_machine.proofs.AlwaysTaking.{always_takes_agrees}
use Rattle.sw_machine.proofs.Flows.{some_at}
use Rattle.sw_machine.proofs.Steps.{steps_agree}
use Rattle.sw_graph.specs.Levels.{HasCycle}
use Rattle.sw_graph.proofs.Transfers.{cycle_map}
use Rattle.sw_search.specs.Laws.{RoutedAndFree}
use Rattle.sw_search.specs.Verdicts.{AllWellRouted, depends}
use Rattle.sw_margin.specs.Answers.{GoesBackOverFirst, GoesOnTo, IsUnlimited, with_reply}
use Rattle.sw_margin.specs.Bends.{answered, answering, is_just_enough, stall, start_on, way_of, with_replies}
use Rattle.sw_margin.specs.Laws.{UnlimitedAnswersAreExact}
use Rattle.sw_margin.specs.Waits.{StaysFree, WaitsWith}
use Rattle.sw_margin.specs.Ways.{ComesLast, ComesNext, IsWholeWay}
use Rattle.sw_margin.proofs.Back.{waits_go_back}
use Rattle.sw_margin.proofs.Replied.{answered_along_its_first_way_is_free, answered_there, elsewhere, either_passes, back_place, goes_back, routed_kept, step_kept, flow_is, flow_there, into_is, one_or_other, out_is, replaced, same_limit, takes, takes_too}
use Rattle.sw_margin.proofs.Whole.{OnTheWay, flow_count, is_whole_way, on_the_way, place_in, steps_depend}

-- ---- lists

module _ {X : Type 0} where
  a_passing : (test : X → Bool) (xs : List X) → list_any test xs ≡ true → (x : X) × Contains xs x × (test x ≡ true)
  a_passing test [] some = absurd cc
  a_passing test (x ∷ xs) some = by (cases_Bool (test x)) (a_passing test xs)
    where
      by : (test x ≡ true) ⊎ (test x ≡ false) → (list_any test xs ≡ true → (y : X) × Contains xs y × (test y ≡ true)) → (y : X) × Contains (x ∷ xs) y × (test y ≡ true)
      by (inl passes) rest = (x, Contains-head x xs, passes)
      by (inr fails) rest =
          let later = rest (ap (λ (b : Bool). b || list_any test xs) (sym fails) ∙ some) in
          (later.0, Contains-later x later.0 xs later.1, later.2)

-- where one is no limit, so is the sum
no_sum : (limits : List (Option ℕ)) → Contains limits None → sum_of_limits limits ≡ None
no_sum [] h = absurd (none_in None h)
no_sum (None ∷ limits) h = refl
no_sum (Some l ∷ limits) h = by (Contains-cases (Some l) None limits h) (no_sum limits)
  where
    by : (Some l ≡ None) ⊎ Contains limits None → (Contains limits None → sum_of_limits limits ≡ None) → sum_of_limits (Some l ∷ limits) ≡ None
    by (inl bad) rest = absurd cc
    by (inr later) rest = ap (λ (s : Option ℕ). option_map (λ m. l + m) s) (rest later)

-- in a list without repetition an element is at one place
module _ (xs : List ℕ) (once : AllPairs (λ x y. x ≢ y) xs) where
  not_before : (i j x : ℕ) → slice_get xs i ≡ Some x → slice_get xs j ≡ Some x → i < j → ⊥
  not_before i j x here there lt =
      once i j x lt (slice_get_within xs j x there) (get_or_from_slice_get xs i x x here ∙ sym (get_or_from_slice_get xs j x x there))

  one_place : (i j x : ℕ) → slice_get xs i ≡ Some x → slice_get xs j ≡ Some x → i ≡ j
  one_place i j x here there = elim (cases_lt i j) [
    | inl lt ↦ absurd (not_before i j x here there lt)
    | inr low ↦ elim (cases_lt j i) [ inl lt ↦ absurd (not_before j i x there here lt) | inr high ↦ omega (arith, low, high) ]
  ]

  -- one comes before it
  one_before : (x y z : ℕ) → ComesNext xs x z → ComesNext xs y z → x ≡ y
  one_before x y z a b =
      let at : (c : ComesNext xs x z) → slice_get xs (length c.before + 1) ≡ Some z = λ c.
      ap (λ (l : List ℕ). slice_get l (length c.before + 1)) c.listed ∙ slice_get-append_right c.before (x ∷ z ∷ c.after) 1 in
      let same : length a.before + 1 ≡ length b.before + 1 =
      one_place (length a.before + 1) (length b.before + 1) z (at a) (ap (λ (l : List ℕ). slice_get l (length b.before + 1)) b.listed ∙ slice_get-append_right b.before (y ∷ z ∷ b.after) 1) in
      let place : length a.before + 0 ≡ length b.before + 0 = omega (arith, same) in
      same_Some x y
      (sym (ap (λ (l : List ℕ). slice_get l (length a.before + 0)) a.listed ∙ slice_get-append_right a.before (x ∷ z ∷ a.after) 0)
      ∙ ap (slice_get xs) place
      ∙ ap (λ (l : List ℕ). slice_get l (length b.before + 0)) b.listed ∙ slice_get-append_right b.before (y ∷ z ∷ b.after) 0)

-- the channels of places that are on no channel twice
apart_channels : (ps : List Place) → AllPairs (λ p q. p.channel ≢ q.channel) ps → AllPairs (λ x y. x ≢ y) (map (λ (p : Place). p.channel) ps)
apart_channels ps once i j x lt within same =
    let p : Place = record { channel = x; deleted = 0 } in
    let inside : j < length ps = subst (λ (n : ℕ). j < n) (length-map ps (λ (q : Place). q.channel)) within in
    once i j p lt inside (sym (get_or-map (λ (q : Place). q.channel) ps i p x (omega (arith, lt, inside))) ∙ same ∙ get_or-map (λ (q : Place). q.channel) ps j p x inside)

-- ---- channels of a way

module _ (d : Declaration) (f : FlowEntry) where
  abbrev channels : List Place → List ℕ
  channels ps = map (λ (p : Place). p.channel) ps

  -- what comes next starts at a switch
  next_at_switch : (p : Place) (qs : List Place) → GoesOver d f p qs → (before behind : List ℕ) (c e : ℕ) → channels (p ∷ qs) ≡ before ++ c ∷ e ∷ behind
      → (s q : ℕ) × (slice_get (ends_of d) e ≡ Some (Switch s q))
  next_at_switch p [] goes before behind c e is =
      let long : 1 ≡ length (before ++ c ∷ e ∷ behind) = ap (λ (l : List ℕ). length l) is in
      absurd (omega (arith, long, length-append before (c ∷ e ∷ behind)))
  next_at_switch p (q ∷ qs) goes [] behind c e is =
      let same : q.channel ≡ e = cc in
      let step = goes.0 in
      (step.switch, step.named.port, ap (slice_get (ends_of d)) (sym same) ∙ port_starts (wiring_of d) step.switch step.named.port q.channel step.named.linked)
  next_at_switch p (q ∷ qs) goes (b ∷ before) behind c e is =
      let rest : channels (q ∷ qs) ≡ before ++ c ∷ e ∷ behind = cc in
      next_at_switch q qs goes.1 before behind c e rest

-- ---- a network, and the same with a reply of one flow that had none

module _ (d : Declaration) (before behind : List FlowEntry) (f : FlowEntry) (r : ReplyEntry) where
  abbrev g : FlowEntry
  g = record f { reply = Some r }

  abbrev old : Declaration
  old = record d { flows = before ++ f ∷ behind }

  abbrev new : Declaration
  new = record d { flows = before ++ g ∷ behind }

  -- ---- the flows

  replies_there : (front : List FlowEntry) → f.reply ≡ None → (x : FlowEntry) → Contains (reply_flows (front ++ f ∷ behind)) x → Contains (reply_flows (front ++ g ∷ behind)) x
  replies_there [] none x h =
      let later : Contains (reply_flows behind) x = subst (λ (o : Option ReplyEntry). Contains (replies_of f o ++ reply_flows behind) x) none h in
      Contains-later (reply_flow f r) x (reply_flows behind) later
  replies_there (z ∷ front) none x h = by (Contains-append_cases (replies_of z z.reply) (reply_flows (front ++ f ∷ behind)) x h) (replies_there front none x)
    where
      by : Contains (replies_of z z.reply) x ⊎ Contains (reply_flows (front ++ f ∷ behind)) x → (Contains (reply_flows (front ++ f ∷ behind)) x → Contains (reply_flows (front ++ g ∷ behind)) x)
          → Contains (replies_of z z.reply ++ reply_flows (front ++ g ∷ behind)) x
      by (inl early) rest = Contains-append_left (replies_of z z.reply) (reply_flows (front ++ g ∷ behind)) x early
      by (inr late) rest = Contains-append_right (replies_of z z.reply) (reply_flows (front ++ g ∷ behind)) x (rest late)

  all_there : f.reply ≡ None → (x : FlowEntry) → Contains (all_flows old) x → (f ≡ x) ⊎ Contains (all_flows new) x
  all_there none x h = elim (Contains-append_cases (before ++ f ∷ behind) (reply_flows (before ++ f ∷ behind)) x h) [
    | inl declared ↦ elim (one_or_other g f before behind x declared) [
      | inl same ↦ inl same
      | inr kept ↦ inr (Contains-append_left (before ++ g ∷ behind) (reply_flows (before ++ g ∷ behind)) x kept)
    ]
    | inr reply ↦ inr (Contains-append_right (before ++ g ∷ behind) (reply_flows (before ++ g ∷ behind)) x (replies_there before none x reply))
  ]

  reply_in : (front : List FlowEntry) → Contains (reply_flows (front ++ g ∷ behind)) (reply_flow f r)
  reply_in [] = Contains-head (reply_flow f r) (reply_flows behind)
  reply_in (z ∷ front) = Contains-append_right (replies_of z z.reply) (reply_flows (front ++ g ∷ behind)) (reply_flow f r) (reply_in front)

  reply_there : Contains (all_flows new) (reply_flow f r)
  reply_there = Contains-append_right (before ++ g ∷ behind) (reply_flows (before ++ g ∷ behind)) (reply_flow f r) (reply_in before)

  -- ---- limits

  -- at its node there is no limit now
  no_limit : IsUnlimited old f r → f.from < length d.nodes → limit_at new f.to ≡ None
  no_limit free within =
      let commands : List FlowEntry = commands_from new f.from f.to in
      let test : FlowEntry → Bool = λ h. is_answered_at f.to h && h.from == f.from in
      let both : test g ≡ true = λ t. eq-eqb f.to f.to refl t && eq-eqb f.from f.from refl t in
      let cut : commands ≡ filter test before ++ g ∷ filter test behind =
      filter-append test before (g ∷ behind) ∙ ap (λ (b : Bool). filter test before ++ (if b then g ∷ filter test behind else filter test behind)) both in
      let listed : Contains commands g = subst (λ (l : List FlowEntry). Contains l g) (sym cut) (Contains-append_right (filter test before) (g ∷ filter test behind) g (Contains-head g (filter test behind))) in
      let none : Contains (map flow_outstanding commands) None =
      subst (Contains (map flow_outstanding commands)) free.flow (Contains-map flow_outstanding commands g listed) in
      let here : limit_from new f.to f.from ≡ None = ap (λ (o : Option ℕ). lesser o (sum_of_limits (map flow_outstanding commands))) free.node ∙ no_sum (map flow_outstanding commands) none in
      let limits : List (Option ℕ) = map (limit_from new f.to) (range_with_len 0 (length d.nodes)) in
      let among : Contains limits None = (
        f.from,
        subst (λ (n : ℕ). f.from < n) (sym (length-map-range_with_len (limit_from new f.to) 0 (length d.nodes))) within,
        get_or-map-range_with_len (limit_from new f.to) 0 (length d.nodes) f.from f.from None within (omega arith) ∙ here,
      ) in
      either_none (is_answering new f.to) (sum_of_limits limits) (no_sum limits among)
    where
      either_none : (b : Bool) (o : Option ℕ) → o ≡ None → (if b then o else None) ≡ None
      either_none true o none = none
      either_none false o none = refl

  module _ (valid : IsValid old) (valid_new : IsValid new) (routed : AllWellRouted new) (none : f.reply ≡ None) (free : IsUnlimited old f r) where
    starts_within : f.from < length d.nodes
    starts_within =
        let at = place_in (all_flows old) f (flow_there d before behind f r) in
        (All-at (IsFlow d.nodes) (all_flows old) at.0 f at.2 (valid_flows old valid).0).from

    never_there : AlwaysTakes (network_of new) f.to → ⊥
    never_there always =
        let takes_it : always_takes new f.to ≡ true = (always_takes_agrees new f.to).1 always in
        let slots : ℕ = slots_of (target_of d.nodes f.to) in
        let not_so : false ≡ true = ap (takes slots (all_limited_at new f.to)) (sym (no_limit free starts_within)) ∙ takes_it in
        cc

    -- what doesn't always take there didn't before
    never_now : (n : ℕ) → (AlwaysTakes (network_of old) n → ⊥) → AlwaysTakes (network_of new) n → ⊥
    never_now n never always = elim (cases_eq n f.to) [
      | inl there ↦ never_there (subst (AlwaysTakes (network_of new)) there always)
      | inr away ↦
          let slots : ℕ = slots_of (target_of d.nodes n) in
          let takes_it : always_takes new n ≡ true = (always_takes_agrees new n).1 always in
          let limit : limit_at new n ≡ limit_at old n = same_limit d before behind f r n away in
          let passes : FlowEntry → Bool = λ h. not (h.to == n) || is_limited d.nodes h in
          let each : all_limited_at new n ≡ true → (x : FlowEntry) → Contains (all_flows old) x → passes x ≡ true = λ all x h. elim (all_there none x h) [
            | inl same ↦ subst (λ (z : FlowEntry). passes z ≡ true) same (either_passes (f.to == n) (is_limited d.nodes f) (elsewhere d before behind f r n away))
            | inr kept ↦ subst (λ (z : FlowEntry). passes z ≡ true) kept.2 (AllPass-from_list_all passes (all_flows new) all kept.0 x kept.1)
          ] in
          let limited : all_limited_at new n ≡ true → all_limited_at old n ≡ true = λ all.
          list_all-from_AllPass passes (all_flows old) (λ k x lt. each all (get_or (all_flows old) k x) (Contains-get_or (all_flows old) k x lt)) in
          let before_it : always_takes old n ≡ true =
          takes_too slots (all_limited_at new n) (all_limited_at old n) (limit_at old n) limited (ap (takes slots (all_limited_at new n)) (sym limit) ∙ takes_it) in
          never ((always_takes_agrees old n).0 before_it)
    ]

    -- where its replies end, a limit that is just enough is no longer enough
    never_at_start : is_just_enough old f.from ≡ true → AlwaysTakes (network_of new) f.from → ⊥
    never_at_start enough always = elim (cases_eq f.from f.to) [
      | inl there ↦ never_there (subst (AlwaysTakes (network_of new)) there always)
      | inr away ↦
          let slots : ℕ = slots_of (target_of d.nodes f.from) in
          let takes_it : always_takes new f.from ≡ true = (always_takes_agrees new f.from).1 always in
          let limit : limit_at new f.from ≡ limit_at old f.from = same_limit d before behind f r f.from away in
          let passes : FlowEntry → Bool = λ h. not (h.to == f.from) || is_limited d.nodes h in
          let all : all_limited_at new f.from ≡ true = just_enough slots (all_limited_at new f.from) (limit_at old f.from) enough (ap (takes slots (all_limited_at new f.from)) (sym limit) ∙ takes_it) in
          let kept = reply_there in
          let bad : passes (reply_flow f r) ≡ true = subst (λ (z : FlowEntry). passes z ≡ true) kept.2 (AllPass-from_list_all passes (all_flows new) all kept.0 (reply_flow f r) kept.1) in
          let fails : passes (reply_flow f r) ≡ false = λ t. not (eq-eqb f.from f.from refl t) || false in
          let not_so : false ≡ true = sym fails ∙ bad in
          absurd cc
    ]
      where
        by_both : (x y a : Bool) → (y ≡ true → x ≡ true → ⊥) → y ≡ true → (x || y && a) ≡ true → a ≡ true
        by_both true y a apart is h = absurd (apart is refl)
        by_both false true a apart is h = h
        by_both false false a apart is h = absurd cc

        just_enough : (slots : ℕ) (a : Bool) (o : Option ℕ) → option_map_or (λ l. l == slots) o false ≡ true → takes slots a o ≡ true → a ≡ true
        just_enough slots a None enough h = absurd cc
        just_enough slots a (Some l) enough h =
            by_both (nat_lt l slots) (l == slots) a (λ same less. let e = eqb-true l slots same in let lt = ltb-true l slots less in omega (arith, e, lt)) enough h

    -- ---- dependencies

    target_waits : (x : FlowEntry) → Contains (all_flows new) x → (entry : ReplyEntry) → x.reply ≡ Some entry → (AlwaysTakes (network_of new) x.to → ⊥)
        → depends new ((network_of new).into x.to) ((network_of new).out x.to)
    target_waits x kept entry has never =
        let at = place_in (all_flows new) x kept in
        let same : (network_of new).flow at.0 ≡ flow_of (reply_number new at.0) (Some x) = flow_is new at.0 ∙ ap (flow_of (reply_number new at.0)) at.2 in
        let to : ((network_of new).flow at.0).to ≡ x.to = ap (λ (z : Flow). z.to) same in
        let reply : ((network_of new).flow at.0).reply ≡ Some (reply_number new at.0) =
        ap (λ (z : Flow). z.reply) same ∙ ap (option_map (λ (e : ReplyEntry). reply_number new at.0)) has in
        let by : depends new ((network_of new).into ((network_of new).flow at.0).to) ((network_of new).out ((network_of new).flow at.0).to) =
        ByTarget at.0 (reply_number new at.0) (subst (λ (n : ℕ). at.0 < n) (flow_count new) at.1) reply (subst (λ (n : ℕ). AlwaysTakes (network_of new) n → ⊥) (sym to) never) in
        subst (λ (n : ℕ). depends new ((network_of new).into n) ((network_of new).out n)) to by

    flow_waits : (x : FlowEntry) → Contains (all_flows old) x → (c e : ℕ) → GoesOnTo old x c e → depends new c e
    flow_waits x h c e s = elim (all_there none x h) [
      | inl same ↦ steps_depend new g valid_new (answered_there d before behind f r) c e (goes_back d before behind f r f (Some r) c e (subst (λ (z : FlowEntry). GoesOnTo old z c e) (sym same) s))
      | inr kept ↦ steps_depend new x valid_new kept c e (goes_back d before behind f r x x.reply c e s)
    ]

    by_answered : (i j : ℕ) (x : FlowEntry) (o : Option ReplyEntry) → slice_get (all_flows old) i ≡ Some x → x.reply ≡ o → option_map (λ (e : ReplyEntry). reply_number old i) o ≡ Some j
        → (AlwaysTakes (network_of old) x.to → ⊥) → depends new ((network_of new).into x.to) ((network_of new).out x.to)
    by_answered i j x None here has is never = absurd cc
    by_answered i j x (Some entry) here has is never =
        elim (all_there none x (i, slice_get_within (all_flows old) i x here, get_or_from_slice_get (all_flows old) i x x here)) [
          | inl same ↦
              let bad : None ≡ Some entry = sym none ∙ ap (λ (z : FlowEntry). z.reply) same ∙ has in
              absurd cc
          | inr kept ↦ target_waits x kept entry has (never_now x.to never)
        ]

    same_into : (n : ℕ) → (network_of new).into n ≡ (network_of old).into n
    unfolding network_of
    same_into n = refl

    same_out : (n : ℕ) → (network_of new).out n ≡ (network_of old).out n
    unfolding network_of
    same_out n = refl

    both_same : (n c e : ℕ) → depends new ((network_of new).into n) ((network_of new).out n) → (network_of old).into n ≡ c → (network_of old).out n ≡ e → depends new c e
    both_same n c e h into comes_out =
        subst (λ (x : ℕ). depends new x e) (same_into n ∙ into) (subst (depends new ((network_of new).into n)) (same_out n ∙ comes_out) h)

    -- what waited waits still
    still : (c e : ℕ) → depends old c e → depends new c e
    still x y (ByFlow i c k e m lt place step) =
        let h = some_at (all_flows old) i (subst (λ (n : ℕ). i < n) (sym (flow_count old)) lt) in
        let same = steps_agree old valid i h.0 h.1 in
        flow_waits h.0 (i, slice_get_within (all_flows old) i h.0 h.1, get_or_from_slice_get (all_flows old) i h.0 h.0 h.1) c e
        (record { before = k; after = m; place = (same.place c k).0 place; step = (same.step c k e m).0 step })
    still x y (ByTarget i j lt reply never) =
        let h = some_at (all_flows old) i (subst (λ (n : ℕ). i < n) (sym (flow_count old)) lt) in
        let same : (network_of old).flow i ≡ flow_of (reply_number old i) (Some h.0) = flow_is old i ∙ ap (flow_of (reply_number old i)) h.1 in
        let to : ((network_of old).flow i).to ≡ h.0.to = ap (λ (z : Flow). z.to) same in
        let has : option_map (λ (e : ReplyEntry). reply_number old i) h.0.reply ≡ Some j = sym (ap (λ (z : Flow). z.reply) same) ∙ reply in
        let by = by_answered i j h.0 h.0.reply h.1 refl has (subst (λ (n : ℕ). AlwaysTakes (network_of old) n → ⊥) to never) in
        both_same h.0.to ((network_of old).into ((network_of old).flow i).to) ((network_of old).out ((network_of old).flow i).to) by
        (ap (λ (n : ℕ). (network_of old).into n) (sym to)) (ap (λ (n : ℕ). (network_of old).out n) (sym to))

    module _ (back : GoesBackOverFirst old f r) (no_cycle_new : HasCycle (depends new) → ⊥) where
      no_cycle : HasCycle (depends old) → ⊥
      no_cycle round = no_cycle_new (cycle_map (depends old) (depends new) still round)

      there : Contains (all_flows old) f
      there = flow_there d before behind f r

      way : OnTheWay old f
      way = on_the_way old f valid no_cycle there

      abbrev places : List Place
      places = start_on way.channel ∷ way.rest

      abbrev cs : List ℕ
      cs = map (λ (p : Place). p.channel) (way_of old f)

      its : cs ≡ map (λ (p : Place). p.channel) places
      its = ap (map (λ (p : Place). p.channel)) way.way

      apart : AllPairs (λ x y. x ≢ y) cs
      apart = subst (AllPairs (λ x y. x ≢ y)) (sym its) (apart_channels places way.once)

      well : IsWellRouted old f
      well = routed_kept d before behind f r (All-contains (IsWellRouted new) (all_flows new) g routed (answered_there d before behind f r))

      abbrev replies : FlowEntry
      replies = reply_flow f r

      replies_well : IsWellRouted new replies
      replies_well = All-contains (IsWellRouted new) (all_flows new) replies routed reply_there

      -- the channel out of the node is the other channel of the link of the way's last
      out_there : (front : List ℕ) (c : ℕ) → cs ≡ front ++ c ∷ [] → out (ends_of old) f.to ≡ Some (partner c)
      out_there front c is =
          let whole : IsWholeWay old f (way_of old f) = is_whole_way old f valid no_cycle there well in
          let listed : cs ≡ map (λ (p : Place). p.channel) whole.goes.before ++ whole.last.channel ∷ [] =
          ap (map (λ (p : Place). p.channel)) whole.goes.listed ∙ map-append (λ (p : Place). p.channel) whole.goes.before (whole.last ∷ []) in
          let same : whole.last.channel ≡ c = (same_from_push (map (λ (p : Place). p.channel) whole.goes.before) front whole.last.channel c (sym listed ∙ is)).1 in
          let at = place_in (all_flows old) f there in
          let to : IsFlow d.nodes f = All-at (IsFlow d.nodes) (all_flows old) at.0 f at.2 (valid_flows old valid).0 in
          let only = node_only (wiring_of old) valid.sound f.to to.to in
          only.1.first ∙ ap Some (sym (only.1.starts.alone (partner whole.last.channel) whole.arrives)) ∙ ap (λ (x : ℕ). Some (partner x)) same

      -- from the other channel of the later one's link the replies go on to that of the earlier one's
      step_from : (front rest : List ℕ) (c e k : ℕ) → cs ≡ front ++ c ∷ e ∷ rest → IsPlace old replies (partner e) k → GoesOnTo old replies (partner e) (partner c)
      step_from front rest c e k is place =
          let switch = next_at_switch old f (start_on way.channel) way.rest way.over front rest c e (sym its ∙ is) in
          let at : end_of old (partner e) ≡ Some (Switch switch.0 switch.1) = ap (slice_get (ends_of old)) (partner_back e) ∙ switch.2 in
          elim (faultless_go_on new replies (partner e) k (Switch switch.0 switch.1) at (replies_well (partner e) k (back_place d before behind f r replies None (partner e) k place))) [
            | inr node ↦ absurd (let bad : Switch switch.0 switch.1 ≡ Node replies.to = node.0 in cc)
            | inl goes ↦
                let x : ℕ = goes.0 in
                let step : GoesOnTo old replies (partner e) x =
                record { before = k; after = goes.1; place = place; step = step_kept d before behind f r replies None (partner e) k x goes.1 goes.2 } in
                let comes : ComesNext cs (partner x) e = subst (ComesNext cs (partner x)) (partner_back e) (back (partner e) x step) in
                let same : partner x ≡ c = one_before cs apart (partner x) c e comes (record { before = front; after = rest; listed = is }) in
                subst (GoesOnTo old replies (partner e)) (sym (partner_back x) ∙ ap partner same) step
          ]

      -- the replies come over the other channel of each link of the way
      comes_over : (front rest : List ℕ) (c : ℕ) → cs ≡ front ++ c ∷ rest → (k : ℕ) × IsPlace old replies (partner c) k
      comes_over front [] c is = (0, start (out_there front c is))
      comes_over front (e ∷ rest) c is =
          let later = comes_over (front ++ c ∷ []) rest e (is ∙ sym (append_assoc front (c ∷ []) (e ∷ rest))) in
          let step = step_from front rest c e later.0 is later.1 in
          (step.after, next step.place step.step)

      between : (x y : ℕ) → ComesNext cs (partner y) (partner x) → depends new x y
      between x y comes =
          let split : cs ≡ (comes.before ++ partner y ∷ []) ++ partner x ∷ comes.after = comes.listed ∙ sym (append_assoc comes.before (partner y ∷ []) (partner x ∷ comes.after)) in
          let from = comes_over (comes.before ++ partner y ∷ []) comes.after (partner x) split in
          let step = step_from comes.before comes.after (partner y) (partner x) from.0 comes.listed from.1 in
          let there : GoesOnTo old replies x y = subst (λ (z : ℕ). GoesOnTo old replies z y) (partner_back x) (subst (GoesOnTo old replies (partner (partner x))) (partner_back y) step) in
          steps_depend new replies valid_new reply_there x y (goes_back d before behind f r replies None x y there)

      at_end : (x y : ℕ) → ComesLast cs x → y ≡ partner x → depends new x y
      at_end x y last is =
          let first = out_there last.before x last.listed in
          let into : (network_of old).into f.to ≡ x = into_is old f.to ∙ ap (λ (o : Option ℕ). unwrap_or (option_map partner o) 0) first ∙ partner_back x in
          let comes_out : (network_of old).out f.to ≡ y = out_is old f.to ∙ ap (λ (o : Option ℕ). unwrap_or o 0) first ∙ sym is in
          both_same f.to x y (target_waits g (answered_there d before behind f r) r refl never_there) into comes_out

      -- where the replies end, if a limit is just enough there
      at_start : is_just_enough old f.from ≡ true → (x y : ℕ) → Contains (stall old f.from) (x, y) → depends new x y
      at_start enough x y h =
          let stalls : stall old f.from ≡ (partner way.channel, way.channel) ∷ [] = ap (λ (o : Option ℕ). option_map_or (λ e. (partner e, e) ∷ []) o []) way.starts in
          let into : (network_of old).into f.from ≡ partner way.channel = into_is old f.from ∙ ap (λ (o : Option ℕ). unwrap_or (option_map partner o) 0) way.starts in
          let comes_out : (network_of old).out f.from ≡ way.channel = out_is old f.from ∙ ap (λ (o : Option ℕ). unwrap_or o 0) way.starts in
          let waits : depends new (partner way.channel) way.channel = by (cases_Bool (is_answering old f.from)) into comes_out in
          elim (Contains-cases (partner way.channel, way.channel) (x, y) [] (subst (λ (l : List (ℕ × ℕ)). Contains l (x, y)) stalls h)) [
            | inl same ↦ subst (λ (w : ℕ × ℕ). depends new w.0 w.1) same waits
            | inr later ↦ absurd (none_in (x, y) later)
          ]
        where
          never_limited : is_answering old f.from ≡ false → is_just_enough old f.from ≡ false
          never_limited never = ap (λ (b : Bool). option_map_or (λ l. l == slots_of (target_of d.nodes f.from))
              (if b then sum_of_limits (map (limit_from old f.from) (range_with_len 0 (length d.nodes))) else None) false) never

          of_entry : (x : FlowEntry) (o : Option ReplyEntry) → x.reply ≡ o → Contains (before ++ f ∷ behind) x → is_some o ≡ true → x.to ≡ f.from
              → depends new ((network_of new).into f.from) ((network_of new).out f.from)
          of_entry x None has among some to = absurd cc
          of_entry x (Some entry) has among some to = elim (one_or_other g f before behind x among) [
            | inl same ↦
                let bad : None ≡ Some entry = sym none ∙ ap (λ (z : FlowEntry). z.reply) same ∙ has in
                absurd cc
            | inr kept ↦
                subst (λ (n : ℕ). depends new ((network_of new).into n) ((network_of new).out n)) to
                (target_waits x (Contains-append_left (before ++ g ∷ behind) (reply_flows (before ++ g ∷ behind)) x kept) entry has
                (subst (λ (n : ℕ). AlwaysTakes (network_of new) n → ⊥) (sym to) (never_at_start enough)))
          ]

          by : (is_answering old f.from ≡ true) ⊎ (is_answering old f.from ≡ false) → (network_of old).into f.from ≡ partner way.channel → (network_of old).out f.from ≡ way.channel
              → depends new (partner way.channel) way.channel
          by (inr never) into comes_out = let bad : true ≡ false = sym enough ∙ never_limited never in absurd cc
          by (inl answers) into comes_out =
              let one = a_passing (is_answered_at f.from) (before ++ f ∷ behind) answers in
              let both = and_parts (is_some one.0.reply) (one.0.to == f.from) one.2 in
              both_same f.from (partner way.channel) way.channel (of_entry one.0 one.0.reply refl one.1 both.0 (eqb-true one.0.to f.from both.1)) into comes_out

      by_replies : (b : Bool) → is_just_enough old f.from ≡ b → (x y : ℕ) → Contains (if b then stall old f.from else []) (x, y) → depends new x y
      by_replies true enough x y h = at_start enough x y h
      by_replies false never x y h = absurd (none_in (x, y) h)

      by_wait : (x y : ℕ) → ComesNext cs (partner y) (partner x) ⊎ (ComesLast cs x × (y ≡ partner x)) → depends new x y
      by_wait x y (inl comes) = between x y comes
      by_wait x y (inr (last, is)) = at_end x y last is

      all_wait : (x y : ℕ) → WaitsWith old (answered old f) x y → depends new x y
      all_wait x y (inl was) = still x y was
      all_wait x y (inr more) = elim (Contains-append_cases (answering old f) (with_replies old f.from) (x, y) more) [
        | inl along ↦ by_wait x y ((waits_go_back cs x y).0 along)
        | inr at ↦ by_replies (is_just_enough old f.from) refl x y at
      ]

      stays_free : StaysFree old (answered old f)
      stays_free round = no_cycle_new (cycle_map (WaitsWith old (answered old f)) (depends new) all_wait round)

-- ---- the law

pub unlimited_answers_are_exact : UnlimitedAnswersAreExact
unlimited_answers_are_exact d flow f r valid here none valid_new routed back unlimited = (
  answered_along_its_first_way_is_free d flow f r valid here valid_new routed back,
  λ free.
      let s = replaced flow r 0 flow d.flows f here (omega arith) in
      let was : d ≡ record d { flows = s.before ++ f ∷ s.behind } = ap (λ (l : List FlowEntry). record d { flows = l }) s.was in
      let now : with_reply d flow r ≡ record d { flows = s.before ++ record f { reply = Some r } ∷ s.behind } = ap (λ (l : List FlowEntry). record d { flows = l }) s.is in
      let stays : StaysFree d (answered d f) =
      subst (λ (e : Declaration). StaysFree e (answered e f)) (sym was)
      (stays_free d s.before s.behind f r (subst IsValid was valid) (subst IsValid now valid_new) (subst AllWellRouted now routed) none
      (subst (λ (e : Declaration). IsUnlimited e f r) was unlimited) (subst (λ (e : Declaration). GoesBackOverFirst e f r) was back)
      (subst RoutedAndFree now free).1) in
      subst (StaysFree d) (sym (ap (λ (o : Option FlowEntry). option_map_or (answered d) o []) here)) stays,
)
