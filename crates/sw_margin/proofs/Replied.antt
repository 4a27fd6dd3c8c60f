-- A network in which a flow is answered: what may wait for what there, by what may wait without and by the waits of the answer.
use Rattle.std.proofs.Common.{◌≡◌, ◌≢◌, ℕ, zero, suc, ◌+◌, ◌<◌, ◌==◌, ◌&&◌, ◌||◌, ◌⊎◌, Bool, true, false, List, [], ◌∷◌, ◌++◌, filter, length, map, get_or, Contains, Option, Some, None, option_map, refl, sym, ap, ◌∙◌, subst, inl, inr, arith, eq-eqb, ne_eqb}
use Rattle.std.specs.Prelude.{is_some, nat_lt, not, slice_get, unwrap_or, if◌then◌else◌}
use Rattle.std.specs.List.{list_any, range_with_len}
use Rattle.std.specs.Option.{option_map_or}
use Rattle.std.proofs.lemmas.Bool.{cases_Bool, cases_eq}
use Rattle.std.proofs.lemmas.List.Elements.{All-contains, Contains-append_cases, Contains-append_left, Contains-append_right, Contains-get_or}
use Rattle.std.proofs.lemmas.List.Sums.{AllPass-from_list_all, list_all-from_AllPass}
use Rattle.std.proofs.lemmas.Option.{get_or_from_slice_get, same_Some, slice_get_within}
use Rattle.sw_topo.specs.Wiring.{out, partner}
use Rattle.sw_topo.proofs.Ends.{node_only, partner_back}
use Rattle.sw_rmap.specs.Targets.{slots_of}
use Rattle.sw_config.specs.PlaceEnd.{PlaceEnd}
use Rattle.sw_config.specs.PlaceEnd.TheVariants.{Node, Switch}
use Rattle.sw_config.specs.Entries.{FlowEntry, ReplyEntry, Declaration, all_flows, is_answered_at, is_answering, replies_of, reply_flow, reply_flows, target_of, wiring_of}
use Rattle.sw_config.specs.Limits.{all_limited_at, always_takes, commands_from, flow_outstanding, is_limited, lesser, limit_at, limit_from, outstanding_of, sum_of_limits}
use Rattle.sw_config.specs.Valid.{IsFlow, IsValid}
use Rattle.sw_config.proofs.Flows.{All-at}
use Rattle.sw_config.proofs.FlowLaws.{valid_flows}
use Rattle.sw_flow.specs.declared.place.Place.{Place}
use Rattle.sw_flow.specs.Faults.{fault_at_end, IsWellRouted}
use Rattle.sw_flow.specs.Places.{ends_of, end_of, Follows, IsPlace}
use Rattle.sw_flow.specs.Places.IsPlace.{start, next}
use Rattle.sw_flow.proofs.Listed.{Contains-cases, Contains-head, Contains-later}
use Rattle.sw_flow.proofs.Partners.{partner_within}
use Rattle.sw_machine.specs.Network.{Flow}
use Rattle.sw_machine.specs.Places.{AlwaysTakes}
use Rattle.sw_machine.specs.Places.IsDependency.{ByFlow, ByTarget}
use Rattle.sw_machine.specs.Model.{cell_of, flow_of, network_of, reply_number}
use Rattle.sw_machine.proofs.AlwaysTaking.{always_takes_agrees, not_always}
use Rattle.sw_machine.proofs.Flows.{flow_at, some_at}
use Rattle.sw_machine.proofs.Steps.{steps_agree}
use Rattle.sw_machine.proofs.Topology.{ends_at_node, starts_at_node}
use Rattle.sw_graph.specs.Levels.{HasCycle}
use Rattle.sw_graph.proofs.Transfers.{cycle_map}
use Rattle.sw_mend.specs.Changes.{by_number}
use Rattle.sw_search.specs.Laws.{RoutedAndFree}
use Rattle.sw_search.specs.Verdicts.{AllWellRouted, depends}
use Rattle.sw_margin.specs.Answers.{GoesBackOverFirst, GoesOnTo, flow_with_reply, with_reply}
use Rattle.sw_margin.specs.Bends.{answered, answering, answering_at, is_just_enough, stall, way_of, with_replies}
use Rattle.sw_margin.specs.Laws.{AnsweredAlongItsFirstWayIsFree, AnsweredAlongItsWayIsFree}
use Rattle.sw_margin.specs.Waits.{StaysFree, WaitsWith}
use Rattle.sw_margin.specs.Ways.{ComesLast, ComesNext, IsWholeWay}
use Rattle.sw_margin.proofs.Back.{waits_go_back}
use Rattle.sw_margin.proofs.Lawful.{free_before}
use Rattle.sw_margin.proofs.Whole.{all_on_it, flow_count, goes_on_there, is_whole_way, place_in, steps_depend}

-- ---- the flow in its list

-- what stands before it and behind it
pub record IsReplaced (flow : ℕ) (f : FlowEntry) (r : ReplyEntry) (flows now : List FlowEntry) : Type 0 where
  pub before : List FlowEntry
  pub behind : List FlowEntry
  pub was : flows ≡ before ++ f ∷ behind
  pub is : now ≡ before ++ record f { reply = Some r } ∷ behind

untouched : (flow : ℕ) (r : ReplyEntry) (n : ℕ) (flows : List FlowEntry) → flow < n → by_number (flow_with_reply flow r) n flows ≡ flows
untouched flow r n [] past = refl
untouched flow r n (f ∷ flows) past =
    let other : (n == flow) ≡ false = ne_eqb n flow (λ same. omega (arith, same, past)) in
    let rest : by_number (flow_with_reply flow r) (n + 1) flows ≡ flows = untouched flow r (n + 1) flows (omega (arith, past)) in
    λ t. (if other t then record f { reply = Some r } else f) ∷ rest t

pub replaced : (flow : ℕ) (r : ReplyEntry) (n k : ℕ) (flows : List FlowEntry) (f : FlowEntry) → slice_get flows k ≡ Some f → n + k ≡ flow
    → IsReplaced flow f r flows (by_number (flow_with_reply flow r) n flows)
replaced flow r n k [] f here at = absurd cc
replaced flow r n zero (g ∷ flows) f here at =
    let same : g ≡ f = same_Some g f here in
    let it : (n == flow) ≡ true = eq-eqb n flow (omega (arith, at)) in
    let rest : by_number (flow_with_reply flow r) (n + 1) flows ≡ flows = untouched flow r (n + 1) flows (omega (arith, at)) in
    record {
      before = [];
      behind = flows;
      was = ap (λ (h : FlowEntry). h ∷ flows) same;
      is = λ t. (if it t then record (same t) { reply = Some r } else same t) ∷ rest t;
    }
replaced flow r n (suc k) (g ∷ flows) f here at =
    let other : (n == flow) ≡ false = ne_eqb n flow (λ same. omega (arith, same, at)) in
    let rest : IsReplaced flow f r flows (by_number (flow_with_reply flow r) (n + 1) flows) = replaced flow r (n + 1) k flows f here (omega (arith, at)) in
    record {
      before = g ∷ rest.before;
      behind = rest.behind;
      was = ap (λ (l : List FlowEntry). g ∷ l) rest.was;
      is = λ t. (if other t then record g { reply = Some r } else g) ∷ rest.is t;
    }

-- ---- lists with another element in the place of one

module _ {X : Type 0} (x y : X) where
  pub one_or_other : (before behind : List X) (z : X) → Contains (before ++ y ∷ behind) z → (y ≡ z) ⊎ Contains (before ++ x ∷ behind) z
  one_or_other before behind z h = elim (Contains-append_cases before (y ∷ behind) z h) [
    | inl early ↦ inr (Contains-append_left before (x ∷ behind) z early)
    | inr late ↦ elim (Contains-cases y z behind late) [
      | inl same ↦ inl same
      | inr later ↦ inr (Contains-append_right before (x ∷ behind) z (Contains-later x z behind later))
    ]
  ]

  module _ (test : X → Bool) (fails : test x ≡ false) (other_fails : test y ≡ false) where
    same_filtered : (before behind : List X) → filter test (before ++ y ∷ behind) ≡ filter test (before ++ x ∷ behind)
    same_filtered [] behind = rw (fails, other_fails) refl
    same_filtered (z ∷ before) behind = ap (λ (l : List X). if test z then z ∷ l else l) (same_filtered before behind)

    same_any : (before behind : List X) → list_any test (before ++ y ∷ behind) ≡ list_any test (before ++ x ∷ behind)
    same_any [] behind = rw (fails, other_fails) refl
    same_any (z ∷ before) behind = ap (λ (b : Bool). test z || b) (same_any before behind)

-- ---- tests of a node that takes

abbrev pub takes : ℕ → Bool → Option ℕ → Bool
takes slots all o = option_map_or (λ l. nat_lt l slots || l == slots && all) o false

by_all : (x y a b : Bool) → (a ≡ true → b ≡ true) → (x || y && a) ≡ true → (x || y && b) ≡ true
by_all true y a b more h = refl
by_all false true a b more h = more h
by_all false false a b more h = h

by_less : (x y a b : Bool) → y ≡ false → (x || y && a) ≡ true → (x || y && b) ≡ true
by_less true y a b never h = refl
by_less false true a b never h = absurd cc
by_less false false a b never h = h

pub takes_too : (slots : ℕ) (a b : Bool) (o : Option ℕ) → (a ≡ true → b ≡ true) → takes slots a o ≡ true → takes slots b o ≡ true
takes_too slots a b None more h = h
takes_too slots a b (Some l) more h = by_all (nat_lt l slots) (l == slots) a b more h

takes_unless_enough : (slots : ℕ) (a b : Bool) (o : Option ℕ) → option_map_or (λ l. l == slots) o false ≡ false → takes slots a o ≡ true → takes slots b o ≡ true
takes_unless_enough slots a b None never h = h
takes_unless_enough slots a b (Some l) never h = by_less (nat_lt l slots) (l == slots) a b never h

pub either_passes : (b c : Bool) → b ≡ false → (not b || c) ≡ true
either_passes true c never = absurd cc
either_passes false c never = refl

and_false : (b : Bool) → (b && false) ≡ false
and_false true = refl
and_false false = refl

-- a flow to another node is not answered there
not_answered : (f : FlowEntry) (n : ℕ) → (f.to == n) ≡ false → is_answered_at n f ≡ false
not_answered f n away = ap (λ (b : Bool). is_some f.reply && b) away ∙ and_false (is_some f.reply)

-- ---- the machine's network, by its parts

pub flow_is : (d : Declaration) (i : ℕ) → (network_of d).flow i ≡ flow_at d i
unfolding network_of
flow_is d i = refl

pub into_is : (d : Declaration) (n : ℕ) → (network_of d).into n ≡ unwrap_or (option_map partner (out (ends_of d) n)) 0
unfolding network_of
into_is d n = refl

pub out_is : (d : Declaration) (n : ℕ) → (network_of d).out n ≡ unwrap_or (out (ends_of d) n) 0
unfolding network_of
out_is d n = refl

-- ---- a network, and the same with another reply of one flow

module _ (d : Declaration) (before behind : List FlowEntry) (f : FlowEntry) (r : ReplyEntry) where
  abbrev g : FlowEntry
  g = record f { reply = Some r }

  abbrev old : Declaration
  old = record d { flows = before ++ f ∷ behind }

  abbrev new : Declaration
  new = record d { flows = before ++ g ∷ behind }

  -- a place goes by the links, the switches, and where its flow starts and by what address
  pub step_kept : (h : FlowEntry) (o : Option ReplyEntry) (c k e m : ℕ) → Follows new (record h { reply = o }) c k e m → Follows old h c k e m
  step_kept h o c k e m s = record { switch = s.switch; port = s.port; ends = s.ends; bytes_left = s.bytes_left; named = s.named; deleted = s.deleted }

  place_kept : (h : FlowEntry) (o : Option ReplyEntry) (c k : ℕ) → IsPlace new (record h { reply = o }) c k → IsPlace old h c k
  place_kept h o c k (start at) = start at
  place_kept h o c k (next {c = b} {k = j} p s) = next (place_kept h o b j p) (step_kept h o b j c k s)

  goes_kept : (h : FlowEntry) (o : Option ReplyEntry) (c e : ℕ) → GoesOnTo new (record h { reply = o }) c e → GoesOnTo old h c e
  goes_kept h o c e s = record { before = s.before; after = s.after; place = place_kept h o c s.before s.place; step = step_kept h o c s.before e s.after s.step }

  back_step : (h : FlowEntry) (o : Option ReplyEntry) (c k e m : ℕ) → Follows old h c k e m → Follows new (record h { reply = o }) c k e m
  back_step h o c k e m s = record { switch = s.switch; port = s.port; ends = s.ends; bytes_left = s.bytes_left; named = s.named; deleted = s.deleted }

  pub back_place : (h : FlowEntry) (o : Option ReplyEntry) (c k : ℕ) → IsPlace old h c k → IsPlace new (record h { reply = o }) c k
  back_place h o c k (start at) = start at
  back_place h o c k (next {c = b} {k = j} p s) = next (back_place h o b j p) (back_step h o b j c k s)

  pub goes_back : (h : FlowEntry) (o : Option ReplyEntry) (c e : ℕ) → GoesOnTo old h c e → GoesOnTo new (record h { reply = o }) c e
  goes_back h o c e s = record { before = s.before; after = s.after; place = back_place h o c s.before s.place; step = back_step h o c s.before e s.after s.step }

  fault_kept : (k : ℕ) (o : Option PlaceEnd) → fault_at_end new g k o ≡ fault_at_end old f k o
  fault_kept k None = refl
  fault_kept k (Some (Node n)) = refl
  fault_kept k (Some (Switch s p)) = refl

  pub routed_kept : IsWellRouted new g → IsWellRouted old f
  routed_kept well c k place = sym (fault_kept k (end_of old c)) ∙ well c k (back_place f (Some r) c k place)

  -- ---- the flows

  replies_kept : (front : List FlowEntry) (x : FlowEntry) → Contains (reply_flows (front ++ g ∷ behind)) x → (reply_flow f r ≡ x) ⊎ Contains (reply_flows (front ++ f ∷ behind)) x
  replies_kept [] x h = elim (Contains-cases (reply_flow g r) x (reply_flows behind) h) [
    | inl same ↦ inl same
    | inr later ↦ inr (Contains-append_right (replies_of f f.reply) (reply_flows behind) x later)
  ]
  replies_kept (z ∷ front) x h = by (Contains-append_cases (replies_of z z.reply) (reply_flows (front ++ g ∷ behind)) x h) (replies_kept front x)
    where
      by : Contains (replies_of z z.reply) x ⊎ Contains (reply_flows (front ++ g ∷ behind)) x
          → (Contains (reply_flows (front ++ g ∷ behind)) x → (reply_flow f r ≡ x) ⊎ Contains (reply_flows (front ++ f ∷ behind)) x)
          → (reply_flow f r ≡ x) ⊎ Contains (replies_of z z.reply ++ reply_flows (front ++ f ∷ behind)) x
      by (inl early) rest = inr (Contains-append_left (replies_of z z.reply) (reply_flows (front ++ f ∷ behind)) x early)
      by (inr late) rest = elim (rest late) [
        | inl same ↦ inl same
        | inr later ↦ inr (Contains-append_right (replies_of z z.reply) (reply_flows (front ++ f ∷ behind)) x later)
      ]

  -- the flow that is answered, its replies, or one that was there
  flow_cases : (x : FlowEntry) → Contains (all_flows new) x → (g ≡ x) ⊎ ((reply_flow f r ≡ x) ⊎ Contains (all_flows old) x)
  flow_cases x h = elim (Contains-append_cases (before ++ g ∷ behind) (reply_flows (before ++ g ∷ behind)) x h) [
    | inl declared ↦ elim (one_or_other f g before behind x declared) [
      | inl same ↦ inl same
      | inr kept ↦ inr (inr (Contains-append_left (before ++ f ∷ behind) (reply_flows (before ++ f ∷ behind)) x kept))
    ]
    | inr reply ↦ elim (replies_kept before x reply) [
      | inl same ↦ inr (inl same)
      | inr kept ↦ inr (inr (Contains-append_right (before ++ f ∷ behind) (reply_flows (before ++ f ∷ behind)) x kept))
    ]
  ]

  pub flow_there : Contains (all_flows old) f
  flow_there = Contains-append_left (before ++ f ∷ behind) (reply_flows (before ++ f ∷ behind)) f (Contains-append_right before (f ∷ behind) f (Contains-head f behind))

  pub answered_there : Contains (all_flows new) g
  answered_there = Contains-append_left (before ++ g ∷ behind) (reply_flows (before ++ g ∷ behind)) g (Contains-append_right before (g ∷ behind) g (Contains-head g behind))

  -- ---- limits, at another node than the flow's

  module _ (n : ℕ) (away : n ≢ f.to) where
    pub elsewhere : (f.to == n) ≡ false
    elsewhere = ne_eqb f.to n (λ same. away (sym same))

    same_commands : (m : ℕ) → commands_from new m n ≡ commands_from old m n
    same_commands m =
        same_filtered f g (λ h. is_answered_at n h && h.from == m) (ap (λ (b : Bool). b && f.from == m) (not_answered f n elsewhere))
        (ap (λ (b : Bool). b && f.from == m) (not_answered g n elsewhere)) before behind

    same_answering : is_answering new n ≡ is_answering old n
    same_answering = same_any f g (is_answered_at n) (not_answered f n elsewhere) (not_answered g n elsewhere) before behind

    same_from : (m : ℕ) → limit_from new n m ≡ limit_from old n m
    same_from m = ap (λ (l : List FlowEntry). lesser (outstanding_of d.nodes m) (sum_of_limits (map flow_outstanding l))) (same_commands m)

    pub same_limit : limit_at new n ≡ limit_at old n
    same_limit = λ t. if same_answering t then sum_of_limits (map (λ m. same_from m t) (range_with_len 0 (length d.nodes))) else None

    abbrev passes : FlowEntry → Bool
    passes h = not (h.to == n) || is_limited d.nodes h

    each_passes : n ≢ f.from → all_limited_at old n ≡ true → (x : FlowEntry) → Contains (all_flows new) x → passes x ≡ true
    each_passes other all x h = elim (flow_cases x h) [
      | inl same ↦ subst (λ (z : FlowEntry). passes z ≡ true) same (either_passes (f.to == n) (is_limited d.nodes g) elsewhere)
      | inr rest ↦ elim rest [
        | inl reply ↦
            subst (λ (z : FlowEntry). passes z ≡ true) reply
            (either_passes (f.from == n) (is_limited d.nodes (reply_flow f r)) (ne_eqb f.from n (λ same. other (sym same))))
        | inr kept ↦ subst (λ (z : FlowEntry). passes z ≡ true) kept.2 (AllPass-from_list_all passes (all_flows old) all kept.0 x kept.1)
      ]
    ]

    limited_too : n ≢ f.from → all_limited_at old n ≡ true → all_limited_at new n ≡ true
    limited_too other all =
        list_all-from_AllPass passes (all_flows new) (λ k x lt. each_passes other all (get_or (all_flows new) k x) (Contains-get_or (all_flows new) k x lt))

    abbrev slots : ℕ
    slots = slots_of (target_of d.nodes n)

    abbrev takes_by : Bool → Option ℕ → Bool
    takes_by = takes slots

    -- what always took still does, but where replies end now and its limit is just enough
    still_takes : always_takes old n ≡ true → (always_takes new n ≡ true) ⊎ ((n ≡ f.from) × (is_just_enough old n ≡ true))
    still_takes always =
        let carry : (b : Bool) → takes_by b (limit_at old n) ≡ true → takes_by b (limit_at new n) ≡ true = λ b h. ap (takes_by b) same_limit ∙ h in
        elim (cases_eq n f.from) [
          | inr other ↦ inl (carry (all_limited_at new n) (takes_too slots (all_limited_at old n) (all_limited_at new n) (limit_at old n) (limited_too other) always))
          | inl there ↦ elim (cases_Bool (is_just_enough old n)) [
            | inl enough ↦ inr (there, enough)
            | inr never ↦ inl (carry (all_limited_at new n) (takes_unless_enough slots (all_limited_at old n) (all_limited_at new n) (limit_at old n) never always))
          ]
        ]

    -- where it doesn't always take now, it didn't before, or that is what is further waited for
    waits_before : (AlwaysTakes (network_of new) n → ⊥) → (AlwaysTakes (network_of old) n → ⊥) ⊎ ((n ≡ f.from) × (is_just_enough old n ≡ true))
    waits_before never = elim (cases_Bool (always_takes old n)) [
      | inr already ↦ inl (not_always old n already)
      | inl always ↦ elim (still_takes always) [
        | inl still ↦ absurd (never ((always_takes_agrees new n).0 still))
        | inr at ↦ inr at
      ]
    ]

  -- ---- dependencies

  module _ (valid : IsValid old) (valid_new : IsValid new) (routed : AllWellRouted new) (back : GoesBackOverFirst old f r) (stays : StaysFree old (answered old f)) where
    abbrev Waits : ℕ → ℕ → Type 0
    Waits = WaitsWith old (answered old f)

    no_cycle : HasCycle (depends old) → ⊥
    no_cycle = free_before old (answered old f) stays

    well : IsWellRouted old f
    well = routed_kept (All-contains (IsWellRouted new) (all_flows new) g routed answered_there)

    whole : IsWholeWay old f (way_of old f)
    whole = is_whole_way old f valid no_cycle flow_there well

    by_answer : (c e : ℕ) → Contains (answering old f) (c, e) → Waits c e
    by_answer c e h = inr (Contains-append_left (answering old f) (with_replies old f.from) (c, e) h)

    abbrev channels : List ℕ
    channels = map (λ (p : Place). p.channel) (way_of old f)

    -- a step of the replies
    reply_step : (c e : ℕ) → GoesOnTo old (reply_flow f r) c e → Waits c e
    reply_step c e s = by_answer c e ((waits_go_back channels c e).1 (inl (back c e s)))

    -- a step of a flow
    flow_step : (x : FlowEntry) → Contains (all_flows new) x → (c e : ℕ) → GoesOnTo new x c e → Waits c e
    flow_step x h c e s = elim (flow_cases x h) [
      | inl same ↦ inl (steps_depend old f valid flow_there c e (goes_kept f (Some r) c e (subst (λ (z : FlowEntry). GoesOnTo new z c e) (sym same) s)))
      | inr rest ↦ elim rest [
        | inl reply ↦ reply_step c e (goes_kept (reply_flow f r) None c e (subst (λ (z : FlowEntry). GoesOnTo new z c e) (sym reply) s))
        | inr kept ↦ inl (steps_depend old x valid kept c e (goes_kept x x.reply c e s))
      ]
    ]

    -- at the flow's node
    at_its_node : Waits ((network_of old).into f.to) ((network_of old).out f.to)
    at_its_node =
        let p : Place = whole.last in
        let within : partner p.channel < length (ends_of old) = slice_get_within (ends_of old) (partner p.channel) (Node f.to) whole.arrives in
        let inside : p.channel < length (ends_of old) = subst (λ (x : ℕ). x < length (ends_of old)) (partner_back p.channel) (partner_within old (partner p.channel) within) in
        let cell = ap cell_of whole.arrives in
        let into : (network_of old).into f.to ≡ p.channel = into_is old f.to ∙ (ends_at_node (wiring_of old) valid.sound p.channel f.to inside cell).1 in
        let comes_out : (network_of old).out f.to ≡ partner p.channel = out_is old f.to ∙ (starts_at_node (wiring_of old) valid.sound (partner p.channel) f.to within cell).1 in
        let last : ComesLast channels p.channel = record { before = map (λ (q : Place). q.channel) whole.goes.before; listed = ends_so (way_of old f) whole.goes.before p whole.goes.listed } in
        let waits : Waits p.channel (partner p.channel) = by_answer p.channel (partner p.channel) ((waits_go_back channels p.channel (partner p.channel)).1 (inr (last, refl))) in
        subst (λ (x : ℕ). Waits x ((network_of old).out f.to)) (sym into) (subst (Waits p.channel) (sym comes_out) waits)
      where
        ends_so : (ps front : List Place) (q : Place) → ps ≡ front ++ q ∷ [] → map (λ (p : Place). p.channel) ps ≡ map (λ (p : Place). p.channel) front ++ q.channel ∷ []
        ends_so ps front q is = ap (map (λ (p : Place). p.channel)) is ∙ mapped front
          where
            mapped : (front : List Place) → map (λ (p : Place). p.channel) (front ++ q ∷ []) ≡ map (λ (p : Place). p.channel) front ++ q.channel ∷ []
            mapped [] = refl
            mapped (z ∷ front) = ap (λ (l : List ℕ). z.channel ∷ l) (mapped front)

    -- where the replies end
    at_its_start : is_just_enough old f.from ≡ true → Waits ((network_of old).into f.from) ((network_of old).out f.from)
    at_its_start enough =
        let at = place_in (all_flows old) f flow_there in
        let is : IsFlow d.nodes f = All-at (IsFlow d.nodes) (all_flows old) at.0 f at.2 (valid_flows old valid).0 in
        let only = node_only (wiring_of old) valid.sound f.from is.from in
        let c : ℕ = only.0 in
        let into : (network_of old).into f.from ≡ partner c = into_is old f.from ∙ ap (λ (o : Option ℕ). unwrap_or (option_map partner o) 0) only.1.first in
        let comes_out : (network_of old).out f.from ≡ c = out_is old f.from ∙ ap (λ (o : Option ℕ). unwrap_or o 0) only.1.first in
        let stalls : stall old f.from ≡ (partner c, c) ∷ [] = ap (λ (o : Option ℕ). option_map_or (λ e. (partner e, e) ∷ []) o []) only.1.first in
        let more : with_replies old f.from ≡ (partner c, c) ∷ [] = ap (λ (b : Bool). if b then stall old f.from else []) enough ∙ stalls in
        let there : Contains (with_replies old f.from) (partner c, c) = subst (λ (l : List (ℕ × ℕ)). Contains l (partner c, c)) (sym more) (Contains-head (partner c, c) []) in
        let waits : Waits (partner c) c = inr (Contains-append_right (answering old f) (with_replies old f.from) (partner c, c) there) in
        subst (λ (x : ℕ). Waits x ((network_of old).out f.from)) (sym into) (subst (Waits (partner c)) (sym comes_out) waits)

    -- at a node that answered already
    target : (x : FlowEntry) → Contains (all_flows old) x → (entry : ReplyEntry) → x.reply ≡ Some entry → (AlwaysTakes (network_of new) x.to → ⊥)
        → Waits ((network_of old).into x.to) ((network_of old).out x.to)
    target x kept entry has never = elim (cases_eq x.to f.to) [
      | inl there ↦ subst (λ (n : ℕ). Waits ((network_of old).into n) ((network_of old).out n)) (sym there) at_its_node
      | inr away ↦ elim (waits_before x.to away never) [
        | inl already ↦
            let at = place_in (all_flows old) x kept in
            let same : (network_of old).flow at.0 ≡ flow_of (reply_number old at.0) (Some x) = flow_is old at.0 ∙ ap (flow_of (reply_number old at.0)) at.2 in
            let to : ((network_of old).flow at.0).to ≡ x.to = ap (λ (z : Flow). z.to) same in
            let reply : ((network_of old).flow at.0).reply ≡ Some (reply_number old at.0) = ap (λ (z : Flow). z.reply) same ∙ ap (option_map (λ (e : ReplyEntry). reply_number old at.0)) has in
            let by : depends old ((network_of old).into ((network_of old).flow at.0).to) ((network_of old).out ((network_of old).flow at.0).to) =
            ByTarget at.0 (reply_number old at.0) (subst (λ (n : ℕ). at.0 < n) (flow_count old) at.1) reply (subst (λ (n : ℕ). AlwaysTakes (network_of old) n → ⊥) (sym to) already) in
            inl (subst (λ (n : ℕ). depends old ((network_of old).into n) ((network_of old).out n)) to by)
        | inr at ↦ subst (λ (n : ℕ). Waits ((network_of old).into n) ((network_of old).out n)) (sym at.0) (at_its_start (subst (λ (n : ℕ). is_just_enough old n ≡ true) at.0 at.1))
      ]
    ]

    -- at a node that answers now
    target_now : (x : FlowEntry) → Contains (all_flows new) x → (entry : ReplyEntry) → x.reply ≡ Some entry → (AlwaysTakes (network_of new) x.to → ⊥)
        → Waits ((network_of old).into x.to) ((network_of old).out x.to)
    target_now x h entry has never = elim (flow_cases x h) [
      | inl same ↦ subst (λ (z : FlowEntry). Waits ((network_of old).into z.to) ((network_of old).out z.to)) same at_its_node
      | inr rest ↦ elim rest [
        | inl reply ↦
            let bad : None ≡ Some entry = ap (λ (z : FlowEntry). z.reply) reply ∙ has in
            absurd cc
        | inr kept ↦ target x kept entry has never
      ]
    ]

    by_target : (i j : ℕ) (x : FlowEntry) (o : Option ReplyEntry) → slice_get (all_flows new) i ≡ Some x → x.reply ≡ o → option_map (λ (e : ReplyEntry). reply_number new i) o ≡ Some j
        → (AlwaysTakes (network_of new) x.to → ⊥) → Waits ((network_of old).into x.to) ((network_of old).out x.to)
    by_target i j x None here has is never = absurd cc
    by_target i j x (Some entry) here has is never =
        target_now x (i, slice_get_within (all_flows new) i x here, get_or_from_slice_get (all_flows new) i x x here) entry has never

    same_into : (n : ℕ) → (network_of old).into n ≡ (network_of new).into n
    unfolding network_of
    same_into n = refl

    same_out : (n : ℕ) → (network_of old).out n ≡ (network_of new).out n
    unfolding network_of
    same_out n = refl

    waits : (c e : ℕ) → depends new c e → Waits c e
    waits x y (ByFlow i c k e m lt place step) =
        let h = some_at (all_flows new) i (subst (λ (n : ℕ). i < n) (sym (flow_count new)) lt) in
        let same = steps_agree new valid_new i h.0 h.1 in
        flow_step h.0 (i, slice_get_within (all_flows new) i h.0 h.1, get_or_from_slice_get (all_flows new) i h.0 h.0 h.1) c e
        (record { before = k; after = m; place = (same.place c k).0 place; step = (same.step c k e m).0 step })
    waits x y (ByTarget i j lt reply never) =
        let h = some_at (all_flows new) i (subst (λ (n : ℕ). i < n) (sym (flow_count new)) lt) in
        let same : (network_of new).flow i ≡ flow_of (reply_number new i) (Some h.0) = flow_is new i ∙ ap (flow_of (reply_number new i)) h.1 in
        let to : ((network_of new).flow i).to ≡ h.0.to = ap (λ (z : Flow). z.to) same in
        let has : option_map (λ (e : ReplyEntry). reply_number new i) h.0.reply ≡ Some j = sym (ap (λ (z : Flow). z.reply) same) ∙ reply in
        let by = by_target i j h.0 h.0.reply h.1 refl has (subst (λ (n : ℕ). AlwaysTakes (network_of new) n → ⊥) to never) in
        subst (λ (n : ℕ). Waits ((network_of new).into n) ((network_of new).out n)) (sym to)
        (subst (λ (n : ℕ). Waits n ((network_of new).out h.0.to)) (same_into h.0.to) (subst (Waits ((network_of old).into h.0.to)) (same_out h.0.to) by))

    free_now : RoutedAndFree new
    free_now = (routed, λ cycle. stays (cycle_map (depends new) Waits waits cycle))

-- ---- the laws

pub answered_along_its_first_way_is_free : AnsweredAlongItsFirstWayIsFree
answered_along_its_first_way_is_free d flow f r valid here valid_new routed back stays =
    let s = replaced flow r 0 flow d.flows f here (omega arith) in
    let was : d ≡ record d { flows = s.before ++ f ∷ s.behind } = ap (λ (l : List FlowEntry). record d { flows = l }) s.was in
    let now : with_reply d flow r ≡ record d { flows = s.before ++ record f { reply = Some r } ∷ s.behind } = ap (λ (l : List FlowEntry). record d { flows = l }) s.is in
    let free : StaysFree d (answered d f) = subst (StaysFree d) (ap (λ (o : Option FlowEntry). option_map_or (answered d) o []) here) stays in
    subst RoutedAndFree (sym now)
    (free_now d s.before s.behind f r (subst IsValid was valid) (subst IsValid now valid_new) (subst AllWellRouted now routed)
    (subst (λ (e : Declaration). GoesBackOverFirst e f r) was back) (subst (λ (e : Declaration). StaysFree e (answered e f)) was free))

pub answered_along_its_way_is_free : AnsweredAlongItsWayIsFree
answered_along_its_way_is_free d flow f r valid here single valid_new routed back stays =
    let among : Contains (all_flows d) f = Contains-append_left d.flows (reply_flows d.flows) f (flow, slice_get_within d.flows flow f here, get_or_from_slice_get d.flows flow f f here) in
    let no_cycle : HasCycle (depends d) → ⊥ = free_before d (answering_at d flow) stays in
    answered_along_its_first_way_is_free d flow f r valid here valid_new routed
    (λ c e s.
    let b = back c e s in
    let x : Place = record { channel = partner e; deleted = b.before } in
    let y : Place = record { channel = partner c; deleted = b.after } in
    let on = goes_on_there d f valid no_cycle among x y (all_on_it d f valid no_cycle among single (partner e) b.before b.place) b.step in
    subst (λ (z : Place). ComesNext (map (λ (p : Place). p.channel) (way_of d f)) (partner e) z.channel) (single x on.0 y b.place on.1 b.step) on.2)
    stays
