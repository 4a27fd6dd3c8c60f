-- Whether flows are well routed, channels depend on one another, and the dependencies have a cycle, decided.
use Rattle.std.proofs.Common.{◌≡◌, ℕ, suc, ◌+◌, ◌*◌, ◌/◌, ◌%◌, ◌<◌, ◌⊎◌, length, map, Option, Some, None, refl, sym, ◌∙◌, subst, inl, inr, arith}
use Rattle.std.specs.Prelude.{slice_get}
use Rattle.std.proofs.lemmas.Bool.{cases_Bool, cases_eq, cases_lt}
use Rattle.std.proofs.lemmas.Nat.{div-mul-add, mod-mul-add}
use Rattle.sw_topo.specs.Wiring.{out}
use Rattle.sw_topo.proofs.Ends.{node_only}
use Rattle.sw_config.specs.Entries.{FlowEntry, Declaration, all_flows, wiring_of}
use Rattle.sw_config.specs.Limits.{always_takes}
use Rattle.sw_config.specs.Valid.{IsFlow, IsValid}
use Rattle.sw_config.proofs.Flows.{All-at}
use Rattle.sw_config.proofs.FlowLaws.{valid_flows}
use Rattle.sw_flow.specs.declared.fault.RouteFault.{RouteFault}
use Rattle.sw_flow.specs.declared.place.Place.{Place}
use Rattle.sw_flow.specs.Places.{ends_of, Follows, IsPlace}
use Rattle.sw_flow.specs.Places.IsPlace.{next}
use Rattle.sw_flow.specs.Faults.{fault_of, IsWellRouted}
use Rattle.sw_flow.specs.Followers.{followers_of}
use Rattle.sw_flow.specs.Numbers.{width, number_bound, next_numbers}
use Rattle.sw_flow.proofs.Listed.{Contains-map, Contains-from_map}
use Rattle.sw_flow.proofs.Stepping.{next_below, place_from_reached, places_are_in, reached_from_place}
use Rattle.sw_flow.proofs.Walked.{followers_are_listed}
use Rattle.sw_machine.specs.Places as machine
use Rattle.sw_machine.specs.Places.IsDependency.{ByFlow, ByTarget}
use Rattle.sw_cycle.specs.Model.{network_of}
use Rattle.sw_machine.proofs.AlwaysTaking.{always_takes_agrees, not_always}
use Rattle.sw_cycle.proofs.Flows.{flow_at, flow_ends, some_at}
use Rattle.sw_cycle.proofs.Steps.{steps_agree}
use Rattle.sw_cycle.proofs.Topology.{into_ends, out_starts}
use Rattle.sw_graph.specs.Laws.{IsAmong}
use Rattle.sw_graph.specs.Levels.{HasCycle}
use Rattle.sw_graph.proofs.Peels.{is_listed}
use Rattle.sw_cert.proofs.Lists.{Contains-at}
use Rattle.sw_search.specs.Laws.{SomeMisrouted}
use Rattle.sw_search.specs.Verdicts.{AllWellRouted, depends}
use Rattle.sw_search.proofs.Faulty.{all_routed}
use Rattle.sw_search.proofs.Paths.{Decided, both, either, some_before, cycle_decided, reached_decided}

-- ---- a flow that starts on a channel

module _ (d : Declaration) (f : FlowEntry) (s : ℕ) (at : out (ends_of d) f.from ≡ Some s) where
  place_of_number : (c k : ℕ) → k < width f → IsPlace d f ((c * width f + k) / width f) ((c * width f + k) % width f) → IsPlace d f c k
  place_of_number c k lt p =
      let w : ℕ = width f in
      let n : ℕ = c * w + k in
      let first : IsPlace d f c (n % w) = subst (λ (x : ℕ). IsPlace d f x (n % w)) (div-mul-add c w k lt) p in
      subst (λ (x : ℕ). IsPlace d f c x) (mod-mul-add c w k lt) first

  place_decided : (c k : ℕ) → Decided (IsPlace d f c k)
  place_decided c k = elim (cases_lt k (width f)) [
    | inr past ↦ inr (λ p. let within = (places_are_in d f c k p).1 in omega arith)
    | inl lt ↦ elim (reached_decided (next_numbers d f) (s * width f) (number_bound d f) (next_below d f) (c * width f + k)) [
      | inl r ↦ inl (place_of_number c k lt (place_from_reached d f s at (c * width f + k) r))
      | inr none ↦ inr (λ p. none (reached_from_place d f s at c k p).1)
    ]
  ]

  fault_or_not : (c k : ℕ) (o : Option RouteFault) → fault_of d f c k ≡ o → Decided (fault_of d f c k ≡ None → ⊥)
  fault_or_not c k None is = inr (λ h. h is)
  fault_or_not c k (Some x) is = inl (λ none. let bad : Some x ≡ None = sym is ∙ none in cc)

  faultless : (c k : ℕ) (o : Option RouteFault) → fault_of d f c k ≡ o → ((fault_of d f c k ≡ None → ⊥) → ⊥) → fault_of d f c k ≡ None
  faultless c k None is h = is
  faultless c k (Some x) is h = absurd (h (λ none. let bad : Some x ≡ None = sym is ∙ none in cc))

  abbrev FaultAt : ℕ → ℕ → Type 0
  FaultAt c k = IsPlace d f c k × (fault_of d f c k ≡ None → ⊥)

  abbrev FaultyOn : ℕ → Type 0
  FaultyOn c = (k : ℕ) × FaultAt c k

  faulty_decided : (c k : ℕ) → Decided (FaultAt c k)
  faulty_decided c k = both (IsPlace d f c k) (fault_of d f c k ≡ None → ⊥) (place_decided c k) (fault_or_not c k (fault_of d f c k) refl)

  faulty_on_decided : (c : ℕ) → Decided (FaultyOn c)
  faulty_on_decided c = elim (some_before (FaultAt c) (suc (length f.address)) (λ k lt. faulty_decided c k)) [
    | inl r ↦ inl (r.0, r.2)
    | inr none ↦ inr (λ h.
        let faulty : FaultAt c h.0 = h.1 in
        let within = (places_are_in d f c h.0 faulty.0).1 in
        none h.0 (omega arith) faulty)
  ]

  pub routed_decided : Decided (IsWellRouted d f)
  routed_decided = elim (some_before FaultyOn (length (ends_of d)) (λ c lt. faulty_on_decided c)) [
    | inl r ↦ inr (λ well.
        let on : FaultyOn r.0 = r.2 in
        let faulty : FaultAt r.0 on.0 = on.1 in
        faulty.1 (well r.0 on.0 faulty.0))
    | inr none ↦ inl (λ c k place. faultless c k (fault_of d f c k) refl (λ bad. none c (places_are_in d f c k place).0 (k, (place, bad))))
  ]

  abbrev Leads : ℕ → ℕ → ℕ → Type 0
  Leads c k e = (m : ℕ) × Follows d f c k e m

  follows_decided : (c k e : ℕ) → Decided (Leads c k e)
  follows_decided c k e = elim (is_listed (map (λ (p : Place). p.channel) (followers_of d f c k)) e) [
    | inl h ↦
        let m = Contains-from_map (λ (p : Place). p.channel) (followers_of d f c k) e h in
        let step : Follows d f c k m.0.channel m.0.deleted = (followers_are_listed d f c k m.0).0 m.1 in
        inl (m.0.deleted, subst (λ (x : ℕ). Follows d f c k x m.0.deleted) m.2 step)
    | inr none ↦ inr (λ h.
        let p : Place = record { channel = e; deleted = h.0 } in
        none (Contains-map (λ (q : Place). q.channel) (followers_of d f c k) p ((followers_are_listed d f c k p).1 h.1)))
  ]

  abbrev StepsOn : ℕ → ℕ → ℕ → Type 0
  StepsOn c e k = IsPlace d f c k × Leads c k e

  pub steps_decided : (c e : ℕ) → Decided ((k : ℕ) × StepsOn c e k)
  steps_decided c e =
      elim (some_before (StepsOn c e) (suc (length f.address)) (λ k lt. both (IsPlace d f c k) (Leads c k e) (place_decided c k) (follows_decided c k e))) [
        | inl r ↦ inl (r.0, r.2)
        | inr none ↦ inr (λ h.
            let on : StepsOn c e h.0 = h.1 in
            let within = (places_are_in d f c h.0 on.0).1 in
            none h.0 (omega arith) on)
      ]

-- ---- the flows of a valid network

module _ (d : Declaration) (valid : IsValid d) where
  starts : (i : ℕ) (f : FlowEntry) → slice_get (all_flows d) i ≡ Some f → (s : ℕ) × (out (ends_of d) f.from ≡ Some s)
  starts i f here =
      let is = All-at (IsFlow d.nodes) (all_flows d) i f here (valid_flows d valid).0 in
      let only = node_only (wiring_of d) valid.sound f.from is.from in
      (only.0, only.1.first)

  flow_decided : (i : ℕ) (f : FlowEntry) → slice_get (all_flows d) i ≡ Some f → Decided (IsWellRouted d f)
  flow_decided i f here = let s = starts i f here in routed_decided d f s.0 s.1

  abbrev MisroutedAt : ℕ → Type 0
  MisroutedAt i = (f : FlowEntry) × (slice_get (all_flows d) i ≡ Some f) × (IsWellRouted d f → ⊥)

  same_flow : (i : ℕ) (f g : FlowEntry) → slice_get (all_flows d) i ≡ Some f → slice_get (all_flows d) i ≡ Some g → f ≡ g
  same_flow i f g here there = let e : Some f ≡ Some g = sym here ∙ there in cc

  misrouted_by : (i : ℕ) (f : FlowEntry) → slice_get (all_flows d) i ≡ Some f → Decided (IsWellRouted d f) → Decided (MisroutedAt i)
  misrouted_by i f here (inr bad) = inl (f, here, bad)
  misrouted_by i f here (inl well) = inr (λ h. h.2 (subst (IsWellRouted d) (same_flow i f h.0 here h.1) well))

  misrouted_decided : (i : ℕ) → i < length (all_flows d) → Decided (MisroutedAt i)
  misrouted_decided i lt = let f = some_at (all_flows d) i lt in misrouted_by i f.0 f.1 (flow_decided i f.0 f.1)

  routed_by : (i : ℕ) (f : FlowEntry) → slice_get (all_flows d) i ≡ Some f → (MisroutedAt i → ⊥) → Decided (IsWellRouted d f) → IsWellRouted d f
  routed_by i f here none (inl well) = well
  routed_by i f here none (inr bad) = absurd (none (f, here, bad))

  -- some flow is not well routed, or each is
  pub some_or_all : SomeMisrouted d ⊎ AllWellRouted d
  some_or_all = elim (some_before MisroutedAt (length (all_flows d)) misrouted_decided) [
    | inl r ↦
        let at : MisroutedAt r.0 = r.2 in
        inl (at.0, Contains-at (all_flows d) r.0 at.0 at.1, at.2)
    | inr none ↦ inr (all_routed d (λ j lt f here. routed_by j f here (none j lt) (flow_decided j f here)))
  ]

  -- ---- the dependencies

  -- dependencies are between the network's channels
  pub among : IsAmong (depends d) (length (ends_of d))
  unfolding network_of
  among x y (ByFlow i c k e m lt place follows) =
      let f = some_at (all_flows d) i lt in
      let same = steps_agree d valid i f.0 f.1 in
      let p = (same.place c k).0 place in
      let s = (same.step c k e m).0 follows in
      ((places_are_in d f.0 c k p).0, (places_are_in d f.0 e m (next p s)).0)
  among x y (ByTarget i j lt reply waits) =
      let to = (flow_ends d valid i lt).1 in
      ((into_ends (wiring_of d) valid.sound (flow_at d i).to to).0, (out_starts (wiring_of d) valid.sound (flow_at d i).to to).0)

  -- packets of flow i go on from channel c to channel e
  abbrev GoesOn : ℕ → ℕ → ℕ → Type 0
  GoesOn c e i = (k : ℕ) × (m : ℕ) × machine.IsPlace (network_of d) i c k × machine.Follows (network_of d) i c k e m

  -- flow i leads by channel c to a target that answers on channel e and doesn't always take
  abbrev Answers : ℕ → ℕ → ℕ → Type 0
  Answers c e i = (j : ℕ) × (((network_of d).flow i).reply ≡ Some j) × (machine.AlwaysTakes (network_of d) ((network_of d).flow i).to → ⊥) × ((network_of d).into ((network_of d).flow i).to ≡ c) × ((network_of d).out ((network_of d).flow i).to ≡ e)

  depends_by : (x y : ℕ) → depends d x y → (i : ℕ) × (i < (network_of d).flows) × (GoesOn x y i ⊎ Answers x y i)
  depends_by x y (ByFlow i c k e m lt place follows) = (i, lt, inl (k, m, place, follows))
  depends_by x y (ByTarget i j lt reply waits) = (i, lt, inr (j, reply, waits, refl, refl))

  by_answer : (c e i : ℕ) → i < (network_of d).flows → Answers c e i → depends d c e
  by_answer c e i lt h =
      let t : ℕ = ((network_of d).flow i).to in
      let shown : depends d ((network_of d).into t) ((network_of d).out t) = ByTarget i h.0 lt h.1 h.2 in
      subst (λ (x : ℕ). depends d x e) h.3 (subst (λ (y : ℕ). depends d ((network_of d).into t) y) h.4 shown)

  by_either : (c e i : ℕ) → i < (network_of d).flows → GoesOn c e i ⊎ Answers c e i → depends d c e
  by_either c e i lt (inl h) = ByFlow i c h.0 e h.1 lt h.2 h.3
  by_either c e i lt (inr h) = by_answer c e i lt h

  goes_on_decided : (c e i : ℕ) → i < length (all_flows d) → Decided (GoesOn c e i)
  goes_on_decided c e i lt =
      let f = some_at (all_flows d) i lt in
      let s = starts i f.0 f.1 in
      let same = steps_agree d valid i f.0 f.1 in
      elim (steps_decided d f.0 s.0 s.1 c e) [
        | inl h ↦ inl (h.0, h.1.1.0, (same.place c h.0).1 h.1.0, (same.step c h.0 e h.1.1.0).1 h.1.1.1)
        | inr none ↦ inr (λ h. none (h.0, ((same.place c h.0).0 h.2, (h.1, (same.step c h.0 e h.1).0 h.3))))
      ]

  answers_decided : (c e i : ℕ) (o : Option ℕ) → ((network_of d).flow i).reply ≡ o → Decided (Answers c e i)
  answers_decided c e i None is = inr (λ h. let bad : None ≡ Some h.0 = sym is ∙ h.1 in cc)
  answers_decided c e i (Some j) is =
      let t : ℕ = ((network_of d).flow i).to in
      elim (cases_Bool (always_takes d t)) [
        | inl always ↦ inr (λ h. h.2 ((always_takes_agrees d t).0 always))
        | inr never ↦
            elim (both ((network_of d).into t ≡ c) ((network_of d).out t ≡ e) (cases_eq ((network_of d).into t) c) (cases_eq ((network_of d).out t) e)) [
              | inl h ↦ inl (j, is, not_always d t never, h.0, h.1)
              | inr none ↦ inr (λ h. none (h.3, h.4))
            ]
      ]

  one_decided : (c e i : ℕ) → i < length (all_flows d) → Decided (GoesOn c e i ⊎ Answers c e i)
  one_decided c e i lt = either (GoesOn c e i) (Answers c e i) (goes_on_decided c e i lt) (answers_decided c e i ((network_of d).flow i).reply refl)

  flow_count : (network_of d).flows ≡ length (all_flows d)
  unfolding network_of
  flow_count = refl

  pub depends_decided : (c e : ℕ) → Decided (depends d c e)
  depends_decided c e = elim (some_before (λ i. GoesOn c e i ⊎ Answers c e i) (length (all_flows d)) (one_decided c e)) [
    | inl r ↦ inl (by_either c e r.0 (subst (λ (n : ℕ). r.0 < n) (sym flow_count) r.1) r.2)
    | inr none ↦ inr (λ h.
        let made = depends_by c e h in
        none made.0 (subst (λ (n : ℕ). made.0 < n) flow_count made.1) made.2)
  ]

  -- the dependencies have a cycle, or none
  pub some_cycle : Decided (HasCycle (depends d))
  some_cycle = cycle_decided (depends d) (length (ends_of d)) (λ a b h. (among a b h).1) depends_decided
