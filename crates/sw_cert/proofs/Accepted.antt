-- A certificate is not refused exactly where it is accepted.
use Rattle.std.proofs.Common.{◌≡◌, ℕ, ◌+◌, ◌<◌, ◌≤◌, ◌==◌, true, false, List, filter, length, map, Some, None, option_map, is_some, Contains, refl, sym, ◌∙◌, subst, arith}
use Rattle.std.specs.Prelude.{slice_get, slice_index, if◌then◌else◌}
use Rattle.std.specs.List.{list_all, range_with_len}
use Rattle.std.proofs.lemmas.Bool.{eqb-true, eq-eqb, leb-false, lt-leb, and_parts, and_from}
use Rattle.std.proofs.lemmas.List.{length-map}
use Rattle.std.proofs.lemmas.Option.{slice_get_within}
use Rattle.sw_config.specs.Entries.{FlowEntry, ReplyEntry, Declaration, all_flows}
use Rattle.sw_config.specs.Limits.{may_make_wait}
use Rattle.sw_config.specs.Valid.{IsValid}
use Rattle.sw_config.proofs.AnsweringNodes.{answered_flow, answers}
use Rattle.sw_config.proofs.Limits.{waiting_answers}
use Rattle.sw_flow.specs.declared.place.Place.{Place}
use Rattle.sw_flow.specs.Places.{ends_of, flow_start, out_at}
use Rattle.sw_flow.specs.Faults.{fault_of}
use Rattle.sw_flow.specs.Followers.{followers_of}
use Rattle.sw_flow.proofs.Listed.{Contains-map, Contains-from_map}
use Rattle.sw_flow.proofs.Walked.{followers_are_listed}
use Rattle.sw_cert.specs.Text.{Contents}
use Rattle.sw_machine.specs.Places as machine
use Rattle.sw_machine.specs.Certificate.{IsListed, IsAccepted}
use Rattle.sw_machine.specs.Model.{reply_number, network_of}
use Rattle.sw_machine.specs.ModelLaws.{FlowAgrees}
use Rattle.sw_machine.proofs.AlwaysTaking.{may_wait_unless, not_always_where}
use Rattle.sw_machine.proofs.Flows.{flow_at, some_at}
use Rattle.sw_machine.proofs.Steps.{steps_agree}
use Rattle.sw_cert.specs.declared.refusal.Refusal.TheVariants.{NoStart, Faulty, NotClosed, NotRising}
use Rattle.sw_cert.specs.Contents.{place_of, certificate_of}
use Rattle.sw_cert.specs.Least.{least}
use Rattle.sw_cert.specs.Refusals.{first_refusal, is_in_range, are_in_range, is_listed, into_at, is_closed_at, refusal_of_place, refusal_of_flow, is_not_above, least_falling, not_rising_from, not_rising_along, is_falling_at}
use Rattle.sw_cert.specs.AcceptanceLaws.{NotRefusedIsAccepted}
use Rattle.sw_cert.proofs.ListedPlaces.{to_machine, from_machine}
use Rattle.sw_cert.proofs.Lists.{first_none, both_none, unless_none, none_unless, none_mapped, none_refused, refused_none, all_each, each_all, none_by_flow, by_flow_none, listed_place, place_listed}
use Rattle.sw_cert.proofs.Ranged.{as_many, in_range_each, each_in_range, range_of, of_range}
use Rattle.sw_cert.proofs.Leasts.{none_passes, passes_none}
use Rattle.sw_cert.proofs.Answering.{its_number, listed_where_waits, some_reply, waits_where_listed}
use Rattle.sw_cert.proofs.Reasons.{NoReason, no_reason, none_of}
use Rattle.sw_topo.proofs.Faultless.{no_map}

-- ---- a flow, here and in the machine

module _ (d : Declaration) (i : ℕ) (f : FlowEntry) (here : slice_get (all_flows d) i ≡ Some f) where
  address_is : (flow_at d i).address ≡ f.address
  address_is = rw here refl

  from_is : (flow_at d i).from ≡ f.from
  from_is = rw here refl

  to_is : (flow_at d i).to ≡ f.to
  to_is = rw here refl

  reply_is : (flow_at d i).reply ≡ option_map (λ (r : ReplyEntry). reply_number d i) f.reply
  reply_is = rw here refl

-- flow i and the places listed for it
record IsHere (d : Declaration) (c : Contents) (i : ℕ) : Type 0 where
  flow : FlowEntry
  listed : List Place
  here : slice_get (all_flows d) i ≡ Some flow
  there : slice_get c.places i ≡ Some listed

-- ---- what is not refused is accepted

module _ (d : Declaration) (c : Contents) (valid : IsValid d) (r : NoReason d c) where
  ranges : (length c.numbers ≡ length (ends_of d)) × (are_in_range d (all_flows d) c.places ≡ true)
  ranges =
      let both = and_parts (length c.numbers == length (ends_of d)) (are_in_range d (all_flows d) c.places) r.network in
      (eqb-true (length c.numbers) (length (ends_of d)) both.0, both.1)

  here_at : (i : ℕ) → i < length (all_flows d) → IsHere d c i
  here_at i lt =
      let same : length c.places ≡ length (all_flows d) = as_many d (all_flows d) c.places ranges.1 in
      let f = some_at (all_flows d) i lt in
      let ps = some_at c.places i (omega arith) in
      record { flow = f.0; listed = ps.0; here = f.1; there = ps.1 }

  module _ (i : ℕ) (a : IsHere d c i) where
    agrees : FlowAgrees d i a.flow
    agrees = steps_agree d valid i a.flow a.here

    flow_none : (is_listed a.listed (flow_start d a.flow) ≡ true) × (first_refusal (refusal_of_place d (0 + i) a.flow a.listed) a.listed ≡ None)
    flow_none =
        let none = none_by_flow (refusal_of_flow d) 0 (all_flows d) c.places r.flows i a.flow a.listed a.here a.there in
        let both = first_none (if is_listed a.listed (flow_start d a.flow) then None else Some (NoStart (0 + i))) (first_refusal (refusal_of_place d (0 + i) a.flow a.listed) a.listed) none in
        (unless_none (is_listed a.listed (flow_start d a.flow)) (NoStart (0 + i)) both.0, both.1)

    start_is : IsListed (certificate_of c) i (out_at d a.flow.from) 0
    start_is = to_machine c i a.listed a.there (flow_start d a.flow) (listed_place a.listed (flow_start d a.flow) flow_none.0)

    module _ (p : Place) (m : Contains a.listed p) where
      in_range : (p.channel < length (ends_of d)) × (p.deleted ≤ length a.flow.address)
      in_range = range_of d a.flow p (all_each (is_in_range d a.flow) a.listed (in_range_each d (all_flows d) c.places ranges.1 i a.flow a.listed a.here a.there) p m)

      place_none : (fault_of d a.flow p.channel p.deleted ≡ None) × (is_closed_at d a.flow a.listed p ≡ true)
      place_none =
          let none = none_refused (refusal_of_place d (0 + i) a.flow a.listed) a.listed flow_none.1 p m in
          let both = first_none (option_map (Faulty (0 + i) p) (fault_of d a.flow p.channel p.deleted)) (if is_closed_at d a.flow a.listed p then None else Some (NotClosed (0 + i) p)) none in
          (no_map (Faulty (0 + i) p) (fault_of d a.flow p.channel p.deleted) both.0, unless_none (is_closed_at d a.flow a.listed p) (NotClosed (0 + i) p) both.1)

      rises : least (is_not_above c.numbers p.channel) (map (λ (q : Place). q.channel) (followers_of d a.flow p.channel p.deleted)) ≡ None
      rises =
          let none = none_by_flow (not_rising_along d c.numbers) 0 (all_flows d) c.places r.numbers i a.flow a.listed a.here a.there in
          no_map (NotRising p.channel) (least (is_not_above c.numbers p.channel) (map (λ (q : Place). q.channel) (followers_of d a.flow p.channel p.deleted))) (none_refused (not_rising_from d c.numbers a.flow) a.listed none p m)

      module _ (e k : ℕ) (step : machine.Follows (network_of d) i p.channel p.deleted e k) where
        follower : Contains (followers_of d a.flow p.channel p.deleted) (record { channel = e; deleted = k })
        follower = (followers_are_listed d a.flow p.channel p.deleted (record { channel = e; deleted = k })).1 ((agrees.step p.channel p.deleted e k).0 step)

        closed_at : IsListed (certificate_of c) i e k
        closed_at = to_machine c i a.listed a.there (record { channel = e; deleted = k }) (listed_place a.listed (record { channel = e; deleted = k }) (all_each (is_listed a.listed) (followers_of d a.flow p.channel p.deleted) place_none.1 (record { channel = e; deleted = k }) follower))

        rising_at : slice_index c.numbers p.channel < slice_index c.numbers e
        rising_at =
            let there : Contains (map (λ (q : Place). q.channel) (followers_of d a.flow p.channel p.deleted)) e = Contains-map (λ (q : Place). q.channel) (followers_of d a.flow p.channel p.deleted) (record { channel = e; deleted = k }) follower in
            leb-false (slice_index c.numbers e) (slice_index c.numbers p.channel) (none_passes (is_not_above c.numbers p.channel) (map (λ (q : Place). q.channel) (followers_of d a.flow p.channel p.deleted)) rises e there)

    target_at : (j : ℕ) → (flow_at d i).reply ≡ Some j → (machine.AlwaysTakes (network_of d) a.flow.to → ⊥) → slice_index c.numbers (into_at d a.flow.to) < slice_index c.numbers (out_at d a.flow.to)
    target_at j has never =
        let some : is_some a.flow.reply ≡ true = some_reply (reply_number d i) j a.flow.reply (sym (reply_is d i a.flow a.here) ∙ has) in
        let nodes = filter (may_make_wait d) (range_with_len 0 (length d.nodes)) in
        let node : Contains nodes a.flow.to = listed_where_waits d valid a.flow.to (may_wait_unless d a.flow.to (answers d a.flow.to i a.flow a.here some refl) never) in
        let none : least_falling d c.numbers ≡ None = no_map (λ n. NotRising (into_at d n) (out_at d n)) (least_falling d c.numbers) r.targets in
        leb-false (slice_index c.numbers (out_at d a.flow.to)) (slice_index c.numbers (into_at d a.flow.to)) (none_passes (is_falling_at d c.numbers) nodes none a.flow.to node)

  member : (i : ℕ) (a : IsHere d c i) (e k : ℕ) → IsListed (certificate_of c) i e k → Contains a.listed (record { channel = e; deleted = k })
  member i a e k h = from_machine c i a.listed a.there e k h

  accepted : IsAccepted (network_of d) (certificate_of c)
  unfolding network_of
  accepted = record {
    channels = ranges.0;
    flows = length-map c.places (map place_of) ∙ as_many d (all_flows d) c.places ranges.1;
    in_range = λ i e k lt h.
        let a = here_at i lt in
        let in_it = in_range i a (record { channel = e; deleted = k }) (member i a e k h) in
        (in_it.0, subst (λ (l : List ℕ). k ≤ length l) (sym (address_is d i a.flow a.here)) in_it.1);
    starts = λ i lt. let a = here_at i lt in subst (λ (n : ℕ). IsListed (certificate_of c) i (out_at d n) 0) (sym (from_is d i a.flow a.here)) (start_is i a);
    faultless = λ i e k lt h.
        let a = here_at i lt in
        let p : Place = record { channel = e; deleted = k } in
        let m = member i a e k h in
        ((agrees i a).fault e k (in_range i a p m).0 (in_range i a p m).1).1 (place_none i a p m).0;
    closed = λ i e k b m lt h step. let a = here_at i lt in closed_at i a (record { channel = e; deleted = k }) (member i a e k h) b m step;
    rising = λ i e k b m lt h step. let a = here_at i lt in rising_at i a (record { channel = e; deleted = k }) (member i a e k h) b m step;
    targets = λ i j lt has never.
        let a = here_at i lt in
        subst (λ (n : ℕ). slice_index c.numbers (into_at d n) < slice_index c.numbers (out_at d n)) (sym (to_is d i a.flow a.here)) (target_at i a j has (subst (λ (n : ℕ). machine.AlwaysTakes (network_of d) n → ⊥) (to_is d i a.flow a.here) never));
  }

-- ---- what is accepted is not refused

module _ (d : Declaration) (c : Contents) (valid : IsValid d) (acc : IsAccepted (network_of d) (certificate_of c)) where
  channels : length c.numbers ≡ length (ends_of d)
  unfolding network_of
  channels = acc.channels

  flows : length c.places ≡ length (all_flows d)
  unfolding network_of
  flows = sym (length-map c.places (map place_of)) ∙ acc.flows

  module _ (i : ℕ) (f : FlowEntry) (ps : List Place) (here : slice_get (all_flows d) i ≡ Some f) (there : slice_get c.places i ≡ Some ps) where
    within : i < length (all_flows d)
    within = slice_get_within (all_flows d) i f here

    agree : FlowAgrees d i f
    agree = steps_agree d valid i f here

    start_listed : is_listed ps (flow_start d f) ≡ true
    unfolding network_of
    start_listed = place_listed ps (flow_start d f) (from_machine c i ps there (out_at d f.from) 0 (subst (λ (n : ℕ). IsListed (certificate_of c) i (out_at d n) 0) (from_is d i f here) (acc.starts i within)))

    module _ (p : Place) (m : Contains ps p) where
      listed_p : IsListed (certificate_of c) i p.channel p.deleted
      listed_p = to_machine c i ps there p m

      place_in : (p.channel < length (ends_of d)) × (p.deleted ≤ length f.address)
      unfolding network_of
      place_in =
          let both = acc.in_range i p.channel p.deleted within listed_p in
          (both.0, subst (λ (l : List ℕ). p.deleted ≤ length l) (address_is d i f here) both.1)

      no_fault : fault_of d f p.channel p.deleted ≡ None
      unfolding network_of
      no_fault = (agree.fault p.channel p.deleted place_in.0 place_in.1).0 (acc.faultless i p.channel p.deleted within listed_p)

      module _ (q : Place) (follower : Contains (followers_of d f p.channel p.deleted) q) where
        step : machine.Follows (network_of d) i p.channel p.deleted q.channel q.deleted
        step = (agree.step p.channel p.deleted q.channel q.deleted).1 ((followers_are_listed d f p.channel p.deleted q).0 follower)

        is_closed : is_listed ps q ≡ true
        unfolding network_of
        is_closed = place_listed ps q (from_machine c i ps there q.channel q.deleted (acc.closed i p.channel p.deleted q.channel q.deleted within listed_p step))

        is_above : is_not_above c.numbers p.channel q.channel ≡ false
        unfolding network_of
        is_above = lt-leb (slice_index c.numbers q.channel) (slice_index c.numbers p.channel) (acc.rising i p.channel p.deleted q.channel q.deleted within listed_p step)

      place_passes : (n : ℕ) → refusal_of_place d n f ps p ≡ None
      place_passes n =
          both_none (option_map (Faulty n p) (fault_of d f p.channel p.deleted)) (if is_closed_at d f ps p then None else Some (NotClosed n p)) (none_mapped (Faulty n p) (fault_of d f p.channel p.deleted) no_fault)
          (none_unless (is_closed_at d f ps p) (NotClosed n p) (each_all (is_listed ps) (followers_of d f p.channel p.deleted) is_closed))

      numbers_pass : not_rising_from d c.numbers f p ≡ None
      numbers_pass =
          let channels_of = map (λ (q : Place). q.channel) (followers_of d f p.channel p.deleted) in
          none_mapped (NotRising p.channel) (least (is_not_above c.numbers p.channel) channels_of)
          (passes_none (is_not_above c.numbers p.channel) channels_of (λ x mx. let q = Contains-from_map (λ (q : Place). q.channel) (followers_of d f p.channel p.deleted) x mx in subst (λ (y : ℕ). is_not_above c.numbers p.channel y ≡ false) q.2 (is_above q.0 q.1)))

    flow_passes : (n : ℕ) → refusal_of_flow d n f ps ≡ None
    flow_passes n =
        both_none (if is_listed ps (flow_start d f) then None else Some (NoStart n)) (first_refusal (refusal_of_place d n f ps) ps) (none_unless (is_listed ps (flow_start d f)) (NoStart n) start_listed)
        (refused_none (refusal_of_place d n f ps) ps (λ p m. place_passes p m n))

    along_passes : (n : ℕ) → not_rising_along d c.numbers n f ps ≡ None
    along_passes n = refused_none (not_rising_from d c.numbers f) ps numbers_pass

    in_it : list_all (is_in_range d f) ps ≡ true
    in_it = each_all (is_in_range d f) ps (λ p m. of_range d f p (place_in p m).0 (place_in p m).1)

  target_rises : (n : ℕ) → may_make_wait d n ≡ true → is_falling_at d c.numbers n ≡ false
  unfolding network_of
  target_rises n waits =
      let a = answered_flow d n (waiting_answers d n waits) in
      let i : ℕ = a.number in
      let within = slice_get_within (all_flows d) i a.flow a.numbered in
      let has : (flow_at d i).reply ≡ Some (reply_number d i) = reply_is d i a.flow a.numbered ∙ its_number (reply_number d i) a.flow.reply a.replied in
      let node : (flow_at d i).to ≡ n = to_is d i a.flow a.numbered ∙ a.ends_there in
      let rises : slice_index c.numbers (into_at d n) < slice_index c.numbers (out_at d n) = subst (λ (x : ℕ). slice_index c.numbers (into_at d x) < slice_index c.numbers (out_at d x)) node (acc.targets i (reply_number d i) within has (not_always_where d (flow_at d i).to (subst (λ (x : ℕ). may_make_wait d x ≡ true) (sym node) waits))) in
      lt-leb (slice_index c.numbers (out_at d n)) (slice_index c.numbers (into_at d n)) rises

  no_reason_at : NoReason d c
  no_reason_at = record {
    network = and_from (length c.numbers == length (ends_of d)) (are_in_range d (all_flows d) c.places) (eq-eqb (length c.numbers) (length (ends_of d)) channels) (each_in_range d (all_flows d) c.places flows in_it);
    flows = by_flow_none (refusal_of_flow d) 0 (all_flows d) c.places (λ i f ps here there. flow_passes i f ps here there (0 + i));
    numbers = by_flow_none (not_rising_along d c.numbers) 0 (all_flows d) c.places (λ i f ps here there. along_passes i f ps here there (0 + i));
    targets = none_mapped (λ n. NotRising (into_at d n) (out_at d n)) (least_falling d c.numbers) (passes_none (is_falling_at d c.numbers) (filter (may_make_wait d) (range_with_len 0 (length d.nodes))) (λ n m. target_rises n (waits_where_listed d n m)));
  }

pub not_refused_is_accepted : NotRefusedIsAccepted
not_refused_is_accepted d c valid = (λ none. accepted d c valid (no_reason d c none), λ acc. none_of d c (no_reason_at d c valid acc))
