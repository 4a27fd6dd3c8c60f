-- What is counted of commands and of replies tells what is unanswered.
use Rattle.std.proofs.Common.{◌≡◌, ◌≢◌, ◌==◌, ◌&&◌, ◌<◌, ◌≤◌, ◌+◌, ◌-◌, ◌∙◌, ◌++◌, ◌∷◌, ◌^◌, [], Bool, List, None, Option, Some, ℕ, ap, arith, count_by, eq-eqb, false, get_or, get_or-set_other, get_or-set_same, is_some, le-ltb, length, length-append, length-set, lt-ltb, min, nat_lt, ne_eqb, refl, replicate, set, subst, sym, true, ⊎_elim}
use Rattle.std.specs.Prelude.{◌↔◌, if◌then◌else◌, slice_get}
use Rattle.std.specs.Option.{option_map, option_map_or}
use Rattle.std.proofs.Math.Nat.{min-eq_left, min-eq_right}
use Rattle.std.proofs.lemmas.Bool.{and_from, cases_eq, cases_lt, ltb-true}
use Rattle.std.proofs.lemmas.List.{get_or-replicate, get_or_past, length-replicate}
use Rattle.sw_char.specs.declared.nchar.End.{End}
use Rattle.sw_config.proofs.Limits.{limit_at_least, limit_within, limited_flow}
use Rattle.sw_config.specs.Entries.{Declaration, FlowEntry, ReplyEntry, all_flows, is_answered_at, reply_flows}
use Rattle.sw_config.specs.Limits.{is_limited, limit_at}
use Rattle.sw_config.specs.Valid.{IsValid}
use Rattle.sw_machine.proofs.Balance.{count_append}
use Rattle.sw_machine.proofs.Cuts.{cut_of, cuts_are_equal}
use Rattle.sw_machine.proofs.DeclaredNetworks.{are_networks}
use Rattle.sw_machine.proofs.Flows.{slice_get-append_left, some_at}
use Rattle.sw_machine.proofs.Limits.{beginnings_push, kept_after_each_step, one_sent, owes_still, replies_sent, stays}
use Rattle.sw_machine.proofs.Steps.{same_nodes}
use Rattle.sw_machine.specs.Begun.{Begun, beginning, beginnings}
use Rattle.sw_machine.specs.Limits.{IsWithinLimit, KeepsLimits, is_command_at, is_command_to, unanswered}
use Rattle.sw_machine.specs.Model.{flow_of, network_of, reply_number}
use Rattle.sw_machine.specs.Network.{AnsweredBy, IsDeclared, IsNetwork, Network, left_bytes}
use Rattle.sw_machine.specs.Packets.{Packet}
use Rattle.sw_machine.specs.Runs.{CameOut, Run}
use Rattle.sw_machine.specs.State.{State, empty}
use Rattle.sw_machine.specs.Steps.{Accept, Arrive, Begin, Drop, Emit, Fct, FctIn, Forward, Grant, Leads, Reply, Spill, Step}
use Rattle.sw_net.specs.Unanswered.{AllowedIsWithin, AreFewBegun, AreSent, CountedAtFirst, CountedWithEachStep, Counts, CountsAreUnanswered, CountsUnanswered, allows, counted_with, has_room, limited_target, one_more_at, owed_with_limit, target_with_limit, with_begun, with_sent}

-- ---- one more

module _ (most : ℕ) (l : List ℕ) (n : ℕ) where
  chosen_size : (t : Bool) (x : ℕ) → length (if t then set l n x else l) ≡ length l
  chosen_size true x = length-set l n x
  chosen_size false x = refl

  as_many : length (one_more_at most l n) ≡ length l
  as_many = chosen_size (nat_lt n (length l) && nat_lt (get_or l n 0) most) (get_or l n 0 + 1)

  here : n < length l → get_or l n 0 < most → get_or (one_more_at most l n) n 0 ≡ get_or l n 0 + 1
  here lt less = rw (lt-ltb n (length l) lt, lt-ltb (get_or l n 0) most less) (get_or-set_same l n (get_or l n 0 + 1) 0 lt)

  elsewhere : (m : ℕ) → m ≢ n → get_or (one_more_at most l n) m 0 ≡ get_or l m 0
  elsewhere m ne = by (nat_lt n (length l) && nat_lt (get_or l n 0) most) (get_or l n 0 + 1)
    where
      by : (t : Bool) (x : ℕ) → get_or (if t then set l n x else l) m 0 ≡ get_or l m 0
      by true x = get_or-set_other l n m x 0 ne
      by false x = refl

  one_at_most : (m : ℕ) → get_or (one_more_at most l n) m 0 ≤ get_or l m 0 + 1
  one_at_most m = ⊎_elim
      (λ same. ⊎_elim
      (λ lt. ⊎_elim
      (λ less. let is = ap (λ k. get_or (one_more_at most l n) k 0) same ∙ here lt less in let was = ap (λ k. get_or l k 0) same in omega (arith, is, was))
      (λ full. let is : get_or (one_more_at most l n) m 0 ≡ get_or l m 0 = rw (lt-ltb n (length l) lt, le-ltb (get_or l n 0) most full) refl in omega (arith, is))
      (cases_lt (get_or l n 0) most))
      (λ past. let is : get_or (one_more_at most l n) m 0 ≡ get_or l m 0 = rw (le-ltb n (length l) past) refl in omega (arith, is))
      (cases_lt n (length l)))
      (λ ne. let is = elsewhere m ne in omega (arith, is))
      (cases_eq m n)

-- one more of what is counted up to so many
capped_more : (most : ℕ) (l : List ℕ) (n all : ℕ) → n < length l → get_or l n 0 ≡ min all most → get_or (one_more_at most l n) n 0 ≡ min (all + 1) most
capped_more most l n all lt is = ⊎_elim
    (λ less.
    let was = is ∙ min-eq_left (below all most less) in
    let now = min-eq_left (above all most less) in
    let more = here most l n lt (subst (λ k. k < most) (sym was) less) in
    more ∙ ap (λ k. k + 1) was ∙ sym now)
    (λ full.
    let was = is ∙ min-eq_right full in
    let now = min-eq_right (above_full all most full) in
    let same : get_or (one_more_at most l n) n 0 ≡ get_or l n 0 = rw (lt-ltb n (length l) lt, le-ltb (get_or l n 0) most (at_least was)) refl in
    same ∙ was ∙ sym now)
    (cases_lt all most)
  where
    below : (all most : ℕ) → all < most → all ≤ most
    below all most less = omega (arith, less)

    above : (all most : ℕ) → all < most → all + 1 ≤ most
    above all most less = omega (arith, less)

    above_full : (all most : ℕ) → most ≤ all → most ≤ all + 1
    above_full all most full = omega (arith, full)

    at_least : get_or l n 0 ≡ most → most ≤ get_or l n 0
    at_least was = omega (arith, was)

-- ---- at first

none_of : (k n : ℕ) → ◌≡◌ {A = ℕ} (get_or (replicate k 0) n 0) 0
none_of k n = ⊎_elim
    (λ lt. get_or-replicate k n 0 0 lt)
    (λ past. get_or_past (replicate k 0) n 0 (let size = length-replicate {A = ℕ} k 0 in omega (arith, size, past)))
    (cases_lt n k)

pub counted_at_first : CountedAtFirst
counted_at_first d =
    let k = length d.nodes in
    record {
      all_begun = length-replicate k 0;
      all_sent = length-replicate k 0;
      few = λ n. (let z = none_of k n in omega (arith, z));
      begun = λ n limit is. none_of k n;
      sent = λ n limit came is out.
          let none = (cuts_are_equal [] came [] out.0 [] out.1 refl).0 in
          record {
            all = 0;
            total = sym (ap (count_by (is_command_at (network_of d) n)) none);
            counted = none_of k n ∙ sym (min-eq_left (none_at_most (2 ^ 64 - 1)));
          };
    }
  where
    none_at_most : (most : ℕ) → 0 ≤ most
    none_at_most most = omega arith

-- ---- what is unanswered

-- what is begun less what was sent, where fewer were begun than can be counted
less_sent : (most begun all count : ℕ) → begun ≤ most → count ≡ min all most → begun - count ≡ begun - all
less_sent most begun all count few is = ⊎_elim
    (λ less. let was = is ∙ min-eq_left (below all most less) in omega (arith, was))
    (λ full. let was = is ∙ min-eq_right full in omega (arith, was, few, full))
    (cases_lt all most)
  where
    below : (all most : ℕ) → all < most → all ≤ most
    below all most less = omega (arith, less)

pub counts_are_unanswered : CountsAreUnanswered
counts_are_unanswered d steps s c counts few n limit came is out =
    let begun = counts.begun n limit is in
    let sent = counts.sent n limit came is out in
    let most = counts.few n in
    let total = sent.total in
    let less = less_sent (2 ^ 64 - 1) (get_or c.begun n 0) sent.all (get_or c.sent n 0) (at_most (2 ^ 64 - 1) most few) sent.counted in
    less ∙ numbers (get_or c.begun n 0) sent.all _ (s.owed n) _ begun total
  where
    at_most : (most : ℕ) → {k : ℕ} → {j : ℕ} → k ≤ j → j < most → k ≤ most
    at_most most {k} {j} le lt = omega (arith, le, lt)

    numbers : (begun all to owed at : ℕ) → begun ≡ to → owed + all ≡ at → begun - all ≡ (to + owed) - at
    numbers begun all to owed at is total = omega (arith, is, total)

-- ---- a step more

module _ (d : Declaration) (valid : IsValid d) where
  ok : IsNetwork (network_of d)
  ok = are_networks d valid

  limit_is : (n : ℕ) → (network_of d).limit n ≡ limit_at d n
  unfolding network_of
  limit_is n = refl

  in_net : (n : ℕ) → n < length d.nodes → n < (network_of d).nodes
  in_net n lt = subst (λ k. n < k) (same_nodes d) lt

  -- the entry of a declared flow
  pub record Has (flow : ℕ) (f : FlowEntry) : Type 0 where
    pub at : slice_get (all_flows d) flow ≡ Some f
    pub declared : slice_get d.flows flow ≡ Some f

  entry_of : (flow : ℕ) → flow < (network_of d).declared_flows → (f : FlowEntry) × Has flow f
  unfolding network_of
  entry_of flow lt =
      let one = some_at d.flows flow lt in
      (one.0, record { at = slice_get-append_left d.flows (reply_flows d.flows) flow lt ∙ one.1; declared = one.1 })

  to_is : (flow : ℕ) (f : FlowEntry) → Has flow f → ((network_of d).flow flow).to ≡ f.to
  unfolding network_of
  to_is flow f has = ap (λ o. (flow_of (reply_number d flow) o).to) has.at

  no_reply : (flow : ℕ) (f : FlowEntry) → Has flow f → f.reply ≡ None → ((network_of d).flow flow).reply ≡ None
  unfolding network_of
  no_reply flow f has none = ap (λ o. (flow_of (reply_number d flow) o).reply) has.at ∙ ap (λ o. option_map (λ (r : ReplyEntry). reply_number d flow) o) none

  limited_is : (flow : ℕ) (f : FlowEntry) → Has flow f → (network_of d).limited flow ≡ is_limited d.nodes f
  unfolding network_of
  limited_is flow f has = ap (λ o. option_map_or (is_limited d.nodes) o false) has.at

  -- a packet without a reply flow is not answered
  unanswered_packet : (net : Network) (flow : ℕ) (way : Option (List ℕ)) → AnsweredBy net flow way → (net.flow flow).reply ≡ None → is_some way ≡ false
  unanswered_packet net flow None by none = refl
  unanswered_packet net flow (Some address) by none = let both : None ≡ Some by.0 = sym none ∙ by.1 in absurd cc

  -- at a node with a limit, each packet of a flow with replies is a command that is answered, and no other is
  module _ (flow : ℕ) (cargo : List ℕ) (end : End) (declared : IsDeclared (network_of d) flow cargo) (f : FlowEntry) (has : Has flow f) (n limit : ℕ) (is : limit_at d n ≡ Some limit) where
    abbrev net : Network
    net = network_of d

    abbrev packet : Begun
    packet = record { flow = flow; cargo = cargo; end = end }

    answered_here : f.to ≡ n → is_some ((network_of d).reply_to n (left_bytes (network_of d) flow cargo)) ≡ is_some f.reply
    answered_here to = by f.reply refl
      where
        ends : ((network_of d).flow flow).to ≡ n
        ends = to_is flow f has ∙ to

        by : (o : Option ReplyEntry) → f.reply ≡ o → is_some ((network_of d).reply_to n (left_bytes (network_of d) flow cargo)) ≡ is_some o
        by None none =
            subst (λ k. is_some ((network_of d).reply_to k (left_bytes (network_of d) flow cargo)) ≡ false) ends
            (unanswered_packet net flow _ declared.answered (no_reply flow f has none))
        by (Some r) some =
            let replied : is_some f.reply ≡ true = ap (λ o. is_some o) some in
            let limited = limited_flow d valid.flows n limit is flow f has.declared (and_from (is_some f.reply) (f.to == n) replied (eq-eqb f.to n to)) in
            subst (λ k. is_some ((network_of d).reply_to k (left_bytes (network_of d) flow cargo)) ≡ true) ends (declared.command (limited_is flow f has ∙ limited))

    is_command : is_command_to (network_of d) n packet ≡ is_answered_at n f
    is_command = ⊎_elim
        (λ to.
        let ends : ((network_of d).flow flow).to ≡ n = to_is flow f has ∙ to in
        rw (eq-eqb ((network_of d).flow flow).to n ends, eq-eqb f.to n to) (answered_here to ∙ sym (and_true (is_some f.reply))))
        (λ away.
        rw (ne_eqb ((network_of d).flow flow).to n (λ ends. away (sym (to_is flow f has) ∙ ends)), ne_eqb f.to n away) (sym (and_false (is_some f.reply))))
        (cases_eq f.to n)
      where
        and_true : (t : Bool) → (t && true) ≡ t
        and_true true = refl
        and_true false = refl

        and_false : (t : Bool) → (t && false) ≡ false
        and_false true = refl
        and_false false = refl

    one_if : (t : Bool) → is_command_to (network_of d) n packet ≡ t → count_by (is_command_to (network_of d) n) (packet ∷ []) ≡ (if t then 1 else 0)
    one_if true e = rw e refl
    one_if false e = rw e refl

    commands_more : (steps : List Step) → count_by (is_command_to (network_of d) n) (beginnings (steps ++ Begin flow cargo end ∷ [])) ≡ count_by (is_command_to (network_of d) n) (beginnings steps) + (if is_answered_at n f then 1 else 0)
    commands_more steps =
        let push = ap (count_by (is_command_to (network_of d) n)) (beginnings_push steps (Begin flow cargo end)) in
        let both = count_append (is_command_to (network_of d) n) (beginnings steps) (packet ∷ []) in
        let one = one_if (is_answered_at n f) is_command in
        omega (arith, push, both, one)

    -- and so it is counted
    counted_more : (c : Counts) → length c.begun ≡ length d.nodes → n < length d.nodes → get_or c.begun n 0 < 2 ^ 64 - 1 → get_or (with_begun d c flow).begun n 0 ≡ get_or c.begun n 0 + (if is_answered_at n f then 1 else 0)
    counted_more c size lt less = rw has.at (⊎_elim
        (λ to. by_reply to (is_some f.reply) refl)
        (λ away. rw (ne_eqb f.to n away) (away_by away (is_some f.reply && is_some (limit_at d f.to)) ∙ none (is_some f.reply)))
        (cases_eq f.to n))
      where
        none : (t : Bool) → get_or c.begun n 0 ≡ get_or c.begun n 0 + (if t && false then 1 else 0)
        none true = omega arith
        none false = omega arith

        away_by : f.to ≢ n → (t : Bool) → get_or (option_map_or (λ m. record c { begun = one_more_at (2 ^ 64 - 1) c.begun m }) (if t then Some f.to else None) c).begun n 0 ≡ get_or c.begun n 0
        away_by away true = elsewhere (2 ^ 64 - 1) c.begun f.to n (λ same. away (sym same))
        away_by away false = refl

        by_reply : f.to ≡ n → (t : Bool) → is_some f.reply ≡ t
            → get_or (option_map_or (λ m. record c { begun = one_more_at (2 ^ 64 - 1) c.begun m }) (target_with_limit d f) c).begun n 0 ≡ get_or c.begun n 0 + (if is_answered_at n f then 1 else 0)
        by_reply to true replied =
            let limit_there : limit_at d f.to ≡ Some limit = ap (limit_at d) to ∙ is in
            rw (replied, limit_there, eq-eqb f.to n to)
            (subst (λ m. get_or (one_more_at (2 ^ 64 - 1) c.begun m) n 0 ≡ get_or c.begun n 0 + 1) (sym to) (here (2 ^ 64 - 1) c.begun n (omega (arith, size, lt)) less))
        by_reply to false replied = rw replied (omega arith)

  -- ---- the replies that were sent

  begun_keeps : (c : Counts) (o : Option ℕ) → (option_map_or (λ n. record c { begun = one_more_at (2 ^ 64 - 1) c.begun n }) o c).sent ≡ c.sent
  begun_keeps c None = refl
  begun_keeps c (Some n) = refl

  begun_size : (c : Counts) (o : Option ℕ) → length (option_map_or (λ n. record c { begun = one_more_at (2 ^ 64 - 1) c.begun n }) o c).begun ≡ length c.begun
  begun_size c None = refl
  begun_size c (Some n) = as_many (2 ^ 64 - 1) c.begun n

  begun_one : (c : Counts) (o : Option ℕ) (m : ℕ) → get_or (option_map_or (λ n. record c { begun = one_more_at (2 ^ 64 - 1) c.begun n }) o c).begun m 0 ≤ get_or c.begun m 0 + 1
  begun_one c None m = omega arith
  begun_one c (Some n) m = one_at_most (2 ^ 64 - 1) c.begun n m

  sent_size : (c : Counts) (n : ℕ) (t : Bool) → length (if t then with_sent c n else c).sent ≡ length c.sent
  sent_size c n true = as_many (2 ^ 64 - 1) c.sent n
  sent_size c n false = refl

  sent_keeps : (c : Counts) (n : ℕ) (t : Bool) → (if t then with_sent c n else c).begun ≡ c.begun
  sent_keeps c n true = refl
  sent_keeps c n false = refl

  sent_elsewhere : (c : Counts) (n : ℕ) (t : Bool) (m : ℕ) → m ≢ n → get_or (if t then with_sent c n else c).sent m 0 ≡ get_or c.sent m 0
  sent_elsewhere c n true m ne = elsewhere (2 ^ 64 - 1) c.sent n m ne
  sent_elsewhere c n false m ne = refl

  sent_here : (c : Counts) (n all : ℕ) (t : Bool) → n < length c.sent → get_or c.sent n 0 ≡ min all (2 ^ 64 - 1) → get_or (if t then with_sent c n else c).sent n 0 ≡ min (all + (if t then 1 else 0)) (2 ^ 64 - 1)
  sent_here c n all true lt is = capped_more (2 ^ 64 - 1) c.sent n all lt is
  sent_here c n all false lt is = is ∙ ap (λ k. min k (2 ^ 64 - 1)) (none_more all)
    where
      none_more : (k : ℕ) → k ≡ k + 0
      none_more k = omega arith

  module _ (c : Counts) (s t : State) where
    as_before : (step : Step) → Leads (network_of d) s step t → (n all : ℕ) → get_or c.sent n 0 ≡ min all (2 ^ 64 - 1) → (step ≡ Emit n → ⊥) → get_or c.sent n 0 ≡ min (all + one_sent (s.owed n) (t.owed n)) (2 ^ 64 - 1)
    as_before step leads n all is other =
        let z = stays (s.owed n) (t.owed n) (owes_still (network_of d) ok n s step t leads other) in
        is ∙ ap (λ k. min k (2 ^ 64 - 1)) (none_more all (one_sent (s.owed n) (t.owed n)) z)
      where
        none_more : (k j : ℕ) → j ≡ 0 → k ≡ k + j
        none_more k j z = omega (arith, z)

    -- a node with a limit owes less than before, by what is looked at
    owes_less : (n limit : ℕ) → limit_at d n ≡ Some limit → nat_lt (owed_with_limit d t n) (owed_with_limit d s n) ≡ nat_lt (t.owed n) (s.owed n)
    owes_less n limit is = rw is refl

    -- what was sent of such a node grows by one where it owes less than before
    sent_more : (step : Step) → Leads (network_of d) s step t → (n limit all : ℕ) → limit_at d n ≡ Some limit → n < length c.sent → get_or c.sent n 0 ≡ min all (2 ^ 64 - 1)
        → get_or (counted_with d c step s t).sent n 0 ≡ min (all + one_sent (s.owed n) (t.owed n)) (2 ^ 64 - 1)
    sent_more (Begin flow cargo end) leads n limit all has lt is = ap (λ l. get_or l n 0) (begun_keeps c (limited_target d flow)) ∙ as_before (Begin flow cargo end) leads n all is (λ e. cc)
    sent_more (Emit m) leads n limit all has lt is = ⊎_elim
        (λ same. subst (λ k. get_or (counted_with d c (Emit k) s t).sent n 0 ≡ min (all + one_sent (s.owed n) (t.owed n)) (2 ^ 64 - 1)) same
        (ap (λ b. get_or (if b then with_sent c n else c).sent n 0) (owes_less n limit has) ∙ sent_here c n all (nat_lt (t.owed n) (s.owed n)) lt is))
        (λ ne. sent_elsewhere c m (nat_lt (owed_with_limit d t m) (owed_with_limit d s m)) n ne ∙ as_before (Emit m) leads n all is (λ e. ne (same_node e)))
        (cases_eq n m)
      where
        same_node : Emit m ≡ Emit n → n ≡ m
        same_node e = cc
    sent_more (Fct k) leads n limit all has lt is = as_before (Fct k) leads n all is (λ e. cc)
    sent_more (FctIn k) leads n limit all has lt is = as_before (FctIn k) leads n all is (λ e. cc)
    sent_more (Arrive k) leads n limit all has lt is = as_before (Arrive k) leads n all is (λ e. cc)
    sent_more (Grant o i) leads n limit all has lt is = as_before (Grant o i) leads n all is (λ e. cc)
    sent_more (Drop k) leads n limit all has lt is = as_before (Drop k) leads n all is (λ e. cc)
    sent_more (Forward k) leads n limit all has lt is = as_before (Forward k) leads n all is (λ e. cc)
    sent_more (Spill k) leads n limit all has lt is = as_before (Spill k) leads n all is (λ e. cc)
    sent_more (Accept m) leads n limit all has lt is = as_before (Accept m) leads n all is (λ e. cc)
    sent_more (Reply m) leads n limit all has lt is = as_before (Reply m) leads n all is (λ e. cc)

  -- ---- each step

  beginnings_same : (steps : List Step) (step : Step) → beginning step ≡ [] → (n : ℕ) → count_by (is_command_to (network_of d) n) (beginnings (steps ++ step ∷ [])) ≡ count_by (is_command_to (network_of d) n) (beginnings steps)
  beginnings_same steps step none n =
      let push = ap (count_by (is_command_to (network_of d) n)) (beginnings_push steps step) in
      let both = count_append (is_command_to (network_of d) n) (beginnings steps) (beginning step) in
      let z : count_by (is_command_to (network_of d) n) (beginning step) ≡ 0 = ap (count_by (is_command_to (network_of d) n)) none in
      omega (arith, push, both, z)

  module _ (steps : List Step) (s : State) (c : Counts) (run : Run (network_of d) (empty (network_of d)) steps s) (counts : CountsUnanswered d steps s c) (few : AreFewBegun steps) where
    longer : (step : Step) → length (beginnings (steps ++ step ∷ [])) ≡ length (beginnings steps) + length (beginning step)
    longer step = ap (λ l. length l) (beginnings_push steps step) ∙ length-append (beginnings steps) (beginning step)

    sent_then : (step : Step) (t : State) → Leads (network_of d) s step t → (n limit : ℕ) (now : List Packet) → limit_at d n ≡ Some limit → CameOut t n now
        → AreSent (get_or (counted_with d c step s t).sent n 0) (t.owed n) (count_by (is_command_at (network_of d) n) now)
    sent_then step t leads n limit now has out =
        let cut = cut_of (s.taken n) in
        let came : CameOut s n cut.0 = (cut.1, cut.2) in
        let lt : n < length d.nodes = limit_within d valid n limit has in
        let before = counts.sent n limit cut.0 has came in
        let moved = replies_sent (network_of d) ok steps s run step t leads n (in_net n lt) cut.0 now came out in
        let size = counts.all_sent in
        record {
          all = before.all + one_sent (s.owed n) (t.owed n);
          total = numbers (one_sent (s.owed n) (t.owed n)) (t.owed n) _ (s.owed n) _ before.all before.total moved;
          counted = sent_more c s t step leads n limit before.all has (omega (arith, size, lt)) before.counted;
        }
      where
        numbers : (one owed came was now all : ℕ) → was + all ≡ came → (one + owed) + came ≡ was + now → owed + (all + one) ≡ now
        numbers one owed came was now all before moved = omega (arith, before, moved)

    -- a step that begins nothing
    moved : (step : Step) (t : State) → Leads (network_of d) s step t → beginning step ≡ [] → (e : Counts) → e ≡ counted_with d c step s t → e.begun ≡ c.begun → length e.sent ≡ length c.sent → CountsUnanswered d (steps ++ step ∷ []) t e
    moved step t leads none e is same size = record {
      all_begun = ap (λ l. length l) same ∙ counts.all_begun;
      all_sent = size ∙ counts.all_sent;
      few = λ n. (let was = counts.few n in let is_same = ap (λ l. get_or l n 0) same in let long = longer step in omega (arith, was, is_same, long));
      begun = λ n limit at. ap (λ l. get_or l n 0) same ∙ counts.begun n limit at ∙ sym (beginnings_same steps step none n);
      sent = λ n limit now at out. subst (λ (x : Counts). AreSent (get_or x.sent n 0) (t.owed n) (count_by (is_command_at (network_of d) n) now)) (sym is) (sent_then step t leads n limit now at out);
    }

    same_counts : (step : Step) (t : State) → Leads (network_of d) s step t → beginning step ≡ [] → c ≡ counted_with d c step s t → CountsUnanswered d (steps ++ step ∷ []) t c
    same_counts step t leads none is = moved step t leads none c is refl refl

    begins : (flow : ℕ) (cargo : List ℕ) (end : End) (t : State) → Leads (network_of d) s (Begin flow cargo end) t → CountsUnanswered d (steps ++ Begin flow cargo end ∷ []) t (with_begun d c flow)
    begins flow cargo end t leads = record {
      all_begun = begun_size c (limited_target d flow) ∙ counts.all_begun;
      all_sent = ap (λ l. length l) (begun_keeps c (limited_target d flow)) ∙ counts.all_sent;
      few = λ n. (let was = counts.few n in let most = begun_one c (limited_target d flow) n in let long = longer (Begin flow cargo end) in omega (arith, was, most, long));
      begun = λ n limit at.
          let entry = entry_of flow leads.declared.declared in
          let small = counts.few n in
          let lt : n < length d.nodes = limit_within d valid n limit at in
          counted_more flow cargo end leads.declared entry.0 entry.1 n limit at c counts.all_begun lt (omega (arith, small, few))
          ∙ ap (λ k. k + (if is_answered_at n entry.0 then 1 else 0)) (counts.begun n limit at)
          ∙ sym (commands_more flow cargo end leads.declared entry.0 entry.1 n limit at steps);
      sent = λ n limit now at out. sent_then (Begin flow cargo end) t leads n limit now at out;
    }

    pub counted : (step : Step) (t : State) → Leads (network_of d) s step t → CountsUnanswered d (steps ++ step ∷ []) t (counted_with d c step s t)
    counted (Begin flow cargo end) t leads = begins flow cargo end t leads
    counted (Emit m) t leads =
        moved (Emit m) t leads refl (counted_with d c (Emit m) s t) refl (sent_keeps c m (nat_lt (owed_with_limit d t m) (owed_with_limit d s m))) (sent_size c m (nat_lt (owed_with_limit d t m) (owed_with_limit d s m)))
    counted (Fct k) t leads = same_counts (Fct k) t leads refl refl
    counted (FctIn k) t leads = same_counts (FctIn k) t leads refl refl
    counted (Arrive k) t leads = same_counts (Arrive k) t leads refl refl
    counted (Grant o i) t leads = same_counts (Grant o i) t leads refl refl
    counted (Drop k) t leads = same_counts (Drop k) t leads refl refl
    counted (Forward k) t leads = same_counts (Forward k) t leads refl refl
    counted (Spill k) t leads = same_counts (Spill k) t leads refl refl
    counted (Accept m) t leads = same_counts (Accept m) t leads refl refl
    counted (Reply m) t leads = same_counts (Reply m) t leads refl refl

    -- ---- which packets may be begun

    -- a node with a limit that answers no packet of the flow is as it was
    module _ (keeps : KeepsLimits (network_of d) steps) (flow : ℕ) (cargo : List ℕ) (end : End) (declared : IsDeclared (network_of d) flow cargo) where
      abbrev there : ℕ
      there = ((network_of d).flow flow).to

      to_node : there < length d.nodes
      to_node =
          let more = ok.flows_declared in
          let within = declared.declared in
          subst (λ k. there < k) (sym (same_nodes d)) (ok.flow_ends flow (omega (arith, more, within))).1

      room_or : Option ℕ → Bool
      room_or o = option_map_or (λ n. has_room c n (limit_at d n)) o true

      -- what is then unanswered
      then_unanswered : (f : FlowEntry) → Has flow f → (limit : ℕ) → limit_at d there ≡ Some limit → (came : List Packet) → CameOut s there came
          → unanswered (network_of d) there (steps ++ Begin flow cargo end ∷ []) came s ≡ (get_or c.begun there 0 + (if is_answered_at there f then 1 else 0)) - get_or c.sent there 0
      then_unanswered f has limit is came out =
          let begun = counts.begun there limit is in
          let sent = counts.sent there limit came is out in
          let more = commands_more flow cargo end declared f has there limit is steps in
          let few_begun = counts.few there in
          let less = less_sent (2 ^ 64 - 1) (get_or c.begun there 0 + (if is_answered_at there f then 1 else 0)) sent.all (get_or c.sent there 0) (one_or_none (is_answered_at there f) few_begun few) sent.counted in
          numbers (get_or c.begun there 0) _ _ (if is_answered_at there f then 1 else 0) (s.owed there) sent.all _ begun more sent.total ∙ sym less
        where
          one_or_none : (t : Bool) → {k j most : ℕ} → k ≤ j → j < most → k + (if t then 1 else 0) ≤ most
          one_or_none true le lt = omega (arith, le, lt)
          one_or_none false le lt = omega (arith, le, lt)

          numbers : (begun to later one owed all at : ℕ) → begun ≡ to → later ≡ to + one → owed + all ≡ at → (later + owed) - at ≡ (begun + one) - all
          numbers begun to later one owed all at is more total = omega (arith, is, more, total)

      enough : (t : Bool) (begun sent limit : ℕ) → (t ≡ false → begun - sent ≤ limit) → ((if t then nat_lt (begun - sent) limit else true) ≡ true) → (begun + (if t then 1 else 0)) - sent ≤ limit
      enough false begun sent limit before allowed = let was = before refl in omega (arith, was)
      enough true begun sent limit before allowed = let less = ltb-true (begun - sent) limit allowed in omega (arith, less)

      room : (t : Bool) (begun sent limit : ℕ) → 1 ≤ limit → (begun + (if t then 1 else 0)) - sent ≤ limit → (if t then nat_lt (begun - sent) limit else true) ≡ true
      room false begun sent limit some within = refl
      room true begun sent limit some within = lt-ltb (begun - sent) limit (omega (arith, some, within))

      -- the test, where the flow's end has a limit
      allows_is : (f : FlowEntry) → Has flow f → (limit : ℕ) → limit_at d there ≡ Some limit
          → allows d c flow ≡ (if is_answered_at there f then nat_lt (get_or c.begun there 0 - get_or c.sent there 0) limit else true)
      allows_is f has limit is =
          let to = to_is flow f has in
          let limit_there : limit_at d f.to ≡ Some limit = ap (limit_at d) (sym to) ∙ is in
          rw (has.at, limit_there, eq-eqb f.to there (sym to)) (by to (is_some f.reply))
        where
          by : there ≡ f.to → (t : Bool)
              → option_map_or (λ n. has_room c n (limit_at d n)) (if t && true then Some f.to else None) true
              ≡ (if t && true then nat_lt (get_or c.begun there 0 - get_or c.sent there 0) limit else true)
          by to true = subst (λ m. has_room c m (limit_at d m) ≡ nat_lt (get_or c.begun there 0 - get_or c.sent there 0) limit) to (rw is refl)
          by to false = refl

      allows_free : (f : FlowEntry) → Has flow f → limit_at d there ≡ None → allows d c flow ≡ true
      allows_free f has none =
          let to = to_is flow f has in
          let none_there : limit_at d f.to ≡ None = ap (limit_at d) (sym to) ∙ none in
          rw (has.at, none_there) (by (is_some f.reply))
        where
          by : (t : Bool) → option_map_or (λ n. has_room c n (limit_at d n)) (if t && false then Some f.to else None) true ≡ true
          by true = refl
          by false = refl

      was_within : (limit : ℕ) → limit_at d there ≡ Some limit → get_or c.begun there 0 - get_or c.sent there 0 ≤ limit
      was_within limit is =
          let cut = cut_of (s.taken there) in
          let came : CameOut s there cut.0 = (cut.1, cut.2) in
          let kept = kept_after_each_step (network_of d) ok steps s run keeps there (in_net there to_node) limit cut.0 (limit_is there ∙ is) came in
          let same = counts_are_unanswered d steps s c counts few there limit cut.0 is came in
          omega (arith, kept, same)

      pub allowed_is_within : allows d c flow ≡ true ↔ IsWithinLimit (network_of d) (steps ++ Begin flow cargo end ∷ []) s there
      allowed_is_within = (forth, back)
        where
          entry : (f : FlowEntry) × Has flow f
          entry = entry_of flow declared.declared

          forth : allows d c flow ≡ true → IsWithinLimit (network_of d) (steps ++ Begin flow cargo end ∷ []) s there
          forth allowed limit came is out =
              let f = entry.0 in
              let at : limit_at d there ≡ Some limit = sym (limit_is there) ∙ is in
              let told = sym (allows_is f entry.1 limit at) ∙ allowed in
              let now = then_unanswered f entry.1 limit at came out in
              let few = enough (is_answered_at there f) (get_or c.begun there 0) (get_or c.sent there 0) limit (λ none. was_within limit at) told in
              omega (arith, now, few)

          back : IsWithinLimit (network_of d) (steps ++ Begin flow cargo end ∷ []) s there → allows d c flow ≡ true
          back within = by (limit_at d there) refl
            where
              by : (o : Option ℕ) → limit_at d there ≡ o → allows d c flow ≡ true
              by None none = allows_free entry.0 entry.1 none
              by (Some limit) at =
                  let f = entry.0 in
                  let cut = cut_of (s.taken there) in
                  let came : CameOut s there cut.0 = (cut.1, cut.2) in
                  let few = within limit cut.0 (limit_is there ∙ at) came in
                  let now = then_unanswered f entry.1 limit at cut.0 came in
                  let some = limit_at_least d valid there limit at in
                  allows_is f entry.1 limit at ∙ room (is_answered_at there f) (get_or c.begun there 0) (get_or c.sent there 0) limit some (omega (arith, few, now))

pub counted_with_each_step : CountedWithEachStep
counted_with_each_step d valid steps s c run counts few step t leads = counted d valid steps s c run counts few step t leads

pub allowed_is_within_limits : AllowedIsWithin
allowed_is_within_limits d valid steps s c run keeps counts few flow cargo end declared = allowed_is_within d valid steps s c run counts few keeps flow cargo end declared
