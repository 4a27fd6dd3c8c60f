-- The two small networks with limits: they are networks, and how few unanswered commands free them.
use Rattle.std.proofs.Common.{Contains, List, None, Option, Some, [], ap, arith, eqb-true, inl, inr, length, ltb-true, nat_eq, nat_lt, ne_eqb, refl, subst, suc, sym, true, zero, ℕ, ◌+◌, ◌<◌, ◌∙◌, ◌∷◌, ◌≡◌, ◌≤◌}
use Rattle.std.proofs.lemmas.Bool.{and_parts}
use Rattle.std.specs.List.{AllByRecursion}
use Rattle.std.specs.Option.{option_map}
use Rattle.std.specs.Prelude.{if◌then◌else◌, is_some}
use Rattle.sw_flow.proofs.Lists.{none_in}
use Rattle.sw_machine.proofs.Cuts.{cut_of, no_cons}
use Rattle.sw_machine.proofs.Kept.{locks_up}
use Rattle.sw_machine.proofs.Sample.{Goes, both_of, faultless_node, faultless_switch, goes_node, goes_switch, listed_all, listed_one, named, no_node, node_is}
use Rattle.sw_machine.specs.Certificate.{IsAccepted, IsListed, number}
use Rattle.sw_machine.specs.LimitSamples.{LocksUp, detour, detour_certificate, detour_ends, detour_flow, detour_reply_to, detour_starts, detour_steps, detour_table, duel, duel_certificate, duel_flow, duel_reply_to, duel_steps, long_reply}
use Rattle.sw_machine.specs.Network.{AtNode, AtSwitch, IsNetwork, IsReplyFlow, Network, Place, left_bytes, reverse_of}
use Rattle.sw_machine.specs.Places.{AlwaysTakes, ByFlow, ByTarget, Follows, Goes as GoesOn, IsCycle, IsDependency, NoFault, Start, deleted_after, header}
use Rattle.sw_machine.specs.Sample.{cell_at, look_in, place}
use Rattle.sw_rmap.specs.Owing.{PendingReply}

each_of_four : (P : ℕ → Type 0) → P 0 → P 1 → P 2 → P 3 → (i : ℕ) → i < 4 → P i
each_of_four P a b d e zero lt = a
each_of_four P a b d e (suc zero) lt = b
each_of_four P a b d e (suc (suc zero)) lt = d
each_of_four P a b d e (suc (suc (suc zero))) lt = e
each_of_four P a b d e (suc (suc (suc (suc i)))) lt = absurd (omega arith)

each_of_six : (P : ℕ → Type 0) → P 0 → P 1 → P 2 → P 3 → P 4 → P 5 → (c : ℕ) → c < 6 → P c
each_of_six P a b d e f g zero lt = a
each_of_six P a b d e f g (suc zero) lt = b
each_of_six P a b d e f g (suc (suc c)) lt = each_of_four (λ c. P (suc (suc c))) d e f g c (omega arith)

address_kept : (address : Option (List ℕ)) → option_map (λ (r : PendingReply). r.address) (option_map long_reply address) ≡ address
address_kept None = refl
address_kept (Some address) = refl

reply_length : (address : Option (List ℕ)) (r : PendingReply) → option_map long_reply address ≡ Some r → length r.cargo ≤ 8
reply_length None r e = absurd (cc)
reply_length (Some address) r e =
    let is : long_reply address ≡ r = cc in
    let l : 8 ≡ length r.cargo = ap (λ (r : PendingReply). length r.cargo) is in
    omega arith

module _ (slots : ℕ) (limit : Option ℕ) where
  abbrev a_duel : Network
  a_duel = duel slots limit

  duel_ends_at : (c : ℕ) → c < 2 → (n : ℕ) → a_duel.end_of c ≡ AtNode n → (n < 2) × (a_duel.into n ≡ c)
  duel_ends_at = both_of (λ c. (n : ℕ) → a_duel.end_of c ≡ AtNode n → (n < 2) × (a_duel.into n ≡ c))
      (λ n e. subst (λ n. (n < 2) × (a_duel.into n ≡ 0)) (node_is 1 n e) (omega arith, refl))
      (λ n e. subst (λ n. (n < 2) × (a_duel.into n ≡ 1)) (node_is 0 n e) (omega arith, refl))

  duel_starts_at : (c n : ℕ) → c < 2 → AtNode c ≡ AtNode n → (n < 2) × (n ≡ c)
  duel_starts_at c n lt e = let is = node_is c n e in (omega arith, sym is)

  duel_reply_flow : (i j : ℕ) → (duel_flow i).reply ≡ Some j → IsReplyFlow a_duel i j
  duel_reply_flow zero j e =
      let k : 2 ≡ j = cc in
      subst (IsReplyFlow a_duel 0) k (record { in_flows = omega arith; after_declared = omega arith; from = refl; to = refl; left = refl; unanswered = refl })
  duel_reply_flow (suc zero) j e =
      let k : 3 ≡ j = cc in
      subst (IsReplyFlow a_duel 1) k (record { in_flows = omega arith; after_declared = omega arith; from = refl; to = refl; left = refl; unanswered = refl })
  duel_reply_flow (suc (suc zero)) j e = absurd (cc)
  duel_reply_flow (suc (suc (suc zero))) j e = absurd (cc)
  duel_reply_flow (suc (suc (suc (suc i)))) j e = absurd (cc)

  duel_no_flow : (i : ℕ) → 4 ≤ i → (duel_flow i).reply ≡ None
  duel_no_flow zero le = absurd (omega arith)
  duel_no_flow (suc zero) le = absurd (omega arith)
  duel_no_flow (suc (suc zero)) le = refl
  duel_no_flow (suc (suc (suc zero))) le = refl
  duel_no_flow (suc (suc (suc (suc i)))) le = refl

  duel_replies_end : (i j : ℕ) (cargo : List ℕ) → (duel_flow i).reply ≡ Some j → duel_reply_to (left_bytes a_duel j cargo) ≡ None
  duel_replies_end zero j cargo e = let k : 2 ≡ j = cc in subst (λ j. duel_reply_to (left_bytes a_duel j cargo) ≡ None) k refl
  duel_replies_end (suc zero) j cargo e = let k : 3 ≡ j = cc in subst (λ j. duel_reply_to (left_bytes a_duel j cargo) ≡ None) k refl
  duel_replies_end (suc (suc zero)) j cargo e = absurd (cc)
  duel_replies_end (suc (suc (suc zero))) j cargo e = absurd (cc)
  duel_replies_end (suc (suc (suc (suc i)))) j cargo e = absurd (cc)

  pub duel_is_network : 0 < slots → IsNetwork (duel slots limit)
  duel_is_network some = record {
    room = λ c lt. omega arith;
    reversed = both_of (λ c. (reverse_of c < 2) × (a_duel.start_of (reverse_of c) ≡ a_duel.end_of c)) (omega arith, refl) (omega arith, refl);
    starts_at_node = duel_starts_at;
    ends_at_node = λ c n lt e. duel_ends_at c lt n e;
    out_starts = λ n lt. (lt, refl);
    into_ends = both_of (λ n. (a_duel.into n < 2) × (a_duel.end_of (a_duel.into n) ≡ AtNode n)) (omega arith, refl) (omega arith, refl);
    look_starts = λ s h d c. absurd (none_in d c);
    flows_declared = omega arith;
    flow_ends = each_of_four (λ i. ((duel_flow i).from < 2) × ((duel_flow i).to < 2))
        (omega arith, omega arith) (omega arith, omega arith) (omega arith, omega arith) (omega arith, omega arith);
    reply_flow = λ i j lt e. duel_reply_flow i j e;
    no_flow = duel_no_flow;
    limited_flow = λ i is. ltb-true i 2 (and_parts (nat_lt i 2) (is_some limit) is).0;
    slot = λ n lt. some;
    answers = record {
      reply_goes = λ n memory bytes end lt. address_kept (duel_reply_to bytes);
      reply_length = λ n memory bytes r end lt e. reply_length (duel_reply_to bytes) r e;
      replies_end = λ i j n memory bytes r end li ln e a g. duel_replies_end i j r.cargo e;
    };
  }

-- where a node has no limit, it does not always take
no_limit : (limit : ℕ) → None ≡ Some limit → ⊥
no_limit limit e = cc

pub duel_is_cycle : (slots : ℕ) → IsCycle (duel slots None) (0 ∷ 1 ∷ [])
duel_is_cycle slots = (
  ByTarget 0 2 (omega arith) refl (λ takes. no_limit takes.limit takes.is),
  ByTarget 1 3 (omega arith) refl (λ takes. no_limit takes.limit takes.is),
)

module _ (slots limit : ℕ) where
  abbrev limited_duel : Network
  limited_duel = duel slots (Some limit)

  duel_listed : (P : ℕ → Place → Type 0) → P 0 (place 0 0) → P 1 (place 1 0) → P 2 (place 1 0) → P 3 (place 0 0)
      → (i c k : ℕ) → i < 4 → IsListed duel_certificate i c k → P i (place c k)
  duel_listed P a b d e i c k lt = each_of_four (λ i. (c k : ℕ) → IsListed duel_certificate i c k → P i (place c k))
      (listed_one duel_certificate P 0 (a, tt))
      (listed_one duel_certificate P 1 (b, tt))
      (listed_one duel_certificate P 2 (d, tt))
      (listed_one duel_certificate P 3 (e, tt))
      i lt c k

  duel_goes : (i c k : ℕ) → i < 4 → IsListed duel_certificate i c k → Goes limited_duel duel_certificate i (place c k)
  duel_goes = duel_listed (Goes limited_duel duel_certificate)
      (goes_node limited_duel duel_certificate 0 0 0 1 refl)
      (goes_node limited_duel duel_certificate 1 1 0 0 refl)
      (goes_node limited_duel duel_certificate 2 1 0 0 refl)
      (goes_node limited_duel duel_certificate 3 0 0 1 refl)

  pub duel_is_accepted : limit < slots → IsAccepted (duel slots (Some limit)) duel_certificate
  duel_is_accepted few = record {
    channels = refl;
    flows = refl;
    in_range = duel_listed (λ i p. (p.channel < 2) × (p.deleted ≤ length (duel_flow i).address))
        (omega arith, omega arith) (omega arith, omega arith) (omega arith, omega arith) (omega arith, omega arith);
    starts = each_of_four (λ i. IsListed duel_certificate i (duel_flow i).from 0)
        (0, omega arith, refl) (0, omega arith, refl) (0, omega arith, refl) (0, omega arith, refl);
    faultless = duel_listed (λ i p. NoFault limited_duel i p.channel p.deleted)
        (faultless_node limited_duel 0 0 0 1 refl refl refl)
        (faultless_node limited_duel 1 1 0 0 refl refl refl)
        (faultless_node limited_duel 2 1 0 0 refl refl refl)
        (faultless_node limited_duel 3 0 0 1 refl refl refl);
    closed = λ i c k d m lt listed f. (duel_goes i c k lt listed d m f).0;
    rising = λ i c k d m lt listed f. (duel_goes i c k lt listed d m f).1;
    targets = λ i j lt reply waits. absurd (waits (record { limit = limit; is = refl; few = inl few }));
  }

pub duel_locks_up : LocksUp (duel 2 (Some 2)) duel_steps
unfolding cut_of
duel_locks_up = locks_up (duel 2 (Some 2)) (duel_is_network 2 (Some 2) (omega arith)) duel_steps refl

abbrev Out : ℕ → ℕ → Type 0
Out s d = (d < 6) × (cell_at detour_starts d ≡ AtSwitch s)

detour_looks : (limit : Option ℕ) (s h d : ℕ) → Contains ((detour limit).look s h) d → Out s d
detour_looks limit zero h d c = named (Out 0) detour_table h d (((omega arith, refl), tt), (((omega arith, refl), tt), (((omega arith, refl), tt), tt))) c
detour_looks limit (suc s) h d c = absurd (none_in d (subst (λ t. Contains (if t then look_in detour_table h else []) d) (ne_eqb (suc s) 0 (omega arith)) c))

detour_starts_at : (limit : Option ℕ) (c : ℕ) → c < 6 → (n : ℕ) → cell_at detour_starts c ≡ AtNode n → (n < 2) × ((detour limit).out n ≡ c)
detour_starts_at limit = each_of_six (λ c. (n : ℕ) → cell_at detour_starts c ≡ AtNode n → (n < 2) × ((detour limit).out n ≡ c))
    (λ n e. subst (λ n. (n < 2) × ((detour limit).out n ≡ 0)) (node_is 0 n e) (omega arith, refl))
    (λ n e. absurd (no_node 0 n e))
    (λ n e. subst (λ n. (n < 2) × ((detour limit).out n ≡ 2)) (node_is 1 n e) (omega arith, refl))
    (λ n e. absurd (no_node 0 n e))
    (λ n e. absurd (no_node 0 n e))
    (λ n e. absurd (no_node 0 n e))

detour_ends_at : (limit : Option ℕ) (c : ℕ) → c < 6 → (n : ℕ) → cell_at detour_ends c ≡ AtNode n → (n < 2) × ((detour limit).into n ≡ c)
detour_ends_at limit = each_of_six (λ c. (n : ℕ) → cell_at detour_ends c ≡ AtNode n → (n < 2) × ((detour limit).into n ≡ c))
    (λ n e. absurd (no_node 0 n e))
    (λ n e. subst (λ n. (n < 2) × ((detour limit).into n ≡ 1)) (node_is 0 n e) (omega arith, refl))
    (λ n e. absurd (no_node 0 n e))
    (λ n e. subst (λ n. (n < 2) × ((detour limit).into n ≡ 3)) (node_is 1 n e) (omega arith, refl))
    (λ n e. absurd (no_node 0 n e))
    (λ n e. absurd (no_node 0 n e))

detour_reversed : (c : ℕ) → c < 6 → (reverse_of c < 6) × (cell_at detour_starts (reverse_of c) ≡ cell_at detour_ends c)
detour_reversed = each_of_six (λ c. (reverse_of c < 6) × (cell_at detour_starts (reverse_of c) ≡ cell_at detour_ends c))
    (omega arith, refl) (omega arith, refl) (omega arith, refl) (omega arith, refl) (omega arith, refl) (omega arith, refl)

detour_reply_flow : (limit : Option ℕ) (i j : ℕ) → (detour_flow i).reply ≡ Some j → IsReplyFlow (detour limit) i j
detour_reply_flow limit zero j e =
    let k : 1 ≡ j = cc in
    subst (IsReplyFlow (detour limit) 0) k (record { in_flows = omega arith; after_declared = omega arith; from = refl; to = refl; left = refl; unanswered = refl })
detour_reply_flow limit (suc zero) j e = absurd (cc)
detour_reply_flow limit (suc (suc i)) j e = absurd (cc)

detour_no_flow : (i : ℕ) → 2 ≤ i → (detour_flow i).reply ≡ None
detour_no_flow zero le = absurd (omega arith)
detour_no_flow (suc zero) le = refl
detour_no_flow (suc (suc i)) le = refl

detour_replies_end : (limit : Option ℕ) (i j : ℕ) (cargo : List ℕ)
    → (detour_flow i).reply ≡ Some j → detour_reply_to (detour_flow j).to (left_bytes (detour limit) j cargo) ≡ None
detour_replies_end limit zero j cargo e =
    let k : 1 ≡ j = cc in
    subst (λ j. detour_reply_to (detour_flow j).to (left_bytes (detour limit) j cargo) ≡ None) k refl
detour_replies_end limit (suc zero) j cargo e = absurd (cc)
detour_replies_end limit (suc (suc i)) j cargo e = absurd (cc)

pub detour_is_network : (limit : Option ℕ) → IsNetwork (detour limit)
detour_is_network limit = record {
  room = λ c lt. omega arith;
  reversed = detour_reversed;
  starts_at_node = λ c n lt e. detour_starts_at limit c lt n e;
  ends_at_node = λ c n lt e. detour_ends_at limit c lt n e;
  out_starts = both_of (λ n. ((detour limit).out n < 6) × (cell_at detour_starts ((detour limit).out n) ≡ AtNode n)) (omega arith, refl) (omega arith, refl);
  into_ends = both_of (λ n. ((detour limit).into n < 6) × (cell_at detour_ends ((detour limit).into n) ≡ AtNode n)) (omega arith, refl) (omega arith, refl);
  look_starts = detour_looks limit;
  flows_declared = omega arith;
  flow_ends = both_of (λ i. ((detour_flow i).from < 2) × ((detour_flow i).to < 2)) (omega arith, omega arith) (omega arith, omega arith);
  reply_flow = λ i j lt e. detour_reply_flow limit i j e;
  no_flow = detour_no_flow;
  limited_flow = λ i is. let first = eqb-true i 0 (and_parts (nat_eq i 0) (is_some limit) is).0 in omega arith;
  slot = λ n lt. omega arith;
  answers = record {
    reply_goes = λ n memory bytes end lt. address_kept (detour_reply_to n bytes);
    reply_length = λ n memory bytes r end lt e. reply_length (detour_reply_to n bytes) r e;
    replies_end = λ i j n memory bytes r end li ln e a g. detour_replies_end limit i j r.cargo e;
  };
}

-- whatever the limit, the commands go on by the link of the switch to the target, and the replies go on to that link
detour_follows : (limit : Option ℕ) (i c k d : ℕ) → cell_at detour_ends c ≡ AtSwitch 0 → k < length (detour_flow i).address
    → deleted_after (detour limit) i 0 k ≡ k + 1
    → (detour limit).look 0 (header (detour limit) i k) ≡ d ∷ [] → Follows (detour limit) i c k d (k + 1)
detour_follows limit i c k d at within deleted named = record {
  switch = 0;
  at = at;
  within = within;
  named = subst (λ l. Contains l d) (sym named) (0, omega arith, refl);
  deleted = sym deleted;
}

pub detour_is_cycle : IsCycle (detour None) (4 ∷ 3 ∷ 2 ∷ [])
detour_is_cycle =
    let to_link = detour_follows None 0 0 0 4 refl (omega arith) refl refl in
    let to_target = detour_follows None 0 4 1 3 refl (omega arith) refl refl in
    let back = detour_follows None 1 2 0 4 refl (omega arith) refl refl in
    let waits : IsDependency (detour None) 3 2 = ByTarget 0 1 (omega arith) refl (λ takes. no_limit takes.limit takes.is) in
    (ByFlow 0 4 1 3 2 (omega arith) (GoesOn 0 0 4 1 Start to_link) to_target, (waits, ByFlow 1 2 0 4 1 (omega arith) Start back))

-- the network where one command may be unanswered
abbrev limited_detour : Network
limited_detour = detour (Some 1)

abbrev GoesThere : ℕ → Place → Type 0
GoesThere = Goes limited_detour detour_certificate

detour_goes_on : (i c k d m : ℕ) → cell_at detour_ends c ≡ AtSwitch 0 → deleted_after limited_detour i 0 k ≡ m
    → limited_detour.look 0 (header limited_detour i k) ≡ d ∷ []
    → IsListed detour_certificate i d m → number detour_certificate c < number detour_certificate d → GoesThere i (place c k)
detour_goes_on i c k d m at deleted named listed rises =
    let Rises : List ℕ → Type 0 = AllByRecursion (λ d. IsListed detour_certificate i d m × (number detour_certificate c < number detour_certificate d)) in
    goes_switch limited_detour detour_certificate i c k 0 m at deleted (subst Rises (sym named) ((listed, rises), tt))

detour_goes : (i c k : ℕ) → i < 2 → IsListed detour_certificate i c k → GoesThere i (place c k)
detour_goes =
    let target : GoesThere 0 (place 3 2) = goes_node limited_detour detour_certificate 0 3 2 1 refl in
    let node : GoesThere 1 (place 1 2) = goes_node limited_detour detour_certificate 1 1 2 0 refl in
    let to_link = detour_goes_on 0 0 0 4 1 refl refl refl (1, omega arith, refl) (omega arith) in
    let to_target = detour_goes_on 0 4 1 3 2 refl refl refl (2, omega arith, refl) (omega arith) in
    let back_to_link = detour_goes_on 1 2 0 4 1 refl refl refl (1, omega arith, refl) (omega arith) in
    let to_node = detour_goes_on 1 4 1 1 2 refl refl refl (2, omega arith, refl) (omega arith) in
    listed_all detour_certificate GoesThere (to_link, (to_target, (target, tt))) (back_to_link, (to_node, (node, tt)))

-- only commands end at the target
target_takes : AlwaysTakes (detour (Some 1)) 1
target_takes =
    let all = both_of (λ i. (detour_flow i).to ≡ 1 → limited_detour.limited i ≡ true) (λ e. refl) (λ e. absurd (omega arith)) in
    record { limit = 1; is = refl; few = inr (refl, all) }

detour_targets : (i j : ℕ) → i < 2 → (detour_flow i).reply ≡ Some j → (AlwaysTakes limited_detour (detour_flow i).to → ⊥)
    → number detour_certificate (limited_detour.into (detour_flow i).to) < number detour_certificate (limited_detour.out (detour_flow i).to)
detour_targets zero j lt reply waits = absurd (waits target_takes)
detour_targets (suc zero) j lt reply waits = absurd (cc)
detour_targets (suc (suc i)) j lt reply waits = absurd (omega arith)

detour_faultless_at : (i c k d : ℕ) → cell_at detour_ends c ≡ AtSwitch 0 → k < length (detour_flow i).address
    → limited_detour.look 0 (header limited_detour i k) ≡ d ∷ [] → NoFault limited_detour i c k
detour_faultless_at i c k d at within named = faultless_switch limited_detour i c k 0 at within (λ none. no_cons d [] (sym named ∙ none))

detour_faultless : (i c k : ℕ) → i < 2 → IsListed detour_certificate i c k → NoFault limited_detour i c k
detour_faultless =
    let target : NoFault limited_detour 0 3 2 = faultless_node limited_detour 0 3 2 1 refl refl refl in
    let node : NoFault limited_detour 1 1 2 = faultless_node limited_detour 1 1 2 0 refl refl refl in
    listed_all detour_certificate (λ i p. NoFault limited_detour i p.channel p.deleted)
    (detour_faultless_at 0 0 0 4 refl (omega arith) refl, (detour_faultless_at 0 4 1 3 refl (omega arith) refl, (target, tt)))
    (detour_faultless_at 1 2 0 4 refl (omega arith) refl, (detour_faultless_at 1 4 1 1 refl (omega arith) refl, (node, tt)))

pub detour_is_accepted : IsAccepted (detour (Some 1)) detour_certificate
detour_is_accepted =
    record {
      channels = refl;
      flows = refl;
      in_range = listed_all detour_certificate (λ i p. (p.channel < 6) × (p.deleted ≤ length (detour_flow i).address))
          ((omega arith, omega arith), ((omega arith, omega arith), ((omega arith, omega arith), tt)))
          ((omega arith, omega arith), ((omega arith, omega arith), ((omega arith, omega arith), tt)));
      starts = both_of (λ i. IsListed detour_certificate i (limited_detour.out (detour_flow i).from) 0) (0, omega arith, refl) (0, omega arith, refl);
      faultless = detour_faultless;
      closed = λ i c k d m lt listed f. (detour_goes i c k lt listed d m f).0;
      rising = λ i c k d m lt listed f. (detour_goes i c k lt listed d m f).1;
      targets = detour_targets;
    }

pub detour_locks_up : LocksUp (detour (Some 2)) detour_steps
unfolding cut_of
detour_locks_up = locks_up (detour (Some 2)) (detour_is_network (Some 2)) detour_steps refl
