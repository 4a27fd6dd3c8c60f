-- Runs of the machine: what comes out of them is delivered.
use Rattle.std.proofs.Common.{Bool, List, None, Option, Some, [], ap, arith, count_by, eq-eqb, false, get_or, inl, inr, length, map, nat_eq, nat_lt, refl, subst, suc, sum_by, sym, true, zero, ℕ, ◌+◌, ◌<◌, ◌∙◌, ◌∷◌, ◌≡◌, ◌≤◌}
use Rattle.std.proofs.lemmas.Bool.{and_from, and_parts, cases_lt, le-ltb, lt-ltb}
use Rattle.std.proofs.lemmas.Bool.Decides.{nat_tests}
use Rattle.std.proofs.lemmas.List.Sums.{sum_by-cons}
use Rattle.std.proofs.lemmas.Option.{slice_get-get_or, slice_get_past, slice_get_within}
use Rattle.std.specs.Cmp.{unsigned_Decides}
use Rattle.std.specs.List.{flat_map, range_with_len}
use Rattle.std.specs.Option.{option_map_or}
use Rattle.std.specs.Prelude.{if◌then◌else◌, slice_get, slice_index_or, ◌&&◌}
use Rattle.sw_char.specs.PacketView.{PacketView}
use Rattle.sw_config.specs.Entries.{Declaration, FlowEntry, all_flows, reply_flows}
use Rattle.sw_config.proofs.Flows.{All-at}
use Rattle.sw_config.specs.Valid.{IsFlow, IsValid}
use Rattle.sw_machine.proofs.DeclaredNetworks.{are_networks}
use Rattle.sw_machine.proofs.Flows.{slice_get-append_left}
use Rattle.sw_machine.proofs.Load.{of_beginning, run_sum, sum_le, sum_same, sum_none}
use Rattle.sw_machine.proofs.Whole.{count_sent, goes_to}
use Rattle.sw_machine.specs.Begun.{AllComesOut, Begun, ComesOutWhole, RunOf, beginnings}
use Rattle.sw_machine.specs.Model.{network_of}
use Rattle.sw_machine.specs.Runs.{undelivered}
use Rattle.sw_machine.specs.State.{State, empty}
use Rattle.sw_machine.specs.Steps.{Step}
use Rattle.sw_summary.specs.Counts.{all_items, form_of, forms, item_at, items_at, items_of, of_flow}
use Rattle.sw_summary.specs.Items.{Item, is_same, times}
use Rattle.sw_summary.specs.Laws.{AreOut, DrainedIsDelivered, WholeIsDelivered, all_begun}
use Rattle.sw_summary.proofs.CountLaws.{all_begun_is_delivered, all_that_came_out_is_delivered, next_has, within_all}
use Rattle.sw_summary.proofs.Different.{one_itself}
use Rattle.sw_summary.proofs.Same.{one, same_is, times_cons}

-- one number more
below : (k n x : ℕ) → (if nat_lt k (n + 1) then x else 0) ≡ (if nat_lt k n then x else 0) + (if nat_eq k n then x else 0)
below k n x = grind (arith, nat_tests)

abbrev as_count : Bool → ℕ
as_count t = if t then 1 else 0

at_most : (a b : Bool) → (a ≡ true → b ≡ true) → as_count a ≤ as_count b
at_most true b h = let is = ap as_count (h refl) in omega (arith, is)
at_most false true h = omega arith
at_most false false h = omega arith

-- a list of items at a node
times_at : (p : Item) (n : ℕ) (packets : List PacketView) → times p (items_at n packets) ≡ count_by (λ q. is_same p (item_at n q)) packets
times_at p n [] = refl
times_at p n (q ∷ qs) =
    let here = times_cons p (item_at n q) (items_at n qs) in
    let there = sum_by-cons (λ r. one p (item_at n r)) q qs in
    let rest = times_at p n qs in
    omega (arith, here, there, rest)

module _ (d : Declaration) (p : Item) where
  abbrev is_form_in : Option FlowEntry → Begun → Bool
  is_form_in o b = option_map_or (λ f. is_same p (item_at f.to (form_of f b))) o false

  -- whether p is the packet that was begun, where its flow ends
  abbrev is_form : Begun → Bool
  is_form b = is_form_in (slice_get d.flows b.flow) b

  abbrev form_count : Begun → ℕ
  form_count b = as_count (is_form b)

  form_where : (b : Begun) (o : Option FlowEntry) → slice_get d.flows b.flow ≡ o → form_count b ≡ as_count (is_form_in o b)
  form_where b o at = ap (λ (e : Option FlowEntry). as_count (is_form_in e b)) at

  -- the items of flow n, with one packet more
  of_no_flow : (b : Begun) (n : ℕ) → slice_get d.flows n ≡ None → (t : Bool) → nat_eq b.flow n ≡ t → (if t then form_count b else 0) ≡ 0
  of_no_flow b n at true is = form_where b None (ap (slice_get d.flows) ((unsigned_Decides b.flow n).0 is) ∙ at)
  of_no_flow b n at false is = refl

  of_one_flow : (b : Begun) (bs : List Begun) (n : ℕ) (f : FlowEntry) → slice_get d.flows n ≡ Some f → (t : Bool) → nat_eq b.flow n ≡ t
      → times p (items_at f.to (map (form_of f) (if t then b ∷ of_flow n bs else of_flow n bs))) ≡ times p (items_at f.to (forms f n bs)) + (if t then form_count b else 0)
  of_one_flow b bs n f at true is =
      let here = form_where b (Some f) (ap (slice_get d.flows) ((unsigned_Decides b.flow n).0 is) ∙ at) in
      let sum = times_cons p (item_at f.to (form_of f b)) (items_at f.to (forms f n bs)) in
      omega (arith, here, sum)
  of_one_flow b bs n f at false is = omega arith

  items_cons : (b : Begun) (bs : List Begun) (n : ℕ) → times p (items_of d (b ∷ bs) n) ≡ times p (items_of d bs n) + (if nat_eq b.flow n then form_count b else 0)
  items_cons b bs n = go (slice_get d.flows n) refl
    where
      go : (o : Option FlowEntry) → slice_get d.flows n ≡ o
          → times p (option_map_or (λ f. items_at f.to (forms f n (b ∷ bs))) o []) ≡ times p (option_map_or (λ f. items_at f.to (forms f n bs)) o []) + (if nat_eq b.flow n then form_count b else 0)
      go None at = let none = of_no_flow b n at (nat_eq b.flow n) refl in omega (arith, none)
      go (Some f) at = of_one_flow b bs n f at (nat_eq b.flow n) refl

  -- those of the first flows, with one packet more
  first_cons : (b : Begun) (bs : List Begun) (n : ℕ)
      → times p (flat_map (items_of d (b ∷ bs)) (range_with_len 0 n)) ≡ times p (flat_map (items_of d bs) (range_with_len 0 n)) + (if nat_lt b.flow n then form_count b else 0)
  first_cons b bs zero = grind (arith, nat_tests)
  first_cons b bs (suc n) =
      let last : n + 1 ≡ suc n = omega arith in
      let more = next_has p (items_of d (b ∷ bs)) n in
      let fewer = next_has p (items_of d bs) n in
      let rest = first_cons b bs n in
      let here = items_cons b bs n in
      let both = below b.flow n (form_count b) in
      subst (λ m. times p (flat_map (items_of d (b ∷ bs)) (range_with_len 0 m)) ≡ times p (flat_map (items_of d bs) (range_with_len 0 m)) + (if nat_lt b.flow m then form_count b else 0)) last
      (omega (arith, more, fewer, rest, here, both))

  none_begun : (n : ℕ) → times p (flat_map (items_of d []) (range_with_len 0 n)) ≡ 0
  none_begun zero = refl
  none_begun (suc n) =
      let last : n + 1 ≡ suc n = omega arith in
      let more = next_has p (items_of d []) n in
      let rest = none_begun n in
      let here = nothing (slice_get d.flows n) in
      subst (λ m. times p (flat_map (items_of d []) (range_with_len 0 m)) ≡ 0) last (omega (arith, more, rest, here))
    where
      nothing : (o : Option FlowEntry) → times p (option_map_or (λ f. items_at f.to (forms f n [])) o []) ≡ 0
      nothing None = refl
      nothing (Some f) = refl

  of_declared : (b : Begun) (t : Bool) → nat_lt b.flow (length d.flows) ≡ t → (if t then form_count b else 0) ≡ form_count b
  of_declared b true is = refl
  of_declared b false is = sym (form_where b None (slice_get_past d.flows b.flow (grind (arith, nat_tests, is))))

  -- so often p was begun
  forms_are : (begun : List Begun) → times p (all_begun d begun) ≡ sum_by form_count begun
  forms_are [] = none_begun (length d.flows)
  forms_are (b ∷ bs) =
      let first = first_cons b bs (length d.flows) in
      let here = of_declared b (nat_lt b.flow (length d.flows)) refl in
      let rest = forms_are bs in
      let sum = sum_by-cons form_count b bs in
      omega (arith, first, here, rest, sum)

  -- replies are of no declared flow
  begun_are : (begun : List Begun) → sum_by (of_beginning (network_of d) form_count) begun ≡ sum_by form_count begun
  unfolding network_of
  begun_are begun = sum_same (of_beginning (network_of d) form_count) form_count begun (λ b. of_declared b (nat_lt b.flow (length d.flows)) refl)

  abbrev like_p : PacketView → Bool
  like_p q = is_same p (item_at p.node q)

  goes_in : (b : Begun) (o : Option FlowEntry) → slice_get d.flows b.flow ≡ o → is_form_in o b ≡ true → goes_to (network_of d) p.node like_p b ≡ true
  unfolding network_of
  goes_in b None at is = absurd (let no = ap as_count is in omega (arith, no))
  goes_in b (Some f) at is =
      let same : p ≡ item_at f.to (form_of f b) = (same_is p (item_at f.to (form_of f b))).0 is in
      let node : p.node ≡ f.to = ap (λ (q : Item). q.node) same in
      let here : slice_get (all_flows d) b.flow ≡ Some f = slice_get-append_left d.flows (reply_flows d.flows) b.flow (slice_get_within d.flows b.flow f at) ∙ at in
      rw here (and_from (nat_eq f.to p.node) (like_p (form_of f b)) (eq-eqb f.to p.node (sym node)) ((same_is p (item_at p.node (form_of f b))).1 (same ∙ ap (λ n. item_at n (form_of f b)) (sym node))))

  -- and the machine sent as many to its node
  sent_few : (begun : List Begun) → sum_by form_count begun ≤ count_by (goes_to (network_of d) p.node like_p) begun
  sent_few begun = sum_le form_count (λ b. if goes_to (network_of d) p.node like_p b then 1 else 0) begun (λ b. at_most (is_form b) (goes_to (network_of d) p.node like_p b) (goes_in b (slice_get d.flows b.flow) refl))

  -- none was begun to a node that is none
  ends_in : IsValid d → (b : Begun) (o : Option FlowEntry) → slice_get d.flows b.flow ≡ o → is_form_in o b ≡ true → p.node < length d.nodes
  ends_in valid b None at is = absurd (let no = ap as_count is in omega (arith, no))
  ends_in valid b (Some f) at is =
      let same : p ≡ item_at f.to (form_of f b) = (same_is p (item_at f.to (form_of f b))).0 is in
      let node : p.node ≡ f.to = ap (λ (q : Item). q.node) same in
      let within = (All-at (IsFlow d.nodes) d.flows b.flow f at valid.flows).to in
      omega (arith, node, within)

  none_beyond : IsValid d → length d.nodes ≤ p.node → (begun : List Begun) → sum_by form_count begun ≡ 0
  none_beyond valid beyond begun = sum_same form_count (λ b. 0) begun (λ b. none b (is_form b) refl) ∙ sum_none begun
    where
      none : (b : Begun) (t : Bool) → is_form b ≡ t → as_count t ≡ 0
      none b true is = absurd (let within = ends_in valid b (slice_get d.flows b.flow) refl is in omega (arith, within, beyond))
      none b false is = refl

  -- what came out at the nodes before node m
  out_at : (out : List (List PacketView)) (m : ℕ) (t : Bool) → nat_eq p.node m ≡ t
      → times p (items_at m (slice_index_or out m [])) ≡ (if t then count_by like_p (slice_index_or out p.node []) else 0)
  out_at out m true is =
      let same : p.node ≡ m = (unsigned_Decides p.node m).0 is in
      ap (λ n. times p (items_at n (slice_index_or out n []))) (sym same) ∙ times_at p p.node (slice_index_or out p.node [])
  out_at out m false is =
      times_at p m (slice_index_or out m [])
      ∙ sum_same (λ q. as_count (is_same p (item_at m q))) (λ (q : PacketView). 0) (slice_index_or out m []) (λ q. none q (is_same p (item_at m q)) refl) ∙ sum_none (slice_index_or out m [])
    where
      none : (q : PacketView) (t : Bool) → is_same p (item_at m q) ≡ t → as_count t ≡ 0
      none q true same = absurd (let node = ap (λ (r : Item). r.node) ((same_is p (item_at m q)).0 same) in grind (arith, nat_tests, node, is))
      none q false same = refl

  out_first : (out : List (List PacketView)) (m : ℕ)
      → times p (flat_map (λ n. items_at n (slice_index_or out n [])) (range_with_len 0 m)) ≡ (if nat_lt p.node m then count_by like_p (slice_index_or out p.node []) else 0)
  out_first out zero = grind (arith, nat_tests)
  out_first out (suc m) =
      let last : m + 1 ≡ suc m = omega arith in
      let more = next_has p (λ n. items_at n (slice_index_or out n [])) m in
      let rest = out_first out m in
      let here = out_at out m (nat_eq p.node m) refl in
      let both = below p.node m (count_by like_p (slice_index_or out p.node [])) in
      subst (λ k. times p (flat_map (λ n. items_at n (slice_index_or out n [])) (range_with_len 0 k)) ≡ (if nat_lt p.node k then count_by like_p (slice_index_or out p.node []) else 0)) last
      (omega (arith, more, rest, here, both))

  -- what the machine sent of declared flows was begun
  back_in : (b : Begun) (f : FlowEntry) → slice_get d.flows b.flow ≡ Some f → goes_to (network_of d) p.node like_p b ≡ true → is_form b ≡ true
  unfolding network_of
  back_in b f at goes =
      let here : slice_get (all_flows d) b.flow ≡ Some f = slice_get-append_left d.flows (reply_flows d.flows) b.flow (slice_get_within d.flows b.flow f at) ∙ at in
      let passes : (nat_eq f.to p.node && like_p (form_of f b)) ≡ true = rw here at goes in
      let parts = and_parts (nat_eq f.to p.node) (like_p (form_of f b)) passes in
      let to : f.to ≡ p.node = (unsigned_Decides f.to p.node).0 parts.0 in
      ap (λ (o : Option FlowEntry). is_form_in o b) at ∙ ap (λ n. is_same p (item_at n (form_of f b))) to ∙ parts.1

  sent_back : (b : Begun) → of_beginning (network_of d) (λ c. as_count (goes_to (network_of d) p.node like_p c)) b ≤ form_count b
  unfolding network_of
  sent_back b = go (nat_lt b.flow (length d.flows)) refl
    where
      go : (t : Bool) → nat_lt b.flow (length d.flows) ≡ t → (if t then as_count (goes_to (network_of d) p.node like_p b) else 0) ≤ form_count b
      go true is =
          let none : FlowEntry = record { name = []; from = 0; to = 0; address = []; left = 0; reply = None } in
          at_most (goes_to (network_of d) p.node like_p b) (is_form b)
          (back_in b (get_or d.flows b.flow none) (slice_get-get_or d.flows b.flow none (grind (arith, nat_tests, is))))
      go false is = omega arith

is_node : (d : Declaration) (n : ℕ) → n < length d.nodes → n < (network_of d).nodes
unfolding network_of
is_node d n within = within

-- all that was begun came out
enough : (d : Declaration) → IsValid d → AllComesOut (network_of d) → (steps : List Step) (begun : List Begun) (s : State) → RunOf (network_of d) (empty (network_of d)) steps begun s
    → undelivered (network_of d) s ≡ 0 → (out : List (List PacketView)) → AreOut d s out → (p : Item) → times p (all_begun d (beginnings steps)) ≤ times p (all_items out)
enough d valid all steps begun s run none out came p =
    let forms = forms_are d p (beginnings steps) in
    let same = run_sum (network_of d) (are_networks d valid) (form_count d p) steps (empty (network_of d)) s begun run in
    let declared = begun_are d p begun in
    elim (cases_lt p.node (length d.nodes)) [
      | inl within ↦
          let sent = sent_few d p begun in
          let counted = count_sent (network_of d) p.node (like_p d p) begun in
          let as_often = all steps begun s run none p.node (is_node d p.node within) (slice_index_or out p.node []) (came.came_out p.node within) (like_p d p) in
          let there = times_at p p.node (slice_index_or out p.node []) in
          let size = came.each_node in
          let part = within_all p (λ n. items_at n (slice_index_or out n [])) p.node (length out) (omega (arith, size, within)) in
          omega (arith, forms, same, declared, sent, counted, as_often, there, part)
      | inr beyond ↦
          let zero = none_beyond d p valid beyond (beginnings steps) in
          omega (arith, forms, zero)
    ]

pub drained_is_delivered : DrainedIsDelivered
drained_is_delivered d valid all steps begun s run none out came i within = all_begun_is_delivered d (beginnings steps) out (enough d valid all steps begun s run none out came) i within

-- nothing else came out
few : (d : Declaration) → IsValid d → ComesOutWhole (network_of d) → (steps : List Step) (s : State) → RunOf (network_of d) (empty (network_of d)) steps (beginnings steps) s
    → (out : List (List PacketView)) → AreOut d s out → (p : Item) → times p (all_items out) ≤ times p (all_begun d (beginnings steps))
few d valid whole steps s run out came p =
    let begun : List Begun = beginnings steps in
    let goes : Begun → ℕ = λ b. as_count (goes_to (network_of d) p.node (like_p d p) b) in
    let there = out_first d p out (length out) in
    elim (cases_lt p.node (length out)) [
      | inl within ↦
          let size = came.each_node in
          let node : p.node < length d.nodes = omega (arith, size, within) in
          let least = whole steps begun s run p.node (is_node d p.node node) (slice_index_or out p.node []) (came.came_out p.node node) (like_p d p) in
          let counted = count_sent (network_of d) p.node (like_p d p) begun in
          let same = run_sum (network_of d) (are_networks d valid) goes steps (empty (network_of d)) s begun run in
          let back = sum_le (of_beginning (network_of d) goes) (form_count d p) begun (sent_back d p) in
          let forms = forms_are d p begun in
          let here : (if nat_lt p.node (length out) then count_by (like_p d p) (slice_index_or out p.node []) else 0) ≡ count_by (like_p d p) (slice_index_or out p.node []) =
          ap (λ t. if t then count_by (like_p d p) (slice_index_or out p.node []) else 0) (lt-ltb p.node (length out) within) in
          omega (arith, there, here, least, counted, same, back, forms)
      | inr beyond ↦
          let none : (if nat_lt p.node (length out) then count_by (like_p d p) (slice_index_or out p.node []) else 0) ≡ 0 =
          ap (λ t. if t then count_by (like_p d p) (slice_index_or out p.node []) else 0) (le-ltb p.node (length out) beyond) in
          omega (arith, there, none)
    ]

-- all of these were begun
all_count : (came begun : List Item) → ((p : Item) → times p came ≤ times p begun) → count_by (λ p. nat_lt 0 (times p begun)) came ≡ length came
all_count [] begun h = refl
all_count (c ∷ cs) begun h =
    let rest = all_count cs begun (λ p. (let more = times_cons p c cs in let all = h p in omega (arith, more, all))) in
    let more = times_cons c c cs in
    let itself = one_itself c in
    let all = h c in
    let some : 0 < times c begun = omega (arith, more, itself, all) in
    let sum = sum_by-cons (λ p. as_count (nat_lt 0 (times p begun))) c cs in
    let here = ap as_count (lt-ltb 0 (times c begun) some) in
    omega (arith, rest, sum, here)

pub whole_is_delivered : WholeIsDelivered
whole_is_delivered d valid whole steps s run out came =
    let least = few d valid whole steps s run out came in
    all_that_came_out_is_delivered d (beginnings steps) out (λ p some. least p) ∙ all_count (all_items out) (all_begun d (beginnings steps)) least
