-- A run is bounded by the packets that its beginnings begin.
use Rattle.std.proofs.Common.{Bool, List, None, Option, Some, [], ap, arith, count_by, eq-eqb, false, le-ltb, length, lt-ltb, map, mul-le-mul_left, nat_eq, nat_le, nat_lt, ne_eqb, refl, subst, suc, sym, true, zero, ℕ, ⊎_elim, ◌*◌, ◌++◌, ◌+◌, ◌<◌, ◌∙◌, ◌∷◌, ◌≡◌, ◌≤◌}
use Rattle.std.proofs.Math.Nat.{mul-le-mul_left}
use Rattle.std.proofs.lemmas.Bool.{cases_eq, cases_lt, le-leb}
use Rattle.std.proofs.lemmas.List.{length-append, length-map}
use Rattle.std.proofs.lemmas.List.Sums.{sum_by-append, sum_by-cons}
use Rattle.std.specs.List.{AllByRecursion, sum_by}
use Rattle.std.specs.Option.{option_map_or}
use Rattle.std.specs.Prelude.{if◌then◌else◌, ◌&&◌}
use Rattle.sw_char.specs.declared.nchar.NChar.TheVariants.{Data}
use Rattle.sw_machine.proofs.Balance.{count_cons, total_zero}
use Rattle.sw_machine.proofs.Bound.{is_bounded, total_le}
use Rattle.sw_machine.proofs.Ghost.{Ghost, Inv}
use Rattle.sw_machine.proofs.RunLists.{all_moves}
use Rattle.sw_machine.proofs.Runs.{empty_inv, none, run_begins, step_keeps, waits_at}
use Rattle.sw_machine.proofs.Whole.{part_below}
use Rattle.sw_machine.specs.Begun.{Begins, Begun, IsBoundedByLoad, RunOf, beginning, beginnings, characters, is_answered_at, is_reply_at, length_begun, length_with_reply}
use Rattle.sw_machine.specs.Certificate.{Certificate, IsAccepted}
use Rattle.sw_machine.specs.Network.{IsNetwork, Network, left_bytes}
use Rattle.sw_rmap.specs.Owing.{PendingReply}
use Rattle.sw_machine.specs.Packets.{marker_of}
use Rattle.sw_machine.specs.Runs.{total}
use Rattle.sw_machine.specs.State.{State, empty}
use Rattle.sw_machine.specs.Steps.{Accept, Arrive, Begin, Drop, Emit, Fct, FctIn, Forward, Grant, Leads, Reply, Spill, Step, is_begin}

pub sum_le : {X : Type 0} (f g : X → ℕ) (xs : List X) → ((x : X) → f x ≤ g x) → sum_by f xs ≤ sum_by g xs
sum_le f g [] h = omega arith
sum_le f g (x ∷ xs) h = let r = sum_le f g xs h in let e = h x in let a = sum_by-cons f x xs in let b = sum_by-cons g x xs in omega arith

pub sum_same : {X : Type 0} (f g : X → ℕ) (xs : List X) → ((x : X) → f x ≡ g x) → sum_by f xs ≡ sum_by g xs
sum_same f g [] h = refl
sum_same f g (x ∷ xs) h = let r = sum_same f g xs h in let e = h x in let a = sum_by-cons f x xs in let b = sum_by-cons g x xs in omega arith

pub sum_add : {X : Type 0} (f g : X → ℕ) (xs : List X) → sum_by (λ x. f x + g x) xs ≡ sum_by f xs + sum_by g xs
sum_add f g [] = refl
sum_add f g (x ∷ xs) = let r = sum_add f g xs in let a = sum_by-cons f x xs in let b = sum_by-cons g x xs in let c = sum_by-cons (λ x. f x + g x) x xs in omega arith

pub sum_none : {X : Type 0} (xs : List X) → sum_by (λ x. 0) xs ≡ 0
sum_none [] = refl
sum_none (x ∷ xs) = let r = sum_none xs in let a = sum_by-cons (λ x. 0) x xs in omega arith

-- the sum over numbers of sums over a list
sum_total : {X : Type 0} (n : ℕ) (f : ℕ → X → ℕ) (xs : List X) → total n (λ k. sum_by (f k) xs) ≡ sum_by (λ x. total n (λ k. f k x)) xs
sum_total zero f xs = sym (sum_none xs)
sum_total (suc n) f xs = let r = sum_total n f xs in let a = sum_add (λ x. total n (λ k. f k x)) (f n) xs in omega arith

-- how many numbers below w are below k
below : ℕ → ℕ → ℕ
below w k = total w (λ j. if nat_lt j k then 1 else 0)

below_all : (w k : ℕ) → w ≤ k → below w k ≡ w
unfolding below
below_all zero k le = refl
below_all (suc w) k le = let r = below_all w k (omega arith) in rw (lt-ltb w k (omega arith)) (omega arith)

below_is : (w k : ℕ) → k ≤ w → below w k ≡ k
unfolding below
below_is zero k le = omega arith
below_is (suc w) k le = ⊎_elim
    (λ lt. let r = below_all w k (omega arith) in rw (lt-ltb w k lt) (omega arith))
    (λ ge. let r = below_is w k ge in rw (le-ltb w k ge) (omega arith))
    (cases_lt w k)

below_most : (w k : ℕ) → below w k ≤ k
below_most w k = ⊎_elim (λ lt. let r = below_all w k (omega arith) in omega arith) (λ ge. let r = below_is w k ge in omega arith) (cases_lt w k)

-- a sum whose parts are all nothing but one
none_there : (n t : ℕ) (x : ℕ → ℕ) → n ≤ t → total n (λ k. if nat_eq t k then x k else 0) ≡ 0
none_there zero t x le = refl
none_there (suc n) t x le = let r = none_there n t x (omega arith) in rw (ne_eqb t n (omega arith)) (omega arith)

one_there : (n t : ℕ) (x : ℕ → ℕ) → total n (λ k. if nat_eq t k then x k else 0) ≤ x t
one_there zero t x = omega arith
one_there (suc n) t x = ⊎_elim
    (λ same. let r = none_there n t x (omega arith) in let e = ap x same in rw (eq-eqb t n same) (omega arith))
    (λ ne. let r = one_there n t x in rw (ne_eqb t n ne) (omega arith))
    (cases_eq t n)

pub sum_le_all : {X : Type 0} (f g : X → ℕ) (xs : List X) → AllByRecursion (λ x. f x ≤ g x) xs → sum_by f xs ≤ sum_by g xs
sum_le_all f g [] h = omega arith
sum_le_all f g (x ∷ xs) h = let r = sum_le_all f g xs h.1 in let e = h.0 in let a = sum_by-cons f x xs in let b = sum_by-cons g x xs in omega arith

pub all_map : {X : Type 0} (P Q : X → Type 0) (xs : List X) → ((x : X) → P x → Q x) → AllByRecursion P xs → AllByRecursion Q xs
all_map P Q [] f h = tt
all_map P Q (x ∷ xs) f h = (f x h.0, all_map P Q xs f h.1)

pub all_append : {X : Type 0} (P : X → Type 0) (xs ys : List X) → AllByRecursion P xs → AllByRecursion P ys → AllByRecursion P (xs ++ ys)
all_append P [] ys a b = b
all_append P (x ∷ xs) ys a b = (a.0, all_append P xs ys a.1 b)

-- a reply is as short as its node says, and is not answered
pub record IsShort (net : Network) (b : Begun) : Type 0 where
  pub from : (net.flow b.flow).from < net.nodes
  pub cargo : length b.cargo ≤ net.longest (net.flow b.flow).from
  pub unanswered : net.reply_to (net.flow b.flow).to (left_bytes net b.flow b.cargo) ≡ None

module _ (net : Network) where
  -- how many characters a reply of node n to this address has, at most
  abbrev reply_length : ℕ → List ℕ → ℕ
  reply_length n address = length address + (net.longest n + 1)

  abbrev of_reply : ℕ → Begun → ℕ
  of_reply n b = if nat_le net.declared_flows b.flow && nat_eq (net.flow b.flow).from n then reply_length n (net.flow b.flow).address else 0

  abbrev asked_for : Begun → ℕ
  asked_for b = option_map_or (reply_length (net.flow b.flow).to) (net.reply_to (net.flow b.flow).to (left_bytes net b.flow b.cargo)) 0

  abbrev of_answer : ℕ → Begun → ℕ
  of_answer n b = if nat_eq (net.flow b.flow).to n then option_map_or (reply_length n) (net.reply_to n (left_bytes net b.flow b.cargo)) 0 else 0

  abbrev is_longer : ℕ → ℕ → List ℕ → Bool
  is_longer n k address = nat_lt k (reply_length n address)

  reply_layer : (w f : ℕ) (x y : Bool) → f ≤ w → (if x && y then f else 0) ≤ total w (λ k. if x && (y && nat_lt k f) then 1 else 0)
  unfolding below
  reply_layer w f true true le = let r = below_is w f le in omega arith
  reply_layer w f true false le = omega arith
  reply_layer w f false y le = omega arith

  answer_layer : (w n : ℕ) (x : Bool) (o : Option (List ℕ)) → total w (λ k. if x && option_map_or (is_longer n k) o false then 1 else 0) ≤ (if x then option_map_or (reply_length n) o 0 else 0)
  unfolding below
  answer_layer w n false o = let z = total_zero w in omega arith
  answer_layer w n true None = let z = total_zero w in omega arith
  answer_layer w n true (Some address) = below_most w (reply_length n address)

  replies_layered : (n w : ℕ) (xs : List Begun) → sum_by (λ b. reply_length n (net.flow b.flow).address) xs ≤ w → sum_by (of_reply n) xs ≤ sum_by (λ b. total w (λ k. if is_reply_at net n (is_longer n k) b then 1 else 0)) xs
  replies_layered n w [] le = omega arith
  replies_layered n w (b ∷ xs) le =
      let s = sum_by-cons (λ b. reply_length n (net.flow b.flow).address) b xs in
      let r = replies_layered n w xs (omega arith) in
      let l = reply_layer w (reply_length n (net.flow b.flow).address) (nat_le net.declared_flows b.flow) (nat_eq (net.flow b.flow).from n) (omega arith) in
      let c = sum_by-cons (of_reply n) b xs in
      let d = sum_by-cons (λ b. total w (λ k. if is_reply_at net n (is_longer n k) b then 1 else 0)) b xs in
      omega arith

  -- what is replied at a node is no longer than what is asked for there
  replies_short : (n : ℕ) (begun : List Begun) → ((test : List ℕ → Bool) → count_by (is_reply_at net n test) begun ≤ count_by (is_answered_at net n test) begun) → sum_by (of_reply n) begun ≤ sum_by (of_answer n) begun
  replies_short n begun most =
      let w = sum_by (λ b. reply_length n (net.flow b.flow).address) begun in
      let a = replies_layered n w begun (omega arith) in
      let b = sum_total w (λ k b. if is_reply_at net n (is_longer n k) b then 1 else 0) begun in
      let c = total_le w (λ k. count_by (is_reply_at net n (is_longer n k)) begun) (λ k. count_by (is_answered_at net n (is_longer n k)) begun) (λ k lk. most (is_longer n k)) in
      let d = sum_total w (λ k b. if is_answered_at net n (is_longer n k) b then 1 else 0) begun in
      let e = sum_le (λ b. total w (λ k. if is_answered_at net n (is_longer n k) b then 1 else 0)) (of_answer n) begun (λ b. answer_layer w n (nat_eq (net.flow b.flow).to n) (net.reply_to n (left_bytes net b.flow b.cargo))) in
      omega arith

  abbrev pub of_beginning : (Begun → ℕ) → Begun → ℕ
  of_beginning g b = if nat_lt b.flow net.declared_flows then g b else 0

  length_is : (b : Begun) → length_begun net b ≡ length (net.flow b.flow).address + (length b.cargo + 1)
  length_is b =
      let address = (net.flow b.flow).address in
      let a = length-append (map Data address) (map Data b.cargo ++ marker_of b.end ∷ []) in
      let c = length-append (map Data b.cargo) (marker_of b.end ∷ []) in
      let m = length-map address Data in
      let k = length-map b.cargo Data in
      omega arith

  -- each packet is a beginning's or a reply
  each_counted : (b : Begun) → (net.declared_flows ≤ b.flow → IsShort net b) → length_begun net b ≤ of_beginning (length_begun net) b + total net.nodes (λ n. of_reply n b)
  each_counted b short = ⊎_elim
      (λ lt. rw (lt-ltb b.flow net.declared_flows lt) (omega arith))
      (λ ge.
      let i = short ge in
      let from = (net.flow b.flow).from in
      let cargo = i.cargo in
      let part = part_below net.nodes (λ n. of_reply n b) from i.from in
      let here : of_reply from b ≡ reply_length from (net.flow b.flow).address = rw (le-leb net.declared_flows b.flow ge, eq-eqb from from refl) refl in
      let is = length_is b in
      omega arith)
      (cases_lt b.flow net.declared_flows)

  -- what a reply asks for is nothing
  each_asked : (b : Begun) → (net.declared_flows ≤ b.flow → IsShort net b) → of_beginning (length_begun net) b + asked_for b ≤ of_beginning (length_with_reply net) b
  each_asked b short = ⊎_elim
      (λ lt. rw (lt-ltb b.flow net.declared_flows lt) (omega arith))
      (λ ge.
      let i = short ge in
      let none : asked_for b ≡ 0 = ap (λ o. option_map_or (reply_length (net.flow b.flow).to) o 0) i.unanswered in
      rw (le-ltb b.flow net.declared_flows ge) (omega arith))
      (cases_lt b.flow net.declared_flows)

  characters_bounded : (begun : List Begun) → AllByRecursion (λ b. net.declared_flows ≤ b.flow → IsShort net b) begun → ((n : ℕ) → n < net.nodes → (test : List ℕ → Bool) → count_by (is_reply_at net n test) begun ≤ count_by (is_answered_at net n test) begun) → characters net begun ≤ sum_by (of_beginning (length_with_reply net)) begun
  characters_bounded begun short most =
      let d = of_beginning (length_begun net) in
      let a = sum_le_all (length_begun net) (λ b. d b + total net.nodes (λ n. of_reply n b)) begun (all_map (λ b. net.declared_flows ≤ b.flow → IsShort net b) (λ b. length_begun net b ≤ d b + total net.nodes (λ n. of_reply n b)) begun each_counted short) in
      let b = sum_add d (λ b. total net.nodes (λ n. of_reply n b)) begun in
      let c = sum_total net.nodes of_reply begun in
      let e = total_le net.nodes (λ n. sum_by (of_reply n) begun) (λ n. sum_by (of_answer n) begun) (λ n ln. replies_short n begun (most n ln)) in
      let f = sum_total net.nodes of_answer begun in
      let g = sum_le (λ b. total net.nodes (λ n. of_answer n b)) asked_for begun (λ b. one_there net.nodes (net.flow b.flow).to (λ n. option_map_or (reply_length n) (net.reply_to n (left_bytes net b.flow b.cargo)) 0)) in
      let h = sum_add d asked_for begun in
      let i = sum_le_all (λ b. d b + asked_for b) (of_beginning (length_with_reply net)) begun (all_map (λ b. net.declared_flows ≤ b.flow → IsShort net b) (λ b. d b + asked_for b ≤ of_beginning (length_with_reply net) b) begun each_asked short) in
      omega arith

  -- how many packets are begun
  pub beginnings_are : (steps : List Step) → length (beginnings steps) ≡ count_by is_begin steps
  beginnings_are [] = refl
  beginnings_are (step ∷ steps) = let r = beginnings_are steps in let c = count_cons is_begin step steps in let a = length-append (beginning step) (beginnings steps) in let o = one step in omega arith
    where
      one : (step : Step) → length (beginning step) ≡ count_by is_begin (step ∷ [])
      one (Begin f cargo end) = refl
      one (Reply n) = refl
      one (Fct c) = refl
      one (FctIn c) = refl
      one (Arrive c) = refl
      one (Grant d c) = refl
      one (Drop c) = refl
      one (Forward c) = refl
      one (Spill c) = refl
      one (Emit n) = refl
      one (Accept n) = refl

  module _ (ok : IsNetwork net) where
    first_sum : (g : Begun → ℕ) (s : State) (step : Step) (t : State) (begun : List Begun) → Leads net s step t → Begins net s step begun → sum_by (of_beginning g) begun ≡ sum_by g (beginning step)
    first_sum g s (Begin f cargo end) t begun h b =
        let x : Begun = record { flow = f; cargo = cargo; end = end } in
        ap (sum_by (of_beginning g)) b ∙ ap (λ t. 0 + (if t then g x else 0)) (lt-ltb f net.declared_flows h.declared.declared)
    first_sum g s (Reply n) t begun h b =
        let r = b.1 in
        ap (sum_by (of_beginning g)) b.2 ∙ ap (λ t. 0 + (if t then g b.0 else 0)) (le-ltb (b.0).flow net.declared_flows (ok.reply_flow r.asked (b.0).flow r.in_flows r.by).after_declared)
    first_sum g s (Fct c) t begun h b = ap (sum_by (of_beginning g)) b
    first_sum g s (FctIn c) t begun h b = ap (sum_by (of_beginning g)) b
    first_sum g s (Arrive c) t begun h b = ap (sum_by (of_beginning g)) b
    first_sum g s (Grant d c) t begun h b = ap (sum_by (of_beginning g)) b
    first_sum g s (Drop c) t begun h b = ap (sum_by (of_beginning g)) b
    first_sum g s (Forward c) t begun h b = ap (sum_by (of_beginning g)) b
    first_sum g s (Spill c) t begun h b = ap (sum_by (of_beginning g)) b
    first_sum g s (Emit n) t begun h b = ap (sum_by (of_beginning g)) b
    first_sum g s (Accept n) t begun h b = ap (sum_by (of_beginning g)) b

    pub run_sum : (g : Begun → ℕ) (steps : List Step) (s t : State) (begun : List Begun) → RunOf net s steps begun t → sum_by (of_beginning g) begun ≡ sum_by g (beginnings steps)
    run_sum g [] s t begun r = ap (sum_by (of_beginning g)) r.0
    run_sum g (step ∷ steps) s t begun r =
        let a = first_sum g s step r.0 r.1 r.3 r.4 in
        let b = run_sum g steps r.0 t r.2 r.6 in
        let c = ap (sum_by (of_beginning g)) r.5 in
        let d = sum_by-append (of_beginning g) r.1 r.2 in
        let e = sum_by-append g (beginning step) (beginnings steps) in
        omega arith

module _ (net : Network) (cert : Certificate) (ok : IsNetwork net) (acc : IsAccepted net cert) where
  abbrev pub Short : Begun → Type 0
  Short b = net.declared_flows ≤ b.flow → IsShort net b

  none_short : (begun : List Begun) → begun ≡ [] → AllByRecursion Short begun
  none_short begun e = subst (AllByRecursion Short) (sym e) tt

  first_short : (s : State) (g : Ghost) (step : Step) (t : State) (begun : List Begun) → Leads net s step t → Begins net s step begun → Inv net cert s g → AllByRecursion Short begun
  first_short s g (Begin f cargo end) t begun h b inv = subst (AllByRecursion Short) (sym b) ((λ le. let lt = h.declared.declared in absurd (omega arith)), tt)
  first_short s g (Reply n) t begun h b inv =
      let w = waits_at net cert ok acc s g n h.reply h.others h.in_net h.waits inv in
      let p = b.0 in
      let r = b.1 in
      let flow = ok.reply_flow r.asked p.flow r.in_flows r.by in
      let both : h.reply ∷ h.others ≡ r.reply ∷ r.others = sym h.waits ∙ r.waits in
      let same : h.reply ≡ r.reply = cc in
      let goes : h.reply.address ≡ (net.flow p.flow).address = ap (λ (a : PendingReply). a.address) same ∙ r.goes in
      let cargo : h.reply.cargo ≡ p.cargo = ap (λ (a : PendingReply). a.cargo) same ∙ sym r.cargo in
      let from : (net.flow p.flow).from ≡ n = flow.from ∙ r.at in
      let few = ok.answers.reply_length n w.memory w.bytes h.reply w.end h.in_net w.answer in
      let end = ok.answers.replies_end r.asked p.flow n w.memory w.bytes h.reply w.end r.in_flows h.in_net r.by w.answer goes in
      let short : IsShort net p = record {
        from = subst (λ m. m < net.nodes) (sym from) h.in_net;
        cargo = let a = ap net.longest from in let l = ap length cargo in omega arith;
        unanswered = subst (λ k. net.reply_to (net.flow p.flow).to (left_bytes net p.flow k) ≡ None) cargo end;
      } in
      subst (AllByRecursion Short) (sym b.2) ((λ le. short), tt)
  first_short s g (Fct c) t begun h b inv = none_short begun b
  first_short s g (FctIn c) t begun h b inv = none_short begun b
  first_short s g (Arrive c) t begun h b inv = none_short begun b
  first_short s g (Grant d c) t begun h b inv = none_short begun b
  first_short s g (Drop c) t begun h b inv = none_short begun b
  first_short s g (Forward c) t begun h b inv = none_short begun b
  first_short s g (Spill c) t begun h b inv = none_short begun b
  first_short s g (Emit n) t begun h b inv = none_short begun b
  first_short s g (Accept n) t begun h b inv = none_short begun b

  pub run_short : (steps : List Step) (s : State) (g : Ghost) (t : State) (begun : List Begun) → RunOf net s steps begun t → Inv net cert s g → AllByRecursion Short begun
  run_short [] s g t begun r inv = none_short begun r.0
  run_short (step ∷ steps) s g t begun r inv =
      let k = step_keeps net cert ok acc s g step r.0 r.1 r.3 r.4 inv in
      subst (AllByRecursion Short) (sym r.5) (all_append Short r.1 r.2 (first_short s g step r.0 r.1 r.3 r.4 inv) (run_short steps r.0 k.ghost t r.2 r.6 k.inv))

  pub is_bounded_by_load : ((begun : List Begun) (steps : List Step) (s : State) → RunOf net (empty net) steps begun s → (n : ℕ) → n < net.nodes → (test : List ℕ → Bool) → count_by (is_reply_at net n test) begun ≤ count_by (is_answered_at net n test) begun) → IsBoundedByLoad net
  is_bounded_by_load most steps s r =
      let b = run_begins net cert ok acc steps (empty net) (none net cert ok acc) s r (empty_inv net cert ok acc) in
      let begun = b.0 in
      let short = run_short steps (empty net) (none net cert ok acc) s begun b.1 (empty_inv net cert ok acc) in
      let c = characters_bounded net begun short (most begun steps s b.1) in
      let d = run_sum net ok (length_with_reply net) steps (empty net) s begun b.1 in
      let le : characters net begun ≤ sum_by (length_with_reply net) (beginnings steps) = omega arith in
      let product : net.channels * (14 + 5 * characters net begun) ≤ net.channels * (14 + 5 * sum_by (length_with_reply net) (beginnings steps)) = mul-le-mul_left net.channels (omega arith) in
      let bound = is_bounded net cert ok acc steps begun s b.1 in
      let all = all_moves steps in
      let k = beginnings_are net steps in
      omega arith
