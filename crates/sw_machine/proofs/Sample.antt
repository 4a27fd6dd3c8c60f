-- The small network is a network, and its certificate is accepted.
use Rattle.std.proofs.Common.{Contains, List, None, Some, [], ap, arith, eq-eqb, length, ne_eqb, refl, subst, suc, sym, zero, ℕ, ⊎_elim, ◌-◌, ◌<◌, ◌∙◌, ◌∷◌, ◌≡◌, ◌≢◌, ◌≤◌}
use Rattle.std.proofs.lemmas.Bool.{cases_eq}
use Rattle.std.specs.List.{AllByRecursion}
use Rattle.std.specs.Option.{option_map}
use Rattle.std.specs.Prelude.{if◌then◌else◌, slice_get, unwrap_or}
use Rattle.sw_char.specs.declared.nchar.End.{End}
use Rattle.sw_machine.proofs.Cuts.{no_cons}
use Rattle.sw_machine.specs.Certificate.{Certificate, IsAccepted, IsListed, number}
use Rattle.sw_machine.specs.Network.{AtNode, AtSwitch, IsNetwork, IsReplyFlow, Network, Place, left_bytes, reverse_of}
use Rattle.sw_rmap.specs.Owing.{PendingReply}
use Rattle.sw_machine.specs.Places.{Follows, NoFault, deleted_after, header}
use Rattle.sw_machine.specs.Sample.{Row, answer, cell_at, certificate, ends, flow, look_in, misrouted, of_capacity, place, reply_to, sample, starts, table}
use Rattle.sw_flow.proofs.Lists.{none_in}
use Rattle.sw_machine.proofs.Steps.{switch_is}

each_of : (P : ℕ → Type 0) → P 0 → P 1 → P 2 → P 3 → P 4 → P 5 → P 6 → P 7 → (c : ℕ) → c < 8 → P c
each_of P a b d e f g h i zero lt = a
each_of P a b d e f g h i (suc zero) lt = b
each_of P a b d e f g h i (suc (suc zero)) lt = d
each_of P a b d e f g h i (suc (suc (suc zero))) lt = e
each_of P a b d e f g h i (suc (suc (suc (suc zero)))) lt = f
each_of P a b d e f g h i (suc (suc (suc (suc (suc zero))))) lt = g
each_of P a b d e f g h i (suc (suc (suc (suc (suc (suc zero)))))) lt = h
each_of P a b d e f g h i (suc (suc (suc (suc (suc (suc (suc zero))))))) lt = i
each_of P a b d e f g h i (suc (suc (suc (suc (suc (suc (suc (suc c)))))))) lt = absurd (omega arith)

pub both_of : (P : ℕ → Type 0) → P 0 → P 1 → (n : ℕ) → n < 2 → P n
both_of P a b zero lt = a
both_of P a b (suc zero) lt = b
both_of P a b (suc (suc n)) lt = absurd (omega arith)

pub no_node : (s n : ℕ) → AtSwitch s ≡ AtNode n → ⊥
no_node s n e = cc

pub node_is : (m n : ℕ) → AtNode m ≡ AtNode n → m ≡ n
node_is m n e = cc

each_in : {A : Type 0} (P : A → Type 0) (l : List A) (x : A) → AllByRecursion P l → Contains l x → P x
each_in P [] x all h = absurd (none_in x h)
each_in P (y ∷ l) x all (zero, lt, e) = subst P e all.0
each_in P (y ∷ l) x all (suc k, lt, e) = each_in P l x all.1 (k, omega arith, e)

pub named : (P : ℕ → Type 0) (rows : List Row) (h d : ℕ) → AllByRecursion (λ r. AllByRecursion P r.outs) rows → Contains (look_in rows h) d → P d
named P [] h d all c = absurd (none_in d c)
named P (r ∷ rows) h d all c = ⊎_elim
    (λ same. each_in P r.outs d all.0 (subst (λ t. Contains (if t then r.outs else look_in rows h) d) (eq-eqb r.byte h same) c))
    (λ ne. named P rows h d all.1 (subst (λ t. Contains (if t then r.outs else look_in rows h) d) (ne_eqb r.byte h ne) c))
    (cases_eq r.byte h)

abbrev Out : ℕ → ℕ → Type 0
Out s d = (d < 8) × (cell_at starts d ≡ AtSwitch s)

looks : (s h d : ℕ) → Contains (look_in (table s) h) d → Out s d
looks zero h d c = named (Out 0) (table 0) h d (((omega arith, refl), tt), (((omega arith, refl), tt), (((omega arith, refl), tt), (((omega arith, refl), ((omega arith, refl), tt)), tt)))) c
looks (suc zero) h d c = named (Out 1) (table 1) h d (((omega arith, refl), tt), (((omega arith, refl), tt), (((omega arith, refl), tt), (((omega arith, refl), tt), tt)))) c
looks (suc (suc s)) h d c = absurd (none_in d c)

starts_at : (c : ℕ) → c < 8 → (n : ℕ) → cell_at starts c ≡ AtNode n → (n < 2) × (sample.out n ≡ c)
starts_at = each_of (λ c. (n : ℕ) → cell_at starts c ≡ AtNode n → (n < 2) × (sample.out n ≡ c))
    (λ n e. subst (λ n. (n < 2) × (sample.out n ≡ 0)) (node_is 0 n e) (omega arith, refl))
    (λ n e. absurd (no_node 0 n e))
    (λ n e. absurd (no_node 0 n e))
    (λ n e. absurd (no_node 1 n e))
    (λ n e. absurd (no_node 0 n e))
    (λ n e. absurd (no_node 1 n e))
    (λ n e. absurd (no_node 1 n e))
    (λ n e. subst (λ n. (n < 2) × (sample.out n ≡ 7)) (node_is 1 n e) (omega arith, refl))

ends_at : (c : ℕ) → c < 8 → (n : ℕ) → cell_at ends c ≡ AtNode n → (n < 2) × (sample.into n ≡ c)
ends_at = each_of (λ c. (n : ℕ) → cell_at ends c ≡ AtNode n → (n < 2) × (sample.into n ≡ c))
    (λ n e. absurd (no_node 0 n e))
    (λ n e. subst (λ n. (n < 2) × (sample.into n ≡ 1)) (node_is 0 n e) (omega arith, refl))
    (λ n e. absurd (no_node 1 n e))
    (λ n e. absurd (no_node 0 n e))
    (λ n e. absurd (no_node 1 n e))
    (λ n e. absurd (no_node 0 n e))
    (λ n e. subst (λ n. (n < 2) × (sample.into n ≡ 6)) (node_is 1 n e) (omega arith, refl))
    (λ n e. absurd (no_node 1 n e))

reversed : (c : ℕ) → c < 8 → (reverse_of c < 8) × (cell_at starts (reverse_of c) ≡ cell_at ends c)
reversed = each_of (λ c. (reverse_of c < 8) × (cell_at starts (reverse_of c) ≡ cell_at ends c)) (omega arith, refl) (omega arith, refl) (omega arith, refl) (omega arith, refl) (omega arith, refl) (omega arith, refl) (omega arith, refl) (omega arith, refl)

out_starts : (n : ℕ) → n < 2 → (sample.out n < 8) × (cell_at starts (sample.out n) ≡ AtNode n)
out_starts = both_of (λ n. (sample.out n < 8) × (cell_at starts (sample.out n) ≡ AtNode n)) (omega arith, refl) (omega arith, refl)

into_ends : (n : ℕ) → n < 2 → (sample.into n < 8) × (cell_at ends (sample.into n) ≡ AtNode n)
into_ends = both_of (λ n. (sample.into n < 8) × (cell_at ends (sample.into n) ≡ AtNode n)) (omega arith, refl) (omega arith, refl)

slot : (n : ℕ) → n < 2 → 0 < sample.slots n
slot = both_of (λ n. 0 < sample.slots n) (omega arith) (omega arith)

reply_flows : (capacity i j : ℕ) → i < 2 → (flow i).reply ≡ Some j → IsReplyFlow (of_capacity capacity) i j
reply_flows capacity zero j lt e = let k : 1 ≡ j = cc in subst (IsReplyFlow (of_capacity capacity) 0) k (record { in_flows = omega arith; after_declared = omega arith; from = refl; to = refl; left = refl; unanswered = refl })
reply_flows capacity (suc zero) j lt e = absurd (cc)
reply_flows capacity (suc (suc i)) j lt e = absurd (cc)

no_flows : (i : ℕ) → 2 ≤ i → (flow i).reply ≡ None
no_flows zero le = absurd (omega arith)
no_flows (suc zero) le = absurd (omega arith)
no_flows (suc (suc i)) le = refl

replies_go : (n : ℕ) (memory bytes : List ℕ) (end : End) → n < 2 → option_map (λ (r : PendingReply). r.address) (answer n memory bytes end) ≡ reply_to n bytes
replies_go zero memory bytes end lt = refl
replies_go (suc zero) memory [] end lt = refl
replies_go (suc zero) memory (a ∷ []) end lt = refl
replies_go (suc zero) memory (a ∷ b ∷ bytes) end lt = refl
replies_go (suc (suc n)) memory bytes end lt = absurd (omega arith)

reply_lengths : (n : ℕ) (memory bytes : List ℕ) (r : PendingReply) (end : End) → n < 2 → answer n memory bytes end ≡ Some r → length r.cargo ≤ 1
reply_lengths zero memory bytes r end lt e = absurd (cc)
reply_lengths (suc zero) memory [] r end lt e = absurd (cc)
reply_lengths (suc zero) memory (a ∷ []) r end lt e = absurd (cc)
reply_lengths (suc zero) memory (a ∷ b ∷ bytes) r end lt e =
    let is : record { address = 3 ∷ 1 ∷ 67 ∷ []; cargo = b ∷ [] } ≡ r = cc in
    let l : 1 ≡ length r.cargo = ap (λ (r : PendingReply). length r.cargo) is in
    omega arith
reply_lengths (suc (suc n)) memory bytes r end lt e = absurd (omega arith)

replies_end : (i j n : ℕ) (memory bytes : List ℕ) (r : PendingReply) (end : End) → (flow i).reply ≡ Some j → reply_to (flow j).to (left_bytes sample j r.cargo) ≡ None
replies_end zero j n memory bytes r end e = let k : 1 ≡ j = cc in subst (λ j. reply_to (flow j).to (left_bytes sample j r.cargo) ≡ None) k refl
replies_end (suc zero) j n memory bytes r end e = absurd (cc)
replies_end (suc (suc i)) j n memory bytes r end e = absurd (cc)

pub of_capacity_is_network : (capacity : ℕ) → 8 ≤ capacity → IsNetwork (of_capacity capacity)
of_capacity_is_network capacity enough = record {
  room = λ c lt. enough;
  reversed = reversed;
  starts_at_node = λ c n lt e. starts_at c lt n e;
  ends_at_node = λ c n lt e. ends_at c lt n e;
  out_starts = out_starts;
  into_ends = into_ends;
  look_starts = looks;
  flows_declared = omega arith;
  flow_ends = both_of (λ i. ((flow i).from < 2) × ((flow i).to < 2)) (omega arith, omega arith) (omega arith, omega arith);
  reply_flow = reply_flows capacity;
  no_flow = no_flows;
  limited_flow = λ i is. absurd cc;
  slot = slot;
  answers = record {
    reply_goes = replies_go;
    reply_length = reply_lengths;
    replies_end = λ i j n memory bytes r end li ln e a g. replies_end i j n memory bytes r end e;
  };
}

pub misrouted_is_network : IsNetwork misrouted
misrouted_is_network = record {
  room = λ c lt. omega arith;
  reversed = reversed;
  starts_at_node = λ c n lt e. starts_at c lt n e;
  ends_at_node = λ c n lt e. ends_at c lt n e;
  out_starts = out_starts;
  into_ends = into_ends;
  look_starts = looks;
  flows_declared = omega arith;
  flow_ends = λ i lt. (omega arith, omega arith);
  reply_flow = λ i j lt e. absurd (cc);
  no_flow = λ i le. refl;
  limited_flow = λ i is. absurd cc;
  slot = slot;
  answers = record {
    reply_goes = replies_go;
    reply_length = reply_lengths;
    replies_end = λ i j n memory bytes r end li ln e a g. absurd (cc);
  };
}

-- what holds at each listed place
module _ (cert : Certificate) where
  abbrev pub EachPlace : (ℕ → Place → Type 0) → ℕ → Type 0
  EachPlace P i = AllByRecursion (P i) (unwrap_or (slice_get cert.places i) [])

  pub listed_one : (P : ℕ → Place → Type 0) (i : ℕ) → EachPlace P i → (c k : ℕ) → IsListed cert i c k → P i (place c k)
  listed_one P i all c k h = each_in (P i) (unwrap_or (slice_get cert.places i) []) (place c k) all h

  pub listed_all : (P : ℕ → Place → Type 0) → EachPlace P 0 → EachPlace P 1 → (i c k : ℕ) → i < 2 → IsListed cert i c k → P i (place c k)
  listed_all P a b i c k lt = both_of (λ i. (c k : ℕ) → IsListed cert i c k → P i (place c k)) (listed_one P 0 a) (listed_one P 1 b) i lt c k

module _ (net : Network) where
  pub faultless_switch : (i c k w : ℕ) → net.end_of c ≡ AtSwitch w → k < length (net.flow i).address → net.look w (header net i k) ≢ [] → NoFault net i c k
  faultless_switch i c k w at within some = record {
    address = λ f. let e = f.ends in omega arith;
    route = λ f. some (ap (λ s. net.look s (header net i k)) (switch_is w f.switch (sym at ∙ f.at)) ∙ f.unnamed);
    node = λ f. no_node w f.node (sym at ∙ f.at);
    left = λ f. no_node w (net.flow i).to (sym at ∙ f.at);
  }

  pub faultless_node : (i c k n : ℕ) → net.end_of c ≡ AtNode n → n ≡ (net.flow i).to → length (net.flow i).address - k ≡ (net.flow i).left → NoFault net i c k
  faultless_node i c k n at to left = record {
    address = λ f. no_node f.switch n (sym f.at ∙ at);
    route = λ f. no_node f.switch n (sym f.at ∙ at);
    node = λ f. f.other (node_is f.node n (sym f.at ∙ at) ∙ to);
    left = λ f. f.other left;
  }

-- what follows a place is listed, on a channel of a greater number
module _ (net : Network) (cert : Certificate) where
  abbrev pub Goes : ℕ → Place → Type 0
  Goes i p = (d m : ℕ) → Follows net i p.channel p.deleted d m → IsListed cert i d m × (number cert p.channel < number cert d)

  pub goes_switch : (i c k w m : ℕ) → net.end_of c ≡ AtSwitch w → deleted_after net i w k ≡ m → AllByRecursion (λ d. IsListed cert i d m × (number cert c < number cert d)) (net.look w (header net i k)) → Goes i (place c k)
  goes_switch i c k w m at deleted all d n f =
      let same : f.switch ≡ w = switch_is f.switch w (sym f.at ∙ at) in
      let in_look : Contains (net.look w (header net i k)) d = subst (λ s. Contains (net.look s (header net i k)) d) same f.named in
      let is : m ≡ n = sym deleted ∙ sym (f.deleted ∙ ap (λ s. deleted_after net i s k) same) in
      let r = each_in (λ d. IsListed cert i d m × (number cert c < number cert d)) (net.look w (header net i k)) d all in_look in
      (subst (IsListed cert i d) is r.0, r.1)

  pub goes_node : (i c k n : ℕ) → net.end_of c ≡ AtNode n → Goes i (place c k)
  goes_node i c k n at d m f = absurd (no_node f.switch n (sym f.at ∙ at))

all_go : (i c k : ℕ) → i < 2 → IsListed certificate i c k → Goes sample certificate i (place c k)
all_go = listed_all certificate (Goes sample certificate)
    (goes_switch sample certificate 0 0 0 0 0 refl refl (((1, omega arith, refl), omega arith), (((2, omega arith, refl), omega arith), tt)), (goes_switch sample certificate 0 2 0 1 0 refl refl (((3, omega arith, refl), omega arith), tt), (goes_switch sample certificate 0 4 0 1 0 refl refl (((3, omega arith, refl), omega arith), tt), (goes_node sample certificate 0 6 0 1 refl, tt))))
    (goes_switch sample certificate 1 7 0 1 1 refl refl (((1, omega arith, refl), omega arith), tt), (goes_switch sample certificate 1 5 1 0 2 refl refl (((2, omega arith, refl), omega arith), tt), (goes_node sample certificate 1 1 2 0 refl, tt)))

target_rises : (i j : ℕ) → i < 2 → (flow i).reply ≡ Some j → number certificate (sample.into (flow i).to) < number certificate (sample.out (flow i).to)
target_rises zero j lt e = omega arith
target_rises (suc zero) j lt e = absurd (cc)
target_rises (suc (suc i)) j lt e = absurd (omega arith)

pub sample_is_accepted : IsAccepted sample certificate
sample_is_accepted = record {
  channels = refl;
  flows = refl;
  in_range = listed_all certificate (λ i p. (p.channel < 8) × (p.deleted ≤ length (flow i).address))
      ((omega arith, omega arith), ((omega arith, omega arith), ((omega arith, omega arith), ((omega arith, omega arith), tt))))
      ((omega arith, omega arith), ((omega arith, omega arith), ((omega arith, omega arith), tt)));
  starts = both_of (λ i. IsListed certificate i (sample.out (flow i).from) 0) (0, omega arith, refl) (0, omega arith, refl);
  faultless = listed_all certificate (λ i p. NoFault sample i p.channel p.deleted)
      (faultless_switch sample 0 0 0 0 refl (omega arith) (no_cons 2 (4 ∷ [])), (faultless_switch sample 0 2 0 1 refl (omega arith) (no_cons 6 []), (faultless_switch sample 0 4 0 1 refl (omega arith) (no_cons 6 []), (faultless_node sample 0 6 0 1 refl refl refl, tt))))
      (faultless_switch sample 1 7 0 1 refl (omega arith) (no_cons 5 []), (faultless_switch sample 1 5 1 0 refl (omega arith) (no_cons 1 []), (faultless_node sample 1 1 2 0 refl refl refl, tt)));
  closed = λ i c k d m lt listed f. (all_go i c k lt listed d m f).0;
  rising = λ i c k d m lt listed f. (all_go i c k lt listed d m f).1;
  targets = λ i j lt reply waits. target_rises i j lt reply;
}
