-- What causes use, one after the other.
use Rattle.std.proofs.Common.{◌≡◌, ◌∙◌, ℕ, zero, suc, ◌+◌, ◌<◌, ◌≤◌, All, Bool, true, cond, List, [], ◌∷◌, ◌++◌, Option, None, Some, ap, arith, get_or, inl, inr, length, map, refl, subst, sym, take}
use Rattle.std.specs.Prelude.{◌==◌, ◌||◌, Contains, count_by, false, is_some, slice_get}
use Rattle.std.specs.Option.{option_map_or}
use Rattle.std.proofs.lemmas.Bool.{cases_lt, false≢true}
use Rattle.std.proofs.lemmas.List.{length-append, map-append, take_all, take_more}
use Rattle.std.proofs.lemmas.List.Elements.{All-push}
use Rattle.std.proofs.lemmas.List.Sums.{sum_by-cons}
use Rattle.std.proofs.lemmas.Option.{same_Some, slice_get_within}
use Rattle.sw_config.specs.Entries.{Declaration, FlowEntry, ReplyEntry, all_flows, replies_of, reply_flow, reply_flows}
use Rattle.sw_config.specs.Laws.{replies_before}
use Rattle.sw_config.proofs.FlowLaws.{follow_in_order}
use Rattle.sw_config.proofs.Flows.{slice_get-append_right}
use Rattle.sw_flow.specs.declared.place.Place.{Place}
use Rattle.sw_cycle.specs.declared.cycle.Cause.{Cause}
use Rattle.sw_cycle.specs.Cycles.{ByFlow, ByTarget, CauseEntry, cause_of}
use Rattle.sw_mend.specs.Spared.{AreAllAt, AreKept, IsAddedIfAt, IsByteUsed, IsCauseUsed, IsFlowUsed, IsReplyOf, IsTargetUsed, MarksStay, UsesGrow}
use Rattle.sw_mend.specs.declared.uses.Uses.{Uses}

-- ---- flows at a node

-- those below n that are at the node are there
abbrev pub AreAtBelow : Declaration → ℕ → ℕ → List ℕ → Type 0
AreAtBelow d node n numbers = (k : ℕ) → k < n → IsAddedIfAt d node k numbers

pub one_at_more : (d : Declaration) (node n : ℕ) (now after : List ℕ) → AreAtBelow d node n now → AreKept now after → IsAddedIfAt d node n after → AreAtBelow d node (n + 1) after
one_at_more d node n now after so_far kept here k lt f at is =
    elim (cases_lt k n) [
      | inl below ↦ kept k (so_far k below f at is)
      | inr above ↦ let e : n ≡ k = omega (arith, lt, above) in
          subst (λ (j : ℕ). Contains after j) e (here f (ap (slice_get d.flows) e ∙ at) is)
    ]

pub all_at : (d : Declaration) (node n : ℕ) (numbers : List ℕ) → length d.flows ≤ n → AreAtBelow d node n numbers → AreAllAt d node numbers
all_at d node n numbers past below k f at is = let lt = slice_get_within d.flows k f at in below k (omega (arith, lt, past)) f at is

pub not_at : (d : Declaration) (node number : ℕ) (f : FlowEntry) (numbers : List ℕ) (b : Bool) → slice_get d.flows number ≡ Some f → b ≡ (f.to == node || f.from == node) → b ≡ false
    → IsAddedIfAt d node number numbers
not_at d node number f numbers b at tested is g there here =
    let same : f ≡ g = same_Some f g (sym at ∙ there) in
    absurd (false≢true (sym is ∙ tested ∙ ap (λ (h : FlowEntry). h.to == node || h.from == node) same ∙ here))

-- ---- reply flows

replied_more : (fs : List FlowEntry) (i : ℕ) (f : FlowEntry) → slice_get fs i ≡ Some f → replies_before fs (suc i) ≡ replies_before fs i + cond (is_some f.reply) 1 0
replied_more [] i f at = absurd cc
replied_more (g ∷ fs) zero f at =
    let same : g ≡ f = same_Some g f at in
    let e : cond (is_some f.reply) 1 0 + 0 ≡ 0 + cond (is_some f.reply) 1 0 = omega arith in
    sum_by-cons (λ (x : FlowEntry). cond (is_some x.reply) 1 0) g [] ∙ ap (λ (x : FlowEntry). cond (is_some x.reply) 1 0 + 0) same ∙ e
replied_more (g ∷ fs) (suc i) f at =
    let rest = replied_more fs i f at in
    let a = sum_by-cons (λ (x : FlowEntry). cond (is_some x.reply) 1 0) g (take (suc i) fs) in
    let b = sum_by-cons (λ (x : FlowEntry). cond (is_some x.reply) 1 0) g (take i fs) in
    omega (arith, rest, a, b)

pub reply_more : (flows : List FlowEntry) (i replies : ℕ) (b : Bool) → i < length flows → b ≡ option_map_or (λ (f : FlowEntry). is_some f.reply) (slice_get flows i) false
    → replies ≡ replies_before flows i → replies + cond b 1 0 ≡ replies_before flows (i + 1)
reply_more flows i replies b lt is so_far = by (slice_get flows i) refl
  where
    slice_get_none : (xs : List FlowEntry) (k : ℕ) → slice_get xs k ≡ None → length xs ≤ k
    slice_get_none [] k none = omega arith
    slice_get_none (x ∷ xs) zero none = absurd cc
    slice_get_none (x ∷ xs) (suc k) none = let rest = slice_get_none xs k none in omega (arith, rest)

    by : (o : Option FlowEntry) → slice_get flows i ≡ o → replies + cond b 1 0 ≡ replies_before flows (i + 1)
    by None none = let past = slice_get_none flows i none in absurd (omega (arith, past, lt))
    by (Some f) at =
        let e : i + 1 ≡ suc i = omega arith in
        let same : b ≡ is_some f.reply = is ∙ ap (λ o. option_map_or (λ (f : FlowEntry). is_some f.reply) o false) at in
        ap (λ c. replies + cond c 1 0) same ∙ ap (λ r. r + cond (is_some f.reply) 1 0) so_far ∙ sym (replied_more flows i f at) ∙ ap (replies_before flows) (sym e)

pub no_reply : (flows : List FlowEntry) (i replies : ℕ) (b : Bool) → i < length flows → b ≡ option_map_or (λ (f : FlowEntry). is_some f.reply) (slice_get flows i) false
    → b ≡ false → replies ≡ replies_before flows i → replies ≡ replies_before flows (i + 1)
no_reply flows i replies b lt is none so_far =
    let e : replies ≡ replies + 0 = omega arith in
    e ∙ ap (λ c. replies + cond c 1 0) (sym none) ∙ reply_more flows i replies b lt is so_far

pub one_reply : (flows : List FlowEntry) (i replies : ℕ) (b : Bool) → i < length flows → b ≡ option_map_or (λ (f : FlowEntry). is_some f.reply) (slice_get flows i) false
    → b ≡ true → replies ≡ replies_before flows i → replies + 1 ≡ replies_before flows (i + 1)
one_reply flows i replies b lt is some so_far = ap (λ c. replies + cond c 1 0) (sym some) ∙ reply_more flows i replies b lt is so_far

pub all_replies : (fs : List FlowEntry) → count_by (λ (f : FlowEntry). is_some f.reply) fs ≡ length (reply_flows fs)
all_replies [] = refl
all_replies (f ∷ fs) =
    sum_by-cons (λ (x : FlowEntry). cond (is_some x.reply) 1 0) f fs ∙ ap (λ n. cond (is_some f.reply) 1 0 + n) (all_replies fs) ∙ by f.reply
  where
    by : (o : Option ReplyEntry) → cond (is_some o) 1 0 + length (reply_flows fs) ≡ length (replies_of f o ++ reply_flows fs)
    by None = omega arith
    by (Some r) = omega (arith, length-append (reply_flow f r ∷ []) (reply_flows fs))

pub no_more_replies : (flows : List FlowEntry) (i replies reply : ℕ) → length flows ≤ i → replies ≡ replies_before flows i → replies ≤ reply → reply < length (reply_flows flows) → ⊥
no_more_replies flows i replies reply past so_far most within =
    let all : replies_before flows i ≡ length (reply_flows flows) = ap (count_by (λ (f : FlowEntry). is_some f.reply)) (take_all i flows past) ∙ all_replies flows in
    omega (arith, so_far, most, within, all)

pub reply_found : (d : Declaration) (i reply : ℕ) (b : Bool) → b ≡ option_map_or (λ (f : FlowEntry). is_some f.reply) (slice_get d.flows i) false → b ≡ true
    → reply ≡ replies_before d.flows i → IsReplyOf d reply i
reply_found d i reply b is true_is here = by (slice_get d.flows i) refl
  where
    of_flow : (f : FlowEntry) → slice_get d.flows i ≡ Some f → (o : Option ReplyEntry) → f.reply ≡ o → is_some o ≡ true → IsReplyOf d reply i
    of_flow f at None none some = absurd (false≢true some)
    of_flow f at (Some r) has some = record {
      flow = f;
      entry = r;
      declared = at;
      replies = has;
      there = ap (slice_get (reply_flows d.flows)) here ∙ sym (slice_get-append_right d.flows (reply_flows d.flows) (replies_before d.flows i)) ∙ follow_in_order d i f r at has;
    }

    by : (o : Option FlowEntry) → slice_get d.flows i ≡ o → IsReplyOf d reply i
    by None none = absurd (false≢true (sym (is ∙ ap (λ o. option_map_or (λ (f : FlowEntry). is_some f.reply) o false) none) ∙ true_is))
    by (Some f) at =
        of_flow f at f.reply refl (sym (is ∙ ap (λ o. option_map_or (λ (g : FlowEntry). is_some g.reply) o false) at) ∙ true_is)

-- ---- bytes

pub bytes_stay : (d : Declaration) (f : FlowEntry) (old new : List Bool) (place : Place) → MarksStay old new → IsByteUsed d f old place → IsByteUsed d f new place
bytes_stay d f old new place stay used s p ends lt = stay s _ (used s p ends lt)

pub one_byte_more : (d : Declaration) (f : FlowEntry) (old new : List Bool) (places : List Place) (i : ℕ) (place : Place) → i < length places
    → place ≡ get_or places i place → All (IsByteUsed d f old) (take i places) → MarksStay old new → IsByteUsed d f new place → All (IsByteUsed d f new) (take (i + 1) places)
one_byte_more d f old new places i place lt is so_far stay here =
    subst (All (IsByteUsed d f new)) (sym (take_more places i place lt))
    (All-push (IsByteUsed d f new) (take i places) (get_or places i place) (λ k x inside. bytes_stay d f old new (get_or (take i places) k x) stay (so_far k x inside))
    (subst (IsByteUsed d f new) is here))

pub all_bytes : (d : Declaration) (f : FlowEntry) (bytes : List Bool) (places : List Place) (i : ℕ) → length places ≤ i → All (IsByteUsed d f bytes) (take i places)
    → All (IsByteUsed d f bytes) places
all_bytes d f bytes places i past = subst (All (IsByteUsed d f bytes)) (take_all i places past)

-- ---- causes

pub no_growth : (uses : Uses) → UsesGrow uses uses
no_growth uses = record { flows = λ k there. there; answered = λ k there. there; limits = λ set. set; bytes = λ s b set. set }

pub both_growths : (a b c : Uses) → UsesGrow a b → UsesGrow b c → UsesGrow a c
both_growths a b c p q = record {
  flows = λ k there. q.flows k (p.flows k there);
  answered = λ k there. q.answered k (p.answered k there);
  limits = λ set. q.limits (p.limits set);
  bytes = λ s n set. q.bytes s n (p.bytes s n set);
}

pub flow_used_still : (d : Declaration) (i : ℕ) (old new : Uses) → UsesGrow old new → IsFlowUsed d i old → IsFlowUsed d i new
flow_used_still d i old new grow (inl declared) = inl (declared.0, grow.flows i declared.1)
flow_used_still d i old new grow (inr (reply, number, past, of, listed)) = inr (reply, number, past, of, grow.answered number listed)

target_used_still : (d : Declaration) (node : ℕ) (old new : Uses) → UsesGrow old new → IsTargetUsed d node old → IsTargetUsed d node new
target_used_still d node old new grow (inl one) = inl (one.0, one.1, grow.answered one.0 one.2)
target_used_still d node old new grow (inr all) = inr (grow.limits all.0, λ number f at is. grow.answered number (all.1 number f at is))

pub cause_used_still : (d : Declaration) (old new : Uses) (cause : CauseEntry) → UsesGrow old new → IsCauseUsed d old cause → IsCauseUsed d new cause
cause_used_still d old new (ByTarget node) grow used = target_used_still d node old new grow used
cause_used_still d old new (ByFlow i places) grow used = λ f at. record {
  flow = flow_used_still d i old new grow (used f at).flow;
  bytes = λ k x inside. bytes_stay d f old.bytes.items new.bytes.items (get_or places k x) grow.bytes ((used f at).bytes k x inside);
}

pub one_cause_more : (d : Declaration) (old new : Uses) (causes : List Cause) (i : ℕ) (cause : Cause) → i < length causes → cause ≡ get_or causes i cause → All (IsCauseUsed d old) (map cause_of (take i causes))
    → UsesGrow old new → IsCauseUsed d new (cause_of cause) → All (IsCauseUsed d new) (map cause_of (take (i + 1) causes))
one_cause_more d old new causes i cause lt is so_far grow here =
    let cut : map cause_of (take (i + 1) causes) ≡ map cause_of (take i causes) ++ cause_of cause ∷ [] =
    ap (map cause_of) (take_more causes i cause lt ∙ ap (λ x. take i causes ++ x ∷ []) (sym is)) ∙ map-append cause_of (take i causes) (cause ∷ []) in
    subst (All (IsCauseUsed d new)) (sym cut)
    (All-push (IsCauseUsed d new) (map cause_of (take i causes)) (cause_of cause)
    (λ k x inside. cause_used_still d old new (get_or (map cause_of (take i causes)) k x) grow (so_far k x inside)) here)

-- a way by these places
pub way_added : (d : Declaration) (old mid new : Uses) (cause : CauseEntry) (i : ℕ) (listed passed : List Place) (f : FlowEntry) → cause ≡ ByFlow i listed → passed ≡ listed
    → slice_get (all_flows d) i ≡ Some f → UsesGrow old mid → All (IsByteUsed d f mid.bytes.items) passed → UsesGrow mid new × IsFlowUsed d i new → UsesGrow old new × IsCauseUsed d new cause
way_added d old mid new cause i listed passed f shape is at grow bytes more = (
  both_growths old mid new grow more.0,
  subst (IsCauseUsed d new) (sym shape) (λ g there. record {
    flow = more.1;
    bytes = subst (λ (h : FlowEntry). All (IsByteUsed d h new.bytes.items) listed) (same_Some f g (sym at ∙ there))
        (subst (All (IsByteUsed d f new.bytes.items)) is
        (λ k x inside. bytes_stay d f mid.bytes.items new.bytes.items (get_or passed k x) more.0.bytes (bytes k x inside)));
  }),
)

pub all_causes : (d : Declaration) (uses : Uses) (causes : List Cause) (i : ℕ) → length causes ≤ i → All (IsCauseUsed d uses) (map cause_of (take i causes))
    → All (IsCauseUsed d uses) (map cause_of causes)
all_causes d uses causes i past = subst (λ (l : List Cause). All (IsCauseUsed d uses) (map cause_of l)) (take_all i causes past)
