-- With the slots that are wanted, a node that has a limit makes no other wait.
use Rattle.std.proofs.Common.{◌≡◌, ◌≢◌, ◌⊎◌, ℕ, zero, IfSome, IsSome, suc, ◌+◌, ◌<◌, ◌≤◌, ◌==◌, ◌&&◌, ◌||◌, Bool, true, false, not, List, [], ◌∷◌, ◌++◌, Option, Some, None, inl, inr, is_some, length, map, refl, subst, sym, ap, ◌∙◌, arith, zero-add}
use Rattle.std.specs.Prelude.{if◌then◌else◌, nat_lt, slice_get}
use Rattle.std.specs.List.{list_all, range_with_len}
use Rattle.std.specs.Option.{option_map_or}
use Rattle.std.proofs.lemmas.Bool.{and_from, and_right, cases_Bool, eq-eqb, lt-ltb, ne_eqb, or_left, or_right}
use Rattle.std.proofs.lemmas.Option.{slice_get_cases}
use Rattle.sw_config.specs.Entries.{Declaration, FlowEntry, NodeEntry, ReplyEntry, all_flows, is_answering, target_of}
use Rattle.sw_config.specs.Limits.{all_limited_at, always_takes, commands_from, flow_outstanding, lesser, limit_at, limit_from, may_make_wait, outstanding_of, sum_of_limits}
use Rattle.sw_config.specs.Valid.{IsFlow, IsReply, IsTarget, IsValid}
use Rattle.sw_config.proofs.AnsweringNodes.{answered_flow}
use Rattle.sw_config.proofs.FlowLaws.{valid_flows}
use Rattle.sw_config.proofs.Flows.{All-at}
use Rattle.sw_rmap.specs.Targets.{slots_of}
use Rattle.sw_rmap.specs.declared.config.TargetConfig.{TargetConfig}
use Rattle.sw_mend.specs.Changes.{by_number}
use Rattle.sw_mend.specs.Limitings.{more_slots, node_with, slots_after, slots_at, slots_wanted, target_with, with_slots}
use Rattle.sw_mend.specs.LimitingLaws.{WithSlotsNoneWaits}
use Rattle.sw_mend.specs.declared.limiting.TargetSlots.{TargetSlots}
use Rattle.sw_mend.proofs.MoreSlots.{as_many}

-- ---- what more slots leave

same_outstanding : (slots : List TargetSlots) (k : ℕ) (nodes : List NodeEntry) (m : ℕ) → outstanding_of (by_number (node_with slots) k nodes) m ≡ outstanding_of nodes m
same_outstanding slots k [] m = refl
same_outstanding slots k (e ∷ nodes) zero = refl
same_outstanding slots k (e ∷ nodes) (suc m) = same_outstanding slots (k + 1) nodes m

target_after : (slots : List TargetSlots) (k : ℕ) (nodes : List NodeEntry) (m : ℕ) → target_of (by_number (node_with slots) k nodes) m ≡ target_with slots (k + m) (target_of nodes m)
target_after slots k [] m = refl
target_after slots k (e ∷ nodes) zero = ap (λ n. target_with slots n e.target) (omega arith)
target_after slots k (e ∷ nodes) (suc m) = target_after slots (k + 1) nodes m ∙ ap (λ n. target_with slots n (target_of nodes m)) (omega arith)

same_limit : (d : Declaration) (slots : List TargetSlots) (n : ℕ) → limit_at (with_slots d slots) n ≡ limit_at d n
same_limit d slots n =
    λ t. if is_answering d n
    then sum_of_limits (map (λ m. lesser (same_outstanding slots 0 d.nodes m t) (sum_of_limits (map flow_outstanding (commands_from d m n)))) (range_with_len 0 (as_many slots 0 d.nodes t)))
    else None

same_all_limited : (d : Declaration) (slots : List TargetSlots) (n : ℕ) → all_limited_at (with_slots d slots) n ≡ all_limited_at d n
same_all_limited d slots n =
    λ t. list_all (λ (f : FlowEntry). not (f.to == n) || is_some f.reply && (is_some (flow_outstanding f) || is_some (same_outstanding slots 0 d.nodes f.from t))) (all_flows d)

slots_of_some : (slots : List TargetSlots) (n : ℕ) (target : Option TargetConfig) → is_some target ≡ true → slots_of (target_with slots n target) ≡ slots_after slots n (slots_of target)
slots_of_some slots n None is = absurd cc
slots_of_some slots n (Some t) is = refl

-- ---- slots by node

after_both : (slots others : List TargetSlots) (n before : ℕ) → slots_after (slots ++ others) n before ≡ slots_after others n (slots_after slots n before)
after_both [] others n before = refl
after_both (first ∷ slots) others n before = after_both slots others n (if n == first.node then first.slots else before)

module _ (d : Declaration) where
  -- by what a node has, if it has a limit, and may make others wait
  abbrev named_at : Option ℕ → Bool → ℕ → List TargetSlots
  named_at limit waits k = option_map_or (λ l. if waits then record { node = k; slots = slots_wanted d k l } ∷ [] else []) limit []

  other_by : (limit : Option ℕ) (waits : Bool) (k n before : ℕ) → (n == k) ≡ false → slots_after (named_at limit waits k) n before ≡ before
  other_by None waits k n before other = refl
  other_by (Some l) false k n before other = refl
  other_by (Some l) true k n before other = ap (λ b. if b then slots_wanted d k l else before) other

  own_by : (limit : Option ℕ) (waits : Bool) (k before l : ℕ) → limit ≡ Some l → waits ≡ true → slots_after (named_at limit waits k) k before ≡ slots_wanted d k l
  own_by None waits k before l is wait = absurd cc
  own_by (Some m) false k before l is wait = absurd cc
  own_by (Some m) true k before l is wait =
      ap (λ b. if b then slots_wanted d k m else before) (eq-eqb k k refl) ∙ (λ t. slots_wanted d k (unwrapped m l is t))
    where
      unwrapped : (m l : ℕ) → Some m ≡ Some l → m ≡ l
      unwrapped m l same = cc

  no_own_by : (limit : Option ℕ) (waits : Bool) (k before : ℕ) → waits ≡ false → slots_after (named_at limit waits k) k before ≡ before
  no_own_by None waits k before none = refl
  no_own_by (Some m) false k before none = refl
  no_own_by (Some m) true k before none = absurd cc

  other_slots : (k n before : ℕ) (e : NodeEntry) → n ≢ k → slots_after (slots_at d k e) n before ≡ before
  other_slots k n before e other = other_by (limit_at d k) (may_make_wait d k) k n before (ne_eqb n k other)

  -- nodes that come later have their own
  later_slots : (k : ℕ) (nodes : List NodeEntry) (n before : ℕ) → n < k → slots_after (by_number (slots_at d) k nodes) n before ≡ before
  later_slots k [] n before lt = refl
  later_slots k (e ∷ nodes) n before lt =
      after_both (slots_at d k e) (by_number (slots_at d) (k + 1) nodes) n before
      ∙ later_slots (k + 1) nodes n (slots_after (slots_at d k e) n before) (omega (arith, lt))
      ∙ other_slots k n before e (λ same. absurd (omega (arith, same, lt)))

  -- a node has what is named for it
  own_slots : (k : ℕ) (nodes : List NodeEntry) (i n before : ℕ) (e : NodeEntry) → slice_get nodes i ≡ Some e → n ≡ k + i
      → slots_after (by_number (slots_at d) k nodes) n before ≡ slots_after (slots_at d n e) n before
  own_slots k [] i n before e here is = absurd cc
  own_slots k (f ∷ nodes) zero n before e here is =
      let same : n ≡ k = omega (arith, is) in
      after_both (slots_at d k f) (by_number (slots_at d) (k + 1) nodes) n before
      ∙ later_slots (k + 1) nodes n (slots_after (slots_at d k f) n before) (omega (arith, same))
      ∙ ap (λ m. slots_after (slots_at d m f) n before) (sym same)
  own_slots k (f ∷ nodes) (suc i) n before e here is =
      after_both (slots_at d k f) (by_number (slots_at d) (k + 1) nodes) n before
      ∙ own_slots (k + 1) nodes i n (slots_after (slots_at d k f) n before) e here (omega (arith, is))
      ∙ ap (slots_after (slots_at d n e) n) (other_slots k n before f (λ same. absurd (omega (arith, same, is))))

-- ---- what always takes

enough : (limit slots : ℕ) (all : Bool) → (limit < slots) ⊎ ((limit ≡ slots) × (all ≡ true)) → (nat_lt limit slots || limit == slots && all) ≡ true
enough limit slots all (inl less) = or_left (nat_lt limit slots) (limit == slots && all) (lt-ltb limit slots less)
enough limit slots all (inr both) = or_right (nat_lt limit slots) (limit == slots && all) (and_from (limit == slots) all (eq-eqb limit slots both.0) both.1)

-- the slots that are wanted are enough
wanted_enough : (limit : ℕ) (all : Bool) → (nat_lt limit (if all then limit else limit + 1) || limit == (if all then limit else limit + 1) && all) ≡ true
wanted_enough limit true = enough limit limit true (inr (refl, refl))
wanted_enough limit false = enough limit (limit + 1) false (inl (omega arith))

-- a node that answers, and makes no other wait, always takes
takes_by : (answering takes : Bool) → answering ≡ true → (answering && not takes) ≡ false → takes ≡ true
takes_by answering true is never = refl
takes_by true false is never = absurd cc
takes_by false false is never = absurd cc

none_waits_by : (answering : Bool) (limit : Option ℕ) (slots l : ℕ) (all : Bool) → limit ≡ Some l → (nat_lt l slots || l == slots && all) ≡ true
    → (answering && not (option_map_or (λ m. nat_lt m slots || m == slots && all) limit false)) ≡ false
none_waits_by answering limit slots l all is takes =
    ap (λ o. answering && not (option_map_or (λ m. nat_lt m slots || m == slots && all) o false)) is ∙ ap (λ b. answering && not b) takes
    ∙ and_right answering false refl

-- ---- a node that has a limit is a target

-- a limit that is there where a test passes
passes_by : (b : Bool) (o : Option ℕ) (l : ℕ) → (if b then o else None) ≡ Some l → b ≡ true
passes_by true o l is = refl
passes_by false o l is = absurd cc

target_by : (nodes : List NodeEntry) (to : ℕ) (reply : Option ReplyEntry) → is_some reply ≡ true → IfSome reply (IsReply nodes to) → IsTarget nodes to
target_by nodes to None some is = absurd cc
target_by nodes to (Some r) some is = is.target

some_from : {A : Type 0} (o : Option A) → IsSome o → is_some o ≡ true
some_from None is = absurd cc
some_from (Some x) is = refl

pub with_slots_none_waits : WithSlotsNoneWaits
with_slots_none_waits d n limit valid is =
    let slots = more_slots d in
    let before = slots_of (target_of d.nodes n) in
    let answering : is_answering d n ≡ true = passes_by (is_answering d n) (sum_of_limits (map (limit_from d n) (range_with_len 0 (length d.nodes)))) limit is in
    let a = answered_flow d n answering in
    let flow = All-at (IsFlow d.nodes) (all_flows d) a.number a.flow a.numbered (valid_flows d valid).0 in
    let target : IsTarget d.nodes n = subst (IsTarget d.nodes) a.ends_there (target_by d.nodes a.flow.to a.flow.reply a.replied flow.reply) in
    let named : slots_of (target_of (with_slots d slots).nodes n) ≡ slots_after slots n before =
    ap slots_of (target_after slots 0 d.nodes n ∙ ap (λ m. target_with slots m (target_of d.nodes n)) (zero-add n)) ∙ slots_of_some slots n (target_of d.nodes n) (some_from (target_of d.nodes n) target) in
    let within : n < length d.nodes = subst (λ (m : ℕ). m < length d.nodes) a.ends_there flow.to in
    elim (slice_get_cases d.nodes n).1 [
      | inl found ↦
          let own : slots_after slots n before ≡ slots_after (slots_at d n found.0) n before = own_slots d 0 d.nodes n n before found.0 found.2 (sym (zero-add n)) in
          by d slots n limit is (named ∙ own) found.0
          (elim (cases_Bool (may_make_wait d n)) [
            | inl waits ↦
                let so_many : slots_after (slots_at d n found.0) n before ≡ slots_wanted d n limit = own_by d (limit_at d n) (may_make_wait d n) n before limit is waits in
                subst (λ m. (nat_lt limit m || limit == m && all_limited_at d n) ≡ true) (sym so_many) (wanted_enough limit (all_limited_at d n))
            | inr none ↦
                let as_before : slots_after (slots_at d n found.0) n before ≡ before = no_own_by d (limit_at d n) (may_make_wait d n) n before none in
                let takes : always_takes d n ≡ true = takes_by (is_answering d n) (always_takes d n) answering none in
                let there : (nat_lt limit before || limit == before && all_limited_at d n) ≡ true =
                sym (ap (λ o. option_map_or (λ l. nat_lt l before || l == before && all_limited_at d n) o false) is) ∙ takes in
                subst (λ m. (nat_lt limit m || limit == m && all_limited_at d n) ≡ true) (sym as_before) there
          ])
      | inr past ↦ absurd (omega (arith, past.0, within))
    ]
  where
    by : (d : Declaration) (slots : List TargetSlots) (n limit : ℕ) → limit_at d n ≡ Some limit → {m : ℕ} → slots_of (target_of (with_slots d slots).nodes n) ≡ m → (e : NodeEntry)
        → (nat_lt limit m || limit == m && all_limited_at d n) ≡ true → may_make_wait (with_slots d slots) n ≡ false
    by d slots n limit is {m} many e takes =
        let all = all_limited_at (with_slots d slots) n in
        let there : (nat_lt limit (slots_of (target_of (with_slots d slots).nodes n)) || limit == (slots_of (target_of (with_slots d slots).nodes n)) && all) ≡ true =
        (λ t. nat_lt limit (many t) || limit == many t && same_all_limited d slots n t) ∙ takes in
        none_waits_by (is_answering d n) (limit_at (with_slots d slots) n) (slots_of (target_of (with_slots d slots).nodes n)) limit all (same_limit d slots n ∙ is) there
