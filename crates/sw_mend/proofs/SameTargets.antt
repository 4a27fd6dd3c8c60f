-- Whether a target may make others wait depends on the flows that end or start at its node alone; and one flow of commands without a limit is enough.
use Rattle.std.proofs.Common.{◌≡◌, ◌∙◌, ℕ, suc, ◌+◌, Bool, true, false, cond, List, [], ◌∷◌, ◌++◌, Option, None, Some, ap, arith, filter, inl, inr, length, map, refl, sym}
use Rattle.std.specs.Prelude.{◌==◌, ◌&&◌, ◌||◌, if◌then◌else◌, is_some, nat_lt, not, slice_get}
use Rattle.std.specs.List.{list_all, list_any, range_with_len}
use Rattle.std.specs.Option.{option_map_or}
use Rattle.std.proofs.lemmas.Bool.{cases_Bool, false≢true, or_parts}
use Rattle.std.proofs.lemmas.List.Folds.{list_all-append, list_any_at}
use Rattle.std.proofs.lemmas.Option.{get_or_from_slice_get, slice_get_within}
use Rattle.sw_topo.proofs.Lists.{and_false}
use Rattle.sw_rmap.specs.Targets.{slots_of}
use Rattle.sw_config.specs.Entries.{Declaration, FlowEntry, ReplyEntry, all_flows, is_answered_at, is_answering, replies_of, reply_flow, reply_flows, target_of}
use Rattle.sw_config.specs.Limits.{all_limited_at, commands_from, flow_outstanding, is_limited, lesser, limit_at, may_make_wait, outstanding_of, sum_of_limits}
use Rattle.sw_config.specs.Valid.{IsValid}
use Rattle.sw_config.proofs.Limits.{limited_flow}
use Rattle.sw_mend.specs.Changes.{by_number, flow_after_all}
use Rattle.sw_mend.specs.declared.change.Change.{Change}
use Rattle.sw_mend.proofs.AfterAll.{flow_left, flow_lost, flow_stays}

-- ---- a flow of commands without a limit

pub unlimited_waits : (d : Declaration) (n i : ℕ) (f : FlowEntry) → IsValid d → slice_get d.flows i ≡ Some f → is_answered_at n f ≡ true → is_limited d.nodes f ≡ false
    → may_make_wait d n ≡ true
unlimited_waits d n i f valid at answered unlimited =
    (λ t. answering t && not (option_map_or (λ l. nat_lt l (slots_of (target_of d.nodes n)) || l == slots_of (target_of d.nodes n) && all_limited_at d n) (none t) false))
  where
    answering : is_answering d n ≡ true
    answering =
        list_any_at (is_answered_at n) d.flows i f (slice_get_within d.flows i f at) (ap (is_answered_at n) (get_or_from_slice_get d.flows i f f at) ∙ answered)

    by : (o : Option ℕ) → limit_at d n ≡ o → limit_at d n ≡ None
    by None is = is
    by (Some l) is = absurd (false≢true (sym unlimited ∙ limited_flow d valid.flows n l is i f at answered))

    none : limit_at d n ≡ None
    none = by (limit_at d n) refl

-- ---- flows at the node

module _ (n : ℕ) where
  abbrev pub is_at : FlowEntry → Bool
  is_at f = f.to == n || f.from == n

  abbrev pub at_node : List FlowEntry → List FlowEntry
  at_node fs = filter is_at fs

  module _ (test : FlowEntry → Bool) (only : (f : FlowEntry) → is_at f ≡ false → test f ≡ false) where
    filter_at : (fs : List FlowEntry) → filter test fs ≡ filter test (at_node fs)
    filter_at [] = refl
    filter_at (f ∷ fs) = elim (cases_Bool (is_at f)) [
      | inl here ↦ ap (λ l. cond (test f) (f ∷ l) l) (filter_at fs) ∙ ap (λ b. filter test (cond b (f ∷ filter is_at fs) (filter is_at fs))) (sym here)
      | inr other ↦
          ap (λ b. cond b (f ∷ filter test fs) (filter test fs)) (only f other) ∙ filter_at fs
          ∙ ap (λ b. filter test (cond b (f ∷ filter is_at fs) (filter is_at fs))) (sym other)
    ]

    any_at : (fs : List FlowEntry) → list_any test fs ≡ list_any test (at_node fs)
    any_at [] = refl
    any_at (f ∷ fs) = elim (cases_Bool (is_at f)) [
      | inl here ↦ ap (λ b. test f || b) (any_at fs) ∙ ap (λ b. list_any test (cond b (f ∷ filter is_at fs) (filter is_at fs))) (sym here)
      | inr other ↦
          ap (λ b. b || list_any test fs) (only f other) ∙ any_at fs
          ∙ ap (λ b. list_any test (cond b (f ∷ filter is_at fs) (filter is_at fs))) (sym other)
    ]

  module _ (test : FlowEntry → Bool) (only : (f : FlowEntry) → (f.to == n) ≡ false → test f ≡ true) where
    all_at : (fs : List FlowEntry) → list_all test fs ≡ list_all test (at_node fs)
    all_at [] = refl
    all_at (f ∷ fs) = elim (cases_Bool (is_at f)) [
      | inl here ↦ ap (λ b. test f && b) (all_at fs) ∙ ap (λ b. list_all test (cond b (f ∷ filter is_at fs) (filter is_at fs))) (sym here)
      | inr other ↦
          ap (λ b. b && list_all test fs) (only f (or_parts (f.to == n) (f.from == n) other).0) ∙ all_at fs
          ∙ ap (λ b. list_all test (cond b (f ∷ filter is_at fs) (filter is_at fs))) (sym other)
    ]

    -- a reply flow goes to where its flow comes from
    replied : (f : FlowEntry) (o : Option ReplyEntry) → is_at f ≡ false → (more : List FlowEntry) → list_all test (replies_of f o ++ more) ≡ list_all test more
    replied f None other more = refl
    replied f (Some r) other more = ap (λ b. b && list_all test more) (only (reply_flow f r) (or_parts (f.to == n) (f.from == n) other).1)

    one_more : (f : FlowEntry) (o : Option ReplyEntry) (more less : List FlowEntry) → list_all test more ≡ list_all test less
        → list_all test (replies_of f o ++ more) ≡ list_all test (replies_of f o ++ less)
    one_more f None more less same = same
    one_more f (Some r) more less same = ap (λ b. test (reply_flow f r) && b) same

    all_replies_at : (fs : List FlowEntry) → list_all test (reply_flows fs) ≡ list_all test (reply_flows (at_node fs))
    all_replies_at [] = refl
    all_replies_at (f ∷ fs) = elim (cases_Bool (is_at f)) [
      | inl here ↦
          one_more f f.reply (reply_flows fs) (reply_flows (at_node fs)) (all_replies_at fs)
          ∙ ap (λ b. list_all test (reply_flows (cond b (f ∷ filter is_at fs) (filter is_at fs)))) (sym here)
      | inr other ↦
          replied f f.reply other (reply_flows fs) ∙ all_replies_at fs
          ∙ ap (λ b. list_all test (reply_flows (cond b (f ∷ filter is_at fs) (filter is_at fs)))) (sym other)
    ]

    all_flows_at : (fs : List FlowEntry) → list_all test (fs ++ reply_flows fs) ≡ (list_all test (at_node fs) && list_all test (reply_flows (at_node fs)))
    all_flows_at fs = list_all-append test fs (reply_flows fs) ∙ (λ t. all_at fs t && all_replies_at fs t)

  not_answered : (f : FlowEntry) → is_at f ≡ false → is_answered_at n f ≡ false
  not_answered f other = and_false (is_some f.reply) (f.to == n) (or_parts (f.to == n) (f.from == n) other).0

  not_command : (m : ℕ) (f : FlowEntry) → is_at f ≡ false → (is_answered_at n f && f.from == m) ≡ false
  not_command m f other = ap (λ b. b && f.from == m) (not_answered f other)

  module _ (d e : Declaration) (nodes : e.nodes ≡ d.nodes) (same : at_node e.flows ≡ at_node d.flows) where
    answering_same : is_answering e n ≡ is_answering d n
    answering_same = any_at (is_answered_at n) not_answered e.flows ∙ ap (list_any (is_answered_at n)) same ∙ sym (any_at (is_answered_at n) not_answered d.flows)

    commands_same : (m : ℕ) → commands_from e m n ≡ commands_from d m n
    commands_same m =
        filter_at (λ f. is_answered_at n f && f.from == m) (not_command m) e.flows ∙ ap (filter (λ f. is_answered_at n f && f.from == m)) same
        ∙ sym (filter_at (λ f. is_answered_at n f && f.from == m) (not_command m) d.flows)

    limited_same : all_limited_at e n ≡ all_limited_at d n
    limited_same =
        (λ t. list_all (λ f. not (f.to == n) || is_limited (nodes t) f) (all_flows e))
        ∙ all_flows_at (λ f. not (f.to == n) || is_limited d.nodes f) (λ f other. ap (λ b. not b || is_limited d.nodes f) other) e.flows
        ∙ (λ t. list_all (λ f. not (f.to == n) || is_limited d.nodes f) (same t) && list_all (λ f. not (f.to == n) || is_limited d.nodes f) (reply_flows (same t)))
        ∙ sym (all_flows_at (λ f. not (f.to == n) || is_limited d.nodes f) (λ f other. ap (λ b. not b || is_limited d.nodes f) other) d.flows)

    limit_same : limit_at e n ≡ limit_at d n
    limit_same =
        λ t. if answering_same t
        then sum_of_limits (map (λ m. lesser (outstanding_of (nodes t) m) (sum_of_limits (map flow_outstanding (commands_same m t)))) (range_with_len 0 (length (nodes t))))
        else None

    pub waits_same : may_make_wait e n ≡ may_make_wait d n
    waits_same =
        λ t. answering_same t
        && not (option_map_or (λ l. nat_lt l (slots_of (target_of (nodes t) n)) || l == slots_of (target_of (nodes t) n) && limited_same t) (limit_same t) false)

  -- ---- what changes leave of them

  module _ (changes : List Change) where
    gone : (lost : Bool) (f : FlowEntry) (more : List FlowEntry) → is_at f ≡ false → at_node ((if lost then [] else f ∷ []) ++ more) ≡ at_node more
    gone true f more other = refl
    gone false f more other = ap (λ b. cond b (f ∷ filter is_at more) (filter is_at more)) other

    stays_at : (f : FlowEntry) → is_at f ≡ false → (k : ℕ) → is_at (flow_stays changes k f) ≡ false
    stays_at f other k = other

    pub at_node_stay : (k : ℕ) (fs : List FlowEntry) → ((i : ℕ) (f : FlowEntry) → slice_get fs i ≡ Some f → is_at f ≡ true → flow_after_all changes (k + i) f ≡ f ∷ [])
        → at_node (by_number (flow_after_all changes) k fs) ≡ at_node fs
    at_node_stay k [] each = refl
    at_node_stay k (f ∷ fs) each =
        let moved : (i : ℕ) → k + 1 + i ≡ k + suc i = λ i. omega arith in
        let rest = at_node_stay (k + 1) fs (λ i g at here. ap (λ j. flow_after_all changes j g) (moved i) ∙ each (suc i) g at here) in
        let first : k ≡ k + 0 = omega arith in
        elim (cases_Bool (is_at f)) [
          | inl here ↦
              ap (λ l. at_node (l ++ by_number (flow_after_all changes) (k + 1) fs)) (ap (λ j. flow_after_all changes j f) first ∙ each 0 f refl here)
              ∙ (λ t. cond (here t) (f ∷ rest t) (rest t)) ∙ ap (λ b. cond b (f ∷ filter is_at fs) (filter is_at fs)) (sym here)
          | inr other ↦
              ap (λ l. at_node (l ++ by_number (flow_after_all changes) (k + 1) fs)) (flow_left changes k f)
              ∙ gone (flow_lost changes k f) (flow_stays changes k f) (by_number (flow_after_all changes) (k + 1) fs) (stays_at f other k)
              ∙ rest ∙ ap (λ b. cond b (f ∷ filter is_at fs) (filter is_at fs)) (sym other)
        ]
