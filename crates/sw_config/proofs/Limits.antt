-- Which flows are limited, which nodes have a limit, and which may make others wait.
use Rattle.std.proofs.Common.{◌≡◌, ℕ, zero, ◌⊎◌, suc, ◌*◌, ◌<◌, ◌≤◌, ◌==◌, ◌&&◌, ◌||◌, Bool, true, false, not, cond, List, [], ◌∷◌, length, map, filter, get_or, All, Option, Some, None, is_some, refl, sym, subst, ap, ◌∙◌, inl, inr, arith, zero-add, ◌+◌}
use Rattle.std.specs.Prelude.{IfSome, slice_get, nat_lt, option_and_then, if◌then◌else◌, min}
use Rattle.std.specs.List.{list_all, list_any, range_with_len}
use Rattle.std.specs.Option.{option_map_or}
use Rattle.std.proofs.Math.Bool.{and-true}
use Rattle.std.proofs.lemmas.Bool.{and_from, and_parts, and_right, cases_lt, eq-eqb, eqb-true, false_from_ne_true, false≢true, ltb-true, or_cases, or_right}
use Rattle.std.proofs.Math.Nat.{le-min}
use Rattle.std.proofs.lemmas.List.{get_or_past}
use Rattle.std.proofs.lemmas.List.Elements.{All-head, All-tail}
use Rattle.std.proofs.lemmas.List.Folds.{Any-from_list_any}
use Rattle.std.proofs.lemmas.List.Sums.{AllPass-from_list_all}
use Rattle.std.proofs.lemmas.List.FromFn.{get_or-map-range_with_len, length-map-range_with_len}
use Rattle.std.proofs.lemmas.Option.{same_Some, slice_get_read}
use Rattle.sw_rmap.specs.Targets.{slots_of}
use Rattle.sw_config.specs.Entries.{NodeEntry, FlowEntry, Declaration, all_flows, answering_marks, is_answered_at, is_answering, reply_flows, target_of, ReplyEntry}
use Rattle.sw_config.specs.Limits.{lesser, sum_of_limits, outstanding_of, flow_outstanding, is_limited, commands_from, limit_from, limit_at, all_limited_at, always_takes, may_make_wait, waiting_marks, HasNoLimits}
use Rattle.sw_config.specs.LimitRows.{LimitRows, total_at, ends_unanswered, AreLimits, plus}
use Rattle.sw_config.specs.Valid.{IsFlow, IsValid, IsNode, IsOutstanding, IsReply}
use Rattle.sw_config.proofs.AnsweringNodes.{answering_within, declared_at}
use Rattle.sw_config.proofs.Flows.{All-at}
use Rattle.sw_config.proofs.FlowLaws.{replies_to}
use Rattle.sw_config.proofs.LimitSums.{some_after, some_before, sum_cons, SplitAt, split_at}

-- ---- flows that are limited

-- a flow of replies is not
pub reply_flow_unlimited : (nodes : List NodeEntry) (fs : List FlowEntry) (k : ℕ) (f : FlowEntry) → slice_get (reply_flows fs) k ≡ Some f
    → is_limited nodes f ≡ false
reply_flow_unlimited nodes fs k f at = let is = replies_to fs k f at in ap (is_limited nodes) is.same

-- each summand of a sum of limits is a limit
each_limited : (test : FlowEntry → Bool) (fs : List FlowEntry) (i : ℕ) (f : FlowEntry) → is_some (sum_of_limits (map flow_outstanding (filter test fs))) ≡ true
    → slice_get fs i ≡ Some f → test f ≡ true → is_some (flow_outstanding f) ≡ true
each_limited test [] i f some at passes = absurd cc
each_limited test (g ∷ fs) zero f some at passes =
    let same : g ≡ f = same_Some g f at in
    let here : test g ≡ true = ap test same ∙ passes in
    let first : is_some (sum_of_limits (flow_outstanding g ∷ map flow_outstanding (filter test fs))) ≡ true =
    ap (λ b. is_some (sum_of_limits (map flow_outstanding (cond b (g ∷ filter test fs) (filter test fs))))) (sym here) ∙ some in
    ap (λ x. is_some (flow_outstanding x)) (sym same)
    ∙ some_before (flow_outstanding g) (sum_of_limits (map flow_outstanding (filter test fs)))
    (ap is_some (sym (sum_cons (flow_outstanding g) (map flow_outstanding (filter test fs)))) ∙ first)
each_limited test (g ∷ fs) (suc i) f some at passes = each_limited test fs i f (by (test g) some) at passes
  where
    by : (b : Bool) → is_some (sum_of_limits (map flow_outstanding (cond b (g ∷ filter test fs) (filter test fs)))) ≡ true
        → is_some (sum_of_limits (map flow_outstanding (filter test fs))) ≡ true
    by false rest = rest
    by true both =
        some_after (flow_outstanding g) (sum_of_limits (map flow_outstanding (filter test fs)))
        (ap is_some (sym (sum_cons (flow_outstanding g) (map flow_outstanding (filter test fs)))) ∙ both)

-- why a node always takes what comes
pub record AlwaysTakes (d : Declaration) (n : ℕ) : Type 0 where
  pub limit : ℕ
  pub limited : limit_at d n ≡ Some limit
  pub room : (limit < slots_of (target_of d.nodes n)) ⊎ ((limit ≡ slots_of (target_of d.nodes n)) × (all_limited_at d n ≡ true))

module _ (d : Declaration) where
  -- what a limit at a node says of its parts
  total_is : (b : Bool) (o : Option ℕ) (l : ℕ) → (if b then o else None) ≡ Some l → (b ≡ true) × (o ≡ Some l)
  total_is true o l is = (refl, is)
  total_is false o l is = absurd cc

  -- where there is a limit, each flow of commands is limited
  pub limited_flow : All (IsFlow d.nodes) d.flows → (n l : ℕ) → limit_at d n ≡ Some l → (i : ℕ) (f : FlowEntry) → slice_get d.flows i ≡ Some f
      → is_answered_at n f ≡ true → is_limited d.nodes f ≡ true
  limited_flow flows n l limit i f at answered =
      let own = outstanding_of d.nodes f.from in
      let parts = and_parts (is_some f.reply) (f.to == n) answered in
      let total = (total_is (is_answering d n) (total_at d n) l limit).1 in
      let s : SplitAt (limit_from d n) (limit_from d n) f.from 0 (length d.nodes) =
      split_at (limit_from d n) (limit_from d n) f.from (λ k other. refl) 0 (length d.nodes) (omega arith)
      (omega (arith, (All-at (IsFlow d.nodes) d.flows i f at flows).from)) in
      let one : is_some (limit_from d n f.from) ≡ true = some_before (limit_from d n f.from) s.rest (ap is_some (sym s.before ∙ total)) in
      and_from (is_some f.reply) (is_some (flow_outstanding f) || is_some own) parts.0
      (by own (sum_of_limits (map flow_outstanding (commands_from d f.from n))) one
      (λ some. each_limited (λ (g : FlowEntry). is_answered_at n g && g.from == f.from) d.flows i f some at
      (and_from (is_answered_at n f) (f.from == f.from) answered (eq-eqb f.from f.from refl))))
    where
      by : (o sum : Option ℕ) → is_some (lesser o sum) ≡ true → (is_some sum ≡ true → is_some (flow_outstanding f) ≡ true)
          → (is_some (flow_outstanding f) || is_some o) ≡ true
      by None sum some each = ap (λ b. b || false) (each some)
      by (Some k) sum some each = or_right (is_some (flow_outstanding f)) true refl

  -- the same, of a flow by its number
  pub limited_number : All (IsFlow d.nodes) d.flows → (n l : ℕ) → limit_at d n ≡ Some l → (i : ℕ) (f : FlowEntry) → slice_get (all_flows d) i ≡ Some f
      → is_answered_at n f ≡ true → is_limited d.nodes f ≡ true
  limited_number flows n l limit i f at answered =
      limited_flow flows n l limit i f (declared_at d i f at (and_parts (is_some f.reply) (f.to == n) answered).0) answered

  -- only commands are limited
  pub limited_replied : (f : FlowEntry) → is_limited d.nodes f ≡ true → is_some f.reply ≡ true
  limited_replied f limited = (and_parts (is_some f.reply) (is_some (flow_outstanding f) || is_some (outstanding_of d.nodes f.from)) limited).0

  -- ---- a limit is one command at least

  some_part : (a b : Option ℕ) (l : ℕ) → plus a b ≡ Some l → (k : ℕ) × (a ≡ Some k) × (k ≤ l)
  some_part None b l is = absurd cc
  some_part (Some k) None l is = absurd cc
  some_part (Some k) (Some j) l is = let sum : k + j ≡ l = same_Some (k + j) l is in (k, refl, omega (arith, sum))

  own_at_least : (o : Option ℕ) (k : ℕ) → IfSome o IsOutstanding → o ≡ Some k → 1 ≤ k
  own_at_least None k some is = absurd cc
  own_at_least (Some j) k some is = let same : j ≡ k = same_Some j k is in let low = some.low in omega (arith, same, low)

  -- a flow's own limit
  flow_at_least : (f : FlowEntry) → IsFlow d.nodes f → (k : ℕ) → flow_outstanding f ≡ Some k → 1 ≤ k
  flow_at_least f flow k is = by f.reply flow.reply is
    where
      by : (r : Option ReplyEntry) → IfSome r (IsReply d.nodes f.to) → option_and_then (λ (e : ReplyEntry). e.outstanding) r ≡ Some k → 1 ≤ k
      by None reply is = absurd cc
      by (Some e) reply is = own_at_least e.outstanding k reply.outstanding is

  sum_at_least : (test : FlowEntry → Bool) (fs : List FlowEntry) → All (IsFlow d.nodes) fs → (i : ℕ) (f : FlowEntry) (l : ℕ) → sum_of_limits (map flow_outstanding (filter test fs)) ≡ Some l
      → slice_get fs i ≡ Some f → test f ≡ true → 1 ≤ l
  sum_at_least test [] flows i f l sum at passes = absurd cc
  sum_at_least test (g ∷ fs) flows i f l sum at passes =
      by (λ k rest there. sum_at_least test fs (All-tail (IsFlow d.nodes) g fs flows) k f l rest there passes) (test g) refl i sum at
    where
      by : ((k : ℕ) → sum_of_limits (map flow_outstanding (filter test fs)) ≡ Some l → slice_get fs k ≡ Some f → 1 ≤ l) → (b : Bool) → test g ≡ b → (i : ℕ) → sum_of_limits (map flow_outstanding (cond b (g ∷ filter test fs) (filter test fs))) ≡ Some l → slice_get (g ∷ fs) i ≡ Some f → 1 ≤ l
      by more true is i sum at =
          let part = some_part (flow_outstanding g) (sum_of_limits (map flow_outstanding (filter test fs))) l (sym (sum_cons (flow_outstanding g) (map flow_outstanding (filter test fs))) ∙ sum) in
          let one = flow_at_least g (All-head (IsFlow d.nodes) g fs flows) part.0 part.1 in
          let few = part.2 in
          omega (arith, one, few)
      by more false is zero sum at = absurd (false≢true (sym is ∙ ap test (same_Some g f at) ∙ passes))
      by more false is (suc i) sum at = more i sum at

  lesser_at_least : (a b : Option ℕ) (l : ℕ) → ((k : ℕ) → a ≡ Some k → 1 ≤ k) → ((k : ℕ) → b ≡ Some k → 1 ≤ k) → lesser a b ≡ Some l → 1 ≤ l
  lesser_at_least None b l first second is = second l is
  lesser_at_least (Some j) None l first second is = first l is
  lesser_at_least (Some j) (Some k) l first second is =
      let same : min j k ≡ l = same_Some (min j k) l is in
      let low = first j refl in
      let also = second k refl in
      subst (λ m. 1 ≤ m) same (le-min low also)

  node_at_least : IsValid d → (m k : ℕ) → outstanding_of d.nodes m ≡ Some k → 1 ≤ k
  node_at_least valid m k is = by (slice_get d.nodes m) refl is
    where
      by : (o : Option NodeEntry) → slice_get d.nodes m ≡ o → option_and_then (λ (e : NodeEntry). e.outstanding) o ≡ Some k → 1 ≤ k
      by None at is = absurd cc
      by (Some e) at is = own_at_least e.outstanding k (All-at IsNode d.nodes m e at valid.nodes).outstanding is

  pub limit_at_least : IsValid d → (n l : ℕ) → limit_at d n ≡ Some l → 1 ≤ l
  limit_at_least valid n l limit =
      let parts = total_is (is_answering d n) (total_at d n) l limit in
      let one = Any-from_list_any (is_answered_at n) d.flows parts.0 in
      let f = one.1 in
      let at : slice_get d.flows one.0 ≡ Some f = slice_get_read d.flows (length d.flows) one.0 f refl one.2 (sym one.3) in
      let m = f.from in
      let s : SplitAt (limit_from d n) (limit_from d n) m 0 (length d.nodes) =
      split_at (limit_from d n) (limit_from d n) m (λ k other. refl) 0 (length d.nodes) (omega arith) (omega (arith, (All-at (IsFlow d.nodes) d.flows one.0 f at valid.flows).from)) in
      let part = some_part (limit_from d n m) s.rest l (sym s.before ∙ parts.1) in
      let few = part.2 in
      let low : 1 ≤ part.0 = lesser_at_least (outstanding_of d.nodes m) (sum_of_limits (map flow_outstanding (commands_from d m n))) part.0 (node_at_least valid m)
      (λ k sum. sum_at_least (λ (g : FlowEntry). is_answered_at n g && g.from == m) d.flows valid.flows one.0 f k sum at (and_from (is_answered_at n f) (f.from == m) one.4 (eq-eqb f.from f.from refl)))
      part.1 in
      omega (arith, low, few)

  -- ---- what ends at a node with a limit

  -- where all that ends there is limited, each flow is
  pub each_limited_at : (n : ℕ) → all_limited_at d n ≡ true → (i : ℕ) (f : FlowEntry) → slice_get (all_flows d) i ≡ Some f → f.to ≡ n
      → is_limited d.nodes f ≡ true
  each_limited_at n all i f at ends =
      let test : FlowEntry → Bool = λ g. not (g.to == n) || is_limited d.nodes g in
      let passes : test f ≡ true = All-at (λ (g : FlowEntry). test g ≡ true) (all_flows d) i f at (AllPass-from_list_all test (all_flows d) all) in
      ap (λ b. not b || is_limited d.nodes f) (sym (eq-eqb f.to n ends)) ∙ passes

  -- a node that always takes has a limit, which is less than its slots, or as much where all that ends there is limited
  pub takes_always : (n : ℕ) → always_takes d n ≡ true → AlwaysTakes d n
  takes_always n takes = by (limit_at d n) refl takes
    where
      by : (o : Option ℕ) → limit_at d n ≡ o
          → option_map_or (λ l. nat_lt l (slots_of (target_of d.nodes n)) || l == slots_of
          (target_of d.nodes n) && all_limited_at d n) o false ≡ true → AlwaysTakes d n
      by None is passes = absurd (false≢true passes)
      by (Some l) is passes = record {
        limit = l;
        limited = is;
        room = elim (or_cases (nat_lt l (slots_of (target_of d.nodes n))) (l == slots_of (target_of d.nodes n) && all_limited_at d n) passes) [
          | inl less ↦ inl (ltb-true l (slots_of (target_of d.nodes n)) less)
          | inr equal ↦
              let both = and_parts (l == slots_of (target_of d.nodes n)) (all_limited_at d n) equal in
              inr (eqb-true l (slots_of (target_of d.nodes n)) both.0, both.1)
        ];
      }

  at_each : (ends replied limited : Bool) → (replied ≡ false → limited ≡ false) → (replied ≡ true → ends ≡ true → limited ≡ true)
      → (not ends || limited) ≡ not (ends && not replied)
  at_each false replied limited none all = refl
  at_each true false limited none all = none refl
  at_each true true limited none all = all refl refl

  all_not : (p q : FlowEntry → Bool) (fs : List FlowEntry) → ((i : ℕ) (f : FlowEntry) → slice_get fs i ≡ Some f → p f ≡ not (q f))
      → list_all p fs ≡ not (list_any q fs)
  all_not p q [] each = refl
  all_not p q (f ∷ fs) each = (λ i. each 0 f refl i && all_not p q fs (λ k g at. each (suc k) g at) i) ∙ de_morgan (q f) (list_any q fs)
    where
      de_morgan : (a b : Bool) → (not a && not b) ≡ not (a || b)
      de_morgan true b = refl
      de_morgan false b = refl

  -- all that ends there is limited, where no flow without replies ends there
  pub limited_unless_unanswered : All (IsFlow d.nodes) d.flows → (n l : ℕ) → limit_at d n ≡ Some l
      → all_limited_at d n ≡ not (list_any (ends_unanswered n) (all_flows d))
  limited_unless_unanswered flows n l limit =
      all_not (λ f. not (f.to == n) || is_limited d.nodes f) (ends_unanswered n) (all_flows d)
      (λ i f at. at_each (f.to == n) (is_some f.reply) (is_limited d.nodes f)
      (λ none. ap (λ b. b && (is_some (flow_outstanding f) || is_some (outstanding_of d.nodes f.from))) none)
      (λ replied ends. limited_flow flows n l limit i f (declared_at d i f at replied) (and_from (is_some f.reply) (f.to == n) replied ends)))

  -- ---- without limits

  module _ (none : HasNoLimits d) where
    pub no_own_limit : (n : ℕ) → outstanding_of d.nodes n ≡ None
    no_own_limit n = by (slice_get d.nodes n) refl
      where
        by : (o : Option NodeEntry) → slice_get d.nodes n ≡ o → option_and_then (λ (e : NodeEntry). e.outstanding) o ≡ None
        by None at = refl
        by (Some e) at = All-at (λ (x : NodeEntry). x.outstanding ≡ None) d.nodes n e at none.nodes

    -- no flow is limited
    pub unlimited : (i : ℕ) (f : FlowEntry) → slice_get d.flows i ≡ Some f → is_limited d.nodes f ≡ false
    unlimited i f at =
        (λ j. is_some f.reply &&
        (is_some (All-at (λ (x : FlowEntry). flow_outstanding x ≡ None) d.flows i f at none.flows j) || is_some (no_own_limit f.from j)))
        ∙ and_right (is_some f.reply) false refl

    pub unlimited_number : (i : ℕ) (f : FlowEntry) → slice_get (all_flows d) i ≡ Some f → is_limited d.nodes f ≡ false
    unlimited_number i f at = false_from_ne_true (is_limited d.nodes f)
        (λ limited. false≢true (sym (unlimited i f (declared_at d i f at (limited_replied f limited))) ∙ limited))

    -- no node has a limit
    pub no_limit_at : All (IsFlow d.nodes) d.flows → (n : ℕ) → limit_at d n ≡ None
    no_limit_at flows n = by (limit_at d n) refl
      where
        by : (o : Option ℕ) → limit_at d n ≡ o → limit_at d n ≡ None
        by None is = is
        by (Some l) is =
            let one = Any-from_list_any (is_answered_at n) d.flows (total_is (is_answering d n) (total_at d n) l is).0 in
            let at : slice_get d.flows one.0 ≡ Some one.1 = slice_get_read d.flows (length d.flows) one.0 one.1 refl one.2 (sym one.3) in
            absurd (false≢true (sym (unlimited one.0 one.1 at) ∙ limited_flow flows n l is one.0 one.1 at one.4))

    pub never_takes : All (IsFlow d.nodes) d.flows → (n : ℕ) → always_takes d n ≡ false
    never_takes flows n =
        ap (λ o. option_map_or (λ l. nat_lt l (slots_of (target_of d.nodes n)) || l == slots_of (target_of d.nodes n) && all_limited_at d n) o false)
        (no_limit_at flows n)

    pub waits_where_answering : All (IsFlow d.nodes) d.flows → (n : ℕ) → may_make_wait d n ≡ is_answering d n
    waits_where_answering flows n = ap (λ b. is_answering d n && not b) (never_takes flows n) ∙ and-true (is_answering d n)

    pub same_marks : All (IsFlow d.nodes) d.flows → waiting_marks d ≡ answering_marks d
    same_marks flows = λ i. map (λ (n : ℕ). waits_where_answering flows n i) (range_with_len 0 (length d.nodes))

  -- ---- marks of nodes that may make others wait

  pub waiting_mark_is : (n : ℕ) → n < length d.nodes → get_or (waiting_marks d) n false ≡ may_make_wait d n
  waiting_mark_is n lt = get_or-map-range_with_len (may_make_wait d) 0 (length d.nodes) n n false lt (zero-add n)

  pub marked_waits : (n : ℕ) → get_or (waiting_marks d) n false ≡ true → may_make_wait d n ≡ true
  marked_waits n set = elim (cases_lt n (length d.nodes)) [
    | inl lt ↦ sym (waiting_mark_is n lt) ∙ set
    | inr past ↦ absurd (false≢true
        (sym (get_or_past (waiting_marks d) n false (omega (arith, past, length-map-range_with_len (may_make_wait d) 0 (length d.nodes)))) ∙ set))
  ]

  -- such a node answers commands
  pub waiting_answers : (n : ℕ) → may_make_wait d n ≡ true → is_answering d n ≡ true
  waiting_answers n waits = (and_parts (is_answering d n) (not (always_takes d n)) waits).0

  pub waits_marked : IsValid d → (n : ℕ) → may_make_wait d n ≡ true → get_or (waiting_marks d) n false ≡ true
  waits_marked valid n waits = waiting_mark_is n (answering_within d valid n (waiting_answers n waits)) ∙ waits

  -- a node with a limit is one of the network's
  pub limit_within : IsValid d → (n l : ℕ) → limit_at d n ≡ Some l → n < length d.nodes
  limit_within valid n l limit = answering_within d valid n (total_is (is_answering d n) (total_at d n) l limit).0

  -- ---- what the table tells

  module _ (t : LimitRows) (a : AreLimits d t) (valid : IsValid d) where
    pub answering_told : (n : ℕ) → get_or t.answering n false ≡ is_answering d n
    answering_told n = elim (cases_lt n (length d.nodes)) [
      | inl lt ↦ a.answering n lt
      | inr past ↦
          get_or_past t.answering n false (omega (arith, past, a.answering_size))
          ∙ sym (false_from_ne_true (is_answering d n) (λ is. let lt = answering_within d valid n is in omega (arith, lt, past)))
    ]

    pub limit_told : (n : ℕ) → (if get_or t.answering n false then get_or t.totals n None else None) ≡ limit_at d n
    limit_told n = ap (λ b. if b then get_or t.totals n None else None) (answering_told n) ∙ by (is_answering d n) refl
      where
        by : (b : Bool) → is_answering d n ≡ b → (if b then get_or t.totals n None else None) ≡ (if b then total_at d n else None)
        by false is = refl
        by true is = a.totals n (answering_within d valid n is)

    pub within_told : (n : ℕ) (o : Option ℕ) → o ≡ limit_at d n → IfSome o (λ l. n < length d.nodes)
    within_told n None is = tt
    within_told n (Some l) is = limit_within valid n l (sym is)

    pub takes_told : (n l slots : ℕ) (others : Bool) → limit_at d n ≡ Some l → slots ≡ slots_of (target_of d.nodes n) → others ≡ get_or t.others n false
        → (nat_lt l slots || l == slots && not others) ≡ always_takes d n
    takes_told n l slots others limit are told =
        let all : not others ≡ all_limited_at d n =
        ap not (told ∙ a.others n (limit_within valid n l limit)) ∙ sym (limited_unless_unanswered valid.flows n l limit) in
        (λ i. nat_lt l (are i) || l == are i && all i)
        ∙ sym (ap (λ o. option_map_or
        (λ k. nat_lt k (slots_of (target_of d.nodes n)) || k == slots_of (target_of d.nodes n) && all_limited_at d n) o false) limit)

    pub small_limit : (n l : ℕ) → limit_at d n ≡ Some l → l ≤ 4096 * 65535
    small_limit n l limit =
        let told : get_or t.totals n None ≡ Some l = a.totals n (limit_within valid n l limit) ∙ (total_is (is_answering d n) (total_at d n) l limit).1 in
        let small : l ≤ length d.flows * 65535 = subst (λ o. IfSome o (λ k. k ≤ length d.flows * 65535)) told (a.small.totals n) in
        omega (arith, small, valid.few_flows)
