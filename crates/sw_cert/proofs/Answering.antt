-- The nodes where what comes may have to wait for a reply: flows end there.
use Rattle.std.proofs.Common.{◌≡◌, ℕ, true, List, length, map, filter, Option, Some, None, option_map, is_some, Contains, refl, subst}
use Rattle.std.specs.List.{range_with_len}
use Rattle.sw_config.specs.Entries.{FlowEntry, ReplyEntry, Declaration, all_flows}
use Rattle.sw_config.specs.Limits.{may_make_wait}
use Rattle.sw_config.specs.Valid.{IsValid}
use Rattle.sw_config.proofs.AnsweringNodes.{answered_flow, answering_within}
use Rattle.sw_config.proofs.Limits.{waiting_answers}
use Rattle.sw_flow.proofs.Listed.{Contains-map}
use Rattle.sw_graph.proofs.Marked.{in_range}
use Rattle.sw_graph.proofs.Peels.{kept, kept_from}
use Rattle.sw_cert.proofs.Lists.{Contains-at}

pub some_reply : (n j : ℕ) (o : Option ReplyEntry) → option_map (λ (r : ReplyEntry). n) o ≡ Some j → is_some o ≡ true
some_reply n j None h = absurd (let bad : None ≡ Some j = h in cc)
some_reply n j (Some r) h = refl

pub its_number : (n : ℕ) (o : Option ReplyEntry) → is_some o ≡ true → option_map (λ (r : ReplyEntry). n) o ≡ Some n
its_number n None h = absurd cc
its_number n (Some r) h = refl

module _ (d : Declaration) where
  -- where flows end, of the nodes that may make others wait
  abbrev pub waiting_ends : List FlowEntry → List ℕ
  waiting_ends flows = filter (may_make_wait d) (map (λ f. f.to) flows)

  abbrev Waiting : ℕ → Type 0
  Waiting n = Contains (filter (may_make_wait d) (range_with_len 0 (length d.nodes))) n

  pub listed_where_waits : IsValid d → (n : ℕ) → may_make_wait d n ≡ true → Waiting n
  listed_where_waits valid n waits =
      kept (may_make_wait d) (range_with_len 0 (length d.nodes)) n (in_range (length d.nodes) n (answering_within d valid n (waiting_answers d n waits))) waits

  pub waits_where_listed : (n : ℕ) → Waiting n → may_make_wait d n ≡ true
  waits_where_listed n m = (kept_from (may_make_wait d) (range_with_len 0 (length d.nodes)) n m).1

  pub waits_where_ended : IsValid d → (n : ℕ) → Contains (waiting_ends (all_flows d)) n → Waiting n
  waits_where_ended valid n m = listed_where_waits valid n (kept_from (may_make_wait d) (map (λ (f : FlowEntry). f.to) (all_flows d)) n m).1

  pub ended_where_waits : (n : ℕ) → Waiting n → Contains (waiting_ends (all_flows d)) n
  ended_where_waits n m =
      let waits : may_make_wait d n ≡ true = waits_where_listed n m in
      let a = answered_flow d n (waiting_answers d n waits) in
      let ends : Contains (map (λ (f : FlowEntry). f.to) (all_flows d)) a.flow.to =
      Contains-map (λ (f : FlowEntry). f.to) (all_flows d) a.flow (Contains-at (all_flows d) a.number a.flow a.numbered) in
      kept (may_make_wait d) (map (λ (f : FlowEntry). f.to) (all_flows d)) n (subst (λ (k : ℕ). Contains (map (λ (f : FlowEntry). f.to) (all_flows d)) k) a.ends_there ends) waits
