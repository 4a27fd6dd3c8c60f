-- The limit and the slots that are told leave a valid network.
use Rattle.std.proofs.Common.{◌≢◌, ℕ, ◌-◌, ◌≤◌, List, [], ◌∷◌, All, AllPairs, IfSome, map, Option, Some, inl, inr, ap, subst, sym, arith}
use Rattle.std.proofs.lemmas.Bool.{cases_Bool, cases_lt}
use Rattle.std.proofs.lemmas.List.{length-map}
use Rattle.std.proofs.lemmas.List.Elements.{All-cons, All-head, All-nil, All-tail}
use Rattle.sw_route.specs.Checked.{IsSound}
use Rattle.sw_config.specs.Entries.{FlowEntry, NodeEntry, Declaration}
use Rattle.sw_config.specs.Limits.{is_limited}
use Rattle.sw_config.specs.Valid.{IsFlow, IsNode, IsOutstanding, IsValid}
use Rattle.sw_mend.specs.Changes.{by_number}
use Rattle.sw_mend.specs.Limitings.{FreesLimited, IsLimiting, IsSlots, Limiting, flow_limited, has_unlimited, limited_by, limited_to, limits_from, node_with}
use Rattle.sw_mend.specs.LimitingLaws.{LimitingsKeepValid}
use Rattle.sw_mend.specs.declared.limiting.TargetSlots.{TargetSlots}
use Rattle.sw_mend.proofs.FirstLimits.{limitings_free, no_limit_told, of_limits, told_alone, told_last}
use Rattle.sw_mend.proofs.Firsts.{first_at}
use Rattle.sw_mend.proofs.Kept.{all_made}
use Rattle.sw_mend.proofs.LimitedFlows.{by_case, names_kept, valid_limited}
use Rattle.sw_mend.proofs.MoreSlots.{as_many, same_part_names, same_wiring, still_target, still_valid}

module _ (slots : List TargetSlots) (all : All IsSlots slots) where
  valid_nodes : (nodes : List NodeEntry) → All IsNode nodes → All IsNode (by_number (node_with slots) 0 nodes)
  valid_nodes nodes valid =
      all_made (node_with slots) IsNode IsNode
      (λ k n is. All-cons IsNode _ [] (record { target = still_valid slots k n.target all is.target; outstanding = is.outstanding }) (All-nil IsNode)) 0 nodes valid

  module _ (nodes : List NodeEntry) (most : Option ℕ) (limit : IfSome most IsOutstanding) where
    valid_flow : (f : FlowEntry) → IsFlow nodes f → IsFlow (by_number (node_with slots) 0 nodes) (flow_limited nodes most f)
    valid_flow f is =
        valid_limited nodes (by_number (node_with slots) 0 nodes) most f (flow_limited nodes most f) (is_limited nodes f) limit
        (λ n target. still_target slots 0 nodes n target) (as_many slots 0 nodes) is (sym (by_case most f (is_limited nodes f)))

    valid_flows : (flows : List FlowEntry) → All (IsFlow nodes) flows → All (IsFlow (by_number (node_with slots) 0 nodes)) (map (flow_limited nodes most) flows)
    valid_flows [] valid = All-nil (IsFlow (by_number (node_with slots) 0 nodes))
    valid_flows (f ∷ flows) valid =
        All-cons (IsFlow (by_number (node_with slots) 0 nodes)) (flow_limited nodes most f) (map (flow_limited nodes most) flows)
        (valid_flow f (All-head (IsFlow nodes) f flows valid)) (valid_flows flows (All-tail (IsFlow nodes) f flows valid))

limited_keeps_valid : (d : Declaration) (l : Limiting) → IsValid d → IfSome l.most IsOutstanding → All IsSlots l.slots → IsValid (limited_by d l)
limited_keeps_valid d l valid limit all = record {
  sound = subst IsSound (sym (same_wiring l.slots (limited_to d l.most))) valid.sound;
  nodes = valid_nodes l.slots all d.nodes valid.nodes;
  switches = valid.switches;
  links = valid.links;
  flows = valid_flows l.slots all d.nodes l.most limit d.flows valid.flows;
  few_flows = omega (arith, length-map d.flows (flow_limited d.nodes l.most), valid.few_flows);
  parts_named = subst (λ (names : List (List ℕ)). AllPairs (λ x y. x ≢ y) names) (sym (same_part_names l.slots d.nodes d.switches)) valid.parts_named;
  flows_named = subst (λ (names : List (List ℕ)). AllPairs (λ x y. x ≢ y) names) (sym (names_kept d.nodes l.most d.flows)) valid.flows_named;
}

-- ---- the limit that is told

is_outstanding : (most : ℕ) → 1 ≤ most → most ≤ 8 → IsOutstanding most
is_outstanding most low high = record { low = low; high = omega (arith, high) }

told_limit : (d : Declaration) (told : Limiting) → IsLimiting d (Some told) → IfSome told.most IsOutstanding
told_limit d told is = elim (cases_Bool (has_unlimited d)) [
  | inl some ↦
      let at = first_at (FreesLimited d) (limits_from d 8) told (of_limits d (Some told) some is) in
      elim (cases_lt at.0 8) [
        | inl alone ↦
            let same = ap (λ (l : Limiting). l.most) (told_alone d told at.0 at.1 alone) in
            subst (λ (o : Option ℕ). IfSome o IsOutstanding) (sym same) (is_outstanding (8 - at.0) (omega (arith, alone)) (omega arith))
        | inr last ↦
            let same = ap (λ (l : Limiting). l.most) (told_last d told at.0 at.1 (omega (arith, last))).1 in
            subst (λ (o : Option ℕ). IfSome o IsOutstanding) (sym same) (is_outstanding 1 (omega arith) (omega arith))
      ]
  | inr none ↦ subst (λ (o : Option ℕ). IfSome o IsOutstanding) (sym (no_limit_told d told none is)) tt
]

pub limitings_keep_valid : LimitingsKeepValid
limitings_keep_valid d told valid is = limited_keeps_valid d told valid (told_limit d told is) (limitings_free d told is).0
