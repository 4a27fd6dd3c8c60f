-- A split that touches nothing that a cycle uses leaves the causes of the cycle.
use Rattle.std.proofs.Common.{◌≡◌, ◌∙◌, ◌⊎◌, ℕ, ◌+◌, ◌<◌, List, Some, ap, arith, false, get_or, inl, inr, length, map, refl, subst, sym}
use Rattle.std.specs.Prelude.{◌&&◌, ◌||◌, Contains, if◌then◌else◌, is_some, option_and_then, option_map, slice_get}
use Rattle.std.proofs.lemmas.Bool.{false≢true}
use Rattle.std.proofs.lemmas.List.Elements.{All-contains, Contains-append_left}
use Rattle.std.proofs.lemmas.Option.{same_Some, slice_get-get_or, slice_get-map, slice_get_cases}
use Rattle.sw_topo.proofs.Lists.{at_front, in_front}
use Rattle.sw_config.specs.Entries.{Declaration, FlowEntry, NodeEntry, all_flows, is_answered_at, reply_flow, reply_flows}
use Rattle.sw_config.specs.Limits.{flow_outstanding, is_limited}
use Rattle.sw_config.specs.Valid.{IsFlow, IsValid}
use Rattle.sw_config.proofs.Flows.{All-at, slice_get-append_right}
use Rattle.sw_flow.specs.declared.place.Place.{Place}
use Rattle.sw_cycle.specs.Cycles.{ByFlow, ByTarget, CauseEntry, IsCause, round}
use Rattle.sw_search.specs.Laws.{RoutedAndFree}
use Rattle.sw_mend.specs.Changes.{made_at}
use Rattle.sw_mend.specs.KeptCycles.{IsCauseKept, IsWayKept}
use Rattle.sw_mend.specs.Spared.{AreOfACycle, AreOfCycles, IsCauseUsed, IsReplyOf, IsSplitSpared, IsTargetUsed, IsWayUsed, SplitSparesOne}
use Rattle.sw_mend.specs.Splits.{flow_moved, flow_split, split, target_part}
use Rattle.sw_mend.specs.declared.change.TargetLink.{TargetLink}
use Rattle.sw_mend.specs.declared.uses.Uses.{Uses}
use Rattle.sw_mend.proofs.KeptWays.{kept_rule_out_free, split_has_channels}
use Rattle.sw_mend.proofs.Members.{Contains-at, at_Contains}
use Rattle.sw_mend.proofs.SameTargets.{unlimited_waits}
use Rattle.sw_mend.proofs.SparedCauses.{reply_in}

module _ (d : Declaration) (link : TargetLink) (uses : Uses) (spared : IsSplitSpared d link.node uses) where
  abbrev left : Declaration
  left = split d link

  -- ---- flows

  mapped : (g : FlowEntry → FlowEntry) (xs : List FlowEntry) (n : ℕ) (f : FlowEntry) → slice_get xs n ≡ Some f → g f ≡ f → Contains (map g xs) f
  mapped g xs n f at same = Contains-at (map g xs) n f (slice_get-map g xs n ∙ ap (option_map g) at ∙ ap Some same)

  stays_there : (n : ℕ) (f : FlowEntry) → slice_get d.flows n ≡ Some f → is_answered_at link.node f ≡ false → Contains left.flows f
  stays_there n f at other =
      mapped (flow_split (length d.nodes) link) d.flows n f at (ap (λ b. if b then flow_moved (length d.nodes) link f else f) other)

  way_kept : (f : FlowEntry) (i : ℕ) (places : List Place) → slice_get (all_flows d) i ≡ Some f → IsWayUsed d uses i places f → IsWayKept d left i places
  way_kept f i places numbered used = by used.flow
    where
      kept : Contains (all_flows left) f → IsWayKept d left i places
      kept there = record { flow = f; numbered = numbered; other = f; there = there; from = refl; address = refl; looks = λ place s p in_places ends lt. refl }

      by : ((i < length d.flows) × Contains uses.flows.items i)
          ⊎ ((reply : ℕ) × (number : ℕ) × (i ≡ length d.flows + reply) × IsReplyOf d reply number × Contains uses.answered.items number)
          → IsWayKept d left i places
      by (inl declared) =
          let at : slice_get d.flows i ≡ Some f = in_front d.flows (reply_flows d.flows) i f declared.0 numbered in
          kept (Contains-append_left left.flows (reply_flows left.flows) f (stays_there i f at (spared.flows i f declared.1 at)))
      by (inr (reply, number, past, of, listed)) =
          let same : reply_flow of.flow of.entry ≡ f =
          same_Some (reply_flow of.flow of.entry) f
          (sym of.there ∙ sym (slice_get-append_right d.flows (reply_flows d.flows) reply) ∙ ap (slice_get (all_flows d)) (sym past) ∙ numbered) in
          kept (subst (λ (g : FlowEntry). Contains (all_flows left) g) same
          (reply_in left of.flow of.entry (stays_there number of.flow of.declared (spared.answered number of.flow listed of.declared)) of.replies))

  -- ---- targets

  node_same : (k : ℕ) → k < length d.nodes → slice_get left.nodes k ≡ slice_get d.nodes k
  node_same k lt = elim (slice_get_cases d.nodes k).1 [
    | inl found ↦ at_front d.nodes (made_at target_part d.nodes link.node) k found.0 found.2 ∙ sym found.2
    | inr past ↦ absurd (omega (arith, past.0, lt))
  ]

  target_left : IsValid d → IsValid left → (t : ℕ) → IsTargetUsed d t uses → IsCauseKept d left (ByTarget t)
  target_left valid ok t (inl one) =
      let command = one.1 in
      let at = at_Contains left.flows command.flow (stays_there one.0 command.flow command.declared (spared.answered one.0 command.flow one.2 command.declared)) in
      let lt : command.flow.from < length d.nodes = (All-at (IsFlow d.nodes) d.flows one.0 command.flow command.declared valid.flows).from in
      let unlimited : is_limited left.nodes command.flow ≡ false =
      ap (λ o. is_some command.flow.reply && (is_some (flow_outstanding command.flow) || is_some (option_and_then (λ (e : NodeEntry). e.outstanding) o))) (node_same command.flow.from lt)
      ∙ command.unlimited in
      unlimited_waits left t at.0 command.flow ok at.2 command.answered unlimited
  target_left valid ok t (inr all) = absurd (false≢true (sym spared.limits ∙ all.0))

  pub cause_left_split : IsValid d → IsValid left → (cause : CauseEntry) (c e : ℕ) → IsCauseUsed d uses cause → IsCause d cause c e → IsCauseKept d left cause
  cause_left_split valid ok (ByTarget t) c e used shown = target_left valid ok t used
  cause_left_split valid ok (ByFlow i places) c e used shown = way_kept shown.flow i places shown.numbered (used shown.flow shown.numbered)

-- so the network that is left is not free
one_not_free : (d : Declaration) (link : TargetLink) (uses : Uses) → IsValid d → AreOfACycle d uses → IsSplitSpared d link.node uses → IsValid (split d link) × RoutedAndFree (split d link) → ⊥
one_not_free d link uses valid (cycle, shown, used) spared frees =
    kept_rule_out_free d (split d link) cycle frees.0 (split_has_channels d link) shown
    (λ k x lt. cause_left_split d link uses spared valid frees.0 (get_or cycle.causes k x) (round cycle.channels k) (round cycle.channels (k + 1)) (used k x lt)
    (shown.caused k (get_or cycle.causes k x) (slice_get-get_or cycle.causes k x lt)))
    frees.1

pub split_not_free : (d : Declaration) (link : TargetLink) (cycles : List Uses) → IsValid d → AreOfCycles d cycles → SplitSparesOne d link.node cycles
    → IsValid (split d link) × RoutedAndFree (split d link) → ⊥
split_not_free d link cycles valid known one = one_not_free d link one.0 valid (All-contains (AreOfACycle d) cycles one.0 known one.1) one.2
