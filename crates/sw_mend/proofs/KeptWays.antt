-- Cycles that stay in a network which has all channels of another.
use Rattle.std.proofs.Common.{◌≡◌, ◌∙◌, ℕ, zero, suc, ◌+◌, ◌<◌, List, [], ◌∷◌, append-nil, length, Some, ap, arith, refl, subst, sym}
use Rattle.std.specs.Prelude.{Contains, option_map, position, slice_get}
use Rattle.std.proofs.lemmas.Option.{none-some, same_Some}
use Rattle.sw_topo.specs.Checked.{first_of}
use Rattle.sw_topo.specs.Wiring.{is_node, is_port, out, partner}
use Rattle.sw_topo.specs.declared.place.PlaceEnd.{PlaceEnd}
use Rattle.sw_topo.specs.declared.place.PlaceEnd.TheVariants.{Node, Switch}
use Rattle.sw_topo.proofs.Lists.{at_front}
use Rattle.sw_config.proofs.Flows.{All-at}
use Rattle.sw_config.proofs.Positions.{position-append}
use Rattle.sw_config.specs.Entries.{Declaration, FlowEntry, all_flows}
use Rattle.sw_config.specs.Valid.{IsValid}
use Rattle.sw_route.specs.declared.look.Look.{Look}
use Rattle.sw_route.specs.Looks.{NamesOutput}
use Rattle.sw_flow.specs.declared.place.Place.{Place}
use Rattle.sw_flow.specs.Places.{Follows, deleted_behind, end_of, ends_of, look_after}
use Rattle.sw_flow.specs.Ways.{GoesFromStart, GoesOver}
use Rattle.sw_machine.specs.Model.{network_of}
use Rattle.sw_machine.proofs.Free.{rising_has_no_cycle}
use Rattle.sw_cycle.specs.Cycles.{ByFlow, ByTarget, CauseEntry, CycleEntry, IsCause, IsFlowCause, IsShown, round}
use Rattle.sw_cycle.proofs.Shown.{shown_are_cycles}
use Rattle.sw_mend.proofs.Members.{at_Contains}
use Rattle.sw_search.specs.Laws.{RoutedAndFree}
use Rattle.sw_search.proofs.Exactly.{rising_is_where_no_cycle_is}
use Rattle.sw_mend.specs.Changes.{changed, changed_by_all}
use Rattle.sw_mend.specs.KeptCycles.{HasChannels, IsCauseKept, IsWayKept, KeptCyclesAreShown, KeptCyclesRuleOutFree, SparedCyclesRuleOutFrees}
use Rattle.sw_mend.specs.Splits.{own_link, split}
use Rattle.sw_mend.specs.declared.change.Change.{Change}
use Rattle.sw_mend.specs.declared.change.TargetLink.{TargetLink}
use Rattle.sw_mend.specs.declared.change.Trial.TheVariants.{Split, Without}
use Rattle.sw_mend.proofs.Kept.{changes_keep_valid}
use Rattle.sw_config.proofs.Steps.{link_ends-push}

module _ (d left : Declaration) (has : HasChannels d left) where
  -- ---- channels

  found : (test : PlaceEnd → _) (c : ℕ) → position test (ends_of d) ≡ Some c → position test (ends_of left) ≡ Some c
  found test c is =
      ap (position test) has.1 ∙ position-append test (ends_of d) has.0 ∙ ap (λ o. first_of o (option_map (λ i. length (ends_of d) + i) (position test has.0))) is

  names_kept : (s : ℕ) (look other : Look) (e : ℕ) → other ≡ look → NamesOutput (ends_of d) s look e → NamesOutput (ends_of left) s other e
  names_kept s look other e same named = subst (λ (l : Look). NamesOutput (ends_of left) s l e) (sym same)
      (record { port = named.port; is_port = named.is_port; named = named.named; linked = found (is_port s named.port) e named.linked })

  -- ---- flows

  module _ (f other : FlowEntry) (from : other.from ≡ f.from) (address : other.address ≡ f.address) where
    LooksSame : Place → Type 0
    LooksSame p = (s q : ℕ) → end_of d p.channel ≡ Some (Switch s q) → p.deleted < length f.address → look_after left f s p.deleted ≡ look_after d f s p.deleted

    step_kept : (p q : Place) → LooksSame p → Follows d f p.channel p.deleted q.channel q.deleted → Follows left other p.channel p.deleted q.channel q.deleted
    unfolding LooksSame
    step_kept p q same goes =
        let looks : look_after left other goes.switch p.deleted ≡ look_after d f goes.switch p.deleted =
        ap (λ a. look_after left (record other { address = a }) goes.switch p.deleted) address ∙ same goes.switch goes.port goes.ends goes.bytes_left in
        record {
          switch = goes.switch;
          port = goes.port;
          ends = ap (λ l. slice_get l (partner p.channel)) has.1 ∙ at_front (ends_of d) has.0 (partner p.channel) (Switch goes.switch goes.port) goes.ends;
          bytes_left = subst (λ (a : List ℕ). p.deleted < length a) (sym address) goes.bytes_left;
          named = names_kept goes.switch (look_after d f goes.switch p.deleted) (look_after left other goes.switch p.deleted) q.channel looks goes.named;
          deleted = goes.deleted ∙ ap (λ l. deleted_behind l p.deleted) (sym looks);
        }

    over_kept : (p : Place) (ps : List Place) → ((q : Place) → Contains (p ∷ ps) q → LooksSame q) → GoesOver d f p ps → GoesOver left other p ps
    over_kept p [] same goes = tt
    over_kept p (q ∷ qs) same goes = (
      step_kept p q (same p (0, omega arith, refl)) goes.0,
      over_kept q qs (λ r in_rest. same r (suc in_rest.0, omega (arith, in_rest.1), in_rest.2)) goes.1,
    )

    way_kept : (places : List Place) → ((q : Place) → Contains places q → LooksSame q) → GoesFromStart d f places → GoesFromStart left other places
    way_kept [] same goes = goes
    way_kept (p ∷ ps) same goes = (
      (ap (out (ends_of left)) from ∙ found (is_node f.from) p.channel goes.0.0, goes.0.1),
      over_kept p ps same goes.1,
    )

  -- ---- causes

  flow_kept : (i : ℕ) (places : List Place) (c e : ℕ) → IsWayKept d left i places → IsFlowCause d i places c e → (j : ℕ) × IsFlowCause left j places c e
  unfolding LooksSame
  flow_kept i places c e kept cause =
      let at = at_Contains (all_flows left) kept.other kept.there in
      let same : kept.flow ≡ cause.flow = same_Some kept.flow cause.flow (sym kept.numbered ∙ cause.numbered) in
      let goes : GoesFromStart d kept.flow places = subst (λ (f : FlowEntry). GoesFromStart d f places) (sym same) cause.goes in (
        at.0,
        record {
          flow = kept.other;
          numbered = at.2;
          goes = way_kept kept.flow kept.other kept.from kept.address places (λ q in_places s p ends lt. kept.looks q s p in_places ends lt) goes;
          ends_on = cause.ends_on;
        },
      )

  cause_kept : (cause : CauseEntry) (c e : ℕ) → IsCauseKept d left cause → IsCause d cause c e → (other : CauseEntry) × IsCause left other c e
  cause_kept (ByTarget t) c e waits shown = (ByTarget t, record { waits = waits; leaves = found (is_node t) e shown.leaves; enters = shown.enters })
  cause_kept (ByFlow i places) c e kept shown = let other = flow_kept i places c e kept shown in (ByFlow other.0 places, other.1)

  -- a cause for each of some
  record Others (causes : List CauseEntry) (channels : List ℕ) (n : ℕ) : Type 0 where
    others : List CauseEntry
    count : length others ≡ length causes
    each : (i : ℕ) (cause : CauseEntry) → slice_get others i ≡ Some cause → IsCause left cause (round channels (n + i)) (round channels (n + i + 1))

  causes_kept : (causes : List CauseEntry) (channels : List ℕ) (n : ℕ) → ((i : ℕ) (cause : CauseEntry) → slice_get causes i ≡ Some cause → IsCauseKept d left cause)
      → ((i : ℕ) (cause : CauseEntry) → slice_get causes i ≡ Some cause → IsCause d cause (round channels (n + i)) (round channels (n + i + 1))) → Others causes channels n
  causes_kept [] channels n kept shown = record { others = []; count = refl; each = λ i cause at. absurd (none-some cause at) }
  causes_kept (cause ∷ causes) channels n kept shown =
      let first = cause_kept cause (round channels (n + 0)) (round channels (n + 0 + 1)) (kept 0 cause refl) (shown 0 cause refl) in
      let moved : (i : ℕ) → n + 1 + i ≡ n + suc i = λ i. omega arith in
      let rest = causes_kept causes channels (n + 1) (λ i it at. kept (suc i) it at)
      (λ i it at. subst (λ (k : ℕ). IsCause d it (round channels k) (round channels (k + 1))) (sym (moved i)) (shown (suc i) it at)) in
      record {
        others = first.0 ∷ rest.others;
        count = ap suc rest.count;
        each = by first.0 first.1 rest.others (λ i it at. subst (λ (k : ℕ). IsCause left it (round channels k) (round channels (k + 1))) (moved i) (rest.each i it at));
      }
    where
      by : (one : CauseEntry) → IsCause left one (round channels (n + 0)) (round channels (n + 0 + 1)) → (more : List CauseEntry)
          → ((i : ℕ) (it : CauseEntry) → slice_get more i ≡ Some it → IsCause left it (round channels (n + suc i)) (round channels (n + suc i + 1)))
          → (i : ℕ) (it : CauseEntry) → slice_get (one ∷ more) i ≡ Some it → IsCause left it (round channels (n + i)) (round channels (n + i + 1))
      by one is more each zero it at = subst (λ (x : CauseEntry). IsCause left x (round channels (n + 0)) (round channels (n + 0 + 1))) (same_Some one it at) is
      by one is more each (suc i) it at = each i it at

pub kept_are_shown : KeptCyclesAreShown
kept_are_shown d left cycle has shown kept =
    let none : (i : ℕ) → 0 + i ≡ i = λ i. omega arith in
    let others = causes_kept d left has cycle.causes cycle.channels 0 (λ i cause at. All-at (IsCauseKept d left) cycle.causes i cause at kept)
    (λ i cause at. subst (λ (k : ℕ). IsCause d cause (round cycle.channels k) (round cycle.channels (k + 1))) (sym (none i)) (shown.caused i cause at)) in (
      others.others,
      record {
        some = shown.some;
        one_each = others.count ∙ shown.one_each;
        caused = λ i cause at. subst (λ (k : ℕ). IsCause left cause (round cycle.channels k) (round cycle.channels (k + 1))) (none i) (others.each i cause at);
      },
    )

-- in a valid network with a shown cycle no numbers rise along the dependencies
pub shown_not_free : (d : Declaration) (cycle : CycleEntry) → IsValid d → IsShown d cycle → RoutedAndFree d → ⊥
shown_not_free d cycle valid shown free =
    let numbers = (rising_is_where_no_cycle_is d valid).0 free.1 in
    rising_has_no_cycle (network_of d) numbers.0 numbers.1 cycle.channels (shown_are_cycles d valid cycle shown)

pub kept_rule_out_free : KeptCyclesRuleOutFree
kept_rule_out_free d left cycle valid has shown kept free =
    let there = kept_are_shown d left cycle has shown kept in
    shown_not_free left (record { channels = cycle.channels; causes = there.0 }) valid there.1 free

-- ---- changes

pub removal_has_channels : (d : Declaration) (changes : List Change) → HasChannels d (changed_by_all d changes)
removal_has_channels d changes = ([], sym (append-nil (ends_of d)))

pub split_has_channels : (d : Declaration) (link : TargetLink) → HasChannels d (split d link)
split_has_channels d link =
    (Node (length d.nodes) ∷ Switch link.switch link.port ∷ [], link_ends-push d.links (own_link (length d.nodes) link))

pub spared_rule_out_frees : SparedCyclesRuleOutFrees
spared_rule_out_frees d (Without change) cycle valid shown kept frees =
    kept_rule_out_free d (changed d change) cycle (changes_keep_valid d change valid) ([], sym (append-nil (ends_of d))) shown kept frees
spared_rule_out_frees d (Split link) cycle valid shown kept frees =
    kept_rule_out_free d (split d link) cycle frees.0 (split_has_channels d link) shown kept frees.1
