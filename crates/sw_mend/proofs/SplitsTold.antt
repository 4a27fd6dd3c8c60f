-- What holds of the flows where a split is told.
use Rattle.std.proofs.Common.{◌≡◌, ◌⊎◌, ℕ, zero, suc, ◌+◌, ◌<◌, ◌≤◌, List, [], ◌∷◌, ◌++◌, length, map, Contains, Some, ap, arith, inl, inr, refl, subst, sym, ◌∙◌}
use Rattle.std.specs.Prelude.{slice_get}
use Rattle.std.proofs.lemmas.Bool.{cases_eq}
use Rattle.std.proofs.lemmas.List.Elements.{Contains-append_cases}
use Rattle.std.proofs.lemmas.Option.{slice_get_cases, slice_get_within}
use Rattle.sw_topo.specs.Wiring.{partner}
use Rattle.sw_config.specs.Entries.{FlowEntry, Declaration, all_flows}
use Rattle.sw_config.specs.Valid.{IsValid}
use Rattle.sw_config.proofs.Flows.{All-at}
use Rattle.sw_flow.specs.Places.{Follows, IsPlace, end_of, ends_of}
use Rattle.sw_flow.specs.Places.IsPlace.{start, next}
use Rattle.sw_flow.specs.Faults.{IsWellRouted}
use Rattle.sw_flow.proofs.Faulty.{faultless_go_on}
use Rattle.sw_flow.proofs.Listed.{Contains-from_map}
use Rattle.sw_flow.proofs.Partners.{partner_within}
use Rattle.sw_flow.proofs.Stepping.{places_are_in}
use Rattle.sw_machine.specs.Model.{network_of}
use Rattle.sw_machine.specs.Places.IsDependency.{ByFlow}
use Rattle.sw_machine.proofs.Steps.{steps_agree}
use Rattle.sw_search.specs.Laws.{RoutedAndFree}
use Rattle.sw_search.proofs.Exactly.{rising_is_where_no_cycle_is}
use Rattle.sw_mend.specs.Changes.{parts_away}
use Rattle.sw_mend.specs.Mends.{Frees, single_changes}
use Rattle.sw_mend.specs.Splits.{split, splits}
use Rattle.sw_mend.specs.SplitLaws.{CanArrive, IsDelivered, SplitMendsInWords, from_own_node, own_node, to_own_node}
use Rattle.sw_mend.specs.SplitLaws.CanArrive.{there, goes}
use Rattle.sw_mend.specs.declared.change.Change.{Change}
use Rattle.sw_mend.specs.declared.change.TargetLink.{TargetLink}
use Rattle.sw_mend.specs.declared.change.Trial.{Trial}
use Rattle.sw_mend.specs.declared.change.Trial.TheVariants.{Without, Split}
use Rattle.sw_mend.proofs.Determined.{mends_are_those_that_free}
use Rattle.sw_mend.proofs.SplitArrivals.{delivered_come_by_port}
use Rattle.sw_mend.proofs.SplitFlows.{declared_at, splits_keep_other_flows, splits_move_commands, splits_move_replies}

-- ---- in a free network flows arrive

-- some number is as great as these
bound : (s : ℕ → ℕ) (n : ℕ) → (b : ℕ) × ((c : ℕ) → c < n → s c ≤ b)
bound s zero = (0, λ c lt. absurd (omega (arith, lt)))
bound s (suc n) =
    let rest = bound s n in (
      rest.0 + s n,
      λ c lt. elim (cases_eq c n) [
        | inl last ↦ let same : s c ≡ s n = ap s last in omega (arith, same)
        | inr other ↦ let below = rest.1 c (omega (arith, lt, other)) in omega (arith, below)
      ],
    )

module _ (d : Declaration) (f : FlowEntry) (routed : IsWellRouted d f) (number : ℕ → ℕ) (most : ℕ) (few : (c : ℕ) → c < length (ends_of d) → number c ≤ most)
    (rises : (c k e m : ℕ) → IsPlace d f c k → Follows d f c k e m → number c < number e) where
  arrive : (fuel c k : ℕ) → IsPlace d f c k → most < number c + fuel → CanArrive d f c k
  arrive zero c k place more = let within = few c (places_are_in d f c k place).0 in absurd (omega (arith, within, more))
  arrive (suc fuel) c k place more =
      elim (slice_get_cases (ends_of d) (partner c)).1 [
        | inl end ↦
            elim (faultless_go_on d f c k end.0 end.2 (routed c k place)) [
              | inl on ↦ let up = rises c k on.0 on.1 place on.2 in goes on.2 (arrive fuel on.0 on.1 (next place on.2) (omega (arith, up, more)))
              | inr ended ↦ there (end.2 ∙ ap Some ended.0)
            ]
        | inr past ↦ let within = partner_within d c (places_are_in d f c k place).0 in absurd (omega (arith, within, past.0))
      ]

free_delivered : (d : Declaration) (i : ℕ) (f : FlowEntry) → IsValid d → RoutedAndFree d → slice_get (all_flows d) i ≡ Some f → IsDelivered d f
unfolding network_of
free_delivered d i f valid free at =
    let rising = (rising_is_where_no_cycle_is d valid).0 free.1 in
    let routed = All-at (IsWellRouted d) (all_flows d) i f at free.0 in
    let top = bound rising.0 (length (ends_of d)) in
    let same = steps_agree d valid i f at in
    let within : i < length (all_flows d) = slice_get_within (all_flows d) i f at in
    record {
      routed = routed;
      arrives = λ c k place. arrive d f routed rising.0 top.0 top.1
          (λ c k e m place step. rising.1 c e (ByFlow i c k e m within ((same.place c k).1 place) ((same.step c k e m).1 step)))
          (suc top.0) c k place (omega arith);
    }

-- ---- splits among the changes

same_link : (link other : TargetLink) → Split link ≡ Split other → link ≡ other
same_link link other e = cc

not_without : (change : Change) (link : TargetLink) → Without change ≡ Split link → ⊥
not_without change link e = cc

listed : (d : Declaration) (link : TargetLink) → Contains (single_changes d) (Split link) → Contains (splits d) link
listed d link here =
    elim (Contains-append_cases (map Without (parts_away d)) (map Split (splits d)) (Split link) here) [
      | inl taken ↦ let it = Contains-from_map Without (parts_away d) (Split link) taken in absurd (not_without it.0 link it.2)
      | inr split_there ↦ let it = Contains-from_map Split (splits d) (Split link) split_there in subst (Contains (splits d)) (same_link it.0 link it.2) it.1
    ]

pub split_mends_in_words : SplitMendsInWords
split_mends_in_words d told link valid mends here =
    let both = (mends_are_those_that_free d told (Split link) mends).0 here in
    let tried = listed d link both.0 in
    let left : Declaration = split d link in
    let left_valid : IsValid left = (both.1).0 in
    let free : RoutedAndFree left = (both.1).1 in
    record {
      others = λ number f at other.
          let k = splits_keep_other_flows d link valid tried number f at other in
          (k.entry, k.same (All-at (IsWellRouted left) (all_flows left) number f k.entry free.0));
      commands = λ number f at answered delivered.
          let entry = declared_at d link number f at in
          let last = delivered_come_by_port d link valid tried number f _ at answered delivered entry (free_delivered left number _ left_valid free entry) in
          let moved = splits_move_commands d link valid tried number f last.0 at answered last.1 in
          (last.0, last.1, moved.0, moved.1 (All-at (IsWellRouted left) (all_flows left) number (to_own_node d link f last.0) moved.0 free.0));
      replies = λ number f past at from.
          let moved = splits_move_replies d link valid tried number f past at from in
          (moved.0, moved.1 (All-at (IsWellRouted left) (all_flows left) number (from_own_node d f) moved.0 free.0));
    }
