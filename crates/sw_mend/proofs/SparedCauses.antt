-- Changes each of which touches nothing that a cycle uses leave the causes of the cycle.
use Rattle.std.proofs.Common.{◌≡◌, ◌∙◌, ◌⊎◌, ℕ, zero, suc, ◌+◌, ◌<◌, All, Bool, true, false, cond, List, [], ◌∷◌, ◌++◌, None, Some, ap, arith, fold, get_or, inl, inr, length, refl, subst, sym}
use Rattle.std.specs.Prelude.{Contains, find, if◌then◌else◌, nat_lt, slice_get, slice_index}
use Rattle.std.proofs.lemmas.Bool.{cases_Bool}
use Rattle.std.proofs.lemmas.List.Elements.{All-cons, All-contains, All-nil, Contains-append_left, Contains-append_right}
use Rattle.std.proofs.lemmas.List.Folds.{list_any_none}
use Rattle.std.proofs.lemmas.Option.{same_Some, slice_get-get_or}
use Rattle.sw_topo.proofs.Lists.{in_front}
use Rattle.sw_topo.specs.declared.place.PlaceEnd.TheVariants.{Switch}
use Rattle.sw_route.specs.declared.look.Route.{Route}
use Rattle.sw_route.specs.Looks.{covers, no_look, path_look, route_look}
use Rattle.sw_config.specs.Entries.{Declaration, FlowEntry, ReplyEntry, SwitchEntry, all_flows, look_at, reply_flow, reply_flows, routes_of}
use Rattle.sw_config.specs.Laws.{replies_before}
use Rattle.sw_config.specs.Valid.{IsValid}
use Rattle.sw_config.proofs.FlowLaws.{follow_in_order}
use Rattle.sw_config.proofs.Flows.{slice_get-append_right}
use Rattle.sw_mend.proofs.Members.{Contains-at, at_Contains}
use Rattle.sw_flow.specs.declared.place.Place.{Place}
use Rattle.sw_flow.specs.Places.{end_of}
use Rattle.sw_cycle.specs.Cycles.{ByFlow, ByTarget, CauseEntry, IsCause, round}
use Rattle.sw_search.specs.Laws.{RoutedAndFree}
use Rattle.sw_mend.specs.Changes.{by_number, changed, changed_by_all, flow_after_all, loses_entry, loses_flow, loses_reply, ports_after, route_after_all, switch_after_all}
use Rattle.sw_mend.specs.KeptCycles.{IsCauseKept, IsWayKept}
use Rattle.sw_mend.specs.Spared.{AreOfACycle, AreOfCycles, BothSpareOne, IsByteUsed, IsCauseUsed, IsReplyOf, IsSpared, IsTargetUsed, IsWayUsed, SparesOne, is_used}
use Rattle.sw_mend.specs.declared.change.Change.{Change}
use Rattle.sw_mend.specs.declared.uses.Uses.{Uses}
use Rattle.sw_mend.proofs.AfterAll.{entry_lost, flow_left, flow_lost, flow_stays, one_alone, reply_lost, route_left, route_stays}
use Rattle.sw_mend.proofs.Kept.{all_keep_valid}
use Rattle.sw_mend.proofs.KeptWays.{kept_rule_out_free, removal_has_channels}
use Rattle.sw_mend.proofs.SameTargets.{at_node_stay, unlimited_waits, waits_same}

-- ---- lists by numbers

module _ {A B : Type 0} (make : ℕ → A → List B) where
  pub made_in : (k n : ℕ) (xs : List A) (x : A) (y : B) → slice_get xs n ≡ Some x → make (k + n) x ≡ y ∷ [] → Contains (by_number make k xs) y
  made_in k n [] x y at is = absurd cc
  made_in k zero (z ∷ xs) x y at is =
      let first : k ≡ k + 0 = omega arith in
      let here : make k z ≡ y ∷ [] = ap (make k) (same_Some z x at) ∙ ap (λ j. make j x) first ∙ is in
      Contains-append_left (make k z) (by_number make (k + 1) xs) y (subst (λ (l : List B). Contains l y) (sym here) (0, omega arith, refl))
  made_in k (suc n) (z ∷ xs) x y at is =
      let moved : k + 1 + n ≡ k + suc n = omega arith in
      Contains-append_right (make k z) (by_number make (k + 1) xs) y (made_in (k + 1) n xs x y at (ap (λ j. make j x) moved ∙ is))

-- a reply flow of a flow that is there
pub reply_in : (d : Declaration) (f : FlowEntry) (r : ReplyEntry) → Contains d.flows f → f.reply ≡ Some r → Contains (all_flows d) (reply_flow f r)
reply_in d f r there has =
    let at = at_Contains d.flows f there in
    Contains-at (all_flows d) (length d.flows + replies_before d.flows at.0) (reply_flow f r) (follow_in_order d at.0 f r at.2 has)

module _ (d : Declaration) (changes : List Change) (uses : Uses) (spared : All (λ change. IsSpared d change uses) changes) where
  abbrev left : Declaration
  left = changed_by_all d changes

  -- ---- flows

  not_lost : (n : ℕ) (f : FlowEntry) → Contains uses.flows.items n → slice_get d.flows n ≡ Some f → flow_lost changes n f ≡ false
  not_lost n f listed at = list_any_none (λ change. loses_flow change n f) changes (λ k c lt. (spared k c lt).flows n f listed at)

  answered_stays : (n : ℕ) (f : FlowEntry) → Contains uses.answered.items n → slice_get d.flows n ≡ Some f → flow_after_all changes n f ≡ f ∷ []
  answered_stays n f listed at =
      let kept : flow_lost changes n f ≡ false = list_any_none (λ change. loses_flow change n f) changes (λ k c lt. (spared k c lt).answered n f listed at) in
      let replied : reply_lost changes n f ≡ false = list_any_none (λ change. loses_reply change n f) changes (λ k c lt. (spared k c lt).replies n f listed at) in
      flow_left changes n f ∙ (λ t. if kept t then [] else record f { reply = if replied t then None else f.reply } ∷ [])

  flow_there : (n : ℕ) (f : FlowEntry) → Contains uses.flows.items n → slice_get d.flows n ≡ Some f → Contains left.flows (flow_stays changes n f)
  flow_there n f listed at =
      let first : 0 + n ≡ n = omega arith in
      made_in (flow_after_all changes) 0 n d.flows f (flow_stays changes n f) at
      (ap (λ k. flow_after_all changes k f) first ∙ flow_left changes n f ∙ ap (λ b. if b then [] else flow_stays changes n f ∷ []) (not_lost n f listed at))

  answered_there : (n : ℕ) (f : FlowEntry) → Contains uses.answered.items n → slice_get d.flows n ≡ Some f → Contains left.flows f
  answered_there n f listed at =
      let first : 0 + n ≡ n = omega arith in
      made_in (flow_after_all changes) 0 n d.flows f f at (ap (λ k. flow_after_all changes k f) first ∙ answered_stays n f listed at)

  -- ---- looks

  entry_stays : (switch entry byte : ℕ) (r : Route) → slice_get (routes_of d.switches switch) entry ≡ Some r → covers byte r ≡ true → is_used uses.bytes.items switch byte ≡ true
      → route_after_all changes switch entry r ≡ r ∷ []
  entry_stays switch entry byte r at covered used =
      let kept : entry_lost changes switch entry ≡ false =
      list_any_none (λ change. loses_entry change switch entry) changes (λ k c lt. ((spared k c lt).looks switch entry byte r at covered used).0) in
      let ports = folded switch entry changes (λ k c lt. ((spared k c lt).looks switch entry byte r at covered used).1) r.ports in
      route_left changes switch entry r ∙ (λ t. if kept t then [] else record r { ports = ports t } ∷ [])
    where
      folded : (switch entry : ℕ) (cs : List Change) → All (λ change. (set : ℕ) → ports_after change switch entry set ≡ set) cs → (set : ℕ)
          → fold (λ ports change. ports_after change switch entry ports) set cs ≡ set
      folded switch entry [] all set = refl
      folded switch entry (c ∷ cs) all set =
          ap (λ ports. fold (λ ports change. ports_after change switch entry ports) ports cs) (all 0 c (omega arith) set)
          ∙ folded switch entry cs (λ k x lt. all (suc k) x (omega (arith, lt))) set

  module _ (switch byte : ℕ) where
    passed : (lost : Bool) (r : Route) (more : List Route) → covers byte r ≡ false → find (covers byte) ((if lost then [] else r ∷ []) ++ more) ≡ find (covers byte) more
    passed true r more other = refl
    passed false r more other = ap (λ b. cond b (Some r) (find (covers byte) more)) other

    found_same : (k : ℕ) (routes : List Route)
        → ((e : ℕ) (r : Route) → slice_get routes e ≡ Some r → covers byte r ≡ true → route_after_all changes switch (k + e) r ≡ r ∷ [])
        → find (covers byte) (by_number (route_after_all changes switch) k routes) ≡ find (covers byte) routes
    found_same k [] each = refl
    found_same k (r ∷ routes) each =
        let first : k ≡ k + 0 = omega arith in
        let moved : (e : ℕ) → k + 1 + e ≡ k + suc e = λ e. omega arith in
        let rest = found_same (k + 1) routes (λ e s at here. ap (λ j. route_after_all changes switch j s) (moved e) ∙ each (suc e) s at here) in
        elim (cases_Bool (covers byte r)) [
          | inl here ↦
              ap (λ l. find (covers byte) (l ++ by_number (route_after_all changes switch) (k + 1) routes))
              (ap (λ j. route_after_all changes switch j r) first ∙ each 0 r refl here)
              ∙ ap (λ o. cond (covers byte r) (Some r) o) rest
          | inr other ↦
              ap (λ l. find (covers byte) (l ++ by_number (route_after_all changes switch) (k + 1) routes)) (route_left changes switch k r)
              ∙ passed (entry_lost changes switch k) (route_stays changes switch k r) (by_number (route_after_all changes switch) (k + 1) routes) other
              ∙ rest ∙ ap (λ b. cond b (Some r) (find (covers byte) routes)) (sym other)
        ]

  -- the table of a switch
  table_left : (n k : ℕ) (switches : List SwitchEntry) → routes_of (by_number (switch_after_all changes) k switches) n ≡ by_number (route_after_all changes (k + n)) 0 (routes_of switches n)
  table_left n k [] = refl
  table_left zero k (s ∷ switches) = let first : k ≡ k + 0 = omega arith in ap (λ j. by_number (route_after_all changes j) 0 s.routes) first
  table_left (suc n) k (s ∷ switches) =
      let moved : k + 1 + n ≡ k + suc n = omega arith in
      table_left n (k + 1) switches ∙ ap (λ j. by_number (route_after_all changes j) 0 (routes_of switches n)) moved

  look_same : (switch byte : ℕ) → is_used uses.bytes.items switch byte ≡ true → look_at left.switches switch byte ≡ look_at d.switches switch byte
  look_same switch byte used =
      let first : 0 + switch ≡ switch = omega arith in
      let entries : (e : ℕ) → 0 + e ≡ e = λ e. omega arith in
      let table : routes_of left.switches switch ≡ by_number (route_after_all changes switch) 0 (routes_of d.switches switch) =
      table_left switch 0 d.switches ∙ ap (λ j. by_number (route_after_all changes j) 0 (routes_of d.switches switch)) first in
      let found : find (covers byte) (routes_of left.switches switch) ≡ find (covers byte) (routes_of d.switches switch) =
      ap (find (covers byte)) table
      ∙ found_same switch byte 0 (routes_of d.switches switch)
      (λ e r at here. ap (λ j. route_after_all changes switch j r) (entries e) ∙ entry_stays switch e byte r at here used) in
      ap (λ o. if nat_lt byte 32 then path_look byte else if nat_lt byte 255 then route_look o else no_look) found

  -- ---- causes

  way_left : (i : ℕ) (places : List Place) (f : FlowEntry) → slice_get (all_flows d) i ≡ Some f → IsWayUsed d uses i places f → IsWayKept d left i places
  way_left i places f numbered used = by used.flow
    where
      looks : (place : Place) (s p : ℕ) → Contains places place → end_of d place.channel ≡ Some (Switch s p) → place.deleted < length f.address
          → look_at left.switches s (slice_index f.address place.deleted) ≡ look_at d.switches s (slice_index f.address place.deleted)
      looks place s p in_places ends lt =
          look_same s (slice_index f.address place.deleted) (All-contains (IsByteUsed d f uses.bytes.items) places place used.bytes in_places s p ends lt)

      by : ((i < length d.flows) × Contains uses.flows.items i)
          ⊎ ((reply : ℕ) × (number : ℕ) × (i ≡ length d.flows + reply) × IsReplyOf d reply number × Contains uses.answered.items number)
          → IsWayKept d left i places
      by (inl declared) = record {
        flow = f;
        numbered = numbered;
        other = flow_stays changes i f;
        there = Contains-append_left left.flows (reply_flows left.flows) (flow_stays changes i f)
            (flow_there i f declared.1 (in_front d.flows (reply_flows d.flows) i f declared.0 numbered));
        from = refl;
        address = refl;
        looks = looks;
      }
      by (inr (reply, number, past, of, listed)) =
          let same : reply_flow of.flow of.entry ≡ f =
          same_Some (reply_flow of.flow of.entry) f
          (sym of.there ∙ sym (slice_get-append_right d.flows (reply_flows d.flows) reply) ∙ ap (slice_get (all_flows d)) (sym past) ∙ numbered) in
          record {
            flow = f;
            numbered = numbered;
            other = f;
            there = subst (λ (g : FlowEntry). Contains (all_flows left) g) same
                (reply_in left of.flow of.entry (answered_there number of.flow listed of.declared) of.replies);
            from = refl;
            address = refl;
            looks = looks;
          }

  target_left : IsValid d → (t c e : ℕ) → IsTargetUsed d t uses → IsCause d (ByTarget t) c e → IsCauseKept d left (ByTarget t)
  target_left valid t c e (inl one) shown =
      let command = one.1 in
      let at = at_Contains left.flows command.flow (answered_there one.0 command.flow one.2 command.declared) in
      unlimited_waits left t at.0 command.flow (all_keep_valid d changes valid) at.2 command.answered command.unlimited
  target_left valid t c e (inr (limits, all)) shown =
      let entries : (i : ℕ) → 0 + i ≡ i = λ i. omega arith in
      waits_same t d left refl
      (at_node_stay t changes 0 d.flows (λ i f at here. ap (λ j. flow_after_all changes j f) (entries i) ∙ answered_stays i f (all i f at here) at))
      ∙ shown.waits

  pub cause_left : IsValid d → (cause : CauseEntry) (c e : ℕ) → IsCauseUsed d uses cause → IsCause d cause c e → IsCauseKept d left cause
  cause_left valid (ByTarget t) c e used shown = target_left valid t c e used shown
  cause_left valid (ByFlow i places) c e used shown = way_left i places shown.flow shown.numbered (used shown.flow shown.numbered)

-- changes that touch nothing that a cycle uses leave no free network
pub spared_not_free : (d : Declaration) (changes : List Change) (uses : Uses) → IsValid d → AreOfACycle d uses → All (λ change. IsSpared d change uses) changes
    → RoutedAndFree (changed_by_all d changes) → ⊥
spared_not_free d changes uses valid (cycle, shown, used) spared free =
    let kept : All (IsCauseKept d (changed_by_all d changes)) cycle.causes =
    λ k x lt. cause_left d changes uses spared valid (get_or cycle.causes k x) (round cycle.channels k) (round cycle.channels (k + 1)) (used k x lt)
    (shown.caused k (get_or cycle.causes k x) (slice_get-get_or cycle.causes k x lt)) in
    kept_rule_out_free d (changed_by_all d changes) cycle (all_keep_valid d changes valid) (removal_has_channels d changes) shown kept free

-- one of the cycles is spared
pub one_not_free : (d : Declaration) (changes : List Change) (cycles : List Uses) (uses : Uses) → IsValid d → AreOfCycles d cycles → Contains cycles uses
    → All (λ change. IsSpared d change uses) changes → RoutedAndFree (changed_by_all d changes) → ⊥
one_not_free d changes cycles uses valid known there spared =
    spared_not_free d changes uses valid (All-contains (AreOfACycle d) cycles uses known there) spared

pub change_not_free : (d : Declaration) (change : Change) (cycles : List Uses) → IsValid d → AreOfCycles d cycles → SparesOne d change cycles → RoutedAndFree (changed d change) → ⊥
change_not_free d change cycles valid known one free =
    one_not_free d (change ∷ []) cycles one.0 valid known one.1 (All-cons (λ c. IsSpared d c one.0) change [] one.2 (All-nil (λ c. IsSpared d c one.0)))
    (subst RoutedAndFree (sym (one_alone d change)) free)

pub both_not_free : (d : Declaration) (first second : Change) (cycles : List Uses) → IsValid d → AreOfCycles d cycles → BothSpareOne d first second cycles
    → RoutedAndFree (changed_by_all d (first ∷ second ∷ [])) → ⊥
both_not_free d first second cycles valid known one =
    let spared : All (λ c. IsSpared d c one.0) (first ∷ second ∷ []) =
    All-cons (λ c. IsSpared d c one.0) first (second ∷ []) one.2 (All-cons (λ c. IsSpared d c one.0) second [] one.3 (All-nil (λ c. IsSpared d c one.0))) in
    one_not_free d (first ∷ second ∷ []) cycles one.0 valid known one.1 spared
