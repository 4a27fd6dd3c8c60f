-- What is told is determined.
use Rattle.std.proofs.Common.{◌≡◌, ◌+◌, ◌*◌, ℕ, Bool, true, false, ◌&&◌, List, [], ◌∷◌, ◌++◌, length, Contains, Option, Some, None, filter, refl, sym, ap, ◌∙◌, subst}
use Rattle.std.specs.Prelude.{◌==◌, ◌||◌, find, flat_map, map, not, option_and_then, option_map, slice_get, if◌then◌else◌}
use Rattle.std.specs.List.{enumerate_from, list_any, range_with_len}
use Rattle.std.specs.Option.{option_to_list}
use Rattle.std.proofs.lemmas.Bool.{false≢true, or_from, or_parts}
use Rattle.sw_topo.specs.Checked.{first_of}
use Rattle.sw_topo.specs.Ports.{ports_of}
use Rattle.sw_config.specs.Entries.{FlowEntry, Declaration, all_flows, routes_of, target_of}
use Rattle.sw_flow.proofs.Listed.{Contains-head}
use Rattle.sw_circles.proofs.Lawful.{circlings_are_determined}
use Rattle.sw_linter.specs.CirclingTexts.{circling_text}
use Rattle.sw_linter.specs.declared.lint.Lint.{Lint}
use Rattle.sw_linter.specs.declared.lint.Lint.TheVariants.{NoFlows, UnusedNode, UnusedSwitch, UnusedTarget, UnusedEntry, OneLinkedPort, LeadsBack, Opposed, TwoInitiators, WrongInitiator, WrongTarget}
use Rattle.sw_linter.specs.FlowPlaces.{FlowPlace}
use Rattle.sw_linter.specs.Lints.{addressed, by_flows, differing, is_stranger, left_byte, of_flow, other_initiator, two_initiators, wrong_at, wrong_initiator, wrong_target, asks_on, back_by, by_entries, by_nodes, by_switches, can_block, doubtful, first_back, first_made, first_opposed, is_group, is_idle_target, is_used_entry, is_used_node, is_used_switch, leads_back, linked, lints_of, one_linked_port, only, opposed, told_of, unused, unused_entries, unused_entry, unused_node, unused_switch, unused_target}
use Rattle.sw_linter.specs.LintTexts.{lint_text}
use Rattle.sw_linter.specs.Notes.{circling_note, lint_note}
use Rattle.sw_linter.specs.Laws.{LintTextsAreDetermined, LintsAreDetermined, NoFlowsIsToldAlone, NotesAreDetermined}
use Rattle.sw_linter.proofs.OneList.{same_all}
use Rattle.sw_linter.proofs.Tests.{any_passes}

pub lints_determined : LintsAreDetermined
lints_determined d told other a b = a.told ∙ ap (lints_of d) (same_all d (all_flows d) a.all b.all a.places b.places) ∙ sym b.told

pub texts_determined : LintTextsAreDetermined
texts_determined d told other a b =
    a.worded
    ∙ ap (λ circlings. map (circling_text d) circlings ++ map (lint_text d) a.lints) (circlings_are_determined d a.circlings b.circlings a.circling b.circling)
    ∙ ap (λ lints. map (circling_text d) b.circlings ++ map (lint_text d) lints) (lints_determined d a.lints b.lints a.told b.told)
    ∙ sym b.worded

pub notes_determined : NotesAreDetermined
notes_determined d told other a b =
    a.worded
    ∙ ap (λ circlings. map (circling_note d) circlings ++ map (lint_note d) a.lints) (circlings_are_determined d a.circlings b.circlings a.circling b.circling)
    ∙ ap (λ lints. map (circling_note d) b.circlings ++ map (lint_note d) lints) (lints_determined d a.lints b.lints a.told b.told)
    ∙ sym b.worded

-- ---- that there are no flows is told alone

abbrev is_no_flows : Lint → Bool
is_no_flows NoFlows = true
is_no_flows _ = false

-- that is not among it
abbrev IsQuiet : List Lint → Type 0
IsQuiet lints = list_any is_no_flows lints ≡ false

quiet_append : (xs ys : List Lint) → IsQuiet xs → IsQuiet ys → IsQuiet (xs ++ ys)
quiet_append [] ys p q = q
quiet_append (x ∷ xs) ys p q = let both = or_parts (is_no_flows x) (list_any is_no_flows xs) p in or_from (is_no_flows x) (list_any is_no_flows (xs ++ ys)) both.0 (quiet_append xs ys both.1 q)

quiet_all : {A : Type 0} (make : A → List Lint) (xs : List A) → ((x : A) → IsQuiet (make x)) → IsQuiet (flat_map make xs)
quiet_all make [] each = refl
quiet_all make (x ∷ xs) each = quiet_append (make x) (flat_map make xs) (each x) (quiet_all make xs each)

quiet_if : (b : Bool) (xs ys : List Lint) → IsQuiet xs → IsQuiet ys → IsQuiet (if b then xs else ys)
quiet_if true xs ys p q = p
quiet_if false xs ys p q = q

quiet_first : {A : Type 0} (make : A → Option Lint) (xs : List A) → ((x : A) → IsQuiet (option_to_list (make x))) → IsQuiet (option_to_list (first_made make xs))
quiet_first make [] each = refl
quiet_first make (x ∷ xs) each = by (make x) (each x) (quiet_first make xs each)
  where
    by : (o : Option Lint) → IsQuiet (option_to_list o) → IsQuiet (option_to_list (first_made make xs)) → IsQuiet (option_to_list (first_of o (first_made make xs)))
    by None p q = q
    by (Some y) p q = p

quiet_mapped : {A : Type 0} (make : A → Lint) (o : Option A) → ((x : A) → is_no_flows (make x) ≡ false) → IsQuiet (option_to_list (option_map make o))
quiet_mapped make None each = refl
quiet_mapped make (Some x) each = or_from (is_no_flows (make x)) false (each x) refl

quiet_joined : {A : Type 0} (make : A → Option Lint) (o : Option A) → ((x : A) → IsQuiet (option_to_list (make x))) → IsQuiet (option_to_list (option_and_then make o))
quiet_joined make None each = refl
quiet_joined make (Some x) each = each x

quiet_unless : (b : Bool) (lint : Lint) → is_no_flows lint ≡ false → IsQuiet (option_to_list (if b then None else Some lint))
quiet_unless true lint is = refl
quiet_unless false lint is = or_from (is_no_flows lint) false is refl

quiet_flows : (d : Declaration) (make : Declaration → ℕ → FlowEntry → Option Lint) → ((i : ℕ) (f : FlowEntry) → IsQuiet (option_to_list (make d i f))) → IsQuiet (by_flows d make)
quiet_flows d make each = quiet_all (of_flow d make) (range_with_len 0 (length d.flows)) (λ i. quiet_joined (make d i) (slice_get d.flows i) (each i))

quiet_addressed : (d : Declaration) → IsQuiet (addressed d)
quiet_addressed d =
    quiet_append (by_flows d wrong_target) _ (quiet_flows d wrong_target (λ i f. quiet_joined (λ address. option_and_then (λ target. wrong_at i address target.logical) (target_of d.nodes f.to)) (left_byte f) (λ address. quiet_joined (λ target. wrong_at i address target.logical) (target_of d.nodes f.to) (λ target. quiet_unless (address == target.logical) (WrongTarget i address target.logical) refl))))
    (quiet_append (by_flows d wrong_initiator) _ (quiet_flows d wrong_initiator (λ i f. quiet_joined (λ r. if r.initiator == 254 || not (is_stranger d f.from r.initiator) then None else Some (WrongInitiator i r.initiator)) f.reply (λ r. quiet_unless (r.initiator == 254 || not (is_stranger d f.from r.initiator)) (WrongInitiator i r.initiator) refl)))
    (quiet_flows d two_initiators (λ i f. quiet_joined (λ r. first_made (differing d i f r.initiator) (range_with_len 0 i)) f.reply (λ r. quiet_first (differing d i f r.initiator) (range_with_len 0 i) (λ j. quiet_mapped (λ one. TwoInitiators j i one r.initiator) (option_and_then (other_initiator f r.initiator) (slice_get d.flows j)) (λ one. refl))))))

quiet_slips : (d : Declaration) (all : List FlowPlace) → IsQuiet (unused d all ++ doubtful d all)
quiet_slips d all =
    quiet_append (unused d all) (doubtful d all)
    (quiet_append (by_nodes d (unused_node d)) _ (quiet_all (unused_node d) (range_with_len 0 (length d.nodes)) (λ n. quiet_if (is_used_node d n) [] (UnusedNode n ∷ []) refl refl))
    (quiet_append (by_switches d (unused_switch d all)) _ (quiet_all (unused_switch d all) (range_with_len 0 (length d.switches)) (λ s. quiet_if (is_used_switch d all s) [] (UnusedSwitch s ∷ []) refl refl))
    (quiet_append (by_nodes d (unused_target d)) _ (quiet_all (unused_target d) (range_with_len 0 (length d.nodes)) (λ n. quiet_if (is_idle_target d n) (UnusedTarget n ∷ []) [] refl refl))
    (quiet_all (unused_entries d all) (range_with_len 0 (length d.switches)) (λ s. quiet_if (is_used_switch d all s) (by_entries d (unused_entry d all s) s) []
    (quiet_all (λ e. unused_entry d all s e.0 e.1) (enumerate_from 0 (routes_of d.switches s)) (λ e. quiet_if (is_used_entry d all s e.1) [] (UnusedEntry s e.0 ∷ []) refl refl)) refl)))))
    (quiet_append (by_switches d (λ s. by_entries d (one_linked_port d s) s)) _ (quiet_all (λ s. by_entries d (one_linked_port d s) s) (range_with_len 0 (length d.switches)) (λ s.
    quiet_all (λ e. one_linked_port d s e.0 e.1) (enumerate_from 0 (routes_of d.switches s)) (λ e. quiet_if (is_group (ports_of e.1.ports)) (option_to_list (option_map (λ p. OneLinkedPort s e.0 p) (only (linked d s e.1)))) []
    (quiet_mapped (λ p. OneLinkedPort s e.0 p) (only (linked d s e.1)) (λ p. refl)) refl)))
    (quiet_append (by_switches d (λ s. by_entries d (leads_back d all s) s)) _ (quiet_all (λ s. by_entries d (leads_back d all s) s) (range_with_len 0 (length d.switches)) (λ s.
    quiet_all (λ e. leads_back d all s e.0 e.1) (enumerate_from 0 (routes_of d.switches s)) (λ e. quiet_if (is_group (linked d s e.1)) (option_to_list (first_back d all s e.0 e.1)) []
    (quiet_first (λ port. option_map (λ flow. LeadsBack s e.0 port flow) (back_by d all s e.1 port)) (ports_of e.1.ports) (λ port. quiet_mapped (λ flow. LeadsBack s e.0 port flow) (back_by d all s e.1 port) (λ flow. refl))) refl)))
    (quiet_all (opposed d all) (range_with_len 0 (length d.links)) (λ link.
    quiet_first (first_opposed d all link (2 * link + 1)) (filter (asks_on (2 * link)) all) (λ v.
    quiet_mapped (λ w. Opposed link v.number w.number) (find (λ w. asks_on (2 * link + 1) w && can_block d v w) all) (λ w. refl))))))

quiet_kinds : (d : Declaration) (all : List FlowPlace) → IsQuiet ((unused d all ++ doubtful d all) ++ addressed d)
quiet_kinds d all = quiet_append (unused d all ++ doubtful d all) (addressed d) (quiet_slips d all) (quiet_addressed d)

pub alone : NoFlowsIsToldAlone
alone d told a = record { exactly = (to d.flows refl a.told, λ none. subst (λ (l : List Lint). Contains l NoFlows) (sym (only_that none)) (Contains-head NoFlows [])); alone = only_that }
  where
    only_that : d.flows ≡ [] → told ≡ NoFlows ∷ []
    only_that none = a.told ∙ ap (told_of d a.all) none

    to : (flows : List FlowEntry) → d.flows ≡ flows → told ≡ told_of d a.all flows → Contains told NoFlows → d.flows ≡ []
    to [] is e h = is
    to (f ∷ fs) is e h = absurd (false≢true (sym (ap (list_any is_no_flows) e ∙ quiet_kinds d a.all) ∙ any_passes is_no_flows told NoFlows h refl))
