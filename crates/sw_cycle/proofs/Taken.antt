-- The flows of the steps of a round, one flow and one step more at a time.
use Rattle.std.proofs.Common.{◌≡◌, ℕ, ◌+◌, ◌<◌, ◌≤◌, Bool, true, false, List, [], ◌∷◌, ◌++◌, length, set, Some, refl, sym, ap, ◌∙◌, subst, inl, inr, arith, get_or-set_same, get_or-set_other, length-set}
use Rattle.std.specs.Prelude.{IsTrue, Vec, slice_get, if◌then◌else◌, ◌↔◌}
use Rattle.std.specs.declared.alloc.Global.{Global}
use Rattle.std.proofs.lemmas.Bool.{cases_eq, false≢true}
use Rattle.std.proofs.lemmas.List.Elements.{Contains-push_cases}
use Rattle.std.proofs.lemmas.Option.{slice_get-get_or, slice_get_within, get_or_from_slice_get}
use Rattle.sw_config.specs.Entries.{FlowEntry, Declaration, all_flows}
use Rattle.sw_flow.specs.declared.place.Place.{Place}
use Rattle.sw_flow.specs.Places.{IsPlaceList}
use Rattle.sw_graph.specs.Reversing.{IsRowSet}
use Rattle.sw_graph.specs.Rows.{row}
use Rattle.sw_graph.proofs.Adding.{nothing_in}
use Rattle.sw_cycle.specs.Causes.{GoesOn}
use Rattle.sw_cycle.specs.Cycles.{round}
use Rattle.sw_cycle.specs.Goers.{AreBelow, AreFlows, AreMarked, Below, IsTakenAt}
use Rattle.sw_cycle.proofs.AllGoing.{first_all, first_kept, first_more, first_none}
use Rattle.sw_cycle.proofs.Stepped.{no_step}

-- ---- marks

pub marked_none : (marks : List Bool) → AreMarked [] marks
marked_none marks = λ p at. nothing_in p at

set_at : (marks : List Bool) (c e : ℕ) → c < length marks → c ≡ e → slice_get (set marks c true) e ≡ Some true
set_at marks c e lt same =
    let size = length-set marks c true in
    let here : slice_get (set marks c true) c ≡ Some true = slice_get-get_or (set marks c true) c false (omega arith) ∙ ap Some (get_or-set_same marks c true false lt) in
    subst (λ (k : ℕ). slice_get (set marks c true) k ≡ Some true) same here

pub marked_more : (places : List Place) (p : Place) (marks : List Bool) → AreMarked places marks → p.channel < length marks → AreMarked (places ++ p ∷ []) (set marks p.channel true)
marked_more places p marks seen lt = λ q at. elim (cases_eq p.channel q.channel) [
  | inl same ↦ set_at marks p.channel q.channel lt same
  | inr other ↦ elim (Contains-push_cases places p q at) [
    | inl old ↦
        let size = length-set marks p.channel true in
        let was = seen q old in
        let within = slice_get_within marks q.channel true was in
        slice_get-get_or (set marks p.channel true) q.channel false (omega arith) ∙ ap Some (get_or-set_other marks p.channel q.channel true false (λ is. other (sym is)) ∙ get_or_from_slice_get marks q.channel true false was)
    | inr new ↦ absurd (other (ap (λ (x : Place). x.channel) new))
  ]
]

-- a flow with no place on a channel does not go on from it
pub unmarked : (d : Declaration) (i : ℕ) (f : FlowEntry) (places : List Place) (marks : List Bool) (c e : ℕ) → slice_get (all_flows d) i ≡ Some f → IsPlaceList d f places → AreMarked places marks → (slice_get marks c ≡ Some true → ⊥) → GoesOn d i c e → ⊥
unmarked d i f places marks c e numbered list marked none goes =
    no_step d i f places numbered list c e (λ p m at is follows. none (subst (λ (k : ℕ). slice_get marks k ≡ Some true) is (marked p at))) goes

-- ---- one flow at one step

module _ (d : Declaration) (n c e : ℕ) (numbers : List ℕ) where
  added : (goes : Bool) → (IsTrue goes ↔ GoesOn d n c e) → Below d n c e numbers → Below d (n + 1) c e (if goes then numbers ++ n ∷ [] else numbers)
  added true is below = first_more (λ i. GoesOn d i c e) n numbers below (is.0 refl)
  added false is below = first_kept (λ i. GoesOn d i c e) n numbers below (λ g. false≢true (is.1 g))

pub taken_at : (d : Declaration) (channels : List ℕ) (n i : ℕ) (goes : Bool) (flows flows2 : List (Vec ℕ Global)) → (IsTrue goes ↔ GoesOn d n (round channels i) (round channels (i + 1)))
    → IsRowSet flows i (if goes then row flows i ++ n ∷ [] else row flows i) flows2 → IsTakenAt d channels n i flows flows2
taken_at d channels n i goes flows flows2 is s = record {
  size = s.size;
  here = λ below. subst (Below d (n + 1) (round channels i) (round channels (i + 1))) (sym s.set) (added d n (round channels i) (round channels (i + 1)) (row flows i) goes is below);
  others = s.others;
}

-- ---- one flow at all steps

-- taken into account at the first k steps
pub record AreTaken (d : Declaration) (channels : List ℕ) (n k : ℕ) (flows : List (Vec ℕ Global)) : Type 0 where
  pub size : length flows ≡ length channels
  pub done : (i : ℕ) → i < length channels → i < k → Below d (n + 1) (round channels i) (round channels (i + 1)) (row flows i)
  pub left : (i : ℕ) → i < length channels → k ≤ i → Below d n (round channels i) (round channels (i + 1)) (row flows i)

module _ (d : Declaration) (channels : List ℕ) (n : ℕ) where
  pub taken_none : (flows : List (Vec ℕ Global)) → AreBelow d channels n flows → AreTaken d channels n 0 flows
  taken_none flows b = record { size = b.size; done = λ i lt low. absurd (omega arith); left = λ i lt le. b.each i lt }

  pub taken_more : (k : ℕ) (flows flows2 : List (Vec ℕ Global)) → k < length channels → AreTaken d channels n k flows → IsTakenAt d channels n k flows flows2 → AreTaken d channels n (k + 1) flows2
  taken_more k flows flows2 inside a t = record {
    size = t.size ∙ a.size;
    done = λ i lt low. elim (cases_eq k i) [
      | inl same ↦ subst (λ (x : ℕ). Below d (n + 1) (round channels x) (round channels (x + 1)) (row flows2 x)) same (t.here (a.left k inside (omega arith)))
      | inr other ↦
          subst (Below d (n + 1) (round channels i) (round channels (i + 1))) (sym (t.others i (λ is. other (sym is)))) (a.done i lt (omega (arith, low, other)))
    ];
    left = λ i lt le. subst (Below d n (round channels i) (round channels (i + 1))) (sym (t.others i (λ is. (omega (arith, is, le))))) (a.left i lt (omega (arith, le)));
  }

  pub taken_all : (k : ℕ) (flows : List (Vec ℕ Global)) → length channels ≤ k → AreTaken d channels n k flows → AreBelow d channels (n + 1) flows
  taken_all k flows all a = record { size = a.size; each = λ i lt. a.done i lt (omega arith) }

-- ---- all flows

pub begun : (d : Declaration) (channels : List ℕ) (flows : List (Vec ℕ Global)) → length flows ≡ length channels → ((i : ℕ) → row flows i ≡ []) → AreBelow d channels 0 flows
begun d channels flows size empty = record { size = size; each = λ i lt. subst (Below d 0 (round channels i) (round channels (i + 1))) (sym (empty i)) (first_none (λ m. GoesOn d m (round channels i) (round channels (i + 1)))) }

pub ended : (d : Declaration) (channels : List ℕ) (n : ℕ) (flows : List (Vec ℕ Global)) → length (all_flows d) ≤ n → AreBelow d channels n flows → AreFlows d channels flows
ended d channels n flows all b = record { size = b.size; each = λ i lt. first_all (λ m. GoesOn d m (round channels i) (round channels (i + 1))) n (row flows i) (λ m goes. (let within = slice_get_within (all_flows d) m goes.2.flow goes.2.numbered in omega arith)) (b.each i lt) }
