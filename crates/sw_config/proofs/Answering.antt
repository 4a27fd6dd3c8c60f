-- The marks of nodes that answer commands, one flow more at a time.
use Rattle.std.proofs.Common.{◌≡◌, ℕ, ◌+◌, ◌<◌, ◌==◌, ◌&&◌, ◌||◌, Bool, true, false, List, length, replicate, set, take, get_or, Some, sym, ap, ◌∙◌, inl, inr, arith, is_some, zero-add, get_or-set_same, get_or-set_other, length-set}
use Rattle.std.specs.Prelude.{slice_get}
use Rattle.std.specs.List.{list_any}
use Rattle.std.proofs.Math.Bool.{or-false}
use Rattle.std.proofs.lemmas.Bool.{cases_eq, eq-eqb, ne_eqb, or_right}
use Rattle.std.proofs.lemmas.List.{ext_get_or, get_or-replicate, length-replicate, take_all}
use Rattle.std.proofs.lemmas.List.Folds.{list_any_more}
use Rattle.std.proofs.lemmas.List.FromFn.{get_or-map-range_with_len, length-map-range_with_len}
use Rattle.std.proofs.lemmas.Option.{get_or_from_slice_get, slice_get_within}
use Rattle.sw_config.specs.Entries.{FlowEntry, Declaration, answering_marks, is_answered_at, is_answering}

-- the marks are those of the first flows
pub record AreMarked (d : Declaration) (count : ℕ) (marks : List Bool) : Type 0 where
  pub size : length marks ≡ length d.nodes
  pub nodes : (t : ℕ) → t < length d.nodes → get_or marks t false ≡ list_any (is_answered_at t) (take count d.flows)

pub none_marked : (d : Declaration) (n : ℕ) (marks : List Bool) → marks ≡ replicate n false → n ≡ length d.nodes → AreMarked d 0 marks
none_marked d n marks blank long = record {
  size = ap length blank ∙ length-replicate n false ∙ long;
  nodes = λ t lt. let within : t < n = omega (arith, lt, long) in ap (λ (l : List Bool). get_or l t false) blank ∙ get_or-replicate n t false false within;
}

module _ (d : Declaration) (n : ℕ) (f : FlowEntry) (at : slice_get d.flows n ≡ Some f) where
  more : (t : ℕ) → list_any (is_answered_at t) (take (n + 1) d.flows) ≡ (list_any (is_answered_at t) (take n d.flows) || is_answered_at t f)
  more t =
      list_any_more (is_answered_at t) d.flows n f (slice_get_within d.flows n f at)
      ∙ ap (λ (g : FlowEntry). list_any (is_answered_at t) (take n d.flows) || is_answered_at t g) (get_or_from_slice_get d.flows n f f at)

  not_more : (t : ℕ) → is_answered_at t f ≡ false → list_any (is_answered_at t) (take (n + 1) d.flows) ≡ list_any (is_answered_at t) (take n d.flows)
  not_more t none = more t ∙ ap (λ (b : Bool). list_any (is_answered_at t) (take n d.flows) || b) none ∙ or-false (list_any (is_answered_at t) (take n d.flows))

  -- it has no replies
  pub none_more : (marks : List Bool) → is_some f.reply ≡ false → AreMarked d n marks → AreMarked d (n + 1) marks
  none_more marks none a = record {
    size = a.size;
    nodes = λ t lt. a.nodes t lt ∙ sym (not_more t (ap (λ (b : Bool). b && f.to == t) none));
  }

  -- it has replies: the node where it goes is marked
  pub one_more : (marks : List Bool) (to : ℕ) → to ≡ f.to → to < length marks → is_some f.reply ≡ true → AreMarked d n marks → AreMarked d (n + 1) (set marks to true)
  one_more marks to is lt some a = record {
    size = length-set marks to true ∙ a.size;
    nodes = λ t within. elim (cases_eq t to) [
      | inl same ↦
          let here : is_answered_at t f ≡ true = ap (λ (b : Bool). b && f.to == t) some ∙ eq-eqb f.to t (sym is ∙ sym same) in
          ap (λ (k : ℕ). get_or (set marks to true) k false) same
          ∙ get_or-set_same marks to true false lt
          ∙ sym (more t ∙ or_right (list_any (is_answered_at t) (take n d.flows)) (is_answered_at t f) here)
      | inr other ↦
          let here : is_answered_at t f ≡ false = ap (λ (b : Bool). b && f.to == t) some ∙ ne_eqb f.to t (λ e. other (sym e ∙ sym is)) in
          get_or-set_other marks to t true false other ∙ a.nodes t within ∙ sym (not_more t here)
    ];
  }

-- with all flows, they are the marks of the network
pub all_marked : (d : Declaration) (n : ℕ) (marks : List Bool) → n ≡ length d.flows → AreMarked d n marks → marks ≡ answering_marks d
all_marked d n marks all a =
    let long = length-map-range_with_len (is_answering d) 0 (length d.nodes) in
    ext_get_or false marks (answering_marks d) (a.size ∙ sym long)
    (λ t lt.
    let within : t < length d.nodes = omega (arith, lt, a.size) in
    a.nodes t within
    ∙ ap (list_any (is_answered_at t)) (take_all n d.flows (omega (arith, all)))
    ∙ sym (get_or-map-range_with_len (is_answering d) 0 (length d.nodes) t t false within (zero-add t)))
