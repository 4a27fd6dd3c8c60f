-- A node that answers commands: a flow with replies ends there, and its mark is set.
use Rattle.std.proofs.Common.{◌≡◌, ℕ, ◌+◌, ◌-◌, ◌<◌, ◌==◌, true, false, length, get_or, Some, is_some, refl, sym, subst, ap, ◌∙◌, inl, inr, arith, zero-add}
use Rattle.std.specs.Prelude.{slice_get}
use Rattle.std.proofs.lemmas.Bool.{and_from, and_parts, cases_lt, eq-eqb, eqb-true, false≢true}
use Rattle.std.proofs.lemmas.List.{get_or_past}
use Rattle.std.proofs.lemmas.List.Folds.{Any-from_list_any}
use Rattle.std.proofs.lemmas.List.FromFn.{get_or-map-range_with_len, length-map-range_with_len}
use Rattle.std.proofs.lemmas.Map.Keys.{any_passes_from_place}
use Rattle.std.proofs.lemmas.Option.{slice_get_read}
use Rattle.sw_config.specs.Entries.{FlowEntry, Declaration, all_flows, answering_marks, is_answered_at, is_answering, reply_flows}
use Rattle.sw_config.specs.Valid.{IsFlow, IsValid}
use Rattle.sw_config.proofs.Flows.{All-at}
use Rattle.sw_config.proofs.FlowLaws.{are_replies, valid_flows}
use Rattle.sw_config.proofs.Lists.{at_front, in_front}

-- a flow of the network with replies that ends at node t
pub record AnsweredFlow (d : Declaration) (t : ℕ) : Type 0 where
  pub number : ℕ
  pub flow : FlowEntry
  pub numbered : slice_get (all_flows d) number ≡ Some flow
  pub replied : is_some flow.reply ≡ true
  pub ends_there : flow.to ≡ t

module _ (d : Declaration) where
  -- a node that answers has one
  pub answered_flow : (t : ℕ) → is_answering d t ≡ true → AnsweredFlow d t
  answered_flow t is =
      let one = Any-from_list_any (is_answered_at t) d.flows is in
      let f : FlowEntry = one.1 in
      let both = and_parts (is_some f.reply) (f.to == t) one.4 in
      let here : slice_get d.flows one.0 ≡ Some f = slice_get_read d.flows (length d.flows) one.0 f refl one.2 (sym one.3) in
      record { number = one.0; flow = f; numbered = at_front d.flows (reply_flows d.flows) one.0 f here; replied = both.0; ends_there = eqb-true f.to t both.1 }

  -- a flow with replies is a declared one, since reply flows have none
  pub declared_at : (i : ℕ) (f : FlowEntry) → slice_get (all_flows d) i ≡ Some f → is_some f.reply ≡ true → slice_get d.flows i ≡ Some f
  declared_at i f at replied = elim (cases_lt i (length d.flows)) [
    | inl lt ↦ in_front d.flows (reply_flows d.flows) i f lt at
    | inr past ↦
        let split : length d.flows + (i - length d.flows) ≡ i = omega (arith, past) in
        let is = are_replies d (i - length d.flows) f (ap (slice_get (all_flows d)) split ∙ at) in
        absurd (false≢true (ap (λ (g : FlowEntry). is_some g.reply) (sym is.same) ∙ replied))
  ]

  -- a node with one answers
  pub answers : (t i : ℕ) (f : FlowEntry) → slice_get (all_flows d) i ≡ Some f → is_some f.reply ≡ true → f.to ≡ t → is_answering d t ≡ true
  answers t i f at replied there =
      any_passes_from_place (is_answered_at t) d.flows i f (declared_at i f at replied) (and_from (is_some f.reply) (f.to == t) replied (eq-eqb f.to t there))

  -- flows end at nodes
  pub answering_within : IsValid d → (t : ℕ) → is_answering d t ≡ true → t < length d.nodes
  answering_within valid t is =
      let a = answered_flow t is in
      let flow = All-at (IsFlow d.nodes) (all_flows d) a.number a.flow a.numbered (valid_flows d valid).0 in
      subst (λ (n : ℕ). n < length d.nodes) a.ends_there flow.to

  -- ---- marks

  mark_is : (t : ℕ) → t < length d.nodes → get_or (answering_marks d) t false ≡ is_answering d t
  mark_is t lt = get_or-map-range_with_len (is_answering d) 0 (length d.nodes) t t false lt (zero-add t)

  pub marked_answers : (t : ℕ) → get_or (answering_marks d) t false ≡ true → is_answering d t ≡ true
  marked_answers t set = elim (cases_lt t (length d.nodes)) [
    | inl lt ↦ sym (mark_is t lt) ∙ set
    | inr past ↦ absurd (false≢true (sym (get_or_past (answering_marks d) t false (omega (arith, past, length-map-range_with_len (is_answering d) 0 (length d.nodes)))) ∙ set))
  ]

  pub answers_marked : IsValid d → (t : ℕ) → is_answering d t ≡ true → get_or (answering_marks d) t false ≡ true
  answers_marked valid t is = mark_is t (answering_within valid t is) ∙ is
