-- A step that is made and counted.
use Rattle.std.proofs.Common.{Ok, Some, ap, false, length, subst, sym, ℕ, ◌<◌, ◌∙◌, ◌≡◌}
use Rattle.sw_cell.proofs.Network.{nodes_are}
use Rattle.sw_config.specs.Entries.{Declaration}
use Rattle.sw_config.specs.Valid.{IsValid}
use Rattle.sw_machine.proofs.DeclaredNetworks.{are_networks}
use Rattle.sw_machine.specs.Model.{network_of}
use Rattle.sw_machine.specs.Network.{AtNode, AtSwitch}
use Rattle.sw_machine.specs.Parts.{link_end_of}
use Rattle.sw_machine.specs.State.{State}
use Rattle.sw_machine.specs.StepValues.{machine_step}
use Rattle.sw_machine.specs.Steps.{Accept, Arrive, Begin, Drop, Emit, Fct, FctIn, Forward, Grant, Reply, Spill, Step, is_begin}
use Rattle.sw_machine.specs.declared.step.Step.{Step as CodeStep}
use Rattle.sw_net.specs.Making.{MovesAt}
use Rattle.sw_net.specs.Net.{IsNetState, NetAnswers, NetView}
use Rattle.sw_net.specs.Unanswered.{Counts, HasCounted, OwedAt, counted_after, owed_by, owed_with_limit}
use Rattle.sw_route.specs.declared.look.Look.{Look}

-- ---- what is owed where a link end stands

module _ {R A : Type 0} (v : NetView R A) (valid : IsValid v.declared) (e : ℕ) where
  emits_there : (n : ℕ) → n < length v.declared.nodes → link_end_of (network_of v.declared) (Emit n) ≡ e → (network_of v.declared).start_of e ≡ AtNode n
  emits_there n lt belongs = ap (network_of v.declared).start_of (sym belongs) ∙ ((are_networks v.declared valid).out_starts n (subst (λ k. n < k) (sym (nodes_are v.declared)) lt)).1

  pub owed_at_switch : (w : ℕ) → (network_of v.declared).start_of e ≡ AtSwitch w → OwedAt v e 0
  owed_at_switch w starts n lt belongs =
      let both : AtNode n ≡ AtSwitch w = sym (emits_there n lt belongs) ∙ starts in
      absurd cc

  pub owed_at_node : (m before : ℕ) → (network_of v.declared).start_of e ≡ AtNode m → ((s : State) → IsNetState v s → before ≡ owed_with_limit v.declared s m) → OwedAt v e before
  owed_at_node m before starts owed n lt belongs s is =
      let both : AtNode n ≡ AtNode m = sym (emits_there n lt belongs) ∙ starts in
      let same : m ≡ n = cc in
      owed s is ∙ ap (owed_with_limit v.declared s) same

-- ---- a step is counted

module _ {R A : Type 0} (v w : NetView R A) (c e : Counts) (same : w.declared ≡ v.declared) (before : ℕ) where
  pub has_counted : (step : Step) → ((s : State) → IsNetState v s → before ≡ owed_by v.declared s step) → ((t : State) → IsNetState w t → e ≡ counted_after w.declared c step before t) → HasCounted v c step w e
  has_counted step owed counted s t from to =
      counted t to ∙ ap (λ (d : Declaration). counted_after d c step before t) same ∙ ap (λ k. counted_after v.declared c step k t) (owed s from)

  -- what the node owed of a link end by which the step may put a character on its wire
  counted_move : (k : ℕ) (step : Step) → OwedAt v k before → link_end_of (network_of v.declared) step ≡ k → is_begin step ≡ false → NetAnswers v step (Ok tt) w
      → ((t : State) → IsNetState w t → e ≡ counted_after w.declared c step before t) → HasCounted v c step w e
  counted_move k (Begin flow cargo end) owed belongs no_begin made counted = absurd cc
  counted_move k (Emit n) owed belongs no_begin made counted =
      has_counted (Emit n) (λ s from. let leads = (made s from).1 in owed n (subst (λ j. n < j) (nodes_are v.declared) leads.in_net) belongs s from) counted
  counted_move k (Fct x) owed belongs no_begin made counted = λ s t from to. counted t to
  counted_move k (FctIn x) owed belongs no_begin made counted = λ s t from to. counted t to
  counted_move k (Arrive x) owed belongs no_begin made counted = λ s t from to. counted t to
  counted_move k (Grant o x) owed belongs no_begin made counted = λ s t from to. counted t to
  counted_move k (Drop x) owed belongs no_begin made counted = λ s t from to. counted t to
  counted_move k (Forward x) owed belongs no_begin made counted = λ s t from to. counted t to
  counted_move k (Spill x) owed belongs no_begin made counted = λ s t from to. counted t to
  counted_move k (Accept n) owed belongs no_begin made counted = λ s t from to. counted t to
  counted_move k (Reply n) owed belongs no_begin made counted = λ s t from to. counted t to

  pub has_counted_move : (answer : R → ℕ → Look) (policy : A → ℕ → ℕ → A → Type 0) (k : ℕ) (step : CodeStep) → OwedAt v k before → MovesAt answer policy v k (Ok (Some step)) w
      → ((t : State) → IsNetState w t → e ≡ counted_after w.declared c (machine_step step) before t) → HasCounted v c (machine_step step) w e
  has_counted_move answer policy k step owed moves counted = counted_move k (machine_step step) owed moves.move.belongs moves.move.no_begin moves.made counted
