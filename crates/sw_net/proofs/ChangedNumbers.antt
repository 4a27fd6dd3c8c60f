-- Whose numbers a step changes.
use Rattle.std.proofs.Common.{None, Option, Some, ap, arith, length, refl, subst, sym, ℕ, ◌+◌, ◌-◌, ◌<◌, ◌≤◌, ◌∙◌, ◌≡◌}
use Rattle.std.proofs.lemmas.Option.{same_Some}
use Rattle.std.specs.Prelude.{IfNone, IfSome, List, slice_get, unwrap_or}
use Rattle.sw_cell.specs.SwitchParts.{IsSwitchFor, input_of}
use Rattle.sw_char.specs.declared.nchar.End.{End}
use Rattle.sw_char.specs.declared.nchar.NChar.{NChar}
use Rattle.sw_char.specs.declared.nchar.NChar.TheVariants.{Data, Eep, Eop}
use Rattle.sw_flow.specs.Places.{end_of, ends_of}
use Rattle.sw_machine.proofs.Lists.{put_there}
use Rattle.sw_machine.proofs.Wormhole.{held_once}
use Rattle.sw_machine.specs.Network.{AtNode, AtSwitch, Network, reverse_of}
use Rattle.sw_machine.specs.State.{State, after_accept, after_arrive, after_drop_byte, after_drop_marker, after_emit, after_fct, after_fct_in, after_forward, after_grant, after_spill}
use Rattle.sw_machine.specs.Steps.{Accept, Arrive, Begin, Drop, Drops, Emit, Fct, FctIn, Forward, Grant, Reply, Spill, Step}
use Rattle.sw_machine.specs.declared.input.InputState.TheVariants.{Held}
use Rattle.sw_machine.proofs.DeclaredNetworks.{are_networks}
use Rattle.sw_machine.specs.Model.{network_of}
use Rattle.sw_config.specs.Valid.{IsValid}
use Rattle.sw_net.proofs.Delivered.{end_at_node}
use Rattle.sw_net.specs.Changing.{ChangesOnly, IsChanged, IsEndOf, passed_from}
use Rattle.sw_net.specs.Net.{IsNetState, NetView}
use Rattle.sw_net.specs.Numbers.{numbers_at}
use Rattle.sw_route.specs.declared.look.Look.{Look}
use Rattle.sw_switch.specs.Cell.{Cell, input_at}
use Rattle.sw_switch.specs.declared.input.Input.{Input as PortInput}
use Rattle.sw_switch.specs.declared.input.Input.TheVariants as ports
use Rattle.sw_topo.proofs.Ends.{partner_back}
use Rattle.sw_topo.specs.Wiring.{out_of, partner}
use Rattle.sw_topo.specs.declared.place.PlaceEnd.TheVariants.{Node, Switch}
use Rattle.sw_cell.proofs.Passing.{some_of}

-- another link end than that which receives on channel c receives on another channel
apart : (e c m : ℕ) → m ≡ partner c → (Some m ≡ Some e → ⊥) → reverse_of e ≡ c → ⊥
apart e c m is ne same = ne (ap (λ k. Some k) (is ∙ ap partner (sym same) ∙ partner_back e))

module _ (net : Network) (s : State) (e : ℕ) where
  -- the numbers hang on the credit, and on what is outstanding and in the buffer of the channel that comes
  alike : (t : State) → t.credit e ≡ s.credit e → t.outstanding (reverse_of e) ≡ s.outstanding (reverse_of e) → t.buffer (reverse_of e) ≡ s.buffer (reverse_of e) → numbers_at net t e ≡ numbers_at net s e
  alike t x y z = λ i. record { credit = x i; outstanding = y i; room = net.capacity (reverse_of e) - length (z i) - y i }

  dropped : (t : State) (c switch : ℕ) (first : NChar) (rest : List NChar) → Drops net s c switch first rest t → (reverse_of e ≡ c → ⊥) → numbers_at net t e ≡ numbers_at net s e
  dropped t c switch (Data h) rest drops ne = ap (λ (u : State). numbers_at net u e) drops.1 ∙ alike (after_drop_byte s c) refl refl refl
  dropped t c switch Eop rest drops ne = ap (λ (u : State). numbers_at net u e) drops ∙ alike (after_drop_marker s c rest) refl refl (put_there s.buffer c rest (reverse_of e) ne)
  dropped t c switch Eep rest drops ne = ap (λ (u : State). numbers_at net u e) drops ∙ alike (after_drop_marker s c rest) refl refl (put_there s.buffer c rest (reverse_of e) ne)

module _ {R A : Type 0} (v : NetView R A) where
  abbrev net : Network
  net = network_of v.declared

  pub fct_only : (c m : ℕ) → m ≡ partner c → ChangesOnly v (Fct c) (Some m, None)
  fct_only c m is = λ s t k leads e ne no.
      ap (λ (u : State). numbers_at net u e) leads.after
      ∙ alike net s e (after_fct s c) refl (put_there s.outstanding c (s.outstanding c + 8) (reverse_of e) (apart e c m is ne)) refl

  pub fct_in_only : (c m : ℕ) → m ≡ c → ChangesOnly v (FctIn c) (Some m, None)
  fct_in_only c m is = λ s t k leads e ne no.
      ap (λ (u : State). numbers_at net u e) leads.after
      ∙ alike net s e (after_fct_in s c leads.remaining) (put_there s.credit c (s.credit c + 8) e (λ same. ne (ap (λ j. Some j) (is ∙ sym same)))) refl refl

  pub arrive_only : (c m : ℕ) → m ≡ partner c → ChangesOnly v (Arrive c) (Some m, None)
  arrive_only c m is = λ s t k leads e ne no.
      let other = apart e c m is ne in
      ap (λ (u : State). numbers_at net u e) leads.after
      ∙ alike net s e (after_arrive s c leads.first leads.rest) refl (put_there s.outstanding c _ (reverse_of e) other) (put_there s.buffer c _ (reverse_of e) other)

  pub grant_only : (d c m : ℕ) → m ≡ partner c → ChangesOnly v (Grant d c) (Some m, None)
  grant_only d c m is = λ s t k leads e ne no.
      ap (λ (u : State). numbers_at net u e) leads.after
      ∙ alike net s e (after_grant s d c _) refl refl (put_there s.buffer c _ (reverse_of e) (apart e c m is ne))

  pub drop_only : (c m : ℕ) → m ≡ partner c → ChangesOnly v (Drop c) (Some m, None)
  drop_only c m is = λ s t k leads e ne no. dropped net s e t c leads.switch leads.first leads.rest leads.after (apart e c m is ne)

  pub spill_only : (c m : ℕ) → m ≡ partner c → ChangesOnly v (Spill c) (Some m, None)
  spill_only c m is = λ s t k leads e ne no.
      ap (λ (u : State). numbers_at net u e) leads.after
      ∙ alike net s e (after_spill s c leads.first leads.rest) refl refl (put_there s.buffer c leads.rest (reverse_of e) (apart e c m is ne))

  pub forward_only : (c m : ℕ) (o : Option ℕ) → m ≡ partner c → ((s : State) → IsNetState v s → c < net.channels → (d : ℕ) → s.input c ≡ Held d → o ≡ Some d) → ChangesOnly v (Forward c) (Some m, o)
  forward_only c m o is held = λ s t k leads e ne no.
      let which = held s k leads.in_net leads.d leads.held in
      ap (λ (u : State). numbers_at net u e) leads.after
      ∙ alike net s e (after_forward s c leads.d leads.first leads.rest leads.remaining)
      (put_there s.credit leads.d leads.remaining e (λ same. no (which ∙ ap (λ j. Some j) (sym same))))
      refl
      (put_there s.buffer c leads.rest (reverse_of e) (apart e c m is ne))

  pub emit_only : (n : ℕ) (o : Option ℕ) → IfNone o (net.nodes ≤ n) → IfSome o (λ e. net.out n ≡ e) → ChangesOnly v (Emit n) (o, None)
  emit_only n None none out = λ s t k leads e ne no. let lt = leads.in_net in absurd (omega arith)
  emit_only n (Some m) none out = λ s t k leads e ne no.
      ap (λ (u : State). numbers_at net u e) leads.after
      ∙ alike net s e (after_emit net s n leads.first leads.rest leads.remaining) (put_there s.credit (net.out n) leads.remaining e (λ same. ne (ap (λ j. Some j) (sym out ∙ sym same)))) refl refl

  pub accept_only : (n : ℕ) (o : Option ℕ) → IfNone o (net.nodes ≤ n) → IfSome o (λ e. net.into n ≡ partner e) → ChangesOnly v (Accept n) (o, None)
  accept_only n None none into = λ s t k leads e ne no. let lt = leads.in_net in absurd (omega arith)
  accept_only n (Some m) none into = λ s t k leads e ne no.
      let is : m ≡ partner (net.into n) = sym (partner_back m) ∙ ap partner (sym into) in
      ap (λ (u : State). numbers_at net u e) leads.after
      ∙ alike net s e (after_accept net s n leads.bytes leads.first leads.rest) refl refl (put_there s.buffer (net.into n) leads.rest (reverse_of e) (apart e (net.into n) m is ne))

  pub begin_only : (f : ℕ) (cargo : List ℕ) (end : End) → ChangesOnly v (Begin f cargo end) (None, None)
  begin_only f cargo end = λ s t k leads e ne no. ap (λ (u : State). numbers_at net u e) leads.after

  pub reply_only : (n : ℕ) → ChangesOnly v (Reply n) (None, None)
  reply_only n = λ s t k leads e ne no. ap (λ (u : State). numbers_at net u e) leads.after

  -- ---- by what the step is

  sole : (step : Step) (end : Option ℕ) (m : ℕ) → end ≡ Some m → ChangesOnly v step (Some m, None) → ChangesOnly v step (end, None)
  sole step end m is only = subst (λ o. ChangesOnly v step (o, None)) (sym is) only

  none_of : (n : ℕ) (end : Option ℕ) → IsEndOf net n end → IfNone end (net.nodes ≤ n)
  none_of n None is = is
  none_of n (Some e) is = tt

  out_of_node : (n : ℕ) (end : Option ℕ) → IsEndOf net n end → IfSome end (λ e. net.out n ≡ e)
  out_of_node n None is = tt
  out_of_node n (Some e) is = is.0

  into_node : (n : ℕ) (end : Option ℕ) → IsEndOf net n end → IfSome end (λ e. net.into n ≡ partner e)
  into_node n None is = tt
  into_node n (Some e) is = is.1

  no_some : {c : ℕ} → Some c ≡ None → ⊥
  no_some is = cc

  pub one_only : (step : Step) (end : Option ℕ) → IsChanged net step end → passed_from step ≡ None → ChangesOnly v step (end, None)
  one_only (Fct c) end is none = sole (Fct c) end (partner c) is (fct_only c (partner c) refl)
  one_only (FctIn c) end is none = sole (FctIn c) end c is (fct_in_only c c refl)
  one_only (Arrive c) end is none = sole (Arrive c) end (partner c) is (arrive_only c (partner c) refl)
  one_only (Grant d c) end is none = sole (Grant d c) end (partner c) is (grant_only d c (partner c) refl)
  one_only (Drop c) end is none = sole (Drop c) end (partner c) is (drop_only c (partner c) refl)
  one_only (Spill c) end is none = sole (Spill c) end (partner c) is (spill_only c (partner c) refl)
  one_only (Forward c) end is none = absurd (no_some none)
  one_only (Emit n) end is none = emit_only n end (none_of n end is) (out_of_node n end is)
  one_only (Accept n) end is none = accept_only n end (none_of n end is) (into_node n end is)
  one_only (Begin flow cargo last) end is none = subst (λ o. ChangesOnly v (Begin flow cargo last) (o, None)) (sym is) (begin_only flow cargo last)
  one_only (Reply n) end is none = subst (λ o. ChangesOnly v (Reply n) (o, None)) (sym is) (reply_only n)

  pub both_only : (step : Step) (end : Option ℕ) (c : ℕ) (o : Option ℕ) → IsChanged net step end → passed_from step ≡ Some c → ((s : State) → IsNetState v s → c < net.channels → (d : ℕ) → s.input c ≡ Held d → o ≡ Some d) → ChangesOnly v step (end, o)
  both_only (Forward b) end c o is passed held =
      subst (λ k. ChangesOnly v (Forward b) (k, o)) (sym is)
      (forward_only b (partner b) o refl (subst (λ k. (s : State) → IsNetState v s → k < net.channels → (d : ℕ) → s.input k ≡ Held d → o ≡ Some d) (sym (same_Some b c passed)) held))
  both_only step end c o is passed held = absurd (no_some (sym passed))

-- ---- the output that an input holds

module _ {R A : Type 0} (v : NetView R A) (s : State) (k : IsNetState v s) (c : ℕ) where
  module _ (w port : ℕ) (cell : Cell R A) (at : slice_get v.switches w ≡ Some cell) (ends : end_of v.declared c ≡ Some (Switch w port)) (d : ℕ) (holds : s.input c ≡ Held d) where
    told : (i : PortInput) → input_at cell port ≡ i → Held d ≡ input_of (ends_of v.declared) w i
    told i is = sym holds ∙ ((k.switches w cell at).ports c port ends).input ∙ ap (input_of (ends_of v.declared) w) is

    pub held_there : (answer : R → ℕ → Look) (arbiter_ports : A → ℕ) → IsSwitchFor answer arbiter_ports v.declared w cell → (held : ℕ) → input_at cell port ≡ ports.Held held → out_of (ends_of v.declared) w held ≡ Some d
    held_there answer arbiter_ports for held is =
        let out = some_of (out_of (ends_of v.declared) w held) (for.held port held is).1 in
        let at_out : Held d ≡ Held out.0 = told (ports.Held held) is ∙ ap (λ o. Held (unwrap_or o 0)) out.1 in
        let same : d ≡ out.0 = cc in
        out.1 ∙ ap (λ j. Some j) (sym same)

    pub not_idle : input_at cell port ≡ ports.Idle → ⊥
    not_idle is = let bad = told ports.Idle is in cc

    pub not_spilling : input_at cell port ≡ ports.Spilling → ⊥
    not_spilling is = let bad = told ports.Spilling is in cc

  pub none_at_node : IsValid v.declared → (n : ℕ) → end_of v.declared c ≡ Some (Node n) → c < (network_of v.declared).channels → (d : ℕ) → s.input c ≡ Held d → ⊥
  none_at_node valid n ends lt d holds =
      let own = (held_once (network_of v.declared) (are_networks v.declared valid) s k.reached).own c d lt holds in
      let both : AtNode n ≡ AtSwitch own.switch = sym (end_at_node v.declared c n ends) ∙ own.ends in
      cc
