-- The reasons of a refusal, one after another.
use Rattle.std.proofs.Common.{◌≡◌, true, false, cond, Option, Some, None, is_some, refl, sym, ap, ◌∙◌}
use Rattle.sw_topo.specs.Checked.{first_of}
use Rattle.sw_config.specs.Entries.{Declaration, all_flows}
use Rattle.sw_cert.specs.Text.{Contents}
use Rattle.sw_cert.specs.declared.refusal.Refusal.{Refusal}
use Rattle.sw_cert.specs.declared.refusal.Refusal.TheVariants.{WrongCount}
use Rattle.sw_cert.specs.Refusals.{by_flow, is_of_the_network, refusal_of_flow, not_rising_along, not_rising_at_targets, refusal_of}
use Rattle.sw_cert.proofs.Lists.{first_none, both_none, unless_none, none_unless}

abbrev pub flows_refused : Declaration → Contents → Option Refusal
flows_refused d c = by_flow (refusal_of_flow d) 0 (all_flows d) c.places

abbrev pub numbers_refused : Declaration → Contents → Option Refusal
numbers_refused d c = by_flow (not_rising_along d c.numbers) 0 (all_flows d) c.places

module _ (d : Declaration) (c : Contents) where
  pub other_network : is_of_the_network d c ≡ false → Some WrongCount ≡ refusal_of d c
  unfolding refusal_of
  other_network out = rw out refl

  in_order : is_of_the_network d c ≡ true → refusal_of d c ≡ first_of (flows_refused d c) (first_of (numbers_refused d c) (not_rising_at_targets d c.numbers))
  unfolding refusal_of
  in_order is = rw is refl

  first_there : (o p : Option Refusal) → is_some o ≡ true → first_of o p ≡ o
  first_there None p h = absurd cc
  first_there (Some x) p h = refl

  first_gone : (o p : Option Refusal) → is_some o ≡ false → first_of o p ≡ p
  first_gone None p h = refl
  first_gone (Some x) p h = absurd cc

  pub by_flows : is_of_the_network d c ≡ true → (o : Option Refusal) → o ≡ flows_refused d c → is_some o ≡ true → o ≡ refusal_of d c
  by_flows is o same some =
      let rest = first_of (numbers_refused d c) (not_rising_at_targets d c.numbers) in
      sym (in_order is ∙ ap (λ (x : Option Refusal). first_of x rest) (sym same) ∙ first_there o rest some)

  later : is_of_the_network d c ≡ true → (o : Option Refusal) → o ≡ flows_refused d c → is_some o ≡ false → refusal_of d c ≡ first_of (numbers_refused d c) (not_rising_at_targets d c.numbers)
  later is o same none =
      let rest = first_of (numbers_refused d c) (not_rising_at_targets d c.numbers) in
      in_order is ∙ ap (λ (x : Option Refusal). first_of x rest) (sym same) ∙ first_gone o rest none

  pub by_numbers : is_of_the_network d c ≡ true → (o : Option Refusal) → o ≡ flows_refused d c → is_some o ≡ false → (p : Option Refusal) → p ≡ numbers_refused d c → is_some p ≡ true → p ≡ refusal_of d c
  by_numbers is o same none p is_p some =
      let rest = not_rising_at_targets d c.numbers in
      sym (later is o same none ∙ ap (λ (x : Option Refusal). first_of x rest) (sym is_p) ∙ first_there p rest some)

  pub by_targets : is_of_the_network d c ≡ true → (o : Option Refusal) → o ≡ flows_refused d c → is_some o ≡ false → (p : Option Refusal) → p ≡ numbers_refused d c → is_some p ≡ false
      → (q : Option Refusal) → q ≡ not_rising_at_targets d c.numbers → q ≡ refusal_of d c
  by_targets is o same none p is_p nothing q last =
      let rest = not_rising_at_targets d c.numbers in
      last ∙ sym (later is o same none ∙ ap (λ (x : Option Refusal). first_of x rest) (sym is_p) ∙ first_gone p rest nothing)

-- no reason applies
pub record NoReason (d : Declaration) (c : Contents) : Type 0 where
  pub network : is_of_the_network d c ≡ true
  pub flows : flows_refused d c ≡ None
  pub numbers : numbers_refused d c ≡ None
  pub targets : not_rising_at_targets d c.numbers ≡ None

module _ (d : Declaration) (c : Contents) where
  pub no_reason : refusal_of d c ≡ None → NoReason d c
  unfolding refusal_of
  no_reason none =
      let a = first_none (cond (is_of_the_network d c) None (Some WrongCount)) (first_of (flows_refused d c) (first_of (numbers_refused d c) (not_rising_at_targets d c.numbers))) none in
      let b = first_none (flows_refused d c) (first_of (numbers_refused d c) (not_rising_at_targets d c.numbers)) a.1 in
      let e = first_none (numbers_refused d c) (not_rising_at_targets d c.numbers) b.1 in
      record { network = unless_none (is_of_the_network d c) WrongCount a.0; flows = b.0; numbers = e.0; targets = e.1 }

  pub none_of : NoReason d c → refusal_of d c ≡ None
  unfolding refusal_of
  none_of r =
      both_none (cond (is_of_the_network d c) None (Some WrongCount)) (first_of (flows_refused d c) (first_of (numbers_refused d c) (not_rising_at_targets d c.numbers))) (none_unless (is_of_the_network d c) WrongCount r.network)
      (both_none (flows_refused d c) (first_of (numbers_refused d c) (not_rising_at_targets d c.numbers)) r.flows (both_none (numbers_refused d c) (not_rising_at_targets d c.numbers) r.numbers r.targets))
