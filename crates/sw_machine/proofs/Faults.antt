-- What a listed place without a fault is.
use Rattle.std.proofs.Common.{Contains, [], ap, arith, length, refl, subst, ℕ, ⊎_elim, ◌+◌, ◌-◌, ◌<◌, ◌∙◌, ◌≡◌, ◌≢◌}
use Rattle.std.proofs.lemmas.Bool.{cases_eq, cases_lt}
use Rattle.sw_machine.specs.Certificate.{Certificate, IsAccepted, IsListed, number}
use Rattle.sw_machine.specs.Network.{AtNode, AtSwitch, Network}
use Rattle.sw_machine.specs.Owed.{IsAsked}
use Rattle.sw_machine.specs.Places.{AlwaysTakes, Follows, deleted_after, header}

module _ (net : Network) (cert : Certificate) (acc : IsAccepted net cert) where
  pub at_switch : (i c k switch : ℕ) → i < net.flows → IsListed cert i c k → net.end_of c ≡ AtSwitch switch → (k < length (net.flow i).address) × (net.look switch (header net i k) ≢ [])
  at_switch i c k switch li listed at =
      let f = acc.faultless i c k li listed in
      let r = (acc.in_range i c k li listed).1 in
      let within : k < length (net.flow i).address = ⊎_elim (λ lt. lt) (λ ge. absurd (f.address (record { switch = switch; at = at; ends = omega arith }))) (cases_lt k (length (net.flow i).address)) in
      (within, λ none. f.route (record { switch = switch; at = at; within = within; unnamed = none }))

  pub at_node : (i c k n : ℕ) → i < net.flows → IsListed cert i c k → net.end_of c ≡ AtNode n → (n ≡ (net.flow i).to) × (k + (net.flow i).left ≡ length (net.flow i).address)
  at_node i c k n li listed at =
      let f = acc.faultless i c k li listed in
      let r = (acc.in_range i c k li listed).1 in
      let to : n ≡ (net.flow i).to = ⊎_elim (λ e. e) (λ ne. absurd (f.node (record { node = n; at = at; other = ne }))) (cases_eq n (net.flow i).to) in
      let left : length (net.flow i).address - k ≡ (net.flow i).left = ⊎_elim (λ e. e) (λ ne. absurd (f.left (record { at = at ∙ ap AtNode to; other = ne }))) (cases_eq (length (net.flow i).address - k) (net.flow i).left) in
      (to, omega arith)

  pub follows : (i c k switch d : ℕ) → i < net.flows → IsListed cert i c k → net.end_of c ≡ AtSwitch switch → Contains (net.look switch (header net i k)) d → Follows net i c k d (deleted_after net i switch k)
  follows i c k switch d li listed at named = record { switch = switch; at = at; within = (at_switch i c k switch li listed at).0; named = named; deleted = refl }

  -- a target that owes a reply, and doesn't always take, is followed by its other channel
  pub asked_rises : (n : ℕ) → IsAsked net n → (AlwaysTakes net n → ⊥) → number cert (net.into n) < number cert (net.out n)
  asked_rises n a waits = subst (λ k. (AlwaysTakes net k → ⊥) → number cert (net.into k) < number cert (net.out k)) a.to (acc.targets a.asked a.reply a.in_flows a.by) waits
