-- The arbiters that a network declares.
use Rattle.std.proofs.Common.{List, Option, subst, sym, ℕ, ◌≡◌}
use Rattle.sw_arb.specs.Chosen.{IsNewPolicy, policy_ports}
use Rattle.sw_arb.specs.declared.arbitration.Arbitration.{Arbitration}
use Rattle.sw_arb.specs.declared.arbitration.Arbitration.TheVariants as kinds
use Rattle.sw_arb.specs.declared.policy.Policy.{Policy}
use Rattle.sw_arb.specs.declared.policy.Policy.TheVariants.{Fixed, LeastRecent, RoundRobin}
use Rattle.sw_config.specs.Entries.{Declaration}
use Rattle.sw_flow.specs.Places.{ends_of}
use Rattle.sw_net.proofs.Outputs.{at_output, by_output_map}
use Rattle.sw_net.specs.New.{AreArbiters, IsLinkedSet}
use Rattle.sw_net.specs.Outputs.{AreByOutput, StandsAt}
use Rattle.sw_net.specs.Policies.{AreDeclaredPolicies, IsNewFor}

pub ports_are : (kind : Arbitration) (ports : ℕ) (p : Policy) → IsNewPolicy kind ports p → policy_ports p ≡ ports
ports_are kinds.Fixed ports (Fixed a) h = h
ports_are kinds.RoundRobin ports (RoundRobin a) h = h.0
ports_are kinds.LeastRecent ports (LeastRecent a) h = h.same_ports
ports_are kinds.Fixed ports (RoundRobin a) h = absurd h
ports_are kinds.Fixed ports (LeastRecent a) h = absurd h
ports_are kinds.RoundRobin ports (Fixed a) h = absurd h
ports_are kinds.RoundRobin ports (LeastRecent a) h = absurd h
ports_are kinds.LeastRecent ports (Fixed a) h = absurd h
ports_are kinds.LeastRecent ports (RoundRobin a) h = absurd h

module _ (d : Declaration) where
  pub has_linked : (w : ℕ) (a : Policy) → IsNewFor d w a → IsLinkedSet d w (policy_ports a)
  has_linked w a is = subst (IsLinkedSet d w) (sym (ports_are is.kind is.ports a is.new)) is.linked

  pub are_arbiters : (all : List Policy) → AreByOutput (λ w _ a. IsNewFor d w a) (ends_of d) all → AreArbiters policy_ports d (ends_of d) all
  are_arbiters all new = by_output_map (λ w _ a. IsNewFor d w a) (λ w _ a. IsLinkedSet d w (policy_ports a)) (ends_of d) all (λ c w port a at is. has_linked w a is) new

  pub declared_policies : (all : List Policy) (arbiters : List (List (Option Policy))) → AreByOutput (StandsAt arbiters) (ends_of d) all → AreByOutput (λ w _ a. IsNewFor d w a) (ends_of d) all → AreDeclaredPolicies d arbiters
  declared_policies all arbiters stand new = λ c w port at. at_output (StandsAt arbiters) (λ w _ a. IsNewFor d w a) (ends_of d) all c w port at stand new
