-- The arbiters of a run's switches.
use Rattle.std.proofs.Common.{All, IsBitSet, IsSome, List, Some, [], ap, arith, get_or, length, refl, subst, sym, ℕ, ◌+◌, ◌++◌, ◌<◌, ◌^◌, ◌∙◌, ◌∷◌, ◌↔◌, ◌≡◌}
use Rattle.std.proofs.lemmas.List.{length-set, length_push}
use Rattle.std.proofs.lemmas.List.Elements.{All-push, All-set, All-weaker}
use Rattle.std.proofs.lemmas.Option.{slice_get-get_or}
use Rattle.std.specs.Prelude.{option_map, slice_get, slice_set}
use Rattle.sw_arb.specs.Arbiters.{IsWithin}
use Rattle.sw_arb.specs.Chosen.{IsNewPolicy, PolicyPicks, policy_keeps_ports, policy_ports}
use Rattle.sw_arb.specs.declared.arbitration.Arbitration.{Arbitration}
use Rattle.sw_arb.specs.declared.arbitration.Arbitration.TheVariants as kinds
use Rattle.sw_arb.specs.declared.policy.Policy.{Policy}
use Rattle.sw_arb.specs.declared.policy.Policy.TheVariants.{Fixed, LeastRecent, RoundRobin}
use Rattle.sw_cell.specs.Places.{machine_cell}
use Rattle.sw_cell.specs.declared.cell.CellId.{CellId}
use Rattle.sw_cell.specs.declared.cell.CellId.TheVariants.{Node, Switch}
use Rattle.sw_config.proofs.Flows.{All-at}
use Rattle.sw_config.specs.Entries.{Declaration, wiring_of}
use Rattle.sw_flow.specs.Places.{ends_of}
use Rattle.sw_machine.specs.Network.{AtNode, AtSwitch}
use Rattle.sw_journal.proofs.Policies.{has_linked}
use Rattle.sw_journal.specs.NewNet.{IsLinkedSet}
use Rattle.sw_journal.specs.Policies.{IsNewFor}
use Rattle.sw_run.specs.Arbiters.{HasArbiters, HasNewArbiters, IsArbiterFor, PicksAt, kind_of}
use Rattle.sw_topo.specs.Wiring.{Wiring, out_of}
use Rattle.sw_machine.proofs.Steps.{switch_is}

-- a new policy is of the kind that it was made for
kind_is : (kind : Arbitration) (ports : ℕ) (a : Policy) → IsNewPolicy kind ports a → kind ≡ kind_of a
kind_is kinds.Fixed ports (Fixed a) h = refl
kind_is kinds.RoundRobin ports (RoundRobin a) h = refl
kind_is kinds.LeastRecent ports (LeastRecent a) h = refl
kind_is kinds.Fixed ports (RoundRobin a) h = absurd h
kind_is kinds.Fixed ports (LeastRecent a) h = absurd h
kind_is kinds.RoundRobin ports (Fixed a) h = absurd h
kind_is kinds.RoundRobin ports (LeastRecent a) h = absurd h
kind_is kinds.LeastRecent ports (Fixed a) h = absurd h
kind_is kinds.LeastRecent ports (RoundRobin a) h = absurd h

-- and stays of it
keeps_kind : (a b : Policy) (asking pick : ℕ) → PolicyPicks a asking pick b → kind_of b ≡ kind_of a
keeps_kind (Fixed a) (Fixed b) asking pick p = refl
keeps_kind (RoundRobin a) (RoundRobin b) asking pick p = refl
keeps_kind (LeastRecent a) (LeastRecent b) asking pick p = refl
keeps_kind (Fixed a) (RoundRobin b) asking pick p = absurd p
keeps_kind (Fixed a) (LeastRecent b) asking pick p = absurd p
keeps_kind (RoundRobin a) (Fixed b) asking pick p = absurd p
keeps_kind (RoundRobin a) (LeastRecent b) asking pick p = absurd p
keeps_kind (LeastRecent a) (Fixed b) asking pick p = absurd p
keeps_kind (LeastRecent a) (RoundRobin b) asking pick p = absurd p

no_switch : (n w : ℕ) → AtNode n ≡ AtSwitch w → ⊥
no_switch n w e = absurd cc

pub found : (arbiters : List Policy) (out number : ℕ) (a : Policy) → number ≡ out → out < length arbiters → a ≡ get_or arbiters number a → slice_get arbiters out ≡ Some a
found arbiters out number a same lt is = slice_get-get_or arbiters out a lt ∙ ap Some (ap (λ k. get_or arbiters k a) (sym same) ∙ sym is)

-- the arbiter of an output picks
pub picks_at : (arbiters : List Policy) (out number asking pick : ℕ) (a later : Policy) → number ≡ out → out < length arbiters → a ≡ get_or arbiters number a → PolicyPicks a asking pick later
    → PicksAt arbiters out asking pick (slice_set arbiters number later)
picks_at arbiters out number asking pick a later same lt is picks =
    record { before = a; later = later; at = found arbiters out number a same lt is; picks = picks; others = ap (λ k. slice_set arbiters k later) same }

module _ (d : Declaration) where
  is_for : (w : ℕ) (a : Policy) → IsNewFor d w a → IsArbiterFor d w a
  is_for w a new = record { kind = new.declared ∙ ap Some (kind_is new.kind new.ports a new.new); linked = has_linked d w a new }

  stays_for : (w : ℕ) (a b : Policy) (asking pick : ℕ) → PolicyPicks a asking pick b → IsArbiterFor d w a → IsArbiterFor d w b
  stays_for w a b asking pick p is = record {
    kind = is.kind ∙ ap Some (sym (keeps_kind a b asking pick p));
    linked = subst (IsLinkedSet d w) (sym (policy_keeps_ports a b asking pick p)) is.linked;
  }

  pub none_at_node : (n : ℕ) (arbiters : List Policy) → HasNewArbiters d (Node n) arbiters
  none_at_node n arbiters = λ w e. absurd (no_switch n w e)

  pub at_switch : (w : ℕ) (arbiters : List Policy) → length arbiters ≡ 32 → All (IsNewFor d w) arbiters → HasNewArbiters d (Switch w) arbiters
  at_switch w arbiters whole new = λ v e. (whole, subst (λ k. All (IsNewFor d k) arbiters) (switch_is w v e) new)

  -- one more
  pub one_more : (w n : ℕ) (arbiters more : List Policy) (a : Policy) → more ≡ arbiters ++ a ∷ [] → (length arbiters ≡ n) × All (IsNewFor d w) arbiters → IsNewFor d w a
      → (length more ≡ n + 1) × All (IsNewFor d w) more
  one_more w n arbiters more a pushed before new =
      let size : length more ≡ n + 1 = omega (arith, length_push arbiters a, ap length pushed, before.0) in
      (size, subst (λ k. All (IsNewFor d w) k) (sym pushed) (All-push (IsNewFor d w) arbiters a before.1 new))

  -- an arbiter is made for a switch with the ports that have a link
  pub new_for : (t : Wiring) (kind : Arbitration) (w set : ℕ) (a : Policy) → t ≡ wiring_of d → set < 2 ^ 32 → ((port : ℕ) → IsBitSet set port ↔ IsSome (out_of t.ends w port))
      → option_map (λ s. s.arbitration) (slice_get d.switches w) ≡ Some kind → IsNewPolicy kind set a → IsNewFor d w a
  new_for t kind w set a wiring small linked declared new = record {
    kind = kind;
    declared = declared;
    ports = set;
    linked = record { within = small; linked = λ port lt. subst (λ (x : Wiring). IsBitSet set port ↔ IsSome (out_of x.ends w port)) wiring (linked port) };
    new = new;
  }

  pub has_new : (id : CellId) (arbiters : List Policy) → HasNewArbiters d id arbiters → HasArbiters d id arbiters
  has_new id arbiters new = λ w e. ((new w e).0, All-weaker (IsNewFor d w) (IsArbiterFor d w) (is_for w) arbiters (new w e).1)

  pub keeps : (id : CellId) (arbiters after : List Policy) (out asking pick : ℕ) → HasArbiters d id arbiters → PicksAt arbiters out asking pick after → HasArbiters d id after
  keeps id arbiters after out asking pick has p = λ w e.
      let before = has w e in
      let later = stays_for w p.before p.later asking pick p.picks (All-at (IsArbiterFor d w) arbiters out p.before p.at before.1) in (
        ap length p.others ∙ length-set arbiters out p.later ∙ before.0,
        subst (All (IsArbiterFor d w)) (sym p.others) (All-set (IsArbiterFor d w) arbiters out p.later later before.1),
      )

  -- each that asks is one of the arbiter's ports
  pub within : (id : CellId) (arbiters : List Policy) (w out asking : ℕ) → HasArbiters d id arbiters → machine_cell id ≡ AtSwitch w
      → ((port : ℕ) → IsBitSet asking port → (port < 32) × IsSome (out_of (ends_of d) w port))
      → (a : Policy) → slice_get arbiters out ≡ Some a → IsWithin asking (policy_ports a)
  within id arbiters w out asking has e linked = λ a at port asks.
      let is = All-at (IsArbiterFor d w) arbiters out a at (has w e).1 in
      (is.linked.linked port (linked port asks).0).1 (linked port asks).1
