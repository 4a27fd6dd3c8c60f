-- A network that stays free where a node takes nothing while it wants to send never locks up in the machine in which that node does so.
use Rattle.std.proofs.Common.{◌≡◌, ℕ, ◌<◌, ◌==◌, List, [], ◌∷◌, length, option_map, Contains, Option, Some, sym, ap, ◌∙◌, subst, inl, inr, eqb-true}
use Rattle.std.specs.Prelude.{unwrap_or}
use Rattle.std.specs.Option.{option_map_or}
use Rattle.std.proofs.lemmas.Bool.{cases_eq}
use Rattle.std.proofs.lemmas.Option.{slice_get_within}
use Rattle.sw_topo.specs.Wiring.{out, partner}
use Rattle.sw_topo.proofs.Ends.{node_only}
use Rattle.sw_topo.proofs.Lists.{none_in}
use Rattle.sw_config.specs.PlaceEnd.TheVariants.{Node}
use Rattle.sw_config.specs.Entries.{Declaration, wiring_of}
use Rattle.sw_flow.specs.Places.{ends_of}
use Rattle.sw_flow.proofs.Listed.{Contains-cases, Contains-head}
use Rattle.sw_flow.proofs.Partners.{partner_within}
use Rattle.sw_machine.specs.Certificate.{number}
use Rattle.sw_machine.specs.Model.{network_of}
use Rattle.sw_machine.specs.Stalling.{RisesWhereStalling}
use Rattle.sw_machine.proofs.DeclaredNetworks.{are_networks}
use Rattle.sw_machine.proofs.Stalling.{never_locked_up}
use Rattle.sw_graph.specs.Laws.{IsAmong}
use Rattle.sw_search.proofs.Decided.{among, depends_decided}
use Rattle.sw_search.proofs.Paths.{Decided, both, either}
use Rattle.sw_search.proofs.Rising.{rising_certificate_exists}
use Rattle.sw_search.specs.Verdicts.{depends}
use Rattle.sw_margin.specs.Bends.{stall}
use Rattle.sw_margin.specs.Laws.{StallsNeverLockUp}
use Rattle.sw_margin.specs.Waits.{WaitsWith}
use Rattle.sw_margin.proofs.Replied.{into_is, out_is}

module _ (d : Declaration) (n c : ℕ) (starts : out (ends_of d) n ≡ Some c) where
  is_stall : stall d n ≡ (partner c, c) ∷ []
  is_stall = ap (λ (o : Option ℕ). option_map_or (λ e. (partner e, e) ∷ []) o []) starts

  into : (network_of d).into n ≡ partner c
  into = into_is d n ∙ ap (λ (o : Option ℕ). unwrap_or (option_map partner o) 0) starts

  comes_out : (network_of d).out n ≡ c
  comes_out = out_is d n ∙ ap (λ (o : Option ℕ). unwrap_or o 0) starts

  it_waits : Contains (stall d n) (partner c, c)
  it_waits = subst (λ (l : List (ℕ × ℕ)). Contains l (partner c, c)) (sym is_stall) (Contains-head (partner c, c) [])

  one_wait : (x y : ℕ) → Contains (stall d n) (x, y) → (partner c ≡ x) × (c ≡ y)
  one_wait x y h = elim (Contains-cases (partner c, c) (x, y) [] (subst (λ (l : List (ℕ × ℕ)). Contains l (x, y)) is_stall h)) [
    | inl same ↦ (ap (λ (w : ℕ × ℕ). w.0) same, ap (λ (w : ℕ × ℕ). w.1) same)
    | inr later ↦ absurd (none_in (x, y) later)
  ]

  wait_decided : (x y : ℕ) → Decided (Contains (stall d n) (x, y))
  wait_decided x y = elim (both (partner c ≡ x) (c ≡ y) (cases_eq (partner c) x) (cases_eq c y)) [
    | inl same ↦ inl (subst (Contains (stall d n)) (λ t. (same.0 t, same.1 t)) it_waits)
    | inr none ↦ inr (λ h. none (one_wait x y h))
  ]

  waits_among : c < length (ends_of d) → IsAmong (depends d) (length (ends_of d)) → IsAmong (WaitsWith d (stall d n)) (length (ends_of d))
  waits_among within all x y (inl was) = all x y was
  waits_among within all x y (inr more) =
      let at = one_wait x y more in
      (subst (λ (z : ℕ). z < length (ends_of d)) at.0 (partner_within d c within), subst (λ (z : ℕ). z < length (ends_of d)) at.1 within)

  waits_decided : ((x y : ℕ) → Decided (depends d x y)) → (x y : ℕ) → Decided (WaitsWith d (stall d n) x y)
  waits_decided decided x y = either (depends d x y) (Contains (stall d n) (x, y)) (decided x y) (wait_decided x y)

  -- numbers that rise along all these waits rise at the node
  rises_there : (rank : ℕ → ℕ) → ((x y : ℕ) → WaitsWith d (stall d n) x y → rank x < rank y) → RisesWhereStalling (network_of d) (λ m. m == n) rank
  rises_there rank rises m within is =
      let same : n ≡ m = sym (eqb-true m n is) in
      let here : rank ((network_of d).into n) < rank ((network_of d).out n) =
      subst (λ (x : ℕ). rank x < rank ((network_of d).out n)) (sym into) (subst (λ (x : ℕ). rank (partner c) < rank x) (sym comes_out) (rises (partner c) c (inr it_waits))) in
      subst (λ (k : ℕ). rank ((network_of d).into k) < rank ((network_of d).out k)) same here

pub stalls_never_lock_up : StallsNeverLockUp
stalls_never_lock_up d n valid routed lt free =
    let only = node_only (wiring_of d) valid.sound n lt in
    let c : ℕ = only.0 in
    let starts : out (ends_of d) n ≡ Some c = only.1.first in
    let within : c < length (ends_of d) = slice_get_within (ends_of d) c (Node n) only.1.starts.here in
    let cert = rising_certificate_exists d valid routed (WaitsWith d (stall d n)) (waits_among d n c starts within (among d valid)) (waits_decided d n c starts (depends_decided d valid)) (λ x y was. inl was) free in
    never_locked_up (network_of d) cert.0 (λ m. m == n) (are_networks d valid) cert.1 (rises_there d n c starts (number cert.0) cert.2)
