-- What wiring gives of what was put together.
use Rattle.std.proofs.Common.{◌≡◌, ℕ, ◌*◌, List, [], length, Option, Some, None, Ok, Err, refl, subst, ap, ◌∙◌, arith}
use Rattle.std.proofs.lemmas.List.Elements.{All-nil}
use Rattle.sw_route.specs.TopoError.{TopoError}
use Rattle.sw_route.specs.TopoError.TheVariants as errors
use Rattle.sw_route.specs.Wiring.{Wiring}
use Rattle.sw_route.specs.Checked.{fault_of, checked, Finishes, IsSound}
use Rattle.sw_config.specs.Entries.{FlowEntry, Declaration, wiring_of}
use Rattle.sw_config.specs.Valid.{IsFlow}
use Rattle.sw_config.specs.LimitRows.{LimitRows, no_limits}
use Rattle.sw_config.specs.Building.{IsBuilder, IsNetwork, Wires}
use Rattle.sw_config.proofs.LimitRows.{no_limits_yet}
use Rattle.sw_config.proofs.Steps.{length-link_ends}

-- a wiring that was checked without a fault, and one with its first
joined : (w t : Wiring) (o : Option _) → fault_of w ≡ o → checked w ≡ Ok t → (fault_of w ≡ None) × (t ≡ w)
joined w t None is given = let e : Ok w ≡ Ok t = rw is at given in (is, cc)
joined w t (Some f) is given = let e : Err f ≡ Ok t = rw is at given in absurd cc

failed : (w : Wiring) (f : _) (o : Option _) → fault_of w ≡ o → checked w ≡ Err f → fault_of w ≡ Some f
failed w f None is given = let e : Ok w ≡ Err f = rw is at given in absurd cc
failed w f (Some g) is given = let e : Err g ≡ Err f = rw is at given in let same : g ≡ f = cc in is ∙ ap Some same

module _ (w : Wiring) (names : List (List ℕ)) (d : Declaration) (built : IsBuilder w names d) where
  pub no_fault : (t : Wiring) → checked w ≡ Ok t → fault_of (wiring_of d) ≡ None
  no_fault t given = subst (λ v. fault_of v ≡ None) built.wired (joined w t (fault_of w) refl given).0

  pub network_made : (t : Wiring) (flows replies : List FlowEntry) (rows : LimitRows) (n : ℕ) → checked w ≡ Ok t → flows ≡ [] → replies ≡ [] → rows ≡ no_limits n → n ≡ length d.nodes
      → IsNetwork t names replies rows (record d { flows = flows })
  network_made t flows replies rows n given none none_back unlimited counted =
      let size : length (wiring_of d).ends ≡ 2 * length d.links = length-link_ends d.links in
      let sound : IsSound (wiring_of d) = record { wiring = record { paired = rw size (omega arith); inside = built.draft.inside }; faultless = no_fault t given } in
      rw (none, none_back, unlimited, (joined w t (fault_of w) refl given).1) (record {
        wired = built.wired;
        named = built.named;
        replied = refl;
        limited = no_limits_yet (record d { flows = [] }) n counted built.draft.few_nodes refl;
        valid = record {
          sound = sound;
          nodes = built.draft.nodes;
          switches = built.draft.switches;
          links = built.draft.links;
          flows = All-nil (IsFlow d.nodes);
          few_flows = omega arith;
          parts_named = built.draft.parts_named;
          flows_named = λ i j d lt inside. absurd (omega arith);
        };
      })

  pub fault_told : (e : TopoError) → Finishes (Err e) w → Wires (Err e) d
  fault_told (errors.Fault f) given = subst (λ v. fault_of v ≡ Some f) built.wired (failed w f (fault_of w) refl given)
  fault_told errors.Memory given = tt
