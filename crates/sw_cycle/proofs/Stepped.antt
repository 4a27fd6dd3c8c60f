-- Steps that are found, and none that is missed.
use Rattle.std.proofs.Common.{◌≡◌, ℕ, ◌+◌, true, false, List, Contains, Some, sym, ◌∙◌, subst}
use Rattle.std.specs.Prelude.{Bool, if◌then◌else◌, slice_get}
use Rattle.std.proofs.lemmas.Option.{same_Some}
use Rattle.sw_config.specs.Entries.{FlowEntry, Declaration, all_flows}
use Rattle.sw_flow.specs.declared.place.Place.{Place}
use Rattle.sw_flow.specs.Places.{Follows, IsPlace, IsPlaceList, look_after}
use Rattle.sw_flow.specs.Ways.{GoesTo}
use Rattle.sw_cycle.specs.Causes.{GoesOn}

module _ (d : Declaration) (i : ℕ) (f : FlowEntry) (places : List Place) (numbered : slice_get (all_flows d) i ≡ Some f) (list : IsPlaceList d f places) (c e : ℕ) where
  pub no_step : ((p : Place) (m : ℕ) → Contains places p → p.channel ≡ c → Follows d f p.channel p.deleted e m → ⊥) → GoesOn d i c e → ⊥
  no_step none (p, q, s) =
      let same : s.flow ≡ f = same_Some s.flow f (sym s.numbered ∙ numbered) in
      let place : Contains places p = (list.member p).1 (subst (λ (g : FlowEntry). IsPlace d g p.channel p.deleted) same s.place) in
      let goes : Follows d f p.channel p.deleted q.channel q.deleted = subst (λ (g : FlowEntry). GoesTo d g p q) same s.goes in
      none p q.deleted place s.from (subst (λ (x : ℕ). Follows d f p.channel p.deleted x q.deleted) s.to goes)

-- a step deletes one address byte or none
pub no_other : (d : Declaration) (f : FlowEntry) (c k e : ℕ) → (Follows d f c k e k → ⊥) → (Follows d f c k e (k + 1) → ⊥) → (m : ℕ) → Follows d f c k e m → ⊥
no_other d f c k e none none2 m s = by (look_after d f s.switch k).delete s.deleted
  where
    by : (delete : Bool) → m ≡ (if delete then k + 1 else k) → ⊥
    by true is = none2 (subst (Follows d f c k e) is s)
    by false is = none (subst (Follows d f c k e) is s)
