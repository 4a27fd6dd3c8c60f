-- What is found of a network by its verdict.
use Rattle.std.proofs.Common.{◌≡◌, ℕ, Bool, subst}
use Rattle.sw_cert.specs.Text.{Contents}
use Rattle.sw_config.specs.Entries.{Declaration}
use Rattle.sw_flow.specs.declared.fault.RouteFault.{RouteFault}
use Rattle.sw_flow.specs.declared.place.Place.{Place}
use Rattle.sw_search.specs.Verdicts.{IsVerdict}
use Rattle.sw_search.specs.declared.verdict.Verdict.{Verdict}
use Rattle.sw_search.specs.declared.verdict.Verdict.TheVariants as verdict
use Rattle.sw_changes.specs.declared.mending.Mending.TheVariants.{Misrouted, Free}
use Rattle.sw_changes.specs.Mendings.{IsMending}

-- by the verdict: the flow that is not well routed, and that the network is free
module _ (pairs : Bool) (d : Declaration) (v : Verdict) (is : IsVerdict d v) where
  pub misrouted : (flow : ℕ) (place : Place) (fault : RouteFault) → v ≡ verdict.Misrouted flow place fault → IsMending pairs d (Misrouted flow place fault)
  misrouted flow place fault same = subst (IsVerdict d) same is

  pub free : (contents : Contents) → v ≡ verdict.Free contents → IsMending pairs d Free
  free contents same = (contents, subst (IsVerdict d) same is)
