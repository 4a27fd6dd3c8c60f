-- What `mend` finds of a network (this project's choice).
use Rattle.std.specs.Prelude.{◌≡◌, ◌==◌, ◌&&◌, Bool, IfSome, is_some, length}
use Rattle.sw_config.specs.Entries.{Declaration}
use Rattle.sw_mend.specs.Limitings.{IsLimiting}
use Rattle.sw_mend.specs.Mends.{AreMends, ArePairMends, AreUnitMends}
use Rattle.sw_search.specs.Verdicts.{IsVerdict}
use Rattle.sw_search.specs.declared.verdict.Verdict.TheVariants as verdict
use Rattle.sw_changes.specs.declared.mending.Cures.{Cures}
use Rattle.sw_changes.specs.declared.mending.Mending.{Mending}
use Rattle.sw_changes.specs.declared.mending.Mending.TheVariants.{Misrouted, Free, Cyclic}

-- by a verdict each flow is well routed, and no channels can wait for one another
abbrev pub SaysFree : Declaration → Type 0
SaysFree d = (contents : _) × IsVerdict d (verdict.Free contents)

-- by a verdict each flow is well routed, and channels can wait for one another
abbrev pub SaysCyclic : Declaration → Type 0
SaysCyclic d = (cycle : _) × IsVerdict d (verdict.Cyclic cycle)

-- The limit on unanswered commands and the slots that free the network first; the single changes of parts that free the network, and those of units. Pairs are told exactly where they are asked for and no change of a
-- part frees it: those that do.
pub record AreCures (asked : Bool) (d : Declaration) (cures : Cures) : Type 0 where
  pub limiting : IsLimiting d cures.limiting
  pub changes : AreMends d cures.changes.items
  pub units : AreUnitMends d cures.units.items
  pub looked_for : is_some cures.pairs ≡ (asked && length cures.changes.items == 0)
  pub pairs : IfSome cures.pairs (λ told. ArePairMends d told.items)

-- the flow that is not well routed, as the verdict says; that the network is free; or, where it is cyclic, what frees it
abbrev pub IsMending : Bool → Declaration → Mending → Type 0
IsMending pairs d (Misrouted flow place fault) = IsVerdict d (verdict.Misrouted flow place fault)
IsMending pairs d Free = SaysFree d
IsMending pairs d (Cyclic cures) = SaysCyclic d × AreCures pairs d cures

-- it is what is found, whether pairs are asked for or not
abbrev pub IsMendingOf : Declaration → Mending → Type 0
IsMendingOf d m = (pairs : Bool) × IsMending pairs d m
