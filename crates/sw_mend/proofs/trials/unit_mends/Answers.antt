use Rattle.std.proofs.Common.{List, map, subst}
use Rattle.sw_mend.specs.Mends.{AreAdded, Frees, unit_changes}
use Rattle.sw_mend.specs.declared.change.Change.{Change}
use Rattle.sw_mend.specs.declared.change.Trial.TheVariants.{Without}
use Rattle.sw_mend.proofs.OfKinds.{units_are}
use Rattle.sw_mend.proofs.Told.{all_added}
use Rattle.sw_mend.proofs.trials.unit_mends.Goals as goal

pub returns : goal.returns
returns g c =
    let d = c.args.network.now in
    all_added (Frees d) (unit_changes d) _ _ c.new-mends.ensures.items
    (subst (λ (l : List Change). AreAdded (Frees d) (map Without l) c.new-mends.result.items c.add_removals.new.mends.items) (units_are d) c.in_ok-add_removals.ensures.told)
